use mathlib.Core.Path.{◌≡◌, sym, ap}
use Prim.Native.Nat.{ℕ, ◌-◌, ◌≤◌}
use native.Mathlib.Omega.{arith}
use Rattle.cows.specs.Kinds.{children_of, open_kinds}
use Rattle.cows.proofs.Rows.{unknown, children_few}
use Rattle.records.proofs.children.Goals as goal

-- the case of the kind n returns what its row has
row : (k n : ℕ) → k ≡ n → (children_of n ≡ children_of k) × (children_of n ≤ 2)
row k n e = (sym (ap children_of e), children_few n)

pub returns-in-0 : goal.returns-in-0
unfolding open_kinds
returns-in-0 c = row _ 0 c.in-0.is

pub returns-in-1 : goal.returns-in-1
unfolding open_kinds
returns-in-1 c = row _ 1 c.in-1.is

pub returns-in-2 : goal.returns-in-2
unfolding open_kinds
returns-in-2 c = row _ 2 c.in-2.is

pub returns-in-3 : goal.returns-in-3
unfolding open_kinds
returns-in-3 c = row _ 3 c.in-3.is

pub returns-in-4 : goal.returns-in-4
unfolding open_kinds
returns-in-4 c = row _ 4 c.in-4.is

pub returns-in-5 : goal.returns-in-5
unfolding open_kinds
returns-in-5 c = row _ 5 c.in-5.is

pub returns-in-6 : goal.returns-in-6
unfolding open_kinds
returns-in-6 c = row _ 6 c.in-6.is

pub returns-in-7 : goal.returns-in-7
unfolding open_kinds
returns-in-7 c = row _ 7 c.in-7.is

pub returns-in-8 : goal.returns-in-8
unfolding open_kinds
returns-in-8 c = row _ 8 c.in-8.is

pub returns-in-9 : goal.returns-in-9
unfolding open_kinds
returns-in-9 c = row _ 9 c.in-9.is

pub returns-in_default : goal.returns-in_default
unfolding open_kinds
returns-in_default c = let k = c.args.kind in
    let r = c.in_default.in_default-own.rest in
    let s = r.0.0.0.0.0 in
    let h : 5 ≤ k = omega (arith, s.1, s.0.1, s.0.0.1, s.0.0.0.1, s.0.0.0.0.1) in
    row k (unknown (k - 10)) (omega (arith, h, r.1, r.0.1, r.0.0.1, r.0.0.0.1, r.0.0.0.0.1))
