use mathlib.Core.Path.{◌≡◌, refl, sym, ap, ◌∙◌}
use Prim.Native.Nat.{◌/◌, ◌+◌, ◌-◌}
use native.Mathlib.Omega.{arith}
use lib.ListN.{length, get_or, set, length-set}
use lib.Seq.{get_or-set_same}
use Rattle.records.proofs.Shapes.{ends_start, ends_more, end-bound}
use Rattle.records.proofs.ends.ends.Goals as goal

pub bounds-out-n-2 : goal.bounds-out-n-2
bounds-out-n-2 c = simp length-set (omega arith)

pub loop-i-init : goal.loop-i-init
loop-i-init c = let s = c.args.s.now in
    let d = c.args.out.now in
    let n = length s / 16 in
    (refl, omega arith, refl, ends_start s d c.requires.0 c.requires.1, sym (get_or-set_same (set d (n + 1) (n + 1)) n (n + 1) 0 (omega (arith, length-set d (n + 1) (n + 1)))))

pub offset_bounds-out-from : goal.offset_bounds-out-from
offset_bounds-out-from c = omega (arith, end-bound c.args.s.now c.loop-i.out c.loop-i.i c.loop-i.invariant.3 (omega arith), c.requires.0)

pub bounds-out-from : goal.bounds-out-from
bounds-out-from c = omega (arith, end-bound c.args.s.now c.loop-i.out c.loop-i.i c.loop-i.invariant.3 (omega arith))

pub loop-i-preserved : goal.loop-i-preserved
loop-i-preserved c = let v = c.loop-i.invariant in
    let out = c.loop-i.out in
    let next : c.loop-i.i - 1 + 1 ≡ c.loop-i.i = omega arith in (
      v.0,
      omega arith,
      length-set out _ _ ∙ v.2,
      ends_more c.args.s.now out c.loop-i.i _ _ _ _ v.3 c.loop-i-test.true (omega arith) v.4 (ap (λ j. get_or out j 0) c.from.ensures) c.children.ensures (rw next at c.end_by-top.ensures),
      sym (get_or-set_same out _ _ 0 (omega arith)),
    )

pub returns : goal.returns
returns c = let z : c.loop-i.i ≡ 0 = omega arith in
    rw z at c.loop-i.invariant.3
