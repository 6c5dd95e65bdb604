use mathlib.Core.Path.{◌≡◌, subst}
use mathlib.Core.Bool.{false, true}
use Prim.Native.Nat.{ℕ, ◌<◌}
use native.Mathlib.Omega.{arith}
use Rattle.ways.specs.Ways.{Over}
use Rattle.ways.proofs.KnownTables.{known_of, table_ended, table_inside}
use Rattle.ways.proofs.Descending.{over_root, step_less, at_end, above_next}
use Rattle.ways.proofs.known.KnownTable.first_above.Goals as goal

pub loop-p-init : goal.loop-p-init
loop-p-init g c t h = (over_root t _ (table_inside _ _ t h _ c.requires.place), λ q o l. absurd (omega arith))

pub returns-then-test : goal.returns-then-test
returns-then-test g c t h = let (o, e) = c.loop-p.invariant t h in
    record { none = λ n. cc; some = λ p n. let z : c.loop-p.p ≡ p = cc in subst (λ p. Over t p c.args.a × (p < c.args.a) × g.F.Fn.post c.args.test (p, tt) true × ((q : ℕ) → Over t q c.args.a → q < p → g.F.Fn.post c.args.test (q, tt) false)) z (o, c.loop-p-test.true, c.if-test.ensures, e) }

pub loop-p-smaller : goal.loop-p-smaller
loop-p-smaller g c = step_less (known_of c.args.self.known) (λ t h. c.down-p.ensures t (table_ended _ _ t h) (c.loop-p.invariant t h).0 (omega arith))

pub loop-p-preserved : goal.loop-p-preserved
loop-p-preserved g c t h = let (o, e) = c.loop-p.invariant t h in
    let x = c.down-p.ensures t (table_ended _ _ t h) o (omega arith) in
    (x.over, above_next o x (λ q. g.F.Fn.post c.args.test (q, tt) false) e c.if-test.ensures)

pub returns : goal.returns
returns g c t h = let (o, e) = c.loop-p.invariant t h in
    record { none = λ n q v l. e q v (omega (arith, o.low)); some = λ p n. cc }
