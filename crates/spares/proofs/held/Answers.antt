-- The endpoint and the atoms of the records below i are marked.
use mathlib.Core.Path.{◌≡◌, subst}
use mathlib.Core.List.{◌∷◌}
use Prim.Native.Nat.{◌/◌}
use native.Mathlib.Omega.{arith}
use lib.ListN.{length}
use Rattle.scripts.proofs.Standing.{script-count}
use Rattle.spares.specs.Spares.{Holding}
use Rattle.spares.proofs.Marks.{total_zeros, none-held}
use Rattle.spares.proofs.Gathered.{gathered-atoms, held_start, held-turn, held-taken}
use Rattle.spares.proofs.held.Goals as goal

pub loop-i-init : goal.loop-i-init
loop-i-init c = (
  omega (arith, c.hold.ensures.few, c.hold-2.ensures.few, total_zeros 4096),
  held_start c.args.s.now c.args.to.partner c.args.to.operation none-held c.hold.ensures c.hold-2.ensures,
)

pub loop-i-preserved : goal.loop-i-preserved
loop-i-preserved c = let v = c.loop-i.invariant in
    (omega (arith, c.hold_record.ensures.few), held-turn _ _ _ _ v.1 c.hold_record.ensures)

pub returns : goal.returns
returns c e h = let l = c.loop-i in
    let z = c.args in
    let q : l.i ≡ length z.s.now / 8 = omega arith in
    (held-taken _ e h _ _ (subst (λ i. Holding l.used (z.to.partner ∷ z.to.operation ∷ gathered-atoms z.s.now i)) q l.invariant.1), omega (arith, script-count e h.is))
