use mathlib.Core.Path.{refl, sym, ◌∙◌}
use native.Mathlib.Omega.{arith}
use Rattle.cows.proofs.Basics.{never}
use Rattle.records.proofs.Atoms.{is-label, no_label}
use Rattle.ways.proofs.KnownTables.{known_of, table_size}
use Rattle.holding.proofs.Passing.{past_next}
use Rattle.holding.proofs.Marking.{marking_start, marking_end, marking_step, kill-range, marking_kill}
use Rattle.holding.proofs.mark_kills.Goals as goal
use Rattle.holding.proofs.mark_kills.Goals.{then-kind-eq-KILL+in-Label, then-kind-eq-KILL+in_default, else-kind-eq-KILL}

pub loop-i-init : goal.loop-i-init
loop-i-init c = (omega arith, c.requires, λ b. (λ e. b, λ t h. marking_start _ t b))

pub mark-requires : goal.mark-requires
mark-requires c = let k = is-label _ _ (sym c.atom_at-atom.ensures ∙ c.in-Label.is) in
    (omega arith, c.loop-i.invariant.1)

pub loop-i-smaller : goal.loop-i-smaller
loop-i-smaller c = let q = (known_of c.args.table.known) in
    omega (arith, past_next _ _ q.term q.table c.loop-i.i (omega arith) _ c.next_ready-i.ensures)

pub loop-i-preserved : goal.loop-i-preserved
loop-i-preserved c = let q = (known_of c.args.table.known) in (
  (past_next _ _ q.term q.table c.loop-i.i (omega arith) _ c.next_ready-i.ensures).1,
  c.if-kind-eq-KILL.auto.marks ∙ c.loop-i.invariant.1,
  λ b. elim c.if-kind-eq-KILL.branch [
    | then-kind-eq-KILL+in-Label w ↦
        let k = is-label _ _ (sym w.atom_at-atom.ensures ∙ w.in-Label.is) in
        rw (w.any-is, w.marks-is) (λ e. never (sym e), λ t h. marking_kill _ _ t h c.loop-i.i (omega arith) _ c.next_ready-i.ensures w.if-kind-eq-KILL.true _ k.0 _ _ w.mark.ensures ((c.loop-i.invariant.2 b).1 t h))
    | then-kind-eq-KILL+in_default w ↦
        let r = kill-range _ _ q.term q.table c.loop-i.i (omega arith) _ c.next_ready-i.ensures w.if-kind-eq-KILL.true _ refl in
        let l = no_label _ (rw w.atom_at-atom.ensures at w.in_default.not-Label) in
        absurd (omega arith)
    | else-kind-eq-KILL w ↦
        rw (w.any-is, w.marks-is) ((c.loop-i.invariant.2 b).0, λ t h. marking_step _ _ t h c.loop-i.i (omega arith) _ c.next_ready-i.ensures _ w.if-kind-eq-KILL.false ((c.loop-i.invariant.2 b).1 t h))
  ],
)

pub returns : goal.returns
returns c b = let (e, m) = c.loop-i.invariant.2 b in (e, λ t h. marking_end _ t _ (m t h) (omega (arith, table_size _ _ t h)))
