use borrow.Author.Tests.{not-true, not-false}
use mathlib.Core.Path.{sym, ap, ◌∙◌}
use Prim.Native.Nat.{◌+◌}
use native.Mathlib.Omega.{arith}
use lib.ListN.{length}
use Rattle.cows.specs.Basics.{every}
use Rattle.cows.specs.Places.{way_to}
use Rattle.cows.specs.Active.{live}
use Rattle.ways.specs.Ways.{start_of, parent_of}
use Rattle.ways.proofs.KnownTables.{known_of, placed_there, table_ended, table_inside, way_short, past_end, other_kind, not_live, live_there_lem, placed_nowhere}
use Rattle.ways.proofs.Descending.{way_root, over_root, step_live, step_count, step_parent, same_start, new-start, stop-live, step_less, at_end}
use Rattle.ways.proofs.known.KnownTable.place_at.Goals as goal

pub returns-then-self-a : goal.returns-then-self-a
unfolding live every parent_of start_of
returns-then-self-a c t h = placed_nowhere _ _ (past_end _ _ t h _ _ c.if-self-a.true)

pub returns-then-self-a-2 : goal.returns-then-self-a-2
unfolding live every parent_of start_of
returns-then-self-a-2 c t h = placed_nowhere _ _ (other_kind _ _ t h _ _ c.if-self-a.false c.if-self-a-2.true)

pub loop-p-init : goal.loop-p-init
unfolding live every parent_of start_of
loop-p-init c t h = let r = way_root t in
    (over_root t _ (table_inside _ _ t h _ c.if-self-a.false), ap live r, sym (ap length r), sym (ap parent_of r), sym (ap (start_of 0) r))

pub returns-then-not-live_kind : goal.returns-then-not-live_kind
unfolding live every parent_of start_of
returns-then-not-live_kind c t h = placed_nowhere _ _ (not_live _ _ t h _ _ (stop-live h.holds (c.loop-p.invariant t h).0 (omega arith) (sym c.live_kind.ensures ∙ not-true _ c.if-not-live_kind.true-raw)))

pub overflow_add-above : goal.overflow_add-above
unfolding live every parent_of start_of
overflow_add-above c = let k = (known_of c.args.self.known) in
    omega (arith, (c.loop-p.invariant k.term k.table).2, way_short k.term c.loop-p.p k.table.within.shallow)

pub loop-p-smaller-then-here-ne-CHOICE : goal.loop-p-smaller-then-here-ne-CHOICE
unfolding live every parent_of start_of
loop-p-smaller-then-here-ne-CHOICE c = step_less (known_of c.args.self.known) (λ t h. c.down-p.ensures t (table_ended _ _ t h) (c.loop-p.invariant t h).0 (omega arith))

pub loop-p-preserved-then-here-ne-CHOICE : goal.loop-p-preserved-then-here-ne-CHOICE
unfolding live every parent_of start_of
loop-p-preserved-then-here-ne-CHOICE c t h = let (v, l, n, m, e) = c.loop-p.invariant t h in
    let x = c.down-p.ensures t (table_ended _ _ t h) v (omega arith) in
    let i = step_live v x _ h.holds (sym c.live_kind.ensures ∙ not-false _ c.if-not-live_kind.false-raw) l in
    (x.over, i, ap (λ k. k + 1) n ∙ sym (step_count v x), sym (step_parent v x), sym (new-start v x _ h.holds c.if-here-ne-CHOICE.true))

pub loop-p-smaller : goal.loop-p-smaller
unfolding live every parent_of start_of
loop-p-smaller c = step_less (known_of c.args.self.known) (λ t h. c.down-p.ensures t (table_ended _ _ t h) (c.loop-p.invariant t h).0 (omega arith))

pub loop-p-preserved : goal.loop-p-preserved
unfolding live every parent_of start_of
loop-p-preserved c t h = let (v, l, n, m, e) = c.loop-p.invariant t h in
    let x = c.down-p.ensures t (table_ended _ _ t h) v (omega arith) in
    let i = step_live v x _ h.holds (sym c.live_kind.ensures ∙ not-false _ c.if-not-live_kind.false-raw) l in
    (x.over, i, ap (λ k. k + 1) n ∙ sym (step_count v x), sym (step_parent v x), e ∙ sym (same_start v x _ h.holds c.if-here-ne-CHOICE.false))

pub returns : goal.returns
unfolding live every parent_of start_of
returns c t h = let (v, l, n, m, e) = c.loop-p.invariant t h in
    placed_there (record {
      told = live_there_lem _ _ t h _ _ c.if-self-a.false c.if-self-a-2.false (sym (at_end (λ k. live (way_to t k)) v (omega arith)) ∙ l);
      above_is = n ∙ at_end (λ k. length (way_to t k)) v (omega arith);
      parent_is = m ∙ at_end (λ k. parent_of (way_to t k)) v (omega arith);
      start_is = e ∙ at_end (λ k. start_of k (way_to t k)) v (omega arith);
    })
