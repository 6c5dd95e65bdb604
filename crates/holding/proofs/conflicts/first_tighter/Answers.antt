use mathlib.Core.Path.{sym, ap}
use native.Mathlib.Omega.{arith}
use Rattle.cows.specs.Kinds.{ready_kind}
use Rattle.cows.specs.Active.{ready}
use Rattle.cows.specs.Moves.{tighter}
use Rattle.records.specs.Answers.{found_of}
use Rattle.ways.proofs.KnownTables.{known_of, table_size}
use Rattle.ways.proofs.Seeking.{seeking_start, seeking_end, table_found}
use Rattle.holding.proofs.Passing.{past_next, past_seeking}
use Rattle.holding.proofs.conflicts.first_tighter.Goals as goal

pub loop-i-init : goal.loop-i-init
unfolding tighter ready
loop-i-init c = (omega arith, λ t m h k z. seeking_start _ _ t)

pub tighter-requires : goal.tighter-requires
unfolding tighter ready
tighter-requires c = omega (arith, (known_of c.args.table.known).whole)

pub returns-then-tighter : goal.returns-then-tighter
unfolding tighter ready
returns-then-tighter c t m h k z = ap found_of (sym (table_found _ _ t h _ (omega arith) ready_kind _ (c.loop-i.invariant.1 t m h k z) (λ i. c.tighter.ensures t m h.holds i k z) c.if-tighter.true))

pub loop-i-smaller : goal.loop-i-smaller
unfolding tighter ready
loop-i-smaller c = let q = (known_of c.args.table.known) in
    omega (arith, past_next _ _ q.term q.table c.loop-i.i (omega arith) _ c.next_ready-i.ensures)

pub loop-i-preserved : goal.loop-i-preserved
unfolding tighter ready
loop-i-preserved c = let q = (known_of c.args.table.known) in (
  (past_next _ _ q.term q.table c.loop-i.i (omega arith) _ c.next_ready-i.ensures).1,
  λ t m h k z. past_seeking _ _ t h c.loop-i.i (omega arith) _ c.next_ready-i.ensures _ (c.loop-i.invariant.1 t m h k z) (λ i. c.tighter.ensures t m h.holds i k z) c.if-tighter.false,
)

pub returns : goal.returns
unfolding tighter ready
returns c t m h k z = ap found_of (sym (seeking_end _ _ t _ (c.loop-i.invariant.1 t m h k z) (omega (arith, table_size _ _ t h))))
