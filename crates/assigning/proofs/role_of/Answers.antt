-- The role of a live record, kind by kind.
use mathlib.Core.Path.{refl, sym, ap, ◌∙◌}
use mathlib.Core.Bool.{cond}
use native.Mathlib.Omega.{arith}
use Rattle.ways.proofs.KnownTables.{known_of, table_ended, table_inside}
use Rattle.ways.proofs.Seeking.{table_next}
use Rattle.roles.specs.declared.Role.TheVariants.{Receiver, Rival}
use Rattle.assigning.proofs.ByKind.{live-receive, live-invoke, live-label, live_scope, live-wait, live-kill, live-replication, live-none}
use Rattle.assigning.proofs.role_of.Goals as goal

pub returns-then-free : goal.returns-then-free
returns-then-free c t h f o = ap (λ b. cond b Receiver Rival) (sym c.if-free.true) ∙ live-receive _ t h.holds _ c.requires c.if-kind-eq-RECEIVE.true _ f

pub returns-then-kind-eq-RECEIVE : goal.returns-then-kind-eq-RECEIVE
returns-then-kind-eq-RECEIVE c t h f o = ap (λ b. cond b Receiver Rival) (sym c.if-free.false) ∙ live-receive _ t h.holds _ c.requires c.if-kind-eq-RECEIVE.true _ f

pub returns-then-kind-eq-INVOKE : goal.returns-then-kind-eq-INVOKE
returns-then-kind-eq-INVOKE c t h f o = c.role_if.ensures ∙ live-invoke _ t h.holds _ c.requires c.if-kind-eq-INVOKE.true _ _ f c.closed.ensures

pub returns-then-word_at-ge-FIRST_LABEL : goal.returns-then-word_at-ge-FIRST_LABEL
returns-then-word_at-ge-FIRST_LABEL c t h f o = live-label _ t h.holds _ c.requires c.if-kind-eq-DELIMITATION.true _ c.word_at.ensures (omega arith) _ o

pub returns-then-kind-eq-DELIMITATION : goal.returns-then-kind-eq-DELIMITATION
returns-then-kind-eq-DELIMITATION c t h f o = c.role_if-then-kind-eq-DELIMITATION.ensures ∙ live_scope _ t h.holds _ c.requires c.if-kind-eq-DELIMITATION.true _ c.word_at.ensures (omega arith)

pub returns-then-kind-eq-WAIT : goal.returns-then-kind-eq-WAIT
returns-then-kind-eq-WAIT c t h f o = c.role_if-then-kind-eq-WAIT.ensures ∙ live-wait _ t h.holds _ c.requires c.if-kind-eq-WAIT.true _ c.word_at-then-kind-eq-WAIT.ensures

pub returns-then-kind-eq-KILL : goal.returns-then-kind-eq-KILL
returns-then-kind-eq-KILL c t h f o = live-kill _ t h.holds _ c.requires c.if-kind-eq-KILL.true

pub overflow_sub-from : goal.overflow_sub-from
overflow_sub-from c = let q = (known_of c.args.table.known) in omega (arith, table_next _ _ q.term q.table c.args.i c.requires _ c.from.ensures)

pub returns-then-kind-eq-REPLICATION : goal.returns-then-kind-eq-REPLICATION
returns-then-kind-eq-REPLICATION c t h f o = c.role_if-then-kind-eq-REPLICATION.ensures
    ∙ live-replication _ t h.holds _ c.requires c.if-kind-eq-REPLICATION.true _ (omega (arith, c.from.ensures, table_ended _ _ t h c.args.i (table_inside _ _ t h _ c.requires)))

pub returns : goal.returns
returns c t h f o = live-none _ t h.holds _ c.requires _ refl c.if-kind-eq-RECEIVE.false c.if-kind-eq-INVOKE.false c.if-kind-eq-DELIMITATION.false c.if-kind-eq-WAIT.false c.if-kind-eq-KILL.false c.if-kind-eq-REPLICATION.false
