-- The invokes before place b are told.
use mathlib.Core.Path.{◌≡◌, sym, subst, ◌∙◌}
use Prim.Native.Nat.{◌*◌}
use native.Mathlib.Omega.{arith}
use Rattle.cows.specs.Terms.{size}
use Rattle.ways.proofs.KnownTables.{table_size}
use Rattle.roles.specs.declared.Role.TheVariants as role
use Rattle.roles.proofs.Same.{by_test}
use Rattle.meetings.specs.Reaching.{SentTo}
use Rattle.meetings.proofs.Meets.{cast_sender}
use Rattle.meetings.proofs.Sending.{sent_over, sent_all}
use Rattle.meetings.proofs.find_scopes.Goals as goal
use Rattle.meetings.proofs.find_scopes.Goals.{then-eq, else-eq}

pub loop-b-preserved : goal.loop-b-preserved
loop-b-preserved c t h k = let l = c.loop-b in
    elim c.if-eq.branch [
      | then-eq w ↦ rw w.sent-is (w.put_scopes.ensures t h.holds (l.invariant t h k))
      | else-eq w ↦ rw w.sent-is (sent_over _ t l.sent l.b (sym (cast_sender _ _ c.args.cast.now t h k l.b (omega arith)) ∙ by_test _ role.Sender c.eq.ensures w.if-eq.false) (l.invariant t h k))
    ]

pub returns : goal.returns
returns c t h k = let l = c.loop-b in
    let z : l.b ≡ size t = omega (arith, table_size _ _ t h) in
    sent_all c.args.table.bytes.now t l.sent (subst (λ i. SentTo c.args.table.bytes.now t l.sent (4 * i)) z (l.invariant t h k))
