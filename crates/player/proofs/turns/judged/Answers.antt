use mathlib.Core.Path.{refl}
use Rattle.std.proofs.lemmas.Result.{err_from_is_err_and}
use Rattle.player.proofs.Turning.{refusal_replies, plan_replies, plan_asks, plan_accepts, unread, judged_refused, judged_accepted}
use Rattle.ways.proofs.KnownTables.{known_of}
use Rattle.player.proofs.turns.judged.Goals as goal

pub returns-in_default : goal.returns-in_default
returns-in_default c = rw c.in_default.is (unread _ _ _ c.refused.ensures)

pub returns-in_err-plan : goal.returns-in_err-plan
returns-in_err-plan c =
    let r = err_from_is_err_and c.from_residual.result c.from_residual.ensures.1 in
    let (e, z) = c.in_err-plan.ensures in
    rw (r.1, r.2, c.in-Some.is) (record { judged = λ q h. judged_refused q _ _ _ (refusal_replies c.in-Some.m _ c.judge.ensures e q h) z refl; no_zero = z })

pub copied-requires : goal.copied-requires
copied-requires c = plan_accepts c.in-Some.m _ c.judge.ensures c.in_ok-plan.plan c.in_ok-plan.ensures (known_of c.args.table.known)

pub returns : goal.returns
returns c = let k = c.copied.ensures in
    let f = c.in_ok-plan.ensures in
    record {
      read = c.in-Some.is;
      judged = λ q h. judged_accepted q _ _ _ (plan_replies c.in-Some.m _ c.judge.ensures c.in_ok-plan.plan f q h) _ _ refl refl (k.is q.table h) k.few (c.counts.ensures _ refl);
      asks = plan_asks c.in-Some.m _ c.judge.ensures c.in_ok-plan.plan f (known_of c.args.table.known);
    }
