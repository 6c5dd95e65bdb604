use Rattle.ways.proofs.KnownTables.{known_of, none-live, found-live, found_inside, found-start}
use Rattle.std.proofs.lemmas.Result.{err_from_is_err_and}
use Rattle.plans.specs.declared.Refusal.TheVariants.{Absent}
use Rattle.plans.proofs.Planning.{planned_refused}
use Rattle.communicate.proofs.Judged.{no-receive, no-invoke}
use Rattle.communicate.proofs.judge.Goals as goal

pub returns-in_default : goal.returns-in_default
returns-in_default c t z = planned_refused (Absent _) (no-receive t _ _ (none-live c.place_at.ensures z c.in_default.is))

pub returns-in_default-place_at : goal.returns-in_default-place_at
returns-in_default-place_at c t z = planned_refused (Absent _)
    (no-invoke (found-live c.place_at.ensures c.in-Some.is z) _ (none-live c.place_at-2.ensures z c.in_default-place_at.is))

pub ask-requires : goal.ask-requires
ask-requires c = let q = (known_of c.args.table.known) in
    (found_inside c.place_at.ensures c.in-Some.is q, found_inside c.place_at-2.ensures c.in-Some-place_at.is q)

pub meeting_plan-requires : goal.meeting_plan-requires
meeting_plan-requires c = let q = (known_of c.args.table.known) in
    let x = found-live c.place_at.ensures c.in-Some.is q.table in
    let y = found-live c.place_at-2.ensures c.in-Some-place_at.is q.table in
    record {
      known = q;
      live = x;
      start = found-start c.place_at.ensures c.in-Some.is q.table;
      sender = _;
      meets = rw c.in_ok-l.was at (c.ask.ensures q.term q.table (record { receive = x; invoke = y }));
    }

pub returns-in_err-l : goal.returns-in_err-l
returns-in_err-l c t z = let x = found-live c.place_at.ensures c.in-Some.is z in
    let y = found-live c.place_at-2.ensures c.in-Some-place_at.is z in
    let r = err_from_is_err_and c.from_residual.result c.from_residual.ensures.1 in
    rw (r.1, r.2) (planned_refused _ (rw c.in_err-l.was at (c.ask.ensures t z (record { receive = x; invoke = y }))))

pub returns : goal.returns
returns c t z = let x = found-live c.place_at.ensures c.in-Some.is z in
    let y = found-live c.place_at-2.ensures c.in-Some-place_at.is z in
    c.meeting_plan.ensures t _ z x (found-start c.place_at.ensures c.in-Some.is z) (rw c.in_ok-l.was at (c.ask.ensures t z (record { receive = x; invoke = y })))
