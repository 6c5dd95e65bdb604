use mathlib.Core.Path.{ap, ◌∙◌}
use native.Mathlib.Omega.{arith}
use lib.ListN.{length}
use Rattle.tables.specs.Verdict.{refusal}
use Rattle.lister.proofs.Listing.{answered_short, answered_same}
use Rattle.lister.proofs.Writing.{counted_all, counted_few, unwritten}
use Rattle.lister.proofs.write_counted.Goals as goal

pub overflow_mul-number : goal.overflow_mul-number
overflow_mul-number c = let p = c.requires.0 in
    let k = p.played.known in
    omega (arith, counted_few p k.table (c.put_meetings-number.ensures k.term k.table) c.requires.1)

pub returns-then-list-number : goal.returns-then-list-number
returns-then-list-number c t h = let q = c.put_meetings-number.ensures t h in
    let e = counted_all c.requires.0 h q c.requires.1 in
    let u = unwritten c.requires.0 h q in
    answered_short t _ _ _ (omega (arith, e, ap length u, c.if-list-number.true)) (c.refusal.ensures ∙ ap (refusal 22) e) u

pub write_all-requires : goal.write_all-requires
write_all-requires c = (c.requires.0, λ t h. omega (arith, counted_all c.requires.0 h (c.put_meetings-number.ensures t h) c.requires.1, c.if-list-number.false))

pub returns : goal.returns
returns c t h = let u = unwritten c.requires.0 h (c.put_meetings-number.ensures t h) in
    answered_same t u (c.write_all.ensures t h)
