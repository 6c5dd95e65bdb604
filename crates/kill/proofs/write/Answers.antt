use borrow.Author.Rules.{rules}
use native.Mathlib.Omega.{arith}
use Rattle.plans.proofs.Planning.{gives}
use Rattle.rewriting.proofs.Asides.{aside_clauses}
use Rattle.kill.proofs.Judged.{head_fits, body_asks, behind_fits, gives_kill}
use Rattle.kill.proofs.write.Goals as goal

pub overflow_add-body : goal.overflow_add-body
overflow_add-body c = let q = c.requires in omega (arith, head_fits _ _ _ _ _ q, q.known.few, q.known.whole)

pub overflow_mul-body : goal.overflow_mul-body
overflow_mul-body c = let q = c.requires in omega (arith, head_fits _ _ _ _ _ q, q.known.few, q.known.whole)

pub copy-requires : goal.copy-requires
copy-requires c = let f = head_fits _ _ _ _ _ c.requires in (omega arith, omega arith)

pub overflow_mul-a : goal.overflow_mul-a
overflow_mul-a c = let q = c.requires in omega (arith, head_fits _ _ _ _ _ q, q.known.few, q.known.whole)

pub aside_at-places-requires : goal.aside_at-places-requires
aside_at-places-requires c = aside_clauses (body_asks _ _ _ _ _ c.requires _ (search rules))

pub overflow_sub-table : goal.overflow_sub-table
overflow_sub-table c = (behind_fits _ _ _ _ _ c.requires c.aside_at-places.ensures).0

pub copy-requires-2 : goal.copy-requires-2
copy-requires-2 c = let f = behind_fits _ _ _ _ _ c.requires c.aside_at-places.ensures in (omega arith, omega arith)

pub returns : goal.returns
returns c = let q = c.requires in
    gives q (gives_kill _ _ _ _ _ q c.aside_at-places.ensures c.copy.ensures c.copy-2.ensures)
