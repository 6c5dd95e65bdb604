-- What a firing kill leaves of a term, counted in one walk over its places.
use Rattle.std.specs.Prelude.{cond, ◌||◌, ℕ, suc, ◌+◌, leb, ltb}
use Rattle.cows.specs.Terms.{receive, wait, protection, delimitation, replication, choice, parallel, Term, leaf, under, both, size}

-- The records that are left of the term at place i when a kill fires at place a: one for each term that becomes nil, and a protection
-- whole, unless the kill stands in it.
unfoldable pub left : ℕ → ℕ → Term → ℕ
left a i (leaf x) = 1
left a i (under (receive p o ws) t) = 1
left a i (under (wait n) t) = 1
left a i (under protection t) = cond (ltb a i || leb (i + suc (size t)) a) (suc (size t)) (suc (left a (suc i) t))
left a i (under (delimitation d) t) = suc (left a (suc i) t)
left a i (under replication t) = suc (left a (suc i) t)
left a i (both choice s t) = 1
left a i (both parallel s t) = suc (left a (suc i) s + left a (suc i + size s) t)
