-- The joint successor (joint, specs/Joint) as it is written: by the places of the scopes and of the kills, in one walk over the records above the scopes.
use Rattle.std.specs.Prelude.{◌≡◌, cond, List, [], ◌∷◌, ℕ, suc, ◌+◌, ◌*◌, ◌-◌, ◌<◌, eqb, length, get_or}
use Rattle.cows.specs.Terms.{Term, leaf, under, both, size}
use Rattle.rewriting.specs.Halting.{halt_aside, PlaceOf}

-- What becomes of the term t below the record at place p: halted along the way to its kill, if p is a scope, and else r.
unfoldable pub closes : (scopes kills : List ℕ) → ℕ → (t r : Term) → Term
closes [] ks p t r = r
closes (q ∷ qs) [] p t r = r
closes (q ∷ qs) (k ∷ ks) p t r = cond (eqb p q) (halt_aside (k - suc p) t) (closes qs ks p t r)

-- the term at place p, all scopes in it settled
unfoldable pub settle_at : (scopes kills : List ℕ) → ℕ → Term → Term
settle_at qs ks p (leaf x) = leaf x
settle_at qs ks p (under u t) = under u (closes qs ks p t (settle_at qs ks (suc p) t))
settle_at qs ks p (both j s t) = both j (settle_at qs ks (suc p) s) (settle_at qs ks (suc p + size s) t)

-- A delimitation stands at each scope, and in it the kill.
pub record Scopes (s ends qs ks : List ℕ) : Type 0 where
  pub as_many : length qs ≡ length ks
  pub delimits : (i : ℕ) → i < length qs → get_or s (16 * get_or qs i 0) 0 ≡ 8
  pub holds : (i : ℕ) → i < length qs → PlaceOf s ends (16 * get_or qs i 0 + 16) (16 * get_or ks i 0)
