-- What is seen at a place (specs/Criteria) is what is wanted there (cows, specs/Active): a live record of the kind stands there.
use mathlib.Core.Path.{◌≡◌}
use mathlib.Core.Option.{Option, some}
use Prim.Native.Nat.{ℕ}
use Rattle.cows.specs.Basics.{accept}
use Rattle.cows.specs.Terms.{Prefix, Term, under, prefixed, below}
use Rattle.cows.specs.Places.{sub}
use Rattle.cows.specs.Active.{wanted}
use Rattle.cows.specs.Allows.{StandsLive}
use Rattle.cows.proofs.Basics.{need-accept, need-some}
use Rattle.cows.proofs.Stands.{prefixed_is, wanted-live}
use Rattle.roles.specs.Roles.{seen}

pub wanted-seen : {A : Type 0} (look : Term → Option A) (t : Term) (n : ℕ) (x : A) → wanted look t n ≡ accept x → seen look t n ≡ some x
unfolding wanted seen
wanted-seen look t n x e = need-accept 11 n _ x e

pub seen-wanted : {A : Type 0} (look : Term → Option A) (t : Term) (n : ℕ) (x : A) → seen look t n ≡ some x → wanted look t n ≡ accept x
unfolding wanted seen
seen-wanted look t n x e = need-some 11 n _ x e

pub seen-prefix : {A : Type 0} (f : Prefix → Option A) (g : A → Prefix) → ((u : Prefix) (x : A) → f u ≡ some x → u ≡ g x)
    → (t : Term) (n : ℕ) (x : A) → seen (prefixed f) t n ≡ some x → StandsLive t n (under (g x) (below (sub t n)))
seen-prefix f g is t n x e = wanted-live (prefixed f) t n x _ (prefixed_is f g is (sub t n) x) (seen-wanted (prefixed f) t n x e)
