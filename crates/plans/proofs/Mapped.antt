-- What a `map_err` says of the result before it.
use mathlib.Core.Path.{◌≡◌, refl, ap, subst}
use Prim.Native.Nat.{ℕ}
use native.Mathlib.Omega.{arith}
use Rattle.std.specs.Prelude as rust
use Rattle.std.specs.Prelude.{Ok, Err}
use Rattle.std.specs.Result.{MatchResult, IsErrAnd}
use Rattle.std.proofs.lemmas.Result.{err_from_is_err_and}

module _ {A E F : Type 0} (P : E → F → Type 0) (r : rust.Result A F) where
  abbrev pub MappedErr : rust.Result A E → Type 0
  MappedErr x = MatchResult x (λ a. r ≡ Ok a) (λ e. IsErrAnd r (P e))

  pub mapped_ok : (x : rust.Result A E) {a : A} → MappedErr x → r ≡ Ok a → x ≡ Ok a
  mapped_ok (Ok b) k y = let c : b ≡ _ = cc in ap Ok c
  mapped_ok (Err e) k y = let (f, i, j) = err_from_is_err_and r k in absurd (let c : ◌≡◌ {A = ℕ} 0 1 = cc in omega arith)

  pub mapped_err : (x : rust.Result A E) {f : F} → MappedErr x → r ≡ Err f → (e : E) × (x ≡ Err e) × P e f
  mapped_err (Ok b) k y = absurd (let c : ◌≡◌ {A = ℕ} 0 1 = cc in omega arith)
  mapped_err (Err e) k y = let (f, i, j) = err_from_is_err_and r k in let c : f ≡ _ = cc in (e, refl, subst (P e) c j)
