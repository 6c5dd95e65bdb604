use mathlib.Core.Path.{◌≡◌, refl}
use Prim.Native.Nat.{ℕ}
use Rattle.std.specs.Prelude.{Result, Ok, Err}
use Rattle.std.specs.Result.{MatchResult, IsErrAnd}
use Rattle.std.proofs.lemmas.Result.{err_from_is_err_and}
use Rattle.tables.specs.declared.Fault.{Fault}
use Rattle.tables.specs.declared.Fault.TheVariants.{Choice}
use Rattle.tables.proofs.Passing.{read_standing, found-deep, found-choice, found_rest}
use Rattle.tables.proofs.find_fault.Goals as goal

-- what the reader answered, by what map_err made of it
module _ (r : Result ℕ ℕ) (m : Result ℕ Fault) (h : MatchResult r (λ x. m ≡ Ok x) (λ p. IsErrAnd m (λ f. f ≡ Choice p))) where
  was_err : (f : Fault) → m ≡ Err f → (p : ℕ) × (r ≡ Err p) × (f ≡ Choice p)
  was_err f e = go r h
    where
      go : (r : Result ℕ ℕ) → MatchResult r (λ x. m ≡ Ok x) (λ p. IsErrAnd m (λ f. f ≡ Choice p)) → (p : ℕ) × (r ≡ Err p) × (f ≡ Choice p)
      go (Ok x) q = cc
      go (Err p) q = let (y, a, b) = err_from_is_err_and m q in (p, refl, cc)

  was_ok : (n : ℕ) → m ≡ Ok n → r ≡ Ok n
  was_ok n e = go r h
    where
      go : (r : Result ℕ ℕ) → MatchResult r (λ x. m ≡ Ok x) (λ p. IsErrAnd m (λ f. f ≡ Choice p)) → r ≡ Ok n
      go (Ok x) q = cc
      go (Err p) q = let (y, a, b) = err_from_is_err_and m q in cc

pub first_deep-requires : goal.first_deep-requires
first_deep-requires c = read_standing _ _ c.requires

pub returns-in-Some : goal.returns-in-Some
returns-in-Some c = found-deep _ _ c.requires.end _ c.first_deep.ensures _ c.in-Some.is

pub returns-in_err-map_err : goal.returns-in_err-map_err
returns-in_err-map_err c = let p = err_from_is_err_and c.from_residual.result c.from_residual.ensures.1 in
    let (x, was, is) = was_err c.read_on.result c.map_err.result c.map_err.ensures.cases _ c.in_err-map_err.was in
    rw (p.1, p.2, is) (found-choice _ _ c.requires.end _ c.first_deep.ensures c.in_default.is _ c.read_on.ensures x was)

pub returns : goal.returns
returns c t h = let was = was_ok c.read_on.result c.map_err.result c.map_err.ensures.cases _ c.in_ok-map_err.was in
    found_rest _ _ c.requires.end _ c.first_deep.ensures c.in_default.is _ c.read_on.ensures _ was c.find_scopes.result t h (c.find_scopes.ensures t h)
