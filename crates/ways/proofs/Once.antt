-- A well-formed term delimits no atom at two places.
use mathlib.Core.Path.{◌≡◌, refl, sym, ap, ◌∙◌}
use mathlib.Core.Bool.{true}
use mathlib.Core.Option.{some}
use Prim.Native.Nat.{ℕ, ◌<◌}
use native.Mathlib.Omega.{arith}
use lib.Dec.{eqb}
use borrow.Author.Tests.{eqb-true}
use Rattle.cows.specs.Basics.{found_with}
use Rattle.cows.specs.Terms.{Term, size, prefixed, delimits, delimits_at}
use Rattle.cows.specs.Places.{sub}
use Rattle.cows.specs.Tables.{clash, again}
use Rattle.cows.specs.Within.{Formed}
use Rattle.cows.proofs.Basics as basics
use Rattle.cows.proofs.Basics.{lt_case, or_false, holds_some}
use Rattle.cows.proofs.Stands.{first_fails}
use Rattle.cows.proofs.Reach.{reach_none, before_none}
use Rattle.cows.proofs.Refusals.{formed_first}

twice_not : (t : Term) → Formed t → (x i j : ℕ) → i < j → j < size t → delimits_at x (sub t i) ≡ true → delimits_at x (sub t j) ≡ true → ⊥
unfolding clash again found_with
twice_not t f x i j l m d e =
    let q = first_fails (clash t) t (formed_first t f).2 j (sub t j) (record { placed = m; stands = refl }) in
    let (k, p, r) = holds_some (eqb x) (prefixed delimits (sub t j)) e in
    let b = sym (ap (found_with _) (p ∙ ap some (sym (eqb-true x k r)))) ∙ (or_false _ _ q).0 in
    basics.clash d (reach_none t x j (before_none t x j b) i l)

pub one_delimitation : (t : Term) → Formed t → (x i j : ℕ) → i < size t → j < size t → delimits_at x (sub t i) ≡ true → delimits_at x (sub t j) ≡ true → i ≡ j
one_delimitation t f x i j l m d e =
    lt_case (i ≡ j) i j (λ h. absurd (twice_not t f x i j h m d e)) (λ h.
    lt_case (i ≡ j) j i (λ k. absurd (twice_not t f x j i k l e d)) (λ k. omega arith))
