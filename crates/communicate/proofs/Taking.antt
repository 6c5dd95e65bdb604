-- What the slots of a receive take (matching, specs/Taking) is the substitution of its matching: what stands for an atom, and which atoms are replaced.
use mathlib.Core.Path.{◌≡◌, refl, sym, ap, ◌∙◌}
use mathlib.Core.Bool.{Bool, false, ◌||◌}
use mathlib.Core.List.{List, [], ◌∷◌}
use Prim.Native.Nat.{ℕ, zero, suc, ◌≤◌}
use native.Mathlib.Omega.{arith}
use lib.Dec.{eqb}
use lib.ListN.{length, get_or}
use borrow.Author.Tests.{eqb-true}
use Rattle.cows.specs.Basics.{any}
use Rattle.cows.specs.Terms.{Term, variable}
use Rattle.cows.specs.Allows.{Matches, empty, takes, equals}
use Rattle.cows.specs.Moves.{Substitution, image}
use Rattle.cows.proofs.Basics.{bool_case, cond_case₂, clash, not_so}
use Rattle.cows.proofs.CommunicateKeeps.{AllBind}
use Rattle.records.specs.declared.Variable as variables
use Rattle.records.specs.declared.Atom.{Atom}
use Rattle.records.specs.declared.Atom.TheVariants.{Variable}
use Rattle.records.specs.declared.Binding.{Binding}
use Rattle.std.specs.Prelude as rust
use Rattle.records.specs.Atoms.{number_of, takes_variable, image_of}
use Rattle.records.proofs.Atoms.{class_variable}
use Rattle.ways.proofs.Frames.{eqb_flip}
use Rattle.renaming.specs.Bound.{takes_one, image_of_all}
use Rattle.renaming.proofs.Bound.{not_taken, not_changed}
use Rattle.matching.specs.Taking.{takes_of}
use Rattle.matching.proofs.Slots.{takes_so, takes_none}
use Rattle.cows.proofs.BoundNodes.{image_other}

-- What stands for an atom when n slots take their values, and whether one of them takes it.
images : ℕ → (ℕ → ℕ) → (ℕ → ℕ) → variables.Variable → Atom
images zero w v x = Variable x
images (suc n) w v x = image_of (takes_of (w 0) (v 0)) x (images n (λ i. w (suc i)) (λ i. v (suc i)) x)

takers : ℕ → (ℕ → ℕ) → (ℕ → ℕ) → variables.Variable → Bool
takers zero w v x = false
takers (suc n) w v x = takes_variable (takes_of (w 0) (v 0)) x || takers n (λ i. w (suc i)) (λ i. v (suc i)) x

module _ (t : Term) where
  -- for a variable
  images_variable : {ws vs : List ℕ} {σ : Substitution} → Matches ws vs σ → AllBind t σ → (n : ℕ) → length ws ≤ n → (x : variables.Variable)
      → number_of (images n (λ i. get_or ws i 0) (λ i. get_or vs i 0) x) ≡ image σ x.0
  unfolding images image variable
  images_variable empty h zero l x = refl
  images_variable empty h (suc n) l x = rw (takes_none 0 0 refl) (images_variable empty h n (omega arith) x)
  images_variable (takes e m) h zero l x = absurd (omega arith)
  images_variable (takes {w = w} {v = v} e m) h (suc n) l x =
      rw (takes_so w v e h.0.datum) (cond_case₂ (λ b k. number_of b ≡ k) (eqb x.0 w) (λ z. refl) (λ z. images_variable m h.1 n (omega arith) x))
  images_variable (equals e m) h zero l x = absurd (omega arith)
  images_variable (equals {v = v} e m) h (suc n) l x = rw (takes_none v v e) (images_variable m h n (omega arith) x)

  takers_variable : {ws vs : List ℕ} {σ : Substitution} → Matches ws vs σ → AllBind t σ → (n : ℕ) → length ws ≤ n → (x : variables.Variable)
      → takers n (λ i. get_or ws i 0) (λ i. get_or vs i 0) x ≡ any (λ (p : ℕ × ℕ). eqb p.0 x.0) σ
  unfolding takers any variable
  takers_variable empty h zero l x = refl
  takers_variable empty h (suc n) l x = rw (takes_none 0 0 refl) (takers_variable empty h n (omega arith) x)
  takers_variable (takes e m) h zero l x = absurd (omega arith)
  takers_variable (takes {w = w} {v = v} e m) h (suc n) l x = rw (takes_so w v e h.0.datum, takers_variable m h.1 n (omega arith) x, eqb_flip x.0 w)
  takers_variable (equals e m) h zero l x = absurd (omega arith)
  takers_variable (equals {v = v} e m) h (suc n) l x = rw (takes_none v v e) (takers_variable m h n (omega arith) x)

  -- and for any atom: no other is bound
  not-bound : (σ : Substitution) → AllBind t σ → (a : ℕ) → variable a ≡ false → any (λ (p : ℕ × ℕ). eqb p.0 a) σ ≡ false
  unfolding any
  not-bound [] h a e = refl
  not-bound (p ∷ σ) h a e = rw (not_so {a = eqb p.0 a} (λ k. clash (ap variable (sym (eqb-true p.0 a k)) ∙ h.0.key) e)) (not-bound σ h.1 a e)

  module _ {ws vs : List ℕ} {σ : Substitution} (m : Matches ws vs σ) (h : AllBind t σ) (l : length ws ≤ 4) (a : ℕ) where
    abbrev slot : ℕ → rust.Option Binding
    slot i = takes_of (get_or ws i 0) (get_or vs i 0)

    abbrev pub four : List (rust.Option Binding)
    four = slot 0 ∷ slot 1 ∷ slot 2 ∷ slot 3 ∷ []

    pub images_match : image_of_all four a ≡ image σ a
    unfolding images
    images_match =
        bool_case _ (variable a) (λ k. rw (class_variable a k) (images_variable m h 4 l (record { 0 = a }))) (λ k. not_changed four a k ∙ sym (image_other t σ h a k))

    pub takers_match : takes_one four a ≡ any (λ (p : ℕ × ℕ). eqb p.0 a) σ
    unfolding takers
    takers_match =
        bool_case _ (variable a) (λ k. rw (class_variable a k) (takers_variable m h 4 l (record { 0 = a }))) (λ k. not_taken four a k ∙ sym (not-bound σ h a k))
