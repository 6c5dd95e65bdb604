-- What differs as fit finds it (specs/Moves) is the lowest of what differs (specs/Mismatched, Unlike): the number that it finds applies, and none below it does.
use mathlib.Core.Path.{◌≡◌, refl, sym, ap, subst, ◌∙◌}
use mathlib.Core.Bool.{Bool, true, false, ◌&&◌}
use mathlib.Core.Option.{some}
use mathlib.Core.List.{List, [], ◌∷◌}
use Prim.Native.Nat.{ℕ, zero, suc, ◌+◌, ◌≤◌, ◌<◌}
use native.Mathlib.Omega.{arith}
use lib.Dec.{eqb}
use lib.ListN.{length, get_elem?}
use borrow.Author.Tests.{eqb-true, eq-eqb, eqb-false, not-true, not-false}
use Rattle.cows.specs.Terms.{Action, variable}
use Rattle.cows.specs.Moves.{Substitution, Mismatch, unset_variable, other_endpoint, other_count, other_value, Matching, binds, differs, provided, besides, match, closed_action, fit, mismatch_number}
use Rattle.cows.specs.Mismatched.{ValuesDiffer, Unlike, unset, partner, operation, count, slot, Lowest}
use Rattle.cows.proofs.Basics.{clash, cond_case, bool_case, and_true, true_and, same_some}

-- the same endpoint, and the same count: what fit tests between the message's variables and the slots
abbrev same_ends : Action → Action → Bool
same_ends r m = eqb r.partner m.partner && eqb r.operation m.operation

abbrev same_count : Action → Action → Bool
same_count r m = eqb (length r.tuple) (length m.tuple)

-- with one slot more in front, and without it
later : {w v : ℕ} {ws vs : List ℕ} {i : ℕ} → ValuesDiffer ws vs i → ValuesDiffer (w ∷ ws) (v ∷ vs) (suc i)
later h = record { asked = h.asked; sent = h.sent; asked_at = h.asked_at; sent_at = h.sent_at; no-variable = h.no-variable; other = h.other }

earlier : {w v : ℕ} {ws vs : List ℕ} {i : ℕ} → ValuesDiffer (w ∷ ws) (v ∷ vs) (suc i) → ValuesDiffer ws vs i
earlier h = record { asked = h.asked; sent = h.sent; asked_at = h.asked_at; sent_at = h.sent_at; no-variable = h.no-variable; other = h.other }

-- B if the two match, P of what differs if not
abbrev MatchOr : Type 0 → (Mismatch → Type 0) → Matching → Type 0
MatchOr B P (binds σ) = B
MatchOr B P (differs d) = P d

module _ (B : Type 0) (P : Mismatch → Type 0) where
  provided_or : (test : Bool) (d : Mismatch) (rest : Matching) → (test ≡ false → P d) → (test ≡ true → MatchOr B P rest) → MatchOr B P (provided test d rest)
  unfolding provided
  provided_or true d rest f g = g refl
  provided_or false d rest f g = f refl

  besides_or : (w v : ℕ) (rest : Matching) → MatchOr B P rest → MatchOr B P (besides w v rest)
  unfolding besides
  besides_or w v (binds σ) h = h
  besides_or w v (differs d) h = h

-- What is found: P of what differs, if something does.
abbrev Finds : (Mismatch → Type 0) → Matching → Type 0
Finds P m = MatchOr (Unit {0}) P m

module _ (P : Mismatch → Type 0) where
  match_finds : (n : ℕ) (ws vs : List ℕ) → ((i : ℕ) → ValuesDiffer ws vs i → P (other_value (n + i))) → Finds P (match n ws vs)
  unfolding match
  match_finds n [] vs h = tt
  match_finds n (w ∷ ws) [] h = tt
  match_finds n (w ∷ ws) (v ∷ vs) h =
      let at : (i k : ℕ) → n + i ≡ k → ValuesDiffer (w ∷ ws) (v ∷ vs) i → P (other_value k) = λ i k e x. subst (λ j. P (other_value j)) e (h i x) in
      let rest = match_finds (suc n) ws vs (λ i x. at (suc i) (suc n + i) (omega arith) (later x)) in
      cond_case (Finds P) (variable w) (λ _. besides_or (Unit {0}) P w v (match (suc n) ws vs) rest)
      (λ e. provided_or (Unit {0}) P (eqb w v) (other_value n) (match (suc n) ws vs)
      (λ x. at 0 n (omega arith) (record { asked = w; sent = v; asked_at = refl; sent_at = refl; no-variable = e; other = eqb-false w v x })) (λ _. rest))

  fit_finds : (r m : Action) → (closed_action m ≡ false → P unset_variable) → (same_ends r m ≡ false → P other_endpoint) → (same_count r m ≡ false → P other_count)
      → ((i : ℕ) → ValuesDiffer r.tuple m.tuple i → P (other_value i)) → Finds P (fit r m)
  unfolding fit
  fit_finds r m f g h k =
      provided_or (Unit {0}) P (closed_action m) _ _ f
      (λ _. provided_or (Unit {0}) P (same_ends r m) _ _ g
      (λ _. provided_or (Unit {0}) P (same_count r m) _ _ h (λ _. match_finds 0 r.tuple m.tuple (λ i x. subst (λ j. P (other_value j)) (omega arith) (k i x)))))

finds_unlike : (r m : Action) → Finds (λ d. Unlike r m (mismatch_number d)) (fit r m)
unfolding mismatch_number closed_action
finds_unlike r m =
    fit_finds _ r m (λ e. unset (not-false _ e))
    (λ e. bool_case _ (eqb r.partner m.partner) (λ p. operation (λ o. clash (true_and p (eq-eqb _ _ o)) e)) (λ p. partner (eqb-false _ _ p)))
    (λ e. count (eqb-false _ _ e)) slot

-- a slot of a list is one of its slots, so the number is one of 0 to 2 or that of a slot of the pattern
slot-inside : {w : ℕ} (ws : List ℕ) (i : ℕ) → get_elem? ws i ≡ some w → i < length ws
slot-inside [] i e = absurd (let z : ◌≡◌ {A = ℕ} 0 1 = cc in omega arith)
slot-inside (w ∷ ws) zero e = omega arith
slot-inside (w ∷ ws) (suc i) e = omega (arith, slot-inside ws i e)

pub number_small : (r m : Action) (d : Mismatch) → fit r m ≡ differs d → mismatch_number d < 3 + length r.tuple
unfolding mismatch_number
number_small r m d e =
    subst (Finds _) e
    (fit_finds (λ x. mismatch_number x < 3 + length r.tuple) r m (λ _. omega arith) (λ _. omega arith) (λ _. omega arith) (λ i x. omega (arith, slot-inside r.tuple i x.asked_at)))

-- Nothing is passed over: something differs, and its number is at most n.
abbrev AtMost : ℕ → Matching → Type 0
AtMost n m = MatchOr ⊥ (λ d. mismatch_number d ≤ n) m

-- (a test, with what differs if it fails)
test_most : (n : ℕ) (test : Bool) (d : Mismatch) (rest : Matching) → mismatch_number d ≤ n → (test ≡ true → AtMost n rest) → AtMost n (provided test d rest)
test_most n test d rest l f = provided_or ⊥ (λ d. mismatch_number d ≤ n) test d rest (λ _. l) f

match_most : (n : ℕ) (ws vs : List ℕ) (i : ℕ) → ValuesDiffer ws vs i → AtMost (3 + (n + i)) (match n ws vs)
unfolding match mismatch_number
match_most n [] vs i h = let e = h.asked_at in absurd (let z : ◌≡◌ {A = ℕ} 0 1 = cc in omega arith)
match_most n (w ∷ ws) [] i h = let e = h.sent_at in absurd (let z : ◌≡◌ {A = ℕ} 0 1 = cc in omega arith)
match_most n (w ∷ ws) (v ∷ vs) zero h =
    cond_case (AtMost (3 + (n + 0))) (variable w) (λ e. clash e (ap variable (same_some h.asked_at) ∙ h.no-variable))
    (λ e. test_most (3 + (n + 0)) (eqb w v) (other_value n) _ (omega arith) (λ x. absurd (h.other (sym (same_some h.asked_at) ∙ (eqb-true w v x ∙ same_some h.sent_at)))))
match_most n (w ∷ ws) (v ∷ vs) (suc i) h =
    let rest : AtMost (3 + (n + suc i)) (match (suc n) ws vs) = subst (λ k. AtMost k (match (suc n) ws vs)) (omega arith) (match_most (suc n) ws vs i (earlier h)) in
    cond_case (AtMost (3 + (n + suc i))) (variable w) (λ _. besides_or ⊥ (λ d. mismatch_number d ≤ 3 + (n + suc i)) w v (match (suc n) ws vs) rest)
    (λ _. test_most (3 + (n + suc i)) (eqb w v) (other_value n) (match (suc n) ws vs) (omega arith) (λ _. rest))

unlike_most : (r m : Action) (n : ℕ) → Unlike r m n → AtMost n (fit r m)
unfolding fit mismatch_number closed_action
unlike_most r m n (unset e) = test_most 0 _ unset_variable _ (omega arith) (λ t. clash e (not-true _ t))
unlike_most r m n (partner p) =
    test_most 1 _ unset_variable _ (omega arith) (λ _. test_most 1 _ other_endpoint _ (omega arith) (λ t. absurd (p (eqb-true _ _ (and_true (eqb r.partner m.partner) _ t).0))))
unlike_most r m n (operation o) =
    test_most 1 _ unset_variable _ (omega arith) (λ _. test_most 1 _ other_endpoint _ (omega arith) (λ t. absurd (o (eqb-true _ _ (and_true (eqb r.partner m.partner) _ t).1))))
unlike_most r m n (count c) =
    test_most 2 _ unset_variable _ (omega arith)
    (λ _. test_most 2 _ other_endpoint _ (omega arith) (λ _. test_most 2 _ other_count _ (omega arith) (λ t. absurd (c (eqb-true _ _ t)))))
unlike_most r m n (slot i h) =
    test_most (3 + i) _ unset_variable _ (omega arith)
    (λ _. test_most (3 + i) _ other_endpoint _ (omega arith)
    (λ _. test_most (3 + i) _ other_count _ (omega arith)
    (λ _. subst (λ k. AtMost k (match 0 r.tuple m.tuple)) (omega arith) (match_most 0 r.tuple m.tuple i h))))

-- The number is the lowest that applies; and nothing differs exactly if they match.
module _ (r m : Action) where
  pub fit_lowest : (d : Mismatch) → fit r m ≡ differs d → Lowest (Unlike r m) (mismatch_number d)
  fit_lowest d e = record { applies = subst (Finds _) e (finds_unlike r m); least = λ i h. subst (AtMost i) e (unlike_most r m i h) }

  pub lowest_fit : (n : ℕ) → Lowest (Unlike r m) n → (d : Mismatch) × (fit r m ≡ differs d) × (mismatch_number d ≡ n)
  lowest_fit n h = go (fit r m) refl (unlike_most r m n h.applies)
    where
      go : (x : Matching) → fit r m ≡ x → AtMost n x → (d : Mismatch) × (fit r m ≡ differs d) × (mismatch_number d ≡ n)
      go (binds σ) e l = absurd l
      go (differs d) e l = (d, e, omega (arith, l, h.least (mismatch_number d) (fit_lowest d e).applies))

  pub fit_alike : (σ : Substitution) → fit r m ≡ binds σ → (n : ℕ) → Unlike r m n → ⊥
  fit_alike σ e n h = subst (AtMost n) e (unlike_most r m n h)

  pub alike_fit : ((n : ℕ) → Unlike r m n → ⊥) → (σ : Substitution) × (fit r m ≡ binds σ)
  alike_fit h = go (fit r m) refl
    where
      go : (x : Matching) → fit r m ≡ x → (σ : Substitution) × (fit r m ≡ binds σ)
      go (binds σ) e = (σ, e)
      go (differs d) e = absurd (h (mismatch_number d) (fit_lowest d e).applies)
