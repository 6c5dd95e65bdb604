-- Matching by four slots of which those that are not used are 0 (specs/Matching) is matching of the tuples (cows, specs/Moves).
use mathlib.Core.Path.{◌≡◌, refl, sym, ap, ◌∙◌}
use mathlib.Core.Bool.{Bool, true, false, cond, ◌&&◌, ◌||◌}
use mathlib.Core.List.{List, [], ◌∷◌}
use Prim.Native.Nat.{ℕ, zero, suc, ◌+◌, ◌*◌, ◌≤◌}
use native.Mathlib.Omega.{arith}
use lib.Dec.{eqb}
use lib.ListN.{length, get_or}
use borrow.Author.Tests.{eqb-true}
use Rattle.cows.specs.Basics.{any, every, one_if}
use Rattle.cows.specs.Allows.{Matches, empty, takes, equals}
use Rattle.cows.specs.Terms.{Action, variable}
use Rattle.cows.specs.Format.{byte, word}
use Rattle.cows.specs.Moves.{Substitution, Mismatch, unset_variable, other_endpoint, other_count, other_value, Matching, binds, differs, provided, besides, match, closed_action, fit}
use Rattle.cows.proofs.Basics.{never, and_true, and_one, or_none}
use Rattle.records.specs.Atoms.{closed_at}
use Rattle.matching.specs.declared.Difference.TheVariants.{Slot}
use Rattle.std.specs.Prelude as rust
use Rattle.matching.specs.declared.Difference.{Difference}
use Rattle.std.specs.Prelude.{Ok, Err}
use Rattle.matching.specs.Matching.{difference_of, mismatch_of, fit_of, agree, first_unlike, slots_of, slots_at, ActionAt, slot_test}

-- So many variables more; k slots from the n-th on, w in the pattern and v in the message.
more : ℕ → rust.Result ℕ Difference → rust.Result ℕ Difference
more i (Ok n) = Ok (i + n)
more i (Err d) = Err d

slots : ℕ → ℕ → (ℕ → ℕ) → (ℕ → ℕ) → rust.Result ℕ Difference
slots zero n w v = Ok 0
slots (suc k) n w v = cond (agree (w 0) (v 0)) (more (one_if (variable (w 0))) (slots k (suc n) (λ i. w (suc i)) (λ i. v (suc i)))) (Err (Slot n))

slot-fit : (n w v : ℕ) (rest : Matching) → fit_of (cond (variable w) (besides w v rest) (provided (eqb w v) (other_value n) rest)) ≡ cond (agree w v) (more (one_if (variable w)) (fit_of rest)) (Err (Slot n))
unfolding provided besides more
slot-fit n w v rest = go (variable w) (eqb w v) rest
  where
    go : (p q : Bool) (rest : Matching) → fit_of (cond p (besides w v rest) (cond q rest (differs (other_value n)))) ≡ cond (p || q) (more (one_if p) (fit_of rest)) (Err (Slot n))
    go true q (binds σ) = ap Ok (omega arith)
    go true q (differs d) = refl
    go false true (binds σ) = ap Ok (omega arith)
    go false true (differs d) = refl
    go false false rest = refl

match-slots : (k n : ℕ) (ws vs : List ℕ) → length ws ≤ k → length ws ≡ length vs → fit_of (match n ws vs) ≡ slots k n (λ i. get_or ws i 0) (λ i. get_or vs i 0)
unfolding match slots more variable
match-slots zero n [] vs l e = refl
match-slots (suc k) n [] [] l e = ap (more 0) (match-slots k (suc n) [] [] (omega arith) refl)
match-slots (suc k) n [] (v ∷ vs) l e = absurd (omega arith)
match-slots zero n (w ∷ ws) vs l e = absurd (omega arith)
match-slots (suc k) n (w ∷ ws) [] l e = absurd (omega arith)
match-slots (suc k) n (w ∷ ws) (v ∷ vs) l e =
    slot-fit n w v (match (suc n) ws vs)
    ∙ ap (λ r. cond (agree w v) (more (one_if (variable w)) r) (Err (Slot n))) (match-slots k (suc n) ws vs (omega arith) (omega arith))

-- four of them
slots_four : (w v : ℕ → ℕ) → slots_of (agree (w 0) (v 0)) (agree (w 1) (v 1)) (agree (w 2) (v 2)) (agree (w 3) (v 3)) (one_if (variable (w 0)) + one_if (variable (w 1)) + one_if (variable (w 2)) + one_if (variable (w 3))) ≡ slots 4 0 w v
unfolding slots more
slots_four w v = go (agree (w 0) (v 0)) (agree (w 1) (v 1)) (agree (w 2) (v 2)) (agree (w 3) (v 3)) (one_if (variable (w 0))) (one_if (variable (w 1))) (one_if (variable (w 2))) (one_if (variable (w 3)))
  where
    go : (a b c d : Bool) (i j l n : ℕ) → slots_of a b c d (i + j + l + n)
        ≡ cond a (more i (cond b (more j (cond c (more l (cond d (more n (Ok 0)) (Err (Slot 3)))) (Err (Slot 2)))) (Err (Slot 1)))) (Err (Slot 0))
    go true true true true i j l n = ap Ok (omega arith)
    go true true true false i j l n = refl
    go true true false d i j l n = refl
    go true false c d i j l n = refl
    go false b c d i j l n = refl

-- a test of each pair that is bound, by as many slots as there may be
tests : (ℕ → ℕ → Bool) → ℕ → (ℕ → ℕ) → (ℕ → ℕ) → Bool
tests g zero w v = true
tests g (suc k) w v = g (w 0) (v 0) && tests g k (λ i. w (suc i)) (λ i. v (suc i))

module _ (f : ℕ × ℕ → Bool) where
  matches_tests : {ws vs : List ℕ} {σ : Substitution} → Matches ws vs σ → (k : ℕ) → length ws ≤ k → every f σ ≡ tests (slot_test f) k (λ i. get_or ws i 0) (λ i. get_or vs i 0)
  unfolding every tests variable
  matches_tests empty zero l = refl
  matches_tests empty (suc k) l = matches_tests empty k (omega arith)
  matches_tests (takes e m) zero l = absurd (omega arith)
  matches_tests (takes e m) (suc k) l = rw (e, matches_tests m k (omega arith))
  matches_tests (equals e m) zero l = absurd (omega arith)
  matches_tests (equals e m) (suc k) l = rw e (matches_tests m k (omega arith))

  pub matches_every : {ws vs : List ℕ} {σ : Substitution} → Matches ws vs σ → length ws ≤ 4 → every f σ ≡ (
      slot_test f (get_or ws 0 0) (get_or vs 0 0) && (slot_test f (get_or ws 1 0) (get_or vs 1 0) && (slot_test f (get_or ws 2 0) (get_or vs 2 0) && slot_test f (get_or ws 3 0) (get_or vs 3 0))))
  unfolding tests
  matches_every {ws} {vs} m l = matches_tests m 4 l ∙ rw (and_one (slot_test f (get_or ws 3 0) (get_or vs 3 0)))

any_four : (p : ℕ → Bool) → p 0 ≡ false → (ws : List ℕ) → length ws ≤ 4 → any p ws ≡ (p (get_or ws 0 0) || (p (get_or ws 1 0) || (p (get_or ws 2 0) || p (get_or ws 3 0))))
unfolding any
any_four p e [] l = rw e
any_four p e (w ∷ []) l = rw e
any_four p e (w ∷ x ∷ []) l = rw e
any_four p e (w ∷ x ∷ y ∷ []) l = rw e
any_four p e (w ∷ x ∷ y ∷ z ∷ []) l = ap (λ b. p w || (p x || (p y || b))) (or_none (p z))
any_four p e (w ∷ x ∷ y ∷ z ∷ a ∷ ws) l = absurd (omega arith)

-- whether the record at place b holds no variable
pub closed_ends : (s : List ℕ) (b : ℕ) (m : Action) → ActionAt s b m → closed_at s (16 * b) ≡ closed_action m
unfolding closed_at closed_action variable any
closed_ends s b m k = rw (k.partner, k.operation, k.slot0, k.slot1, k.slot2, k.slot3, any_four variable refl m.tuple k.few)

-- what the answer says is what differs
pub mismatch_same : (d : Mismatch) → mismatch_of (difference_of d) ≡ d
mismatch_same unset_variable = refl
mismatch_same other_endpoint = refl
mismatch_same other_count = refl
mismatch_same (other_value n) = refl

-- the tests ahead of the slots: one that fails is named, the first of them; else the slots decide
tests_fail : (closed endpoint count : Bool) (rest : Matching) → (closed && (endpoint && count)) ≡ false
    → Err (first_unlike closed endpoint) ≡ fit_of (provided closed unset_variable (provided endpoint other_endpoint (provided count other_count rest)))
unfolding provided
tests_fail true true true rest e = never (sym e)
tests_fail true true false rest e = refl
tests_fail true false count rest e = refl
tests_fail false endpoint count rest e = refl

tests_pass : (closed endpoint count : Bool) (rest : Matching) → (closed && (endpoint && count)) ≡ true
    → rest ≡ provided closed unset_variable (provided endpoint other_endpoint (provided count other_count rest))
unfolding provided
tests_pass true true true rest e = refl
tests_pass true true false rest e = never e
tests_pass true false count rest e = never e
tests_pass false endpoint count rest e = never e

-- The records at places a and b have the endpoints and tuples of q and m.
module _ (s : List ℕ) (a b : ℕ) (q m : Action) (h : ActionAt s a q) (k : ActionAt s b m) where
  slots_same : length q.tuple ≡ length m.tuple → slots_at s (16 * a) (16 * b) ≡ fit_of (match 0 q.tuple m.tuple)
  unfolding slots_at
  slots_same e =
      rw (h.slot0, h.slot1, h.slot2, h.slot3, k.slot0, k.slot1, k.slot2, k.slot3)
      (slots_four (λ i. get_or q.tuple i 0) (λ i. get_or m.tuple i 0) ∙ sym (match-slots 4 0 q.tuple m.tuple h.few e))

  abbrev ends_same : Bool
  ends_same = eqb (word s (16 * a + 2)) (word s (16 * b + 2)) && eqb (word s (16 * a + 4)) (word s (16 * b + 4))

  abbrev count_same : Bool
  count_same = eqb (get_or s (16 * a + 1) 0) (get_or s (16 * b + 1) 0)

  fit_tests : fit q m ≡ provided (closed_action m) unset_variable (provided ends_same other_endpoint (provided count_same other_count (match 0 q.tuple m.tuple)))
  unfolding fit provided byte
  fit_tests = rw (h.partner, h.operation, k.partner, k.operation, h.count, k.count)

  module _ (closed : Bool) (c : closed ≡ closed_action m) where
    pub unlike_so : (closed && (ends_same && count_same)) ≡ false → Err (first_unlike closed ends_same) ≡ fit_of (fit q m)
    unlike_so e = rw (fit_tests, ← c) (tests_fail closed ends_same count_same (match 0 q.tuple m.tuple) e)

    pub slots_so : (closed && (ends_same && count_same)) ≡ true → slots_at s (16 * a) (16 * b) ≡ fit_of (fit q m)
    unfolding byte
    slots_so e =
        let l = eqb-true _ _ (and_true ends_same count_same (and_true closed _ e).1).1 in
        slots_same (sym h.count ∙ (l ∙ k.count)) ∙ rw (fit_tests, ← c) (ap fit_of (tests_pass closed ends_same count_same (match 0 q.tuple m.tuple) e))
