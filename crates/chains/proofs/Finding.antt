-- The walk along a chain of delimitations for that of an atom.
use mathlib.Core.Path.{◌≡◌, sym, ap, ◌∙◌}
use mathlib.Core.Logic.{◌≢◌}
use mathlib.Core.Bool.{Bool, true, false}
use mathlib.Core.List.{List, []}
use Prim.Native.Nat.{ℕ, suc, ◌+◌, ◌*◌, ◌-◌, ◌/◌, ◌≤◌, ◌<◌}
use native.Mathlib.Omega.{arith}
use native.Mathlib.Nat.{mod-lt}
use lib.Dec.{eqb}
use lib.ListN.{length, get_or}
use borrow.Author.Tests.{eqb-true, eq-eqb, ne_eqb}
use Rattle.cows.specs.Terms.{Term, size, delimits_at}
use Rattle.cows.specs.Kinds.{root}
use Rattle.cows.specs.Places.{sub}
use Rattle.cows.specs.Format.{word, record16}
use Rattle.cows.proofs.Basics.{not_so, clash, and_true, true_and}
use Rattle.cows.proofs.Fields.{kind-delimitation, layout_second}
use Rattle.records.specs.Holds.{Holds}
use Rattle.records.proofs.StandsIn.{holds_size, holds_kind, holds_word}
use Rattle.ways.proofs.Frames.{delimits-bytes}
use Rattle.roles.specs.Roles.{first_of, behind_of}
use Rattle.chains.specs.Chains.{class_of_pair, class_at, scope_here, in_class, ByAtom}
use Rattle.chains.proofs.Chaining.{hit, miss, ended, skip_to, FirstAt, first_most, Walking, walking_start, walking_at, walking_on, walking_less, walking_end, steps_left}

-- the records of the class of atom a
abbrev pub mates : List ℕ → ℕ → ℕ → Bool
mates s a = in_class (scope_here s) (class_at s) (class_of_pair a 0)

-- The walk for atom a stands at e: what is to be found is what is found from the place on.
pub record Finding (s : List ℕ) (a e : ℕ) : Type 0 where
  pub place : ℕ
  pub walk : Walking (scope_here s) (class_at s) (length s / 16) (class_of_pair a 0) place e
  pub answer : (t : Term) → Holds s t → behind_of t a ≡ first_of (λ n. delimits_at a (sub t n)) (length s / 16) place

pub walk_most : (s : List ℕ) (a e : ℕ) → Finding s a e → e ≤ length s / 16
walk_most s a e w = rw w.walk.here (first_most (mates s a) (length s / 16) w.place)

module _ (s : List ℕ) (a : ℕ) where
  module _ (t : Term) (h : Holds s t) (j : ℕ) (l : j < length s / 16) where
    placed : j < size t
    placed = omega (arith, holds_size s t h)

    -- a delimitation of the atom is in its class
    second_none : get_or s (16 * j) 0 ≡ 8 → word s (16 * j + 4) ≡ 0
    unfolding record16 root
    second_none e =
        let (d, q) = kind-delimitation (sub t j) (sym (holds_kind s t j h placed) ∙ e) in
        holds_word s t j 4 h placed (omega arith) ∙ (ap (λ r. word (record16 (root r)) 4) q ∙ layout_second 8 d 0 0 [])

    in_mates : delimits_at a (sub t j) ≡ true → mates s a j ≡ true
    unfolding in_class scope_here class_at
    in_mates e =
        let (p, q) = and_true (eqb (get_or s (16 * j) 0) 8) _ (delimits-bytes s t j a h placed ∙ e) in
        let x : word s (16 * j + 2) ≡ a = eqb-true _ _ q in
        let y : word s (16 * j + 4) ≡ 0 = second_none (eqb-true _ _ p) in
        let z : class_of_pair (word s (16 * j + 2)) (word s (16 * j + 4)) ≡ class_of_pair a 0 = rw (x, y) in
        true_and p (eq-eqb _ _ z)

    pub no_mate : mates s a j ≡ false → delimits_at a (sub t j) ≡ false
    no_mate e = not_so (λ y. clash (in_mates y) e)

    -- by the bytes of a record of the class
    mate_is : mates s a j ≡ true → delimits_at a (sub t j) ≡ eqb (word s (16 * j + 2)) a
    unfolding in_class scope_here
    mate_is e = let p = (and_true (eqb (get_or s (16 * j) 0) 8) _ e).0 in sym (delimits-bytes s t j a h placed) ∙ rw p

  module _ (heads next : List ℕ) (k : ByAtom s heads next) where
    pub finding_start : Finding s a (get_or heads (class_of_pair a 0) 0)
    unfolding behind_of class_of_pair
    finding_start = record {
      place = 0;
      walk = walking_start _ _ _ _ heads next k.chained (mod-lt _ {m = 256} (omega arith));
      answer = λ t h. rw (holds_size s t h);
    }

    pub finding_end : Finding s a 0 → (t : Term) → Holds s t → 0 ≡ behind_of t a
    finding_end w t h =
        let n = length s / 16 in
        let f : ℕ → Bool = λ n. delimits_at a (sub t n) in
        sym (w.answer t h
        ∙ (skip_to f n w.place n w.walk.few (omega arith) (λ j u v. no_mate t h j v (walking_end _ _ _ _ heads next k.chained w.place w.walk j u v)) ∙ ended f n n (omega arith)))

    module _ (e : ℕ) (l : 0 < e) (w : Finding s a e) where
      at : FirstAt (mates s a) (length s / 16) w.place (e - 1)
      at = walking_at _ _ _ _ heads next k.chained w.place e l w.walk

      here_on : (t : Term) → (h : Holds s t) → behind_of t a ≡ first_of (λ n. delimits_at a (sub t n)) (length s / 16) (e - 1)
      here_on t h =
          w.answer t h ∙ skip_to _ (length s / 16) w.place (e - 1) at.behind (omega (arith, at.inside)) (λ j u v. no_mate t h j (omega (arith, at.inside)) (at.before j u v))

      pub finding_found : word s (16 * (e - 1) + 2) ≡ a → (t : Term) → Holds s t → e ≡ behind_of t a
      finding_found q t h =
          let z : e ≡ suc (e - 1) = omega arith in
          z ∙ sym (here_on t h ∙ hit _ (length s / 16) (e - 1) at.inside (mate_is t h (e - 1) at.inside at.passes ∙ eq-eqb _ _ q))

      pub finding_on : word s (16 * (e - 1) + 2) ≢ a → Finding s a (get_or next (e - 1) 0)
      finding_on q = record {
        place = e;
        walk = walking_on _ _ _ _ heads next k.chained w.place e l w.walk;
        answer = λ t h.
            let z : e - 1 + 1 ≡ e = omega arith in
            here_on t h ∙ (miss _ (length s / 16) (e - 1) at.inside (mate_is t h (e - 1) at.inside at.passes ∙ ne_eqb _ _ q) ∙ ap (first_of _ (length s / 16)) z);
      }

      pub finding_less : steps_left (length s / 16) (get_or next (e - 1) 0) < steps_left (length s / 16) e
      finding_less = walking_less _ _ _ _ heads next k.chained w.place e l w.walk
