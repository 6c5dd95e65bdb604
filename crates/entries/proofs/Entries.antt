-- One place more: the places that have a role, and the moves written for them.
use mathlib.Core.Path.{◌≡◌, refl, sym, ap, ap₂, subst, ◌∙◌}
use mathlib.Core.Bool.{Bool, true, false, cond}
use mathlib.Core.List.{List, [], ◌∷◌, ◌++◌, flat_map, append-nil}
use Prim.Native.Nat.{ℕ, zero, suc, ◌+◌, ◌-◌, ◌*◌, ◌/◌, ◌%◌, ◌≤◌, ◌<◌}
use native.Mathlib.Omega.{arith}
use native.Mathlib.Numerals.{add-one}
use lib.ListN.{length, length-append, take}
use lib.Seq.{take-length, length-take-le, get_or-take}
use denote.Enum.Bare.{sameb}
use Rattle.std.specs.Prelude.{count_by}
use Rattle.std.specs.List as list
use Rattle.std.proofs.lemmas.List.Sums.{length-filter}
use Rattle.std.proofs.lemmas.List.Filters.{length-filter_more}
use Rattle.roles.specs.contracts.Role.{the_type}
use Rattle.roles.specs.declared.Role.TheVariants.{Idle}
use Rattle.roles.proofs.Same.{same_is}
use Rattle.cows.specs.Basics.{one_if}
use Rattle.cows.specs.Format.{bytes2}
use Rattle.cows.specs.Papers.{move_bytes}
use Rattle.cows.proofs.Cut.{flat_map_append, length_write}
use Rattle.records.specs.Rewrites.{put}
use Rattle.records.proofs.Laws.{test_small}
use Rattle.records.proofs.Put.{and_then}
use Rattle.roles.specs.declared.Role.{Role}
use Rattle.roles.specs.Roles.{is_role, role_at}
use Rattle.opening.specs.Opening.{up_from, filter, each}
use Rattle.opening.proofs.Lists.{up_more, filter_append}
use Rattle.entries.specs.Entries.{places_of, EntryRoom, Entered}

as_one : (b : Bool) → cond b 1 0 ≡ one_if b
as_one true = refl
as_one false = refl

module _ (cast : List Role) (role : Role) where
  more : (i : ℕ) → places_of cast role (i + 1) ≡ places_of cast role i ++ filter (λ j. is_role (role_at cast j) role) (i ∷ [])
  more i = rw (add-one i, up_more 0 i) (filter_append _ (up_from 0 i) ((0 + i) ∷ []) ∙ let z : 0 + i ≡ i = omega arith in rw z)

  pub place_passed : (i : ℕ) → is_role (role_at cast i) role ≡ false → places_of cast role (i + 1) ≡ places_of cast role i
  unfolding filter
  place_passed i h = more i ∙ rw h (append-nil _)

  pub place_taken : (i : ℕ) → is_role (role_at cast i) role ≡ true → places_of cast role (i + 1) ≡ places_of cast role i ++ (i ∷ [])
  unfolding filter
  place_taken i h = more i ∙ rw h

  -- one more place has the role, or none
  pub place_counted : (i : ℕ) → length (places_of cast role (i + 1)) ≡ length (places_of cast role i) + one_if (is_role (role_at cast i) role)
  unfolding filter
  place_counted i = ap length (more i) ∙ (length-append (places_of cast role i) _ ∙ go (is_role (role_at cast i) role) refl)
    where
      go : (b : Bool) → is_role (role_at cast i) role ≡ b → length (places_of cast role i) + length (filter (λ j. is_role (role_at cast j) role) (i ∷ [])) ≡ length (places_of cast role i) + one_if b
      go true e = rw e
      go false e = rw e

  -- a chain over the first i places counts as many
  places_counted : (i : ℕ) → i ≤ length cast → count_by (λ r. sameb the_type r role) (take i cast) ≡ length (places_of cast role i)
  unfolding filter up_from
  places_counted zero l = refl
  places_counted (suc i) l =
      let p : Role → Bool = λ r. sameb the_type r role in
      let z : i + 1 ≡ suc i = omega arith in
      subst (λ j. count_by p (take j cast) ≡ length (places_of cast role j)) z (sym (length-filter p (take (i + 1) cast))
      ∙ (length-filter_more p cast i Idle (omega arith)
      ∙ (ap (λ n. length (list.filter p (take i cast)) + n) (as_one (sameb the_type (role_at cast i) role) ∙ ap one_if (same_is (role_at cast i) role))
      ∙ (ap (λ n. n + one_if (is_role (role_at cast i) role)) (length-filter p (take i cast) ∙ places_counted i (omega arith)) ∙ sym (place_counted i)))))

  pub all_counted : count_by (λ r. sameb the_type r role) cast ≡ length (places_of cast role (length cast))
  all_counted = ap (count_by (λ r. sameb the_type r role)) (sym (take-length cast)) ∙ places_counted (length cast) (omega arith)

  pub places_within : (i : ℕ) → length (places_of cast role i) ≤ i
  unfolding filter up_from
  places_within zero = omega arith
  places_within (suc i) = let z : i + 1 ≡ suc i = omega arith in omega (arith, ap (λ j. length (places_of cast role j)) z, places_within i, place_counted i, test_small (is_role (role_at cast i) role))

  pub longer : (i k : ℕ) → length (places_of cast role i) ≤ length (places_of cast role (i + k))
  longer i zero = let z : i + 0 ≡ i = omega arith in rw z (omega arith)
  longer i (suc k) = let z : i + suc k ≡ i + k + 1 = omega arith in rw z (omega (arith, longer i k, place_counted (i + k)))

  pub room_for : (i n : ℕ) → i < n → is_role (role_at cast i) role ≡ true → suc (length (places_of cast role i)) ≤ length (places_of cast role n)
  room_for i n l h =
      let z : i + 1 + (n - (i + 1)) ≡ n = omega arith in
      omega (arith, longer (i + 1) (n - (i + 1)), ap (λ j. length (places_of cast role j)) z, place_counted i, ap one_if h)

  module _ (kind : ℕ) (out : List ℕ) (m : ℕ) where
    length_move : (a : ℕ) → length (move_bytes kind a 0) ≡ 6
    unfolding bytes2
    length_move a = refl

    pub listed_start : Entered cast role kind out m 0 out m
    unfolding filter up_from flat_map put
    listed_start = record { number = omega arith; is = refl }

    module _ (i count : ℕ) (e : List ℕ) (h : Entered cast role kind out m i e count) where
      pub listed_on : is_role (role_at cast i) role ≡ false → Entered cast role kind out m (i + 1) e count
      listed_on n = let z = place_passed i n in record { number = rw z h.number; is = rw z h.is }

      pub listed-put : (e' : List ℕ) → is_role (role_at cast i) role ≡ true → e' ≡ put e (6 * count) (move_bytes kind i 0) → Entered cast role kind out m (i + 1) e' (count + 1)
      unfolding flat_map
      listed-put e' n q =
          let z = place_taken i n in
          record {
            number = rw z (omega (arith, h.number, length-append (places_of cast role i) (i ∷ [])));
            is = rw (z, flat_map_append (λ a. move_bytes kind a 0) (places_of cast role i) (i ∷ []), append-nil (move_bytes kind i 0))
                (and_then out (6 * m) (6 * count) (each (λ a. move_bytes kind a 0) (places_of cast role i)) (move_bytes kind i 0)
                (omega (arith, h.number, length_write 6 (λ a. move_bytes kind a 0) length_move (places_of cast role i))) h.is q);
          }

-- The same of the list that is cut to its first n places.
module _ (cast : List Role) (role : Role) (n : ℕ) (l : n ≤ length cast) where
  cut_places : (i : ℕ) → i ≤ n → places_of (take n cast) role i ≡ places_of cast role i
  unfolding filter up_from
  cut_places zero k = refl
  cut_places (suc i) k =
      let z : i + 1 ≡ suc i = omega arith in
      subst (λ j. places_of (take n cast) role j ≡ places_of cast role j) z
      (more (take n cast) role i ∙ (ap₂ (λ a b. a ++ b) (cut_places i (omega arith)) (here i (omega arith)) ∙ sym (more cast role i)))
    where
      here : (i : ℕ) → i < n → filter (λ j. is_role (role_at (take n cast) j) role) (i ∷ []) ≡ filter (λ j. is_role (role_at cast j) role) (i ∷ [])
      here i h = let e : role_at (take n cast) i ≡ role_at cast i = get_or-take n cast i Idle h in rw e refl

  pub places_cut : places_of (take n cast) role (length (take n cast)) ≡ places_of cast role n
  places_cut = rw (length-take-le n cast l) (cut_places n (omega arith))

  pub room_cut : {out : List ℕ} {m : ℕ} → EntryRoom cast role n out m → EntryRoom (take n cast) role (length (take n cast)) out m
  room_cut h = record { cast_all = omega arith; few = omega (arith, length-take-le n cast l, h.few); fits = rw places_cut h.fits }

  pub entered_cut : {kind m count : ℕ} {out after : List ℕ} → Entered (take n cast) role kind out m (length (take n cast)) after count → Entered cast role kind out m n after count
  entered_cut h = record { number = rw (sym places_cut) h.number; is = rw (sym places_cut) h.is }

-- a kind and two numbers, one behind the other
kind-bytes : (kind a b : ℕ) → kind < 256 → (bytes2 kind ++ bytes2 a) ++ bytes2 b ≡ move_bytes kind a b
unfolding bytes2
kind-bytes kind a b l =
    let x : kind % 256 ≡ kind = omega arith in
    let y : kind / 256 ≡ 0 = omega arith in
    ap (λ i. i ∷ kind / 256 ∷ bytes2 a ++ bytes2 b) x ∙ ap (λ i. kind ∷ i ∷ bytes2 a ++ bytes2 b) y

pub move_put : (d : List ℕ) (at kind a b : ℕ) {e₁ e₂ e₃ : List ℕ} → kind < 256 → e₁ ≡ put d at (bytes2 kind) → e₂ ≡ put e₁ (at + 2) (bytes2 a) → e₃ ≡ put e₂ (at + 4) (bytes2 b) → e₃ ≡ put d at (move_bytes kind a b)
unfolding bytes2
move_put d at kind a b l p q r =
    and_then d at (at + 4) (bytes2 kind ++ bytes2 a) (bytes2 b) (omega arith) (and_then d at (at + 2) (bytes2 kind) (bytes2 a) (omega arith) p q) r
    ∙ ap (put d at) (kind-bytes kind a b l)
