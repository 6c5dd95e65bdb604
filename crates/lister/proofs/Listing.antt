-- The list of open moves by its parts: the places that have a role, and the meetings; their number and their bytes, one part behind the other.
use mathlib.Core.Path.{◌≡◌, refl, sym, ap, subst, ◌∙◌}
use mathlib.Core.Bool.{Bool, true, not, ◌&&◌}
use mathlib.Core.List.{List, [], ◌∷◌, ◌++◌, map, flat_map}
use Prim.Native.Nat.{ℕ, ◌+◌, ◌*◌, ◌≤◌, ◌<◌}
use native.Mathlib.Omega.{arith}
use native.Mathlib.Nat.{zero-add}
use lib.ListN.{length, length-append, length-map}
use lib.Seq.{sets-eq}
use borrow.Author.Tests.{lt-ltb, le-ltb}
use Rattle.cows.specs.Basics.{place_if, ◌>>◌, forbid}
use Rattle.cows.specs.Terms.{Term, size}
use Rattle.cows.specs.Within.{Within}
use Rattle.cows.specs.Format.{bytes2}
use Rattle.cows.specs.Papers.{move_bytes}
use Rattle.cows.specs.Moves.{Move, Kill, Communicate, Timeout, Unfold, Extrude}
use Rattle.cows.proofs.Cut.{flat_map_append, length_write}
use Rattle.records.specs.Rewrites.{put}
use Rattle.records.proofs.Put.{and_then}
use Rattle.tables.specs.declared.Reply.{Reply}
use Rattle.tables.specs.Verdict.{refusal}
use Rattle.opening.specs.Opening.{up_from, filter, each, six_byte_form, open_moves, open_reply, open_buffer}
use Rattle.opening.proofs.Lists.{few_pairs}
use Rattle.opening.proofs.Parts.{filter_same}
use Rattle.opening.proofs.SixBytes.{length_six}
use Rattle.roles.specs.declared.Role.{Role}
use Rattle.roles.specs.declared.Role.TheVariants as role
use Rattle.roles.specs.Roles.{firing, expiring, repeating, floating, sending, receiving, full, crowded, meets, is_role, role_at, open_role, Cast}
use Rattle.roles.proofs.Roles.{role_kill, role_timeout, role_unfold, role_extrude, role_sender, role_receiver}
use Rattle.entries.specs.Entries.{places_of, Entered}
use Rattle.meetings.specs.Meetings.{meetings_at, meetings_of, MeetingsIn}
use Rattle.meetings.proofs.Pairs.{meets-receives, meets-sends}
use Rattle.criteria.specs.Criteria.{quick_moves}
use Rattle.criteria.proofs.Theorems.{quick_open}
use Rattle.lister.specs.Listing.{listing, Answered}

each_map : {A B C : Type 0} (f : B → List C) (g : A → B) (xs : List A) → each f (map g xs) ≡ each (λ x. f (g x)) xs
unfolding flat_map
each_map f g [] = refl
each_map f g (x ∷ xs) = ap (λ l. f (g x) ++ l) (each_map f g xs)

module _ (t : Term) (w : Within t) (cast : List Role) (k : Cast t cast) where
  abbrev of_role : Role → List ℕ
  of_role r = places_of cast r (size t)

  -- the places that a role says are those of which it is said
  by_role : (f : ℕ → Bool) (r : Role) → ((i : ℕ) → i < size t → is_role (open_role t i) r ≡ f i) → filter f (up_from 0 (size t)) ≡ of_role r
  by_role f r h = filter_same f (λ i. is_role (role_at cast i) r) (size t) (λ i l. sym (h i l) ∙ ap (λ x. is_role x r) (sym (k i l)))

  parts : open_moves t ≡ map Kill (of_role role.Kill) ++ (meetings_of t ++ (map Timeout (of_role role.Timeout) ++ (map Unfold (of_role role.Unfold) ++ map Extrude (of_role role.Extrude))))
  unfolding quick_moves meetings_of meetings_at
  parts =
      quick_open t w
      ∙ rw (
        by_role (firing t) role.Kill (role_kill t),
        by_role (expiring t) role.Timeout (role_timeout t),
        by_role (λ a. repeating t a && not (full t a)) role.Unfold (role_unfold t),
        by_role (λ a. floating t a && not (crowded t a)) role.Extrude (role_extrude t),
      )

  -- how many there are
  pub open_parts_number : length (open_moves t) ≡ length (of_role role.Kill) + length (of_role role.Timeout) + length (of_role role.Unfold) + length (of_role role.Extrude) + length (meetings_of t)
  open_parts_number =
      let a = map Kill (of_role role.Kill) in
      let b = meetings_of t in
      let c = map Timeout (of_role role.Timeout) in
      let d = map Unfold (of_role role.Unfold) in
      let e = map Extrude (of_role role.Extrude) in
      ap length parts
      ∙ omega (
        arith,
        length-append a (b ++ (c ++ (d ++ e))),
        length-append b (c ++ (d ++ e)),
        length-append c (d ++ e),
        length-append d e,
        length-map (of_role role.Kill) Kill,
        length-map (of_role role.Timeout) Timeout,
        length-map (of_role role.Unfold) Unfold,
        length-map (of_role role.Extrude) Extrude,
      )

  -- no more meetings than pairs of parties
  pub few_meetings : length (meetings_of t) ≤ length (of_role role.Receiver) * length (of_role role.Sender)
  unfolding meetings_of meetings_at
  few_meetings =
      rw (← by_role (receiving t) role.Receiver (role_receiver t), ← by_role (sending t) role.Sender (role_sender t))
      (few_pairs (meets t) (receiving t) (sending t) (λ a b e. (meets-receives t a b e, meets-sends t a b e)) Communicate (up_from 0 (size t)) (up_from 0 (size t)))

  -- their bytes
  abbrev entries_of : (kind : ℕ) (r : Role) → List ℕ
  entries_of kind r = each (λ a. move_bytes kind a 0) (of_role r)

  bytes_are : each six_byte_form (open_moves t) ≡ entries_of 0 role.Kill ++ (each six_byte_form (meetings_of t) ++ (entries_of 2 role.Timeout ++ (entries_of 4 role.Unfold ++ entries_of 5 role.Extrude)))
  unfolding six_byte_form
  bytes_are =
      let b = meetings_of t in
      let c = map Timeout (of_role role.Timeout) in
      let d = map Unfold (of_role role.Unfold) in
      let e = map Extrude (of_role role.Extrude) in
      ap (each six_byte_form) parts
      ∙ rw (
        flat_map_append six_byte_form (map Kill (of_role role.Kill)) (b ++ (c ++ (d ++ e))),
        flat_map_append six_byte_form b (c ++ (d ++ e)),
        flat_map_append six_byte_form c (d ++ e),
        flat_map_append six_byte_form d e,
        each_map six_byte_form Kill (of_role role.Kill),
        each_map six_byte_form Timeout (of_role role.Timeout),
        each_map six_byte_form Unfold (of_role role.Unfold),
        each_map six_byte_form Extrude (of_role role.Extrude),
      )

  length_entries : (kind : ℕ) (xs : List ℕ) → length (each (λ a. move_bytes kind a 0) xs) ≡ 6 * length xs
  unfolding bytes2
  length_entries kind xs = length_write 6 (λ a. move_bytes kind a 0) (λ a. refl) xs

  length_moves : (ms : List Move) → length (each six_byte_form ms) ≡ 6 * length ms
  length_moves ms = length_write 6 six_byte_form length_six ms

  -- the parts written one behind the other
  module _ (out : List ℕ) (n : ℕ) (e : n ≡ size t) {d₁ d₂ d₃ d₄ d₅ : List ℕ} {m₁ m₂ m₃ m₄ m₅ : ℕ} where
    pub all_written : Entered cast role.Kill 0 out 0 n d₁ m₁ → MeetingsIn t true d₁ m₁ d₂ m₂ → Entered cast role.Timeout 2 d₂ m₂ n d₃ m₃ → Entered cast role.Unfold 4 d₃ m₃ n d₄ m₄ → Entered cast role.Extrude 5 d₄ m₄ n d₅ m₅
        → (m₅ ≡ length (open_moves t)) × (d₅ ≡ put out 0 (each six_byte_form (open_moves t)))
    all_written p₁ p₂ p₃ p₄ p₅ =
        let b = each six_byte_form (meetings_of t) in
        let c = entries_of 2 role.Timeout in
        let d = entries_of 4 role.Unfold in
        let f = entries_of 5 role.Extrude in
        let q₁ = at_size p₁ in
        let q₃ = at_size p₃ in
        let q₄ = at_size p₄ in
        let q₅ = at_size p₅ in
        let x₄ = and_then d₃ (6 * m₃) (6 * m₄) d f (omega (arith, q₄.number, length_entries 4 (of_role role.Unfold))) q₄.is q₅.is in
        let x₃ = and_then d₂ (6 * m₂) (6 * m₃) c (d ++ f) (omega (arith, q₃.number, length_entries 2 (of_role role.Timeout))) q₃.is x₄ in
        let x₂ = and_then d₁ (6 * m₁) (6 * m₂) b (c ++ (d ++ f)) (omega (arith, p₂.number, length_moves (meetings_of t))) p₂.is x₃ in
        let x₁ = and_then out 0 (6 * m₁) (entries_of 0 role.Kill) (b ++ (c ++ (d ++ f))) (omega (arith, q₁.number, length_entries 0 (of_role role.Kill))) q₁.is x₂ in
        (omega (arith, open_parts_number, q₁.number, p₂.number, q₃.number, q₄.number, q₅.number), x₁ ∙ ap (put out 0) (sym bytes_are))
      where
        at_size : {r : Role} {kind m count : ℕ} {from to : List ℕ} → Entered cast r kind from m n to count → Entered cast r kind from m (size t) to count
        at_size {r} {kind} {m} {count} {from} {to} h = subst (λ i. Entered cast r kind from m i to count) e h

-- What is answered, and left in the list.
module _ (t : Term) (list after : List ℕ) (r : Reply) where
  pub answered_short : length list < 6 * length (open_moves t) → r ≡ refusal 22 (length (open_moves t)) → after ≡ list → Answered (listing t (length list)) list after r
  unfolding listing open_reply open_buffer forbid place_if ◌>>◌
  answered_short l e q = let z = lt-ltb (length list) (6 * length (open_moves t)) l in record { replies = e ∙ rw z; output = q ∙ rw z }

  pub answered_fully : 6 * length (open_moves t) ≤ length list → r ≡ record { answer = 0; place = 0; records = length (open_moves t) } → after ≡ put list 0 (each six_byte_form (open_moves t)) → Answered (listing t (length list)) list after r
  unfolding listing open_reply open_buffer forbid place_if ◌>>◌ put
  answered_fully l e q =
      let z = le-ltb (length list) (6 * length (open_moves t)) l in
      let n = length_write 6 six_byte_form length_six (open_moves t) in
      record {
        replies = e ∙ rw z;
        output = q ∙ (sets-eq (each six_byte_form (open_moves t)) list 0 (omega arith) ∙ rw (z, n, zero-add (6 * length (open_moves t))));
      }

pub answered_same : (t : Term) {list list' after : List ℕ} {r : Reply} → list' ≡ list → Answered (listing t (length list')) list' after r → Answered (listing t (length list)) list after r
answered_same t {after = after} {r = r} e h = subst (λ l. Answered (listing t (length l)) l after r) e h
