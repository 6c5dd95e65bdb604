-- There is room for each part of the list when it is written, and what is left in the end is the list.
use mathlib.Core.Path.{◌≡◌, ap, ◌∙◌}
use mathlib.Core.Bool.{Bool, true, false}
use mathlib.Core.List.{List}
use Prim.Native.Nat.{ℕ, ◌+◌, ◌*◌, ◌/◌, ◌≤◌}
use native.Mathlib.Omega.{arith}
use lib.ListN.{length, take}
use lib.Seq.{length-take-le}
use Rattle.cows.specs.Terms.{Term}
use Rattle.cows.proofs.Basics.{never}
use Rattle.records.specs.Rewrites.{put}
use Rattle.records.proofs.Put.{length-put}
use Rattle.ways.specs.Known.{Table}
use Rattle.ways.proofs.KnownTables.{table_size}
use Rattle.roles.specs.declared.Role.{Role}
use Rattle.roles.specs.declared.Role.TheVariants as role
use Rattle.roles.specs.Roles.{is_role, role_at}
use Rattle.opening.specs.Opening.{up_from, each, six_byte_form, open_moves}
use Rattle.opening.proofs.Theorems.{open_number}
use Rattle.opening.proofs.Lists.{length-filter, length_up_from}
use Rattle.entries.specs.Entries.{places_of, EntryRoom, Entered}
use Rattle.entries.proofs.Entries.{places_cut, room_cut, entered_cut}
use Rattle.meetings.specs.declared.Survey.{Survey}
use Rattle.meetings.specs.Meetings.{meetings_of, MeetingsIn}
use Rattle.meetings.specs.Surveys.{Surveyed, Space}
use Rattle.meetings.proofs.Listing.{lists_length}
use Rattle.lister.specs.Listing.{Enough, alone_in}
use Rattle.lister.proofs.Listing.{open_parts_number, few_meetings, all_written}

-- a part leaves the buffer as long as it was
listed_long : {cast : List Role} {r : Role} {kind m i count : ℕ} {out after : List ℕ} → Entered cast r kind out m i after count → length after ≡ length out
listed_long {m = m} {out = out} h = ap length h.is ∙ length-put out (6 * m) _

module _ {x : Survey} (p : Surveyed x) where
  abbrev s : List ℕ
  s = x.table.bytes.now

  abbrev ends : List ℕ
  ends = x.table.ends.now

  abbrev cast : List Role
  cast = x.cast.now

  abbrev n : ℕ
  n = length s / 16

  abbrev term : Term
  term = p.played.known.term

  table : Table s ends term
  table = p.played.known.table

  few : n ≤ 2048
  few = p.played.known.few

  number_of : (t : Term) → Table s ends t → length (open_moves t) ≡ alone_in cast n + length (meetings_of t)
  number_of t h = rw (table_size s ends t h) (open_parts_number t h.within cast (p.played.roles t h))

  space : (writes : Bool) (out : List ℕ) (m : ℕ) → m ≤ 16384 → ((t : Term) → Table s ends t → writes ≡ true → 6 * (m + length (meetings_of t)) ≤ length out) → Space x writes out m
  space writes out m l h = record { few = l; room = h }

  room : (r : Role) (out : List ℕ) (m : ℕ) → 6 * (m + length (places_of cast r n)) ≤ length out → EntryRoom (take n cast) r (length (take n cast)) out m
  room r out m h = room_cut cast r n p.played.room (record { cast_all = p.played.room; few = few; fits = h })

  -- what the code does with the first n of the roles is done with the first n places
  pub uncut : {r : Role} {kind m count : ℕ} {out after : List ℕ} → Entered (take n cast) r kind out m (length (take n cast)) after count → Entered cast r kind out m n after count
  uncut {r} h = entered_cut cast r n p.played.room h

  pub role_cut : (r : Role) → length (places_of (take n cast) r (length (take n cast))) ≡ length (places_of cast r n)
  role_cut r = ap length (places_cut cast r n p.played.room)

  pub alone_cut : alone_in (take n cast) (length (take n cast)) ≡ alone_in cast n
  alone_cut = omega (arith, role_cut role.Kill, role_cut role.Timeout, role_cut role.Unfold, role_cut role.Extrude)

  pub cut_long : length (take n cast) ≡ n
  cut_long = length-take-le n cast p.played.room

  -- room for all pairs of parties is room enough
  pub room_surely : (t : Term) → Table s ends t → {alone receivers senders room : ℕ} → alone ≡ alone_in cast n → receivers ≡ length (places_of cast role.Receiver n) → senders ≡ length (places_of cast role.Sender n)
      → 6 * (alone + receivers * senders) ≤ room → 6 * length (open_moves t) ≤ room
  room_surely t h {alone} {receivers} {senders} a b c e =
      let k : length (meetings_of t) ≤ receivers * senders = rw (b, c, table_size s ends t h) (few_meetings t h.within cast (p.played.roles t h)) in
      omega (arith, number_of t h)

  -- the meetings counted behind what is open beside them: nothing is written, and the count is that of all
  pub space_counted : (out : List ℕ) (m : ℕ) → m ≤ 8192 → Space x false out m
  space_counted out m l = space false out m (omega arith) (λ t h e. never e)

  module _ {t : Term} (h : Table s ends t) {out after : List ℕ} {m count : ℕ} (q : MeetingsIn t false out m after count) where
    pub counted_all : m ≡ alone_in cast n → count ≡ length (open_moves t)
    counted_all e = omega (arith, q.number, number_of t h)

    pub counted_few : m ≡ alone_in cast n → count ≤ 4202496
    counted_few e = omega (arith, counted_all e, open_number t h.within)

    pub unwritten : after ≡ out
    unfolding put
    unwritten = q.is

  module _ (out : List ℕ) (enough : Enough x (length out)) where
    total : 6 * (alone_in cast n + length (meetings_of term)) ≤ length out
    total = omega (arith, enough term table, number_of term table)

    pub room_kills : EntryRoom (take n cast) role.Kill (length (take n cast)) out 0
    room_kills = room role.Kill out 0 (omega (arith, total))

    module _ {d₁ : List ℕ} {m₁ : ℕ} (q₁ : Entered cast role.Kill 0 out 0 n d₁ m₁) where
      most : length (places_of cast role.Kill n) ≤ n
      most = omega (arith, length-filter (λ i. is_role (role_at cast i) role.Kill) (up_from 0 n), length_up_from 0 n)

      pub space_meetings : Space x true d₁ m₁
      space_meetings =
          space true d₁ m₁ (omega (arith, q₁.number, few, most))
          (λ t h e. omega (arith, enough t h, number_of t h, q₁.number, listed_long q₁))

      module _ {d₂ : List ℕ} {m₂ : ℕ} (met : (t : Term) → Table s ends t → MeetingsIn t true d₁ m₁ d₂ m₂) where
        q₂ : MeetingsIn term true d₁ m₁ d₂ m₂
        q₂ = met term table

        pub room_timeouts : EntryRoom (take n cast) role.Timeout (length (take n cast)) d₂ m₂
        room_timeouts = room role.Timeout d₂ m₂ (omega (arith, total, q₁.number, q₂.number, listed_long q₁, lists_length true d₁ m₁ (meetings_of term) q₂))

        module _ {d₃ : List ℕ} {m₃ : ℕ} (q₃ : Entered cast role.Timeout 2 d₂ m₂ n d₃ m₃) where
          pub room_unfolds : EntryRoom (take n cast) role.Unfold (length (take n cast)) d₃ m₃
          room_unfolds = room role.Unfold d₃ m₃ (omega (arith, total, q₁.number, q₂.number, q₃.number, listed_long q₁, lists_length true d₁ m₁ (meetings_of term) q₂, listed_long q₃))

          module _ {d₄ : List ℕ} {m₄ : ℕ} (q₄ : Entered cast role.Unfold 4 d₃ m₃ n d₄ m₄) where
            pub room_extrudes : EntryRoom (take n cast) role.Extrude (length (take n cast)) d₄ m₄
            room_extrudes =
                room role.Extrude d₄ m₄
                (omega (arith, total, q₁.number, q₂.number, q₃.number, q₄.number, listed_long q₁, lists_length true d₁ m₁ (meetings_of term) q₂, listed_long q₃, listed_long q₄))

            pub parts-put : {d₅ : List ℕ} {m₅ : ℕ} → Entered cast role.Extrude 5 d₄ m₄ n d₅ m₅ → (t : Term) → Table s ends t → (m₅ ≡ length (open_moves t)) × (d₅ ≡ put out 0 (each six_byte_form (open_moves t)))
            parts-put q₅ t h = all_written t h.within cast (p.played.roles t h) out n (table_size s ends t h) q₁ (met t h) q₃ q₄ q₅
