-- The meetings of a receive along the chain of its class, and those of all receives, from a place on.
use mathlib.Core.Path.{◌≡◌, sym, ap, ◌∙◌}
use mathlib.Core.Bool.{Bool, true, false, cond}
use mathlib.Core.List.{List, [], ◌∷◌, ◌++◌, map, flat_map}
use Prim.Native.Nat.{ℕ, suc, ◌+◌, ◌-◌, ◌*◌, ◌/◌, ◌≤◌, ◌<◌}
use native.Mathlib.Omega.{arith}
use native.Mathlib.Nat.{mod-lt, mul-le-mul}
use native.Mathlib.Numerals.{add-one}
use lib.ListN.{length, get_or, length-append, length-map}
use Rattle.roles.specs.Played.{Fewest}
use Rattle.roles.proofs.Same.{eq-is_role}
use Rattle.cows.specs.Limits.{max_records}
use Rattle.cows.specs.Terms.{Term, size}
use Rattle.cows.specs.Moves.{Move, Communicate}
use Rattle.cows.proofs.Basics.{clash, not_so}
use Rattle.ways.specs.Known.{Table, Known}
use Rattle.ways.proofs.KnownTables.{table_size, table_inside}
use Rattle.roles.specs.Roles.{sending, receiving, meets}
use Rattle.chains.specs.Chains.{class_of_pair, class_at, sender_here, in_class}
use Rattle.chains.proofs.Chaining.{FirstAt, first_most, steps_left, Walking, walking_start, walking_at, walking_on, walking_less, walking_end}
use Rattle.opening.specs.Opening.{up_from, filter, each}
use Rattle.opening.proofs.Lists.{length_up_from, length-filter, few_pairs}
use Rattle.opening.proofs.Parts.{from, filter-next, filter-end, filter_skip}
use Rattle.meetings.specs.declared.Reach.{Reach}
use Rattle.meetings.specs.declared.Survey.{Survey}
use Rattle.meetings.specs.Meetings.{Sent, meetings_at, meetings_of, Lists}
use Rattle.meetings.specs.Reaching.{ReachOf, Facing, Along}
use Rattle.meetings.specs.Surveys.{Surveyed, ReceiverAt, SpaceAt, Space}
use Rattle.meetings.proofs.Pairs.{meets-receives, meets-sends}
use Rattle.meetings.proofs.Meets.{cast_receiver, in_sends, not_met}
use Rattle.meetings.proofs.Listing.{Listing, listing_start, listing_on, listing_number, listing-end}

-- the meetings of the receive at place a with the invokes from place j on
abbrev pub later_at : Term → ℕ → ℕ → List Move
later_at t a j = map (Communicate a) (from (meets t a) j (size t))

-- The walk of the receive at place a stands at e: the meetings with what it has passed are listed.
pub record Stepping (s ends : List ℕ) (a first : ℕ) (next : List ℕ) (writes : Bool) (out : List ℕ) (m e : ℕ) (after : List ℕ) (count : ℕ) (t : Term) : Type 0 where
  pub along : Along s ends a first next
  pub place : ℕ
  pub walk : Walking (sender_here along.cast) (class_at s) (length s / 16) (class_at s a) place e
  pub list : Listing writes out m (meetings_at t a) (later_at t a place) after count

module _ (s ends : List ℕ) (t : Term) (h : Table s ends t) (a : ℕ) where
  at_start : meetings_at t a ≡ later_at t a 0
  unfolding meetings_at
  at_start = let z : size t - 0 ≡ size t = omega arith in rw z

  at_few : length (meetings_at t a) ≤ size t
  unfolding meetings_at
  at_few = omega (arith, length-map (filter (meets t a) (up_from 0 (size t))) (Communicate a), length-filter (meets t a) (up_from 0 (size t)), length_up_from 0 (size t))

  module _ (first : ℕ) (next : List ℕ) (writes : Bool) (out : List ℕ) (m : ℕ) where
    pub stepping_start : Along s ends a first next → Stepping s ends a first next writes out m first out m t
    unfolding class_at class_of_pair
    stepping_start k = record {
      along = k;
      place = 0;
      walk = rw k.at (walking_start _ _ _ (class_at s a) k.heads next k.senders.chained (mod-lt _ {m = 256} (omega arith)));
      list = rw (← at_start) (listing_start writes out m (meetings_at t a));
    }

    module _ (e : ℕ) (after : List ℕ) (count : ℕ) (w : Stepping s ends a first next writes out m e after count t) where
      stepping_most : e ≤ length s / 16
      stepping_most = rw w.walk.here (first_most _ (length s / 16) w.place)

      pub stepping_few : count ≤ m + size t
      stepping_few = omega (arith, listing_number writes out m (meetings_at t a) (later_at t a w.place) w.list, at_few)

      pub stepping_end : e ≡ 0 → Lists writes out m (meetings_at t a) after count
      stepping_end z = listing-end writes out m (meetings_at t a) (later_at t a w.place) w.list (ap (map (Communicate a)) none_left)
        where
          none_left : from (meets t a) w.place (size t) ≡ []
          none_left =
              filter_skip (meets t a) w.place (size t) (size t) (omega (arith, table_size s ends t h, w.walk.few)) (omega arith)
              (λ i u v.
              let l : i < length s / 16 = omega (arith, table_size s ends t h) in
              let k = w.along in
              not_met s ends k.cast t h (k.played.roles t h) i l a (walking_end _ _ _ _ k.heads next k.senders.chained w.place (rw z at w.walk) i u l))
              ∙ filter-end (meets t a) (size t) (size t) (omega arith)

      -- at a record of the chain
      module _ (l : 0 < e) where
        here : FirstAt (in_class (sender_here w.along.cast) (class_at s) (class_at s a)) (length s / 16) w.place (e - 1)
        here = walking_at _ _ _ _ w.along.heads next w.along.senders.chained w.place e l w.walk

        stepping_sends : sending t (e - 1) ≡ true
        stepping_sends = in_sends s ends w.along.cast t h (w.along.played.roles t h) (e - 1) here.inside (class_at s a) here.passes

        -- what a test of the pair says that holds for any term and parties
        pub stepping_tells : (fewest sent : List ℕ) (x : Reach) → Fewest t fewest → Sent s t sent → ReachOf s ends t a x
            → (r : Bool) → ((ends : List ℕ) (t : Term) → Facing s ends fewest sent a (e - 1) x t → r ≡ meets t a (e - 1)) → meets t a (e - 1) ≡ r
        stepping_tells fewest sent x n q u r f =
            let z = w.along in
            sym (f ends t (record {
              table = h;
              reach = u;
              numbers = n;
              scopes = q;
              receiver = sym (cast_receiver s ends z.cast t h (z.played.roles t h) a z.placed) ∙ eq-is_role _ _ z.receiver;
              sender = stepping_sends;
            }))

        pub stepping_less : steps_left (length s / 16) (get_or next (e - 1) 0) < steps_left (length s / 16) e
        stepping_less = walking_less _ _ _ _ w.along.heads next w.along.senders.chained w.place e l w.walk

        -- what is left, by whether it meets
        turn : from (meets t a) w.place (size t) ≡ cond (meets t a (e - 1)) ((e - 1) ∷ from (meets t a) e (size t)) (from (meets t a) e (size t))
        turn =
            let z : e - 1 + 1 ≡ e = omega arith in
            let n = table_size s ends t h in
            filter_skip (meets t a) w.place (e - 1) (size t) here.behind (omega (arith, here.inside))
            (λ i u v. not_met s ends w.along.cast t h (w.along.played.roles t h) i (omega (arith, here.inside)) a (here.before i u v))
            ∙ (filter-next (meets t a) (e - 1) (size t) (omega (arith, here.inside))
            ∙ ap (λ i. cond (meets t a (e - 1)) ((e - 1) ∷ from (meets t a) i (size t)) (from (meets t a) i (size t))) z)

        pub stepping_skip : meets t a (e - 1) ≡ false → Stepping s ends a first next writes out m (get_or next (e - 1) 0) after count t
        stepping_skip z = record {
          along = w.along;
          place = e;
          walk = walking_on _ _ _ _ w.along.heads next w.along.senders.chained w.place e l w.walk;
          list = let q : later_at t a w.place ≡ later_at t a e = rw (turn, z) in rw q at w.list;
        }

        module _ (z : meets t a (e - 1) ≡ true) where
          met : later_at t a w.place ≡ (Communicate a (e - 1) ∷ []) ++ later_at t a e
          met = rw (turn, z)

          pub stepping_room : count + 1 ≤ m + length (meetings_at t a)
          stepping_room = omega (arith, listing_number writes out m (meetings_at t a) (later_at t a w.place) w.list, ap length met)

          pub stepping_put : {after' : List ℕ} → Lists writes after count (Communicate a (e - 1) ∷ []) after' (count + 1)
              → Stepping s ends a first next writes out m (get_or next (e - 1) 0) after' (count + 1) t
          stepping_put k = record {
            along = w.along;
            place = e;
            walk = walking_on _ _ _ _ w.along.heads next w.along.senders.chained w.place e l w.walk;
            list = listing_on writes out m (meetings_at t a) (later_at t a w.place) w.list (Communicate a (e - 1) ∷ []) (later_at t a e) met k;
          }

-- The same for every term that the table holds.
abbrev pub Steps : (s ends : List ℕ) (a first : ℕ) (next : List ℕ) (writes : Bool) (out : List ℕ) (m e : ℕ) (after : List ℕ) (count : ℕ) → Type 0
Steps s ends a first next writes out m e after count = (e ≤ length s / 16) × ((t : Term) → Table s ends t → Stepping s ends a first next writes out m e after count t)

pub steps_all : (s ends : List ℕ) (a first : ℕ) (next : List ℕ) (writes : Bool) (out : List ℕ) (m e : ℕ) (after : List ℕ) (count : ℕ) → Known s ends
    → ((t : Term) → Table s ends t → Stepping s ends a first next writes out m e after count t) → Steps s ends a first next writes out m e after count
steps_all s ends a first next writes out m e after count k f = (stepping_most s ends k.term k.table a first next writes out m e after count (f k.term k.table), f)

-- All receives, from place i on: one more, none left; none where no receive is that may be a party.
abbrev pub later_of : Term → ℕ → List Move
later_of t i = each (meetings_at t) (up_from i (size t - i))

module _ (t : Term) where
  pub later_start : meetings_of t ≡ later_of t 0
  unfolding meetings_of
  later_start = let z : size t - 0 ≡ size t = omega arith in rw z

  pub later_next : (i : ℕ) → i < size t → later_of t i ≡ meetings_at t i ++ later_of t (i + 1)
  unfolding flat_map up_from
  later_next i l = let e : size t - i ≡ suc (size t - (i + 1)) = omega arith in rw (e, add-one i)

  pub later_end : (i : ℕ) → size t ≤ i → later_of t i ≡ []
  unfolding flat_map up_from
  later_end i l = let e : size t - i ≡ 0 = omega arith in rw e

  none_at : (a : ℕ) → receiving t a ≡ false → meetings_at t a ≡ []
  unfolding meetings_at
  none_at a e =
      let z : size t ≡ size t - 0 = omega arith in
      ap (map (Communicate a))
      (ap (λ i. filter (meets t a) (up_from 0 i)) z
      ∙ (filter_skip (meets t a) 0 (size t) (size t) (omega arith) (omega arith) (λ i u v. not_so (λ y. clash (meets-receives t a i y) e))
      ∙ filter-end (meets t a) (size t) (size t) (omega arith)))

  pub later_over : (i : ℕ) → i < size t → receiving t i ≡ false → later_of t i ≡ later_of t (i + 1)
  later_over i l e = later_next i l ∙ rw (none_at i e)

  meetings_few : size t ≤ max_records → length (meetings_of t) ≤ max_records * max_records
  unfolding meetings_of meetings_at
  meetings_few l =
      let ps = up_from 0 (size t) in
      let x : length (filter (receiving t) ps) ≤ max_records = omega (arith, length-filter (receiving t) ps, length_up_from 0 (size t)) in
      let y : length (filter (sending t) ps) ≤ max_records = omega (arith, length-filter (sending t) ps, length_up_from 0 (size t)) in
      omega (arith, few_pairs (meets t) (receiving t) (sending t) (λ a b e. (meets-receives t a b e, meets-sends t a b e)) Communicate ps ps, mul-le-mul x y)

-- The walk of the receive at place a begins at the first of the chain of its class.
pub along : {x : Survey} → Surveyed x → {a : ℕ} → ReceiverAt x a → {first c : ℕ} → c ≡ class_at x.table.bytes.now a → first ≡ get_or x.senders.heads.now c 0 → Along x.table.bytes.now x.table.ends.now a first x.senders.next.now
along {x} p {a} r q f = record {
  cast = x.cast.now;
  heads = x.senders.heads.now;
  played = p.played;
  senders = p.senders;
  placed = r.placed;
  receiver = r.receiver;
  at = f ∙ ap (λ i. get_or x.senders.heads.now i 0) q;
}

-- what the list of all leaves for that of the receive at place a
pub space_at : {x : Survey} → Surveyed x → {writes : Bool} {out : List ℕ} {m : ℕ} → Space x writes out m → {a : ℕ} → a < length x.table.bytes.now / 16 → {after : List ℕ} {count : ℕ}
    → length after ≡ length out → ((t : Term) → Table x.table.bytes.now x.table.ends.now t → Listing writes out m (meetings_of t) (later_of t a) after count) → SpaceAt x a writes after count
space_at {x} p {writes} {out} {m} z {a} l {after} {count} e f = record {
  few = let t = p.played.known.term in let h = p.played.known.table in omega (arith, listing_number writes out m (meetings_of t) (later_of t a) (f t h), meetings_few t h.within.small, z.few);
  room = λ t h w.
      omega (
        arith,
        listing_number writes out m (meetings_of t) (later_of t a) (f t h),
        ap length (later_next t a (table_inside x.table.bytes.now x.table.ends.now t h a l)),
        length-append (meetings_at t a) (later_of t (a + 1)),
        z.room t h w,
      );
}
