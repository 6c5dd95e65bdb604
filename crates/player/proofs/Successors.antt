-- The successor of an allowed move (specs/Making): a time in place, with the ends as they were, a floating in place, with the ends lifted, and any
-- other move in the other buffer, an expiry or a meeting that binds nothing with the ends cut.
use mathlib.Core.Path.{◌≡◌, refl, sym, ap, subst, ◌∙◌}
use mathlib.Core.Bool.{Bool, true, not, cond}
use mathlib.Core.List.{List, [], ◌∷◌, ◌++◌}
use Prim.Native.Nat.{ℕ, ◌+◌, ◌*◌, ◌-◌, ◌≤◌, ◌<◌}
use native.Mathlib.Omega.{arith}
use lib.Dec.{eqb}
use borrow.Author.Tests.{eqb-true}
use lib.ListN.{length, get_or, drop, take-append-drop}
use lib.Seq.{take_at, length-take-le}
use mathlib.Core.Option.{some}
use Rattle.cows.specs.Basics.{accept, ◌>>=◌, need}
use Rattle.cows.specs.Terms.{wait, Term, under, size, below, receive_of}
use Rattle.cows.specs.Format.{encode}
use Rattle.cows.specs.Places.{way_to, sub}
use Rattle.cows.specs.Moves.{Substitution, silence, continue, bind, timeout_at, elapse, extrude_at, successor}
use Rattle.cows.specs.Moves as meaning
use Rattle.cows.specs.Step.{proposed}
use Rattle.cows.proofs.Allows.{successor_allows}
use Rattle.std.specs.Prelude as rust
use Rattle.cows.proofs.Basics.{same_accept, bool_case}
use Rattle.cows.proofs.Format.{length-encode}
use Rattle.cows.proofs.Recordwise.{time_gives}
use Rattle.cows.proofs.Silence.{silence-size}
use Rattle.cows.proofs.Remains.{silence_part}
use Rattle.records.specs.Holds.{Holds}
use Rattle.records.specs.Ends.{EndsFrom}
use Rattle.ways.specs.Known.{Table}
use Rattle.ways.specs.Ways.{start_of, parent_of}
use Rattle.ways.proofs.KnownTables.{one_table}
use Rattle.stepper.proofs.Moved.{put-encode}
use Rattle.proposals.specs.declared.Move.{Move}
use Rattle.proposals.specs.declared.Move.TheVariants.{Communicate, Timeout, Elapse, Extrude}
use Rattle.proposals.specs.Proposals.{move_of}
use Rattle.plans.specs.Plans.{Asks, Gives}
use Rattle.moves.specs.Places.{plan_place}
use Rattle.elapse.specs.Waits.{wait_places, Lists, Listed}
use Rattle.elapse.proofs.Listing.{waits-elapse}
use Rattle.extrude.specs.Extruding.{lifted, LiftsEnds, EndsLifted}
use Rattle.extrude.proofs.Judged.{lift_asked, lift_exchanged, lifted_among}
use Rattle.player.specs.declared.turns.Kept.{Kept}
use Rattle.player.specs.Turns.{held}
use Rattle.player.specs.Making.{CanList, CanMake, Makes}
use Rattle.player.proofs.Lasting.{Ended, ended_table, ends_last}
use Rattle.communicate.proofs.Continued.{silence-inside, under_silent, silence-start}
use Rattle.communicate.proofs.Left.{Met, accepted_met}
use Rattle.timeout.proofs.Judged.{allowed_wait}
use Rattle.player.specs.Cutting.{CutsEnds, EndsCut}
use Rattle.player.proofs.Expiring.{cuts_ends, cut_ends_from}
use Rattle.player.proofs.Waiting.{waits_floated}
use Rattle.player.proofs.Floating.{lifts_ends, floated_ends}
use Rattle.player.proofs.Turning.{held-size, held_small, own, other, unlisted}

-- the live waits of a kept table, listed before or now
module _ (kept : Kept) (t ends to : List ℕ) (k : CanList kept t ends to) where
  pub list_room : (16 * kept.records ≤ length t) × (2 * kept.records ≤ length to)
  list_room = (k.inside, omega (arith, held_small kept.records t ends k.inside k.known, k.room))

  pub listed_before : (w : ℕ) → kept.waits ≡ rust.Some w → (v : Term) → Table (held kept.records t) ends v → Lists to w (wait_places v)
  listed_before w l v h = subst (λ x. Lists to w (wait_places x)) (one_table (held kept.records t) ends k.known.term v k.known.table h) (k.lists w l)

module _ (kept : Kept) (t ends : List ℕ) (m : Move) (from records : ℕ) (to : List ℕ) (k : CanMake kept t ends m from records to) where
  abbrev n : ℕ
  n = kept.records

  abbrev side : Bool
  side = kept.second

  abbrev next : Term
  next = k.asks.successor

  abbrev now : Term
  now = k.asks.known.term

  pub make_inside : (n ≤ 2048) × (records ≤ 2048) × (16 * records ≤ length to)
  make_inside = (held_small n t ends k.inside k.asks.known, omega (arith, k.count, k.within.small), omega (arith, k.count, k.asks.room))

  -- the successor at the start of a buffer
  held_next : (x rest : List ℕ) → x ≡ encode next ++ rest → held records x ≡ encode next
  held_next x rest e = rw e (take_at (encode next) rest (16 * records) (omega (arith, length-encode next, k.count)))

  -- with its ends it is the table then kept
  kept_next : (x ends' : List ℕ) → held records x ≡ encode next → EndsFrom (held records x) ends' 0 → Table (held records x) ends' next
  kept_next x ends' e h = record { holds = record { is = e; right = k.within.right }; within = k.within; end = h }

  same_next : (v u : Term) → Table (held n t) ends v → proposed (some (move_of m)) v ≡ accept u → next ≡ u
  same_next v u h e = same_accept (sym k.asks.accepted ∙ (ap (proposed (some (move_of m))) (one_table (held n t) ends now v k.asks.known.table h) ∙ e))

  makes_in : (r : Kept) (x t' to' ends' : List ℕ) → r.records ≡ records → cond r.second (cond side t' to') (cond side to' t') ≡ x → Table (held records x) ends' next
      → ((w : ℕ) → r.waits ≡ rust.Some w → Lists (cond r.second (cond side to' t') (cond side t' to')) w (wait_places next)) → Makes kept t ends m records t' to' ends' r
  makes_in r x t' to' ends' n c h w = record {
    count = n;
    table = λ v u hv e. rw c (subst (Table (held records x) ends') (same_next v u hv e) h);
    lists = λ n l v u hv e. subst (λ x. Lists (cond r.second (cond side to' t') (cond side t' to')) n (wait_places x)) (same_next v u hv e) (w n l);
  }

  -- written to the other buffer, its ends made anew
  abbrev there : Kept
  there = record { second = not side; records = records; waits = rust.None }

  pub makes_there : (t' to' ends' : List ℕ) → Gives (proposed (some (move_of m))) (held n t) ends to to' → EndsFrom (held records to') ends' 0 → Makes kept t ends m records t' to' ends' there
  makes_there t' to' ends' g h =
      let e = g now next k.asks.known.table k.asks.accepted ∙ put-encode to next k.asks.room in
      makes_in there to' t' to' ends' refl (other side t' to') (kept_next to' ends' (held_next to' _ e) h) (unlisted _)

  -- a time, in place
  table_first : t ≡ encode now ++ drop (16 * n) t
  table_first = sym (take-append-drop (16 * n) t) ∙ ap (λ x. x ++ drop (16 * n) t) k.asks.known.table.holds.is

  pub time-asked : (list : List ℕ) (w : ℕ) → ((v : Term) → Table (held n t) ends v → Lists list w (wait_places v)) → Listed t list w
  time-asked list w l = record { term = now; stands = record { rest = drop (16 * n) t; is = table_first }; lists = l now k.asks.known.table }

  module _ (d : ℕ) (is : m ≡ Elapse d) where
    time-next : elapse d now ≡ next
    unfolding proposed need ◌>>=◌ successor
    time-next = (time_gives now next d (subst (λ x. proposed (some (move_of x)) now ≡ accept next) is k.asks.accepted)).1

    pub makes_time : (t' to' : List ℕ) (w : ℕ) → ((v : Term) → Table (held n t) ends v → Lists to' w (wait_places v))
        → ((v : Term) (rest : List ℕ) → t ≡ encode v ++ rest → Lists to' w (wait_places v) → t' ≡ encode (elapse d v) ++ rest)
        → Makes kept t ends m records t' to' ends (record { second = side; records = records; waits = rust.Some w })
    unfolding wait_places
    makes_time t' to' w l g =
        let h = k.asks.known.table in
        let e = held_next t' _ (g now (drop (16 * n) t) table_first (l now h) ∙ ap (λ x. encode x ++ drop (16 * n) t) time-next) in
        makes_in (record { second = side; records = records; waits = rust.Some w }) t' t' to' ends refl (own side t' to')
        (kept_next t' ends e (ends_last (held n t) (held records t') ends now d h (record { is = e ∙ ap encode (sym time-next); right = rw time-next k.within.right })))
        (λ o e. let i : w ≡ o = cc in rw (own side to' t', ← i) (subst (Lists to' w) (sym (waits-elapse d 0 now) ∙ ap wait_places time-next) (l now h)))

  -- a floating, in place
  module _ (a : ℕ) (is : m ≡ Extrude a) where
    float_asks : Asks (λ v. extrude_at v a) (λ v. parent_of (way_to v a)) (held n t) ends from to
    unfolding proposed need ◌>>=◌ successor
    float_asks = record {
      known = k.asks.known;
      successor = next;
      accepted = subst (λ x. proposed (some (move_of x)) now ≡ accept next) is k.asks.accepted;
      place_is = k.asks.place_is ∙ ap (λ x. plan_place x now) is;
      room = k.asks.room;
    }

    pub float-inside : (from < a) × (16 * (a + 1) ≤ length (held n t)) × (16 * (a + 1) ≤ length t)
    float-inside = let (h, e) = lift_asked (held n t) ends a from to float_asks in (h.before, h.inside, omega (arith, h.inside, length-take-le (16 * n) t k.inside))

    pub float_ends : LiftsEnds ends a from
    unfolding float_asks
    float_ends = lifts_ends now next a from (lift_exchanged (held n t) ends a from to float_asks) (held n t) ends k.asks.known.table

    -- over the record right above it, the list of the live waits stays
    abbrev still : rust.Option ℕ
    still = cond (eqb a (from + 1)) kept.waits rust.None

    still_there : (w : ℕ) → still ≡ rust.Some w → (kept.waits ≡ rust.Some w) × (eqb a (from + 1) ≡ true)
    still_there w l =
        bool_case _ (eqb a (from + 1)) (λ e. (rw e at l, e))
        (λ e. let z : ◌≡◌ {A = rust.Option ℕ} rust.None (rust.Some w) = rw e at l in absurd cc)

    float_lists : (w : ℕ) → still ≡ rust.Some w → Lists to w (wait_places next)
    unfolding float_asks successor
    float_lists w l =
        let (before, right) = still_there w l in
        subst (Lists to w)
        (waits_floated now next a (successor_allows now next (meaning.Extrude a) k.asks.known.table.within float_asks.accepted) (eqb-true a (from + 1) right ∙ ap (λ x. x + 1) float_asks.place_is))
        (k.lists w before)

    pub makes_float : (t' ends' : List ℕ) → t' ≡ lifted t a from → EndsLifted ends a from ends' → length ends' ≡ length ends
        → Makes kept t ends m records t' to ends' (record { second = side; records = records; waits = still })
    unfolding float_asks
    makes_float t' ends' g h l =
        let (before, within, _) = float-inside in
        let o : t' ≡ encode next ++ drop (16 * n) t =
        g
        ∙ (ap (λ x. lifted x a from) (sym (take-append-drop (16 * n) t))
        ∙ (lifted_among (held n t) (drop (16 * n) t) a from before within ∙ ap (λ x. x ++ drop (16 * n) t) (lift_asked (held n t) ends a from to float_asks).1)) in
        let e = held_next t' _ o in
        makes_in (record { second = side; records = records; waits = still }) t' t' to ends' refl (own side t' to)
        (kept_next t' ends' e
        (floated_ends now next a from (lift_exchanged (held n t) ends a from to float_asks) (held n t) ends k.asks.known.table (held records t') ends' (record { is = e; right = k.within.right }) h l))
        (λ w z. rw (own side to t') (float_lists w z))

  -- an expiry, whose ends are cut
  module _ (a : ℕ) (is : m ≡ Timeout a) where
    expired : timeout_at now a ≡ accept next
    unfolding proposed need ◌>>=◌ successor
    expired = subst (λ x. proposed (some (move_of x)) now ≡ accept next) is k.asks.accepted

    cut_place : from ≡ start_of a (way_to now a)
    cut_place = k.asks.place_is ∙ ap (λ x. plan_place x now) is

    pub cut-asked : CutsEnds ends n a from
    cut-asked =
        let (i, l, e, r) = allowed_wait now a next expired in
        let h = k.asks.known.table in
        subst (CutsEnds ends n a) (sym cut_place) (cuts_ends ends now (ended_table (held n t) ends now h) a (wait i) l e n (held-size n t ends now k.inside h))

    pub makes_cut : (t' to' ends' : List ℕ) → Gives (proposed (some (move_of m))) (held n t) ends to to' → EndsCut ends n a from ends' → length ends' ≡ length ends → Makes kept t ends m records t' to' ends' there
    makes_cut t' to' ends' g c l =
        let (i, p, e, r) = allowed_wait now a next expired in
        let h = k.asks.known.table in
        let o = held_next to' _ (g now next h k.asks.accepted ∙ put-encode to next k.asks.room) in
        makes_there t' to' ends' g
        (cut_ends_from ends now (ended_table (held n t) ends now h) a (wait i) p e n (held-size n t ends now k.inside h) ends' (subst (λ x. EndsCut ends n a x ends') cut_place c) (held records to')
        (subst (Holds (held records to')) r (record { is = o; right = k.within.right })) l)

  -- a meeting that binds nothing, whose ends are cut: the invoke becomes nil, which changes no size
  module _ (a b : ℕ) (is : m ≡ Communicate a b) where
    parties : Met now a b next
    unfolding proposed need ◌>>=◌ successor
    parties = accepted_met now next a b k.asks.known.table.within (subst (λ x. proposed (some (move_of x)) now ≡ accept next) is k.asks.accepted)

    abbrev silent : Term
    silent = silence now b

    meeting_place : from ≡ start_of a (way_to now a)
    meeting_place = k.asks.place_is ∙ ap (λ x. plan_place x now) is

    silent_ended : Ended ends silent
    silent_ended =
        let h = ended_table (held n t) ends now k.asks.known.table in
        let p = parties.matched in
        let z = silence-size now b _ p.invokes in
        record {
          places = λ j l. h.places j (omega (arith, z)) ∙ ap (λ x. j + x) (sym (silence_part now a b p.receiver p.receives p.invokes j));
          behind = λ j lo hi. h.behind j (omega (arith, z)) (omega (arith, z)) ∙ ap (λ x. x + 1) (sym z);
          few = omega (arith, z, h.few);
          room = omega (arith, z, h.room);
        }

    silent_start : from ≡ start_of a (way_to silent a)
    silent_start = let p = parties.matched in meeting_place ∙ sym (silence-start now a b p.receiver p.receives p.invokes)

    silent_size : n ≡ size silent
    silent_size = held-size n t ends now k.inside k.asks.known.table ∙ sym (silence-size now b _ parties.matched.invokes)

    silent_prefix : (a < size silent) × (sub silent a ≡ under (receive_of parties.receive) (below (sub silent a)))
    silent_prefix = let p = parties.matched in
        (silence-inside now a b p.receiver p.receives p.invokes, under_silent now a b p.receiver p.receives p.invokes)

    pub meeting-asked : CutsEnds ends n a from
    meeting-asked = let (l, e) = silent_prefix in subst (CutsEnds ends n a) (sym silent_start) (cuts_ends ends silent silent_ended a _ l e n silent_size)

    -- as many records are left as by the cut alone: nothing was bound
    none-bound : (σ : Substitution) → length σ ≡ 0 → bind σ (continue silent a) ≡ next → continue silent a ≡ next
    unfolding bind
    none-bound [] z q = q
    none-bound (x ∷ σ) z q = absurd (omega (arith, z))

    ends_here : (get_or ends a 0 ≡ a + size (sub now a)) × (get_or ends from 0 ≡ from + size (sub now (start_of a (way_to now a)))) × (n ≡ size now)
    ends_here =
        let h = ended_table (held n t) ends now k.asks.known.table in
        let q = held-size n t ends now k.inside k.asks.known.table in
        (h.places a parties.matched.receiver, h.places from (omega (arith, q, meeting-asked.span)) ∙ ap (λ x. from + size (sub now x)) meeting_place, q)

    unbound : records ≡ n - (get_or ends from 0 - from) + (get_or ends a 0 - a - 1) → continue silent a ≡ next
    unbound e = none-bound parties.pairs (omega (arith, e, k.count, meeting-asked.span, parties.leaves.count, ends_here)) parties.is

    pub makes_met : (t' to' ends' : List ℕ) → Gives (proposed (some (move_of m))) (held n t) ends to to' → records ≡ n - (get_or ends from 0 - from) + (get_or ends a 0 - a - 1)
        → EndsCut ends n a from ends' → length ends' ≡ length ends → Makes kept t ends m records t' to' ends' there
    makes_met t' to' ends' g few h l =
        let (p, e) = silent_prefix in
        let o = held_next to' _ (g now next k.asks.known.table k.asks.accepted ∙ put-encode to next k.asks.room) in
        makes_there t' to' ends' g
        (cut_ends_from ends silent silent_ended a _ p e n silent_size ends' (subst (λ x. EndsCut ends n a x ends') silent_start h) (held records to')
        (subst (Holds (held records to')) (sym (unbound few)) (record { is = o; right = k.within.right })) l)
