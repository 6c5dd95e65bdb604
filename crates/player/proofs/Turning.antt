-- One move of a list (specs/Turns): what an accepted move copies, what its judgement gives the run, and the table then kept.
use mathlib.Core.Path.{◌≡◌, refl, sym, ap, subst, ◌∙◌}
use mathlib.Core.Logic.{◌≢◌}
use mathlib.Core.Bool.{Bool, true, false, not, cond}
use mathlib.Core.List.{List}
use mathlib.Core.Option.{Option, none, some}
use Prim.Native.Nat.{ℕ, ◌+◌, ◌*◌, ◌/◌, ◌≤◌, ◌<◌}
use native.Mathlib.Omega.{arith}
use lib.ListN.{length, get_or}
use lib.Seq.{length-take-le}
use Rattle.std.specs.Prelude as rust
use Rattle.cows.specs.Basics.{Result, refuse, accept, ◌>>=◌, need}
use Rattle.cows.specs.Terms.{Term, under, replication, size, prefixed, replicates, below}
use Rattle.cows.specs.Places.{sub}
use Rattle.cows.specs.Active.{wanted}
use Rattle.cows.specs.Within.{Within}
use Rattle.cows.specs.Allows.{StandsLive}
use Rattle.cows.specs.Moves.{Move, unfold_at, successor}
use Rattle.cows.specs.Step.{proposed, step_term, reply_to}
use Rattle.cows.specs.Load.{load, copies}
use Rattle.cows.specs.Run.{no_tally, sum, adds, RunState, judgement, enter, turn, kept}
use Rattle.cows.proofs.Basics.{bind-accept, same_accept, same_some}
use Rattle.cows.proofs.Stands.{looks, prefixed_is, wanted-live}
use Rattle.cows.proofs.Step as steps
use Rattle.cows.proofs.Bounds.{step_from_one}
use Rattle.cows.proofs.Preserving.{step_within}
use Rattle.ways.specs.Known.{Table, Known}
use Rattle.ways.proofs.KnownTables.{one_table, table_size}
use Rattle.tables.specs.declared.Reply.{Reply}
use Rattle.proposals.specs.declared.Move as code
use Rattle.proposals.specs.declared.Move.TheVariants.{Kill, Communicate, Timeout, Elapse, Unfold, Extrude}
use Rattle.proposals.specs.Proposals.{move_of, read_as}
use Rattle.stepper.specs.Replies.{reply_of, reply_in, records_of, Fitting}
use Rattle.stepper.proofs.Stepping.{table_known}
use Rattle.stepper.proofs.Moved.{reply_allowed, reply_planned, asks}
use Rattle.elapse.specs.Waits.{wait_places, Lists}
use Rattle.std.specs.Prelude as rust
use Rattle.std.specs.Prelude.{None, Ok, Err}
use Rattle.plans.specs.declared.Plan.{Plan}
use Rattle.plans.specs.declared.Refusal.{Refusal}
use Rattle.plans.specs.Plans.{Planned, Asks}
use Rattle.moves.specs.Places.{plan_place}
use Rattle.tally.specs.declared.Tally.{Tally}
use Rattle.tally.specs.Counted.{tally_of, sum_of, Small}
use Rattle.tally.proofs.Counting.{sum_zeros, sum-adds, zeros_small, adds_small}
use Rattle.player.specs.declared.turns.Kept.{Kept}
use Rattle.player.specs.declared.turns.Tried.{Tried}
use Rattle.player.specs.Loads.{load_between}
use Rattle.player.specs.declared.turns.Next.{Next}
use Rattle.player.specs.Turns.{held, Accepted, Copied, Judged, Allows, Refuses, KeepsRun, Going, GoesOn, Turns, Turned}
use Rattle.player.specs.Making.{CanMake, Makes}
use Rattle.player.proofs.Loading.{body-load}

-- only an unfolding copies anything
pub copied_none : (s ends : List ℕ) (m : code.Move) → ((x : ℕ) → m ≡ Unfold x → ⊥) → Copied s ends m 0
unfolding copies
copied_none s ends m h = record { is = λ t _. none m h t; few = omega arith }
  where
    none : (m : code.Move) → ((x : ℕ) → m ≡ Unfold x → ⊥) → (t : Term) → 0 ≡ copies t (move_of m)
    none (Kill a) h t = refl
    none (Communicate a b) h t = refl
    none (Timeout a) h t = refl
    none (Elapse d) h t = refl
    none (Unfold a) h t = absurd (h a refl)
    none (Extrude a) h t = refl

unfold_live : (t s : Term) (a : ℕ) → unfold_at t a ≡ accept s → StandsLive t a (under replication (below (sub t a)))
unfolding unfold_at
unfold_live t s a e =
    let (x, ex, es) = bind-accept (wanted (prefixed replicates) t a) _ s e in
    wanted-live (prefixed replicates) t a x (under replication (below (sub t a))) (prefixed_is replicates (λ _. replication) (λ u. (looks u).replicating) (sub t a) x) ex

module _ (s ends : List ℕ) {m : code.Move} (h : Accepted s ends m) {a : ℕ} (unfolds : m ≡ Unfold a) where
  accepted-unfolds : StandsLive h.known.term a (under replication (below (sub h.known.term a)))
  unfolding successor
  accepted-unfolds =
      let x = steps.step_accepted h.known.term h.successor (some (move_of m)) 32768 h.accepted in
      unfold_live h.known.term h.successor a (subst (λ v. successor h.known.term v ≡ accept h.successor) (same_some (sym x.reads) ∙ ap move_of unfolds) x.moves)

  pub unfold_inside : a < length s / 16
  unfold_inside = omega (arith, accepted-unfolds.at.placed, table_size s ends h.known.term h.known.table)

  pub copied_body : (r : ℕ) → r ≡ load_between s (a + 1) (get_or ends a 0) → r ≤ 2048 → Copied s ends m r
  unfolding copies
  copied_body r er few = record {
    is = λ t ht.
        let same = one_table s ends t h.known.term ht h.known.table in
        let is : load_between s (a + 1) (get_or ends a 0) ≡ load (below (sub t a)) =
        rw same (body-load s ends h.known.term h.known.table a accepted-unfolds.at.placed replication _ accepted-unfolds.at.stands) in
        subst (λ w. r ≡ copies t (move_of w)) (sym unfolds) (er ∙ is);
    few = few;
  }

-- what a reply says of the result that it answers
answer_refused : (x : Result Term) (r : Reply) → r ≡ reply_of (reply_to x) → r.answer ≢ 0 → (n : ℕ) × (p : ℕ) × (x ≡ refuse n p)
unfolding reply_to
answer_refused (refuse n p) r e h = (n, p, refl)
answer_refused (accept s) r e h = absurd (h (ap (λ q. q.answer) e))

answer_accepted : (x : Result Term) (r : Reply) → ((n p : ℕ) → x ≡ refuse n p → 1 ≤ n) → r ≡ reply_of (reply_to x) → r.answer ≡ 0 → (s : Term) × (x ≡ accept s)
unfolding reply_to
answer_accepted (refuse n p) r k e h = absurd (omega (arith, k n p refl, ap (λ q. q.answer) e, h))
answer_accepted (accept s) r k e h = (s, refl)

pub judgement-accepted : (q : RunState) (m : Option Move) (r : Reply) → r ≡ reply_of (reply_to (judgement q m)) → r.answer ≡ 0 → (s : Term) × (judgement q m ≡ accept s)
unfolding judgement
judgement-accepted q m r e h = answer_accepted (step_term q.table m 32768) r (step_from_one q.table m 32768) e h

-- some run that keeps a known table
abbrev pub run_of : {s ends : List ℕ} → Known s ends → RunState
run_of k = record { table = k.term; tally = no_tally }

-- the reply to a judged move is that to the run's judgement; what making an allowed one then asks
module _ {s ends : List ℕ} (m : code.Move) (j : rust.Result Plan Refusal) (planned : (t : Term) → Table s ends t → Planned (proposed (some (move_of m)) t) (plan_place m t) j) where
  -- a refused one has the reply r
  module _ {r : Reply} (e : r ≡ reply_in 32768 (records_of j)) where
    pub refusal_replies : (q : RunState) → Table s ends q.table → r ≡ reply_of (reply_to (judgement q (some (move_of m))))
    unfolding judgement step_term
    refusal_replies q h = reply_planned _ _ j (planned q.table h) 32768 e

  module _ (plan : Plan) (f : Fitting j 32768 (Ok plan)) where
    pub plan_replies : (q : RunState) → Table s ends q.table → record { answer = 0; place = 0; records = plan.records } ≡ reply_of (reply_to (judgement q (some (move_of m))))
    unfolding judgement step_term
    plan_replies q h = reply_allowed (subst (Planned _ _) f.0 (planned q.table h)) 32768 f.1

    pub plan_asks : Known s ends → (out : List ℕ) → length out ≡ 32768 → Asks (proposed (some (move_of m))) (plan_place m) s ends plan.from out
    plan_asks k out l = asks k planned out plan (f.0, omega (arith, l, f.1))

    pub plan_accepts : Known s ends → Accepted s ends m
    unfolding judgement
    plan_accepts k = let (u, x) = judgement-accepted (run_of k) (some (move_of m)) _ (plan_replies (run_of k) k.table) refl in record { known = k; successor = u; accepted = x }

-- the run goes on by an accepted move only
turn-refused : (q : RunState) (m : Option Move) (n p : ℕ) → judgement q m ≡ refuse n p → turn q m ≡ q
unfolding turn enter
turn-refused q m n p e = rw e

turn-accepted : (q : RunState) (m : Option Move) (s : Term) (v : Move) → judgement q m ≡ accept s → m ≡ some v → turn q m ≡ record { table = s; tally = sum q.tally (adds (copies q.table v) v) }
unfolding turn enter
turn-accepted q m s v e h = rw (e, h)

accepted_move : (q : RunState) (m : Option Move) (s : Term) → judgement q m ≡ accept s → (v : Move) × (m ≡ some v)
unfolding judgement
accepted_move q m s e = let a = steps.step_accepted q.table s m 32768 e in (a.move, a.reads)

-- what a refused and what an accepted move counts
module _ (q : RunState) (m : Option Move) (r : Reply) (d : Tally) (a : r ≡ reply_of (reply_to (judgement q m))) where
  pub judged_refused : r.answer ≢ 0 → d ≡ tally_of no_tally → Judged q m r d
  judged_refused h e =
      let (n, p, x) = answer_refused (judgement q m) r a h in
      record { replies = a; counted = ap (sum_of (tally_of q.tally)) e ∙ (rw (turn-refused q m n p x) (sum_zeros (tally_of q.tally))); few = subst (λ c. Small c 1) (sym e) (zeros_small 1) }

  pub judged_accepted : (l : ℕ) (v : Move) → m ≡ some v → r.answer ≡ 0 → l ≡ copies q.table v → l ≤ 2048 → d ≡ tally_of (adds l v) → Judged q m r d
  judged_accepted l v ev z is few e =
      let (u, eu) = judgement-accepted q m r a z in
      record {
        replies = a;
        counted = ap (sum_of (tally_of q.tally)) (e ∙ ap (λ n. tally_of (adds n v)) is)
            ∙ (sum-adds q.tally (copies q.table v) v ∙ sym (ap (λ (x : RunState). tally_of x.tally) (turn-accepted q m u v eu ev)));
        few = subst (λ c. Small c 1) (sym e) (adds_small l v few);
      }

-- 10: what is read as no move
pub unread : (s ends : List ℕ) (r : Reply) → r ≡ reply_of (reply_to (refuse 10 0)) → Refuses s ends None r
unfolding judgement step_term proposed need ◌>>=◌ reply_to
unread s ends r e = let z : r.answer ≢ 0 = λ i. omega (arith, ap (λ (x : Reply). x.answer) e, i) in record { judged = λ q h. judged_refused q none r (tally_of no_tally) e z refl; no_zero = z }

-- the records of a table that lies in a buffer
pub held-size : (n : ℕ) (x ends : List ℕ) (t : Term) → 16 * n ≤ length x → Table (held n x) ends t → n ≡ size t
held-size n x ends t h k = omega (arith, table_size (held n x) ends t k, length-take-le (16 * n) x h)

pub held_few : (n : ℕ) (x ends : List ℕ) → n ≤ 2048 → length x ≡ 32768 → 2049 < length ends → (length (held n x) / 16 ≤ 2048) × (length (held n x) / 16 + 1 < length ends)
held_few n x ends h l k = let e = length-take-le (16 * n) x (omega arith) in (omega (arith, e), omega (arith, e))

pub held_small : (n : ℕ) (x ends : List ℕ) → 16 * n ≤ length x → Known (held n x) ends → n ≤ 2048
held_small n x ends h k = omega (arith, k.few, length-take-le (16 * n) x h)

-- a buffer of the two, and the one of the table
cond_room : (b : Bool) (x y : List ℕ) → length x ≡ 32768 → length y ≡ 32768 → length (cond b y x) ≡ 32768
cond_room true x y h k = k
cond_room false x y h k = h

pub own : (b : Bool) (t to : List ℕ) → cond b (cond b t to) (cond b to t) ≡ t
own true t to = refl
own false t to = refl

pub other : (b : Bool) (t to : List ℕ) → cond (not b) (cond b t to) (cond b to t) ≡ to
other true t to = refl
other false t to = refl

-- nothing is said to be listed
pub unlisted : (A : ℕ → Type 0) (w : ℕ) → ◌≡◌ {A = rust.Option ℕ} rust.None (rust.Some w) → A w
unlisted A w e = absurd cc

-- A turn of the table that is kept in t.
module _ (k : Kept) (t ends to : List ℕ) (g : Turns k t ends to) where
  abbrev b : Bool
  b = k.second

  abbrev n : ℕ
  n = k.records

  turn_table : (q : RunState) → KeepsRun q (cond b to t) (cond b t to) ends k → Table (held n t) ends q.table
  turn_table q h = subst (λ x. Table (held n x) ends q.table) (own b t to) h.table

  -- the two buffers are as long as any table
  rooms : (length t ≡ 32768) × (length to ≡ 32768)
  rooms = go b g.keeps.first_room g.keeps.second_room
    where
      go : (b : Bool) → length (cond b to t) ≡ 32768 → length (cond b t to) ≡ 32768 → (length t ≡ 32768) × (length to ≡ 32768)
      go true h k = (k, h)
      go false h k = (h, k)

  pub turn_known : Known (held n t) ends
  turn_known = table_known _ _ _ (turn_table g.run g.keeps)

  pub turn_inside : (n ≤ 2048) × (16 * n ≤ length t)
  turn_inside = let few : n ≤ 2048 = omega (arith, g.keeps.count, g.keeps.table.within.small) in (few, omega (arith, few, rooms))

  -- the list of the live waits, if there is one
  turn_lists : (w : ℕ) → k.waits ≡ rust.Some w → (v : Term) → Table (held n t) ends v → Lists to w (wait_places v)
  turn_lists w l v h =
      let e = one_table (held n t) ends g.run.table v (turn_table g.run g.keeps) h in
      subst (λ x. Lists to w (wait_places x)) e (subst (λ x. Lists x w (wait_places g.run.table)) (own b to t) (g.keeps.lists w l))

  module _ (m : rust.Option code.Move) where
    -- a refused move: all stays as it is
    module _ (r : Reply) (j : Refuses (held n t) ends m r) where
      abbrev refused_reply : Reply
      refused_reply = record { answer = r.answer; place = r.place; records = n }

      refused_is : (q : RunState) → KeepsRun q (cond b to t) (cond b t to) ends k → (turn q (read_as m) ≡ q) × (refused_reply ≡ reply_of (kept q (judgement q (read_as m))))
      unfolding reply_to kept
      refused_is q h =
          let e = (j.judged q (turn_table q h)).replies in
          let (a, p, x) = answer_refused (judgement q (read_as m)) r e j.no_zero in
          let y : r ≡ record { answer = a; place = p; records = 0 } = e ∙ ap (λ v. reply_of (reply_to v)) x in (
            turn-refused q (read_as m) a p x,
            ap (λ (v : Reply). record { answer = v.answer; place = v.place; records = n }) y
                ∙ (ap (λ (c : ℕ). record { answer = a; place = p; records = c }) h.count ∙ sym (ap (λ v. reply_of (kept q v)) x)),
          )

      pub turned_refused : {d : Tally} → d ≡ tally_of no_tally → Turned k (read_as m) t ends to t ends to (record { reply = refused_reply; kept = k; counts = d })
      turned_refused x = rw x (record {
        keeps = λ q h. subst (λ x. KeepsRun x (cond b to t) (cond b t to) ends k) (sym (refused_is q h).0) h;
        replies = λ q h. (refused_is q h).1;
        counted = λ q h. (j.judged q (turn_table q h)).counted;
        few = (j.judged g.run (turn_table g.run g.keeps)).few;
      })

    -- an accepted move, and what making it asks and gives
    module _ (r : Tried) (j : Allows (held n t) ends m r) where
      abbrev reply : Reply
      reply = record { answer = 0; place = 0; records = r.plan.records }

      accepted_is : (q : RunState) → Table (held n t) ends q.table → (u : Term) × (judgement q (some (move_of r.m)) ≡ accept u)
      accepted_is q h = judgement-accepted q (some (move_of r.m)) reply (j.judged q h).replies refl

      reply_is : (q : RunState) (h : Table (held n t) ends q.table) → reply ≡ record { answer = 0; place = 0; records = size (accepted_is q h).0 }
      unfolding reply_to
      reply_is q h = rw (accepted_is q h).1 at (j.judged q h).replies

      proposed_is : (q : RunState) (h : Table (held n t) ends q.table) → proposed (some (move_of r.m)) q.table ≡ accept (accepted_is q h).0
      unfolding judgement proposed need ◌>>=◌
      proposed_is q h = let a = steps.step_accepted q.table (accepted_is q h).0 (some (move_of r.m)) 32768 (accepted_is q h).1 in ap (successor q.table) (same_some a.reads) ∙ a.moves

      next-within : (q : RunState) (h : Table (held n t) ends q.table) → Within (accepted_is q h).0
      unfolding judgement
      next-within q h = step_within q.table (accepted_is q h).0 (some (move_of r.m)) 32768 h.within (accepted_is q h).1

      pub can_make : CanMake k t ends r.m r.plan.from r.plan.records to
      can_make =
          let a = j.asks to rooms.1 in
          let q = run_of a.known in
          let h = a.known.table in
          let e : a.successor ≡ (accepted_is q h).0 = same_accept (sym a.accepted ∙ proposed_is q h) in
          record {
            asks = a;
            within = subst Within (sym e) (next-within q h);
            count = ap (λ (x : Reply). x.records) (reply_is q h) ∙ ap size (sym e);
            lists = λ w l. turn_lists w l _ h;
            inside = turn_inside.1;
            room = rooms.1;
            ends_room = g.keeps.ends_room;
          }

      pub turned_made : (t' ends' to' : List ℕ) (then : Kept) → length t' ≡ length t → length ends' ≡ length ends → length to' ≡ length to → Makes k t ends r.m r.plan.records t' to' ends' then
          → Turned k (some (move_of r.m)) t ends to t' ends' to' (record { reply = reply; kept = then; counts = r.counts })
      unfolding kept
      turned_made t' ends' to' then lt le lo made = record {
        keeps = λ q h.
            let i = turn_table q h in
            let (v, ev) = accepted_move q (some (move_of r.m)) (accepted_is q i).0 (accepted_is q i).1 in
            let o = turn-accepted q (some (move_of r.m)) (accepted_is q i).0 v (accepted_is q i).1 ev in
            record {
              table = rw (o, made.count) (made.table q.table (accepted_is q i).0 i (proposed_is q i));
              count = made.count ∙ (ap (λ (x : Reply). x.records) (reply_is q i) ∙ (rw o));
              lists = λ w l. rw o (made.lists w l q.table (accepted_is q i).0 i (proposed_is q i));
              first_room = cond_room b t' to' (omega (arith, lt, rooms)) (omega (arith, lo, rooms));
              second_room = cond_room b to' t' (omega (arith, lo, rooms)) (omega (arith, lt, rooms));
              ends_room = omega (arith, le, g.keeps.ends_room);
            };
        replies = λ q h. rw (accepted_is q (turn_table q h)).1 (reply_is q (turn_table q h));
        counted = λ q h. (j.judged q (turn_table q h)).counted;
        few = (j.judged g.run (turn_table g.run g.keeps)).few;
      }

pub kept_records : (q : RunState) (m : Option Move) → (kept q (judgement q m)).records ≡ size (turn q m).table
unfolding kept
kept_records q m = go (judgement q m) refl
  where
    go : (x : Result Term) → judgement q m ≡ x → (kept q x).records ≡ size (turn q m).table
    go (refuse n p) e = rw (turn-refused q m n p e)
    go (accept s) e = let (v, ev) = accepted_move q m s e in rw (turn-accepted q m s v e ev)

-- the buffer of the table, and the other one, by where the table is kept
pub going_in : (b : Bool) (k : Kept) (x y ends : List ℕ) → k.second ≡ b → Going x y ends k → Turns k (cond b y x) ends (cond b x y)
going_in true k x y ends e h = subst (λ c. Going (cond c x y) (cond c y x) ends k) (sym e) h
going_in false k x y ends e h = subst (λ c. Going (cond c y x) (cond c x y) ends k) (sym e) h

pub goes_on_in : (b : Bool) (m : Option Move) (k : Kept) (x y ends x' y' ends' : List ℕ) (r : Next) → k.second ≡ b → Turned k m (cond b y x) ends (cond b x y) (cond b y' x') ends' (cond b x' y') r
    → GoesOn m k x y ends x' y' ends' r
goes_on_in true m k x y ends x' y' ends' r e h = subst (λ c. GoesOn m k (cond c x y) (cond c y x) ends (cond c x' y') (cond c y' x') ends' r) e h
goes_on_in false m k x y ends x' y' ends' r e h = subst (λ c. GoesOn m k (cond c y x) (cond c x y) ends (cond c y' x') (cond c x' y') ends' r) e h
