-- Time adds up: of terms, of what a step accepts and refuses, and of a clock that is read again and again (specs/Readings).
use Rattle.std.proofs.Common.{◌≡◌, ℕ, ◌+◌, ◌-◌, ◌*◌, ◌<◌, ◌≤◌, List, [], ◌∷◌, length, take, drop, sym, refl, ap, ◌∙◌, subst, arith, take_at}
use Rattle.cows.specs.Basics.{All, Result, refuse, accept, ◌>>=◌, need}
use Rattle.cows.specs.Terms.{Prefix, receive, wait, protection, delimitation, replication, Term, leaf, under, both, size}
use Rattle.cows.specs.Kinds.{prefix, kind, live_kind}
use Rattle.cows.specs.Format.{AreBytes, encode}
use Rattle.cows.specs.Tables.{judge}
use Rattle.cows.specs.Within.{Within}
use Rattle.cows.specs.Moves.{Elapse, lower, elapse, successor}
use Rattle.cows.specs.Allows.{Elapsed}
use Rattle.cows.specs.Step.{proposed, fitted, step_term, judge_step, reply_to, written}
use Rattle.cows.specs.Papers.{time}
use Rattle.cows.proofs.Basics.{bool_case, cond_case, eq_case, lt_case, accept-bind}
use Rattle.cows.proofs.Format.{encode-bytes, length-encode}
use Rattle.cows.proofs.Tables.{judge-within, within-judge}
use Rattle.cows.proofs.Rows.{lowered_kind}
use Rattle.cows.proofs.Bounds.{below-judge}
use Rattle.cows.proofs.Preserving.{successor-kept}
use Rattle.cows.proofs.Recordwise.{of_size, of_depth, elapse-keeps, elapse_elapsed, elapsed_elapse, some-time}
use Rattle.opening.specs.Opening.{six_byte_form}
use Rattle.opening.proofs.SixBytes.{read_six}
use Rattle.tables.specs.declared.Reply.{Reply}
use Rattle.stepper.specs.Replies.{Stepped}
use Rattle.ticks.specs.Ticks.{rollover, gone_back, longest_time, ticks_between, judge_elapsed, judge_ticks}
use Rattle.ticks.specs.Claims.{ClockGoes, Ticked}
use Rattle.ticks.specs.Readings.{tick_through, last_reading, ticks_through}
use Rattle.ticks.proofs.Clock.{goes-between, between-sum}
use Rattle.ticks.proofs.Judging.{table_elapsed, back_elapsed, long_elapsed, none_elapsed, time_elapsed}
use Rattle.ticks.proofs.Claims.{no_room_fitted, room_fitted, answers_of, ticked_of, claims, step_ticked}

-- no time changes nothing; one time after another is their sum
lower-none : (u : Prefix) → lower 0 u ≡ u
unfolding lower
lower-none (receive p o ws) = refl
lower-none (wait n) = ap wait (let z : n - 0 ≡ n = omega arith in z)
lower-none protection = refl
lower-none (delimitation a) = refl
lower-none replication = refl

lower-sum : (a b : ℕ) (u : Prefix) → lower b (lower a u) ≡ lower (a + b) u
unfolding lower
lower-sum a b (receive p o ws) = refl
lower-sum a b (wait n) = ap wait (let z : n - a - b ≡ n - (a + b) = omega arith in z)
lower-sum a b protection = refl
lower-sum a b (delimitation d) = refl
lower-sum a b replication = refl

elapse-none : (t : Term) → elapse 0 t ≡ t
unfolding elapse
elapse-none (leaf x) = refl
elapse-none (under u t) = cc (lower-none u, cond_case (λ r. r ≡ t) (live_kind (kind (prefix u))) (λ e. elapse-none t) (λ e. refl))
elapse-none (both j s t) = cc (elapse-none s, elapse-none t)

pub elapse-sum : (a b : ℕ) (t : Term) → elapse b (elapse a t) ≡ elapse (a + b) t
unfolding elapse
elapse-sum a b (leaf x) = refl
elapse-sum a b (under u t) =
    rw (lowered_kind a u, lower-sum a b u)
    (bool_case _ (live_kind (kind (prefix u))) (λ e. rw e (ap (under (lower (a + b) u)) (elapse-sum a b t))) (λ e. rw e))
elapse-sum a b (both j s t) = cc (elapse-sum a b s, elapse-sum a b t)

-- the same of the statement that speaks of records
pub elapsed_sum : {a b : ℕ} {t s u : Term} → Elapsed a t s → Elapsed b s u → Elapsed (a + b) t u
elapsed_sum {a} {b} {t} {s} {u} h k =
    subst (Elapsed (a + b) t) (sym (elapsed_elapse b s u k ∙ (ap (elapse b) (elapsed_elapse a t s h) ∙ elapse-sum a b t))) (elapse_elapsed (a + b) t)

-- what time leaves is within the limits
elapse-within : (d : ℕ) (t : Term) → Within t → Within (elapse d t)
elapse-within d t w =
    eq_case _ d 0 (λ z. subst Within (sym (ap (λ n. elapse n t) z ∙ elapse-none t)) w)
    (λ z. let (r, f) = successor-kept t (elapse d t) (Elapse d) w (unfold successor in some-time t d z) in
    record { right = r; formed = f; small = omega (arith, w.small, elapse-keeps of_size d t); shallow = omega (arith, w.shallow, elapse-keeps of_depth d t) })

-- a time on the table of a term, and ticks on it, give what fits of the term when so much time has passed
module _ (table : List ℕ) (t : Term) (e : judge table ≡ accept t) (room : ℕ) where
  pub time-fitted : (d : ℕ) → 1 ≤ d → judge_step table (time d) room ≡ fitted room (elapse d t)
  unfolding judge_step step_term proposed need successor ◌>>=◌ six_byte_form
  time-fitted d h = rw (e, read_six (Elapse d), some-time t d (λ z. omega (arith, z)))

  elapsed_fitted : (d : ℕ) → d ≤ longest_time → judge_elapsed table d room ≡ fitted room (elapse d t)
  elapsed_fitted d h =
      eq_case _ d 0
      (λ z. none_elapsed table d room t e z ∙ ap (fitted room) (sym (ap (λ n. elapse n t) z ∙ elapse-none t)))
      (λ z. let k : 1 ≤ d = omega (arith, z) in time_elapsed table d room k h ∙ time-fitted d k)

-- A judgement j of a table and a time d, for the times of which P holds: the table's refusals, and else what fits of the term when d has passed.
record AsTime (room : ℕ) (P : ℕ → Type 0) (j : List ℕ → ℕ → Result Term) : Type 0 where
  refuses : (table : List ℕ) (d n p : ℕ) → judge table ≡ refuse n p → j table d ≡ refuse n p
  passes : (table : List ℕ) (d : ℕ) (t : Term) → P d → judge table ≡ accept t → j table d ≡ fitted room (elapse d t)

step_time : (room : ℕ) → AsTime room (λ d. 1 ≤ d) (λ table d. judge_step table (time d) room)
step_time room = record { refuses = λ table d n p e. unfold judge_step ◌>>=◌ in rw e; passes = λ table d t h e. time-fitted table t e room d h }

ticks_time : (room : ℕ) → AsTime room (λ d. d ≤ longest_time) (λ table d. judge_elapsed table d room)
ticks_time room = record { refuses = λ table d n p e. table_elapsed table d room n p e; passes = λ table d t h e. elapsed_fitted table t e room d h }

-- a time a, and k on what it leaves: where k lets b pass, it is the sum of both
module _ {room : ℕ} {P : ℕ → Type 0} {j : List ℕ → ℕ → Result Term} (timed : AsTime room P j) (a b : ℕ) (k : Term → Result Term) (h : (s : Term) → Within s → k s ≡ fitted room (elapse b s)) where
  fitted-sum : (t : Term) → Within t → (fitted room (elapse a t) >>= k) ≡ fitted room (elapse (a + b) t)
  fitted-sum t w =
      let v = elapse-within a t w in
      let sized = elapse-keeps of_size a t in
      let summed = elapse-keeps of_size (a + b) t in
      lt_case _ room (16 * size t)
      (λ l. ap (λ x. x >>= k) (no_room_fitted (elapse a t) v room (omega arith)) ∙ (unfold ◌>>=◌ in sym (no_room_fitted (elapse (a + b) t) (elapse-within (a + b) t w) room (omega arith))))
      (λ l. accept-bind _ k (elapse a t) (room_fitted (elapse a t) v room (omega arith)) ∙ (h (elapse a t) v ∙ ap (fitted room) (elapse-sum a b t)))

  then_sum : (table : List ℕ) → AreBytes table → P a → P (a + b) → (j table a >>= k) ≡ j table (a + b)
  then_sum table bytes pa ps = go (judge table) refl
    where
      go : (x : Result Term) → judge table ≡ x → (j table a >>= k) ≡ j table (a + b)
      go (refuse n p) e = ap (λ x. x >>= k) (timed.refuses table a n p e) ∙ (unfold ◌>>=◌ in sym (timed.refuses table (a + b) n p e))
      go (accept t) e = ap (λ x. x >>= k) (timed.passes table a t pa e) ∙ (fitted-sum t (judge-within table t bytes e) ∙ sym (timed.passes table (a + b) t ps e))

-- of a step: refused tables and short outputs too
pub time-sum : (table : List ℕ) (a b room : ℕ) → AreBytes table → 1 ≤ a → 1 ≤ b → (judge_step table (time a) room >>= λ s. judge_step (encode s) (time b) room) ≡ judge_step table (time (a + b)) room
time-sum table a b room bytes h k =
    then_sum (step_time room) a b (λ s. judge_step (encode s) (time b) room) (λ s w. time-fitted (encode s) s (within-judge s w) room b k) table bytes h (omega arith)

-- of readings one after the other: the ticks between the first and the last, and the judgement
through_between : (earlier : ℕ) (readings : List ℕ) → earlier < rollover → All (λ n. n < rollover) readings → ticks_through earlier readings < rollover
    → (last_reading earlier readings < rollover) × (ticks_between earlier (last_reading earlier readings) ≡ ticks_through earlier readings)
unfolding ticks_through last_reading
through_between earlier [] h hs l = (h, unfold ticks_between in omega arith)
through_between earlier (later ∷ readings) h (k, hs) l =
    let (i, e) = through_between later readings k hs (omega arith) in
    (i, between-sum earlier later (last_reading later readings) h k i (omega (arith, e)) ∙ ap (λ n. ticks_between earlier later + n) e)

pub through_sum : (table : List ℕ) (earlier : ℕ) (readings : List ℕ) (room : ℕ) → AreBytes table → earlier < rollover → All (λ n. n < rollover) readings → ticks_through earlier readings ≤ longest_time
    → tick_through table earlier readings room ≡ judge_ticks table earlier (last_reading earlier readings) room
unfolding tick_through last_reading ticks_through judge_ticks
through_sum table earlier [] room bytes h hs l = refl
through_sum table earlier (later ∷ readings) room bytes h (k, hs) l =
    let (i, e) = through_between later readings k hs (omega arith) in
    let b = ticks_between later (last_reading later readings) in
    let sum = between-sum earlier later (last_reading later readings) h k i (omega (arith, e)) in
    then_sum (ticks_time room) (ticks_between earlier later) b (λ s. tick_through (encode s) later readings room)
    (λ s w. through_sum (encode s) later readings room (encode-bytes s w.right) k hs (omega arith) ∙ elapsed_fitted (encode s) s (within-judge s w) room b (omega (arith, e)))
    table bytes (omega arith) (omega (arith, e))
    ∙ ap (λ n. judge_elapsed table n room) (sym sum)

-- Of what is returned and left: at the start of the output of an accepted reading stands the table of the term when so much time has passed.
record Left (table : List ℕ) (d : ℕ) (bytes : List ℕ) : Type 0 where
  term : Term
  judged : judge table ≡ accept term
  within : Within term
  is : bytes ≡ encode (elapse d term)

ticked_left : (table : List ℕ) (earlier later : ℕ) (out after : List ℕ) (r : Reply) → AreBytes table → ticks_between earlier later ≤ longest_time → Ticked table earlier later out after r → r.answer ≡ 0
    → Left table (ticks_between earlier later) (take (16 * r.records) after)
unfolding judge_ticks reply_to written
ticked_left table earlier later out after r bytes l h z = go (judge table) refl
  where
    go : (x : Result Term) → judge table ≡ x → Left table (ticks_between earlier later) (take (16 * r.records) after)
    go (refuse n p) e =
        let k = rw e at (below-judge 2049 (omega arith) table) in
        let a = answers_of table earlier later out after r (refuse n p) (table_elapsed table _ (length out) n p e) h in
        absurd (omega (arith, k.0, sym (ap (λ q. q.answer) a.replies) ∙ z))
    go (accept t) e =
        let d = ticks_between earlier later in
        let s = elapse d t in
        let w = judge-within table t bytes e in
        let v = elapse-within d t w in
        let f = elapsed_fitted table t e (length out) d l in
        lt_case _ (length out) (16 * size s)
        (λ i. let a = answers_of table earlier later out after r (refuse 21 0) (f ∙ no_room_fitted s v (length out) i) h in absurd (omega (arith, sym (ap (λ q. q.answer) a.replies) ∙ z)))
        (λ i. let a = answers_of table earlier later out after r (accept s) (f ∙ room_fitted s v (length out) i) h in record {
          term = t;
          judged = e;
          within = w;
          is = rw (ap (λ q. q.records) a.replies, a.output) (take_at (encode s) (drop (16 * size s) out) (16 * size s) (length-encode s));
        })

-- a reading on what an accepted one left is one reading over both
pub replied_sum : (table : List ℕ) (first second third : ℕ) (out middle out' after : List ℕ) (r r' : Reply) → AreBytes table → first < rollover → second < rollover → third < rollover
    → ticks_between first second + ticks_between second third ≤ longest_time → Ticked table first second out middle r → r.answer ≡ 0 → Ticked (take (16 * r.records) middle) second third out' after r'
    → Ticked table first third out' after r'
unfolding judge_ticks
replied_sum table first second third out middle out' after r r' bytes f g k l h z h' =
    let a = ticks_between first second in
    let b = ticks_between second third in
    let left = ticked_left table first second out middle r bytes (omega arith) h z in
    let t = left.term in
    let s = elapse a t in
    let x = elapsed_fitted (encode s) s (within-judge s (elapse-within a t left.within)) (length out') b (omega arith) in
    ticked_of table first third out' after r' (fitted (length out') (elapse b s))
    (ap (λ n. judge_elapsed table n (length out')) (between-sum first second third f g k (omega arith)) ∙ (elapsed_fitted table t left.judged (length out') (a + b) l ∙ ap (fitted (length out')) (sym (elapse-sum a b t))))
    (answers_of (encode s) second third out' after r' _ x (subst (λ y. Ticked y second third out' after r') left.is h'))

-- the same of the step: read off a clock that shows 0, a and a + b
pub stepped_sum : (table : List ℕ) (a b : ℕ) (out middle out' after : List ℕ) (r r' : Reply) → AreBytes table → 1 ≤ a → 1 ≤ b → a + b ≤ longest_time
    → Stepped table (time a) out middle r → r.answer ≡ 0 → Stepped (take (16 * r.records) middle) (time b) out' after r' → Stepped table (time (a + b)) out' after r'
stepped_sum table a b out middle out' after r r' bytes h k l x z y =
    let u : ClockGoes 0 a a = record { less = omega arith; shows = omega arith } in
    let v : ClockGoes a b (a + b) = record { less = omega arith; shows = omega arith } in
    let c : ClockGoes 0 (a + b) (a + b) = record { less = omega arith; shows = omega arith } in
    let early : a < rollover = omega arith in
    (claims table 0 (a + b) out' after r' (omega arith)
    (replied_sum table 0 a (a + b) out middle out' after r r' bytes (omega arith) early (omega arith) (omega (arith, goes-between (omega arith) u, goes-between early v))
    (step_ticked table 0 a out middle r (omega arith) a u h (omega arith) x) z (step_ticked (take (16 * r.records) middle) a (a + b) out' after r' early b v k (omega arith) y))
    ).timed (a + b) c (omega arith) l

-- every case of the judgement: the table's refusals, 23, 24, 21, or a term within the limits
pub ticks_cases : (table : List ℕ) (d room : ℕ) (P : Result Term → Type 0) → AreBytes table → ((n p : ℕ) → judge table ≡ refuse n p → P (refuse n p)) → P (refuse 23 0) → P (refuse 24 0) → P (refuse 21 0)
    → ((s : Term) → Within s → P (accept s)) → P (judge_elapsed table d room)
ticks_cases table d room P bytes refused back long short fine = go (judge table) refl
  where
    is : (x : Result Term) → judge_elapsed table d room ≡ x → P x → P (judge_elapsed table d room)
    is x e = subst P (sym e)

    go : (x : Result Term) → judge table ≡ x → P (judge_elapsed table d room)
    go (refuse n p) e = is _ (table_elapsed table d room n p e) (refused n p e)
    go (accept t) e =
        lt_case _ d gone_back
        (λ k. lt_case _ longest_time d (λ l. is _ (long_elapsed table d room t e l k) long)
        (λ l. let s = elapse d t in
        let w = elapse-within d t (judge-within table t bytes e) in
        lt_case _ room (16 * size s)
        (λ i. is _ (elapsed_fitted table t e room d l ∙ no_room_fitted s w room i) short) (λ i. is _ (elapsed_fitted table t e room d l ∙ room_fitted s w room i) (fine s w))))
        (λ k. is _ (back_elapsed table d room t e k) back)
