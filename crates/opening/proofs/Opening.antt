-- The open moves: which moves are listed, in which order, how many; the reply and the buffer.
use mathlib.Core.Path.{◌≡◌, refl, sym, ap, subst, ◌∙◌}
use mathlib.Core.Logic.{◌≢◌, ⊎_elim}
use mathlib.Core.Bool.{true}
use mathlib.Core.List.{List, ◌++◌, map}
use mathlib.Core.Option.{Option}
use Prim.Native.Nat.{ℕ, ◌+◌, ◌-◌, ◌*◌, ◌≤◌, ◌<◌}
use native.Mathlib.Omega.{arith}
use native.Mathlib.Nat.{mul-le-mul}
use lib.Dec.{ltb}
use lib.ListN.{length, get_or, drop, length-append, length-drop, length-map}
use lib.Seq.{get_or-append-add, get_or-drop}
use borrow.Author.Tests.{ltb-false, lt-ltb, le-ltb, not-true}
use Rattle.cows.specs.Limits.{max_records, max_bytes, max_depth}
use Rattle.cows.specs.Basics.{place_if, Result, refuse, accept, ◌>>◌, forbid}
use Rattle.cows.specs.Terms.{Term, size, depth, kills, invokes, prefixed, receives, waits, delimits, replicates}
use Rattle.cows.specs.Places.{sub}
use Rattle.cows.specs.Format.{AreBytes, byte}
use Rattle.cows.specs.Tables.{judge}
use Rattle.cows.specs.Active.{wanted}
use Rattle.cows.specs.Moves.{Move, Kill, Communicate, Timeout, Elapse, Unfold, Extrude, kill_at, communicate_at, timeout_at, unfold_at, extrude_at, successor}
use Rattle.cows.specs.Step.{read_move, over_limits, step_term, judge_step}
use Rattle.cows.proofs.Basics.{or_false, bind-accept, accept-bind, forbid-accept, same_accept, place_if-none}
use Rattle.cows.proofs.Cut.{length_write}
use Rattle.cows.proofs.Stands.{wanted-live}
use Rattle.cows.proofs.Step.{step_accepted, accepted_step}
use Rattle.opening.specs.Opening.{up_from, filter, each, fine, is_open, candidates, open_moves, six_byte_form, open_list, judge_open, open_reply, open_buffer, IsIn, Ascending, rank}
use Rattle.opening.proofs.Lists.{in_append, in_left, in_right, in_map, map_in, in_filter, filter_in, in_each, each_in, in_up_from, up_from_in, length_up_from, length-filter, length-each, ascending_append, ascending_filter, ascending_map, ascending_each, ascending_up_from}
use Rattle.opening.proofs.SixBytes.{move_kind, rank_is, move_kind_is, length_six, read_six, six_read}

-- The candidates are the moves but time on places below n.
abbrev Candidate : ℕ → Move → Type 0
Candidate n (Kill a) = a < n
Candidate n (Communicate a b) = (a < n) × (b < n)
Candidate n (Timeout a) = a < n
Candidate n (Elapse d) = ⊥
Candidate n (Unfold a) = a < n
Candidate n (Extrude a) = a < n

-- the parts of the candidates
abbrev pub meetings : ℕ → List Move
meetings n = each (λ a. map (Communicate a) (up_from 0 n)) (up_from 0 n)

abbrev pub behind_timeouts : ℕ → List Move
behind_timeouts n = map Unfold (up_from 0 n) ++ map Extrude (up_from 0 n)

abbrev pub behind_meetings : ℕ → List Move
behind_meetings n = map Timeout (up_from 0 n) ++ behind_timeouts n

abbrev pub behind-kills : ℕ → List Move
behind-kills n = meetings n ++ behind_meetings n

module _ (n : ℕ) where
  place : (a : ℕ) → IsIn a (up_from 0 n) → a < n
  place a h = omega (arith, in_up_from a 0 n h)

  of_kind : (f : ℕ → Move) → ((a : ℕ) → a < n → Candidate n (f a)) → (v : Move) → IsIn v (map f (up_from 0 n)) → Candidate n v
  of_kind f g v h = let (a, p, e) = in_map f v (up_from 0 n) h in subst (Candidate n) (sym e) (g a (place a p))

  in_candidates : (v : Move) → IsIn v (candidates n) → Candidate n v
  unfolding candidates
  in_candidates v h =
      ⊎_elim (of_kind Kill (λ a l. l) v)
      (λ h. ⊎_elim
      (λ h. let (a, p, h) = in_each (λ a. map (Communicate a) (up_from 0 n)) v (up_from 0 n) h in of_kind (Communicate a) (λ b l. (place a p, l)) v h)
      (λ h. ⊎_elim (of_kind Timeout (λ a l. l) v) (λ h. ⊎_elim (of_kind Unfold (λ a l. l) v) (of_kind Extrude (λ a l. l) v)
      (in_append v (map Unfold (up_from 0 n)) (map Extrude (up_from 0 n)) h))
      (in_append v (map Timeout (up_from 0 n)) (behind_timeouts n) h))
      (in_append v (meetings n) (behind_meetings n) h))
      (in_append v (map Kill (up_from 0 n)) (behind-kills n) h)

  to_kind : (f : ℕ → Move) (a : ℕ) → a < n → IsIn (f a) (map f (up_from 0 n))
  to_kind f a l = map_in f a (up_from 0 n) (up_from_in a 0 n (omega arith) (omega arith))

  candidates_in : (v : Move) → Candidate n v → IsIn v (candidates n)
  unfolding candidates
  candidates_in (Kill a) l = in_left (Kill a) (map Kill (up_from 0 n)) (behind-kills n) (to_kind Kill a l)
  candidates_in (Communicate a b) (l, k) =
      in_right (Communicate a b) (map Kill (up_from 0 n)) (behind-kills n) (in_left (Communicate a b) (meetings n) (behind_meetings n)
      (each_in (λ a. map (Communicate a) (up_from 0 n)) (Communicate a b) a (up_from 0 n) (up_from_in a 0 n (omega arith) (omega arith)) (to_kind (Communicate a) b k)))
  candidates_in (Timeout a) l =
      in_right (Timeout a) (map Kill (up_from 0 n)) (behind-kills n) (in_right (Timeout a) (meetings n) (behind_meetings n)
      (in_left (Timeout a) (map Timeout (up_from 0 n)) (behind_timeouts n) (to_kind Timeout a l)))
  candidates_in (Elapse d) l = absurd l
  candidates_in (Unfold a) l =
      in_right (Unfold a) (map Kill (up_from 0 n)) (behind-kills n) (in_right (Unfold a) (meetings n) (behind_meetings n)
      (in_right (Unfold a) (map Timeout (up_from 0 n)) (behind_timeouts n) (in_left (Unfold a) (map Unfold (up_from 0 n)) (map Extrude (up_from 0 n)) (to_kind Unfold a l))))
  candidates_in (Extrude a) l =
      in_right (Extrude a) (map Kill (up_from 0 n)) (behind-kills n) (in_right (Extrude a) (meetings n) (behind_meetings n)
      (in_right (Extrude a) (map Timeout (up_from 0 n)) (behind_timeouts n) (in_right (Extrude a) (map Unfold (up_from 0 n)) (map Extrude (up_from 0 n)) (to_kind Extrude a l))))

-- An open move is accepted, and the other way round.
pub fine_accepts : (r : Result Term) → fine r ≡ true → (s : Term) × (r ≡ accept s) × (size s ≤ max_records) × (depth s ≤ max_depth)
unfolding fine over_limits
fine_accepts (refuse n p) e = absurd (let z : ◌≡◌ {A = ℕ} 0 1 = cc in omega arith)
fine_accepts (accept s) e =
    let (h, k) = or_false (ltb max_records (size s)) (ltb max_depth (depth s)) (not-true _ e) in
    (s, refl, ltb-false max_records (size s) h, ltb-false max_depth (depth s) k)

pub accepts_fine : (r : Result Term) (s : Term) → r ≡ accept s → size s ≤ max_records → depth s ≤ max_depth → fine r ≡ true
unfolding fine over_limits
accepts_fine r s e h k = rw (e, le-ltb max_records (size s) h, le-ltb max_depth (depth s) k)

wanted_place : {A : Type 0} (look : Term → Option A) (t : Term) (a : ℕ) (x : A) → wanted look t a ≡ accept x → a < size t
wanted_place look t a x e = (wanted-live look t a x (sub t a) (λ _. refl) e).at.placed

accepted_candidate : (t s : Term) (v : Move) → successor t v ≡ accept s → move_kind v ≢ 3 → Candidate (size t) v
unfolding successor kill_at communicate_at timeout_at unfold_at extrude_at
accepted_candidate t s (Kill a) e h = let (x, ex, _) = bind-accept (wanted kills t a) _ s e in wanted_place kills t a x ex
accepted_candidate t s (Communicate a b) e h =
    let (x, ex, e₁) = bind-accept (wanted (prefixed receives) t a) _ s e in
    let (y, ey, _) = bind-accept (wanted invokes t b) _ s e₁ in
    (wanted_place (prefixed receives) t a x ex, wanted_place invokes t b y ey)
accepted_candidate t s (Timeout a) e h = let (x, ex, _) = bind-accept (wanted (prefixed waits) t a) _ s e in wanted_place (prefixed waits) t a x ex
accepted_candidate t s (Elapse d) e h = absurd (h refl)
accepted_candidate t s (Unfold a) e h = let (x, ex, _) = bind-accept (wanted (prefixed replicates) t a) _ s e in wanted_place (prefixed replicates) t a x ex
accepted_candidate t s (Extrude a) e h = let (x, ex, _) = bind-accept (wanted (prefixed delimits) t a) _ s e in wanted_place (prefixed delimits) t a x ex

candidate_kind : (n : ℕ) (v : Move) → Candidate n v → move_kind v ≢ 3
candidate_kind n (Kill a) h e = omega arith
candidate_kind n (Communicate a b) h e = omega arith
candidate_kind n (Timeout a) h e = omega arith
candidate_kind n (Elapse d) h e = absurd h
candidate_kind n (Unfold a) h e = omega arith
candidate_kind n (Extrude a) h e = omega arith

-- a move but time that the step accepts with an output of the most bytes that a table has
abbrev pub Possible : Term → List ℕ → Type 0
Possible t m = (byte m 0 ≢ 3) × (s : Term) × (step_term t (read_move m) max_bytes ≡ accept s)

pub listed_possible : (t : Term) (m : List ℕ) → IsIn m (open_list t) → Possible t m
unfolding open_list open_moves is_open
listed_possible t m h =
    let (v, p, e) = in_map six_byte_form m (filter (is_open t) (candidates (size t))) h in
    let (q, o) = in_filter (is_open t) v (candidates (size t)) p in
    let (s, es, small, shallow) = fine_accepts (successor t v) o in
    subst (Possible t) (sym e) (
      (λ z. candidate_kind (size t) v (in_candidates (size t) v q) (sym (move_kind_is v) ∙ z)),
      s,
      accepted_step t s (read_move (six_byte_form v)) max_bytes (record { move = v; reads = read_six v; moves = es; small = small; shallow = shallow; fits = omega arith }),
    )

pub possible_listed : (t : Term) (m : List ℕ) → AreBytes m → Possible t m → IsIn m (open_list t)
unfolding open_list open_moves is_open
possible_listed t m b (k, s, e) =
    let a = step_accepted t s (read_move m) max_bytes e in
    let z = six_read m a.move b a.reads in
    let c = accepted_candidate t s a.move a.moves (λ q. k (ap (λ l. byte l 0) z ∙ (move_kind_is a.move ∙ q))) in
    subst (λ l. IsIn l (map six_byte_form (filter (is_open t) (candidates (size t))))) (sym z)
    (map_in six_byte_form a.move (filter (is_open t) (candidates (size t)))
    (filter_in (is_open t) a.move (candidates (size t)) (candidates_in (size t) a.move c) (accepts_fine (successor t a.move) s a.moves a.small a.shallow)))

-- the step on the bytes of a well-formed table is that on its term
pub on_term : (table m : List ℕ) (t : Term) → judge table ≡ accept t → judge_step table m max_bytes ≡ step_term t (read_move m) max_bytes
unfolding judge_step
on_term table m t well = accept-bind (judge table) (λ t. step_term t (read_move m) max_bytes) t well

-- The order.
abbrev key : Move → ℕ
key v = rank (six_byte_form v)

-- the keys of the candidates of one kind lie between those of the kinds before and behind
module _ (n : ℕ) (few : n ≤ max_records) where
  key_within : (v : Move) → Candidate n v → (4294967296 * move_kind v ≤ key v) × (key v < 4294967296 * (move_kind v + 1))
  key_within (Kill a) h = (omega (arith, rank_is (Kill a)), omega (arith, rank_is (Kill a)))
  key_within (Communicate a b) (h, k) = (omega (arith, rank_is (Communicate a b)), omega (arith, rank_is (Communicate a b)))
  key_within (Timeout a) h = (omega (arith, rank_is (Timeout a)), omega (arith, rank_is (Timeout a)))
  key_within (Elapse d) h = absurd h
  key_within (Unfold a) h = (omega (arith, rank_is (Unfold a)), omega (arith, rank_is (Unfold a)))
  key_within (Extrude a) h = (omega (arith, rank_is (Extrude a)), omega (arith, rank_is (Extrude a)))

  alike : (f : ℕ → Move) → ((x y : ℕ) → x < y → key (f x) < key (f y)) → Ascending key (map f (up_from 0 n))
  alike f h = ascending_map key f (up_from 0 n) (ascending_up_from (λ x. key (f x)) h 0 n)

  -- a part of one kind before a part of greater kinds
  before : (k : ℕ) (xs ys : List Move) → Ascending key xs → Ascending key ys
      → ((x : Move) → IsIn x xs → Candidate n x × (move_kind x ≡ k)) → ((y : Move) → IsIn y ys → Candidate n y × (k < move_kind y)) → Ascending key (xs ++ ys)
  before k xs ys p q f g =
      ascending_append key xs ys p q
      (λ x y h l. let (a, e) = f x h in let (b, m) = g y l in omega (arith, (key_within x a).1, (key_within y b).0))

  kinded : (k : ℕ) (f : ℕ → Move) → ((a : ℕ) → a < n → Candidate n (f a)) → ((a : ℕ) → move_kind (f a) ≡ k) → (v : Move) → IsIn v (map f (up_from 0 n)) → Candidate n v × (move_kind v ≡ k)
  kinded k f g h v p = (of_kind n f g v p, let (a, _, e) = in_map f v (up_from 0 n) p in ap move_kind e ∙ h a)

  extrudes : (v : Move) → IsIn v (map Extrude (up_from 0 n)) → Candidate n v × (4 < move_kind v)
  extrudes v p = let (c, e) = kinded 5 Extrude (λ a l. l) (λ a. refl) v p in (c, omega arith)

  after_timeouts : (v : Move) → IsIn v (behind_timeouts n) → Candidate n v × (2 < move_kind v)
  after_timeouts v p =
      ⊎_elim (λ q. let (c, e) = kinded 4 Unfold (λ a l. l) (λ a. refl) v q in (c, omega arith)) (λ q. let (c, e) = extrudes v q in (c, omega arith))
      (in_append v (map Unfold (up_from 0 n)) (map Extrude (up_from 0 n)) p)

  after_meetings : (v : Move) → IsIn v (behind_meetings n) → Candidate n v × (1 < move_kind v)
  after_meetings v p =
      ⊎_elim (λ q. let (c, e) = kinded 2 Timeout (λ a l. l) (λ a. refl) v q in (c, omega arith)) (λ q. let (c, e) = after_timeouts v q in (c, omega arith))
      (in_append v (map Timeout (up_from 0 n)) (behind_timeouts n) p)

  all_meetings : (v : Move) → IsIn v (meetings n) → Candidate n v × (move_kind v ≡ 1)
  all_meetings v p =
      let (a, q, r) = in_each (λ a. map (Communicate a) (up_from 0 n)) v (up_from 0 n) p in
      kinded 1 (Communicate a) (λ b l. (place n a q, l)) (λ b. refl) v r

  after-kills : (v : Move) → IsIn v (behind-kills n) → Candidate n v × (0 < move_kind v)
  after-kills v p =
      ⊎_elim (λ q. let (c, e) = all_meetings v q in (c, omega arith)) (λ q. let (c, e) = after_meetings v q in (c, omega arith)) (in_append v (meetings n) (behind_meetings n) p)

  pair_order : (x y : ℕ) (u v : Move) → x < y → IsIn u (map (Communicate x) (up_from 0 n)) → IsIn v (map (Communicate y) (up_from 0 n)) → key u < key v
  pair_order x y u v l p q =
      let (b, h, e) = in_map (Communicate x) u (up_from 0 n) p in
      let (c, k, f) = in_map (Communicate y) v (up_from 0 n) q in
      rw (e, f) (omega (arith, rank_is (Communicate x b), rank_is (Communicate y c), place n b h, place n c k))

  candidates_ascend : Ascending key (candidates n)
  unfolding candidates
  candidates_ascend =
      before 0 (map Kill (up_from 0 n)) (behind-kills n) (alike Kill (λ x y l. omega (arith, rank_is (Kill x), rank_is (Kill y))))
      (before 1 (meetings n) (behind_meetings n)
      (ascending_each key (λ a. map (Communicate a) (up_from 0 n)) 0 n (λ a. alike (Communicate a) (λ x y l. omega (arith, rank_is (Communicate a x), rank_is (Communicate a y)))) pair_order)
      (before 2 (map Timeout (up_from 0 n)) (behind_timeouts n) (alike Timeout (λ x y l. omega (arith, rank_is (Timeout x), rank_is (Timeout y))))
      (before 4 (map Unfold (up_from 0 n)) (map Extrude (up_from 0 n)) (alike Unfold (λ x y l. omega (arith, rank_is (Unfold x), rank_is (Unfold y))))
      (alike Extrude (λ x y l. omega (arith, rank_is (Extrude x), rank_is (Extrude y)))) (kinded 4 Unfold (λ a l. l) (λ a. refl)) extrudes)
      (kinded 2 Timeout (λ a l. l) (λ a. refl)) after_timeouts)
      all_meetings after_meetings)
      (kinded 0 Kill (λ a l. l) (λ a. refl)) after-kills

pub open_ascend : (t : Term) → size t ≤ max_records → Ascending rank (open_list t)
unfolding open_list open_moves
open_ascend t h =
    ascending_map rank six_byte_form (filter (is_open t) (candidates (size t))) (ascending_filter key (is_open t) (candidates (size t)) (candidates_ascend (size t) h))

-- How many there are.
length-candidates : (n : ℕ) → length (candidates n) ≡ n * n + 4 * n
unfolding candidates
length-candidates n =
    let k = length_up_from 0 n in
    let p = length-each (λ a. map (Communicate a) (up_from 0 n)) n (up_from 0 n) (λ a. length-map (up_from 0 n) (Communicate a) ∙ k) in
    let q : length (meetings n) ≡ n * n = p ∙ ap (λ i. i * n) k in
    length-append (map Kill (up_from 0 n)) (behind-kills n)
    ∙ omega (
      arith,
      k,
      q,
      length-map (up_from 0 n) Kill,
      length-map (up_from 0 n) Timeout,
      length-map (up_from 0 n) Unfold,
      length-map (up_from 0 n) Extrude,
      length-append (meetings n) (behind_meetings n),
      length-append (map Timeout (up_from 0 n)) (behind_timeouts n),
      length-append (map Unfold (up_from 0 n)) (map Extrude (up_from 0 n)),
    )

pub open_few : (t : Term) → size t ≤ max_records → length (open_moves t) ≤ max_records * max_records + 4 * max_records
unfolding open_moves
open_few t h = omega (arith, length-filter (is_open t) (candidates (size t)), length-candidates (size t), mul-le-mul h h)

-- The reply and the buffer.
length-bytes : (ms : List Move) → length (each six_byte_form ms) ≡ 6 * length ms
length-bytes = length_write 6 six_byte_form length_six

pub refused_silent : (table buffer : List ℕ) → (open_reply (judge_open table (length buffer))).answer ≢ 0 → open_buffer (judge_open table (length buffer)) buffer ≡ buffer
unfolding open_reply open_buffer
refused_silent table buffer h = go (judge_open table (length buffer)) h
  where
    go : (r : Result (List Move)) → (open_reply r).answer ≢ 0 → open_buffer r buffer ≡ buffer
    go (refuse n p) h = refl
    go (accept ms) h = absurd (h refl)

list_behind : (ms : List Move) (buffer : List ℕ) (i : ℕ) → 6 * length ms ≤ i → get_or (each six_byte_form ms ++ drop (6 * length ms) buffer) i 0 ≡ get_or buffer i 0
list_behind ms buffer i h =
    let e : length (each six_byte_form ms) + (i - 6 * length ms) ≡ i = omega (arith, length-bytes ms) in
    let f : 6 * length ms + (i - 6 * length ms) ≡ i = omega arith in
    ap (λ n. get_or (each six_byte_form ms ++ drop (6 * length ms) buffer) n 0) (sym e)
    ∙ (get_or-append-add (each six_byte_form ms) (drop (6 * length ms) buffer) (i - 6 * length ms) 0 ∙ (get_or-drop (6 * length ms) buffer (i - 6 * length ms) 0 ∙ ap (λ n. get_or buffer n 0) f))

pub buffer_behind : (table buffer : List ℕ) (i : ℕ) → 6 * (open_reply (judge_open table (length buffer))).records ≤ i
    → get_or (open_buffer (judge_open table (length buffer)) buffer) i 0 ≡ get_or buffer i 0
unfolding open_reply open_buffer
buffer_behind table buffer i h = go (judge_open table (length buffer)) h
  where
    go : (r : Result (List Move)) → 6 * (open_reply r).records ≤ i → get_or (open_buffer r buffer) i 0 ≡ get_or buffer i 0
    go (refuse n p) h = refl
    go (accept ms) h = list_behind ms buffer i h

-- what the operation says of a well-formed table, by the room that there is
module _ (table : List ℕ) (room : ℕ) (t : Term) (well : judge table ≡ accept t) where
  opened : judge_open table room ≡ (forbid 22 (place_if (ltb room (6 * length (open_moves t))) (length (open_moves t))) >> accept (open_moves t))
  unfolding judge_open
  opened = accept-bind (judge table) _ t well

  pub open_room : 6 * length (open_moves t) ≤ room → judge_open table room ≡ accept (open_moves t)
  unfolding forbid place_if ◌>>◌
  open_room h = opened ∙ rw (le-ltb room (6 * length (open_moves t)) h)

  pub open_short : room < 6 * length (open_moves t) → judge_open table room ≡ refuse 22 (length (open_moves t))
  unfolding forbid place_if ◌>>◌
  open_short h = opened ∙ rw (lt-ltb room (6 * length (open_moves t)) h)

room_enough : (table : List ℕ) (room : ℕ) (ms : List Move) → judge_open table room ≡ accept ms → 6 * length ms ≤ room
unfolding judge_open
room_enough table room ms e =
    let (t, et, e₁) = bind-accept (judge table) _ ms e in
    let (h, e₂) = forbid-accept 22 (place_if (ltb room (6 * length (open_moves t))) (length (open_moves t))) (accept (open_moves t)) ms e₁ in
    rw (sym (same_accept e₂)) (ltb-false room (6 * length (open_moves t)) (place_if-none _ (length (open_moves t)) h))

pub buffer_length : (table buffer : List ℕ) → length (open_buffer (judge_open table (length buffer)) buffer) ≡ length buffer
unfolding open_buffer
buffer_length table buffer = go (judge_open table (length buffer)) refl
  where
    go : (r : Result (List Move)) → judge_open table (length buffer) ≡ r → length (open_buffer r buffer) ≡ length buffer
    go (refuse n p) e = refl
    go (accept ms) e =
        length-append (each six_byte_form ms) (drop (6 * length ms) buffer) ∙ omega (arith, length-bytes ms, length-drop (6 * length ms) buffer, room_enough table (length buffer) ms e)
