-- What a whole meeting leaves, record by record (specs/Remains): meeting-leaves. On the way: where the whole choice around a guard begins, and the records when a
-- guard continues and an invoke is silent, by the places of the term as it was.
use mathlib.Core.Path.{◌≡◌, refl, sym, ap, ap₂, subst, ◌∙◌}
use mathlib.Core.Logic.{◌≢◌}
use mathlib.Core.Bool.{Bool, true, false, cond, ◌||◌}
use mathlib.Core.Option.{some}
use mathlib.Core.List.{List, [], ◌∷◌, ◌++◌, flat_map}
use Prim.Native.Nat.{ℕ, zero, suc, ◌+◌, ◌-◌, ◌≤◌, ◌<◌}
use native.Mathlib.Omega.{arith}
use native.Mathlib.Nat.{sub-zero}
use lib.Dec.{ltb, eqb}
use lib.ListN.{length, get_or, take, drop, set, length-append, length-drop}
use lib.Seq.{take_at, take_all, get_or-take, get_or-drop, length-take-le, set_split, get_or-set_same, get_or-set_other}
use borrow.Author.Tests.{eqb-true, eqb-false, eq-eqb, lt-ltb, le-ltb}
use Rattle.cows.specs.Basics.{any, member, found_with, accept}
use Rattle.cows.specs.Terms.{Basic, nil, Prefix, delimitation, choice, Term, leaf, under, both, Action, size, prefixed, receives, invokes, delimits_atom, delimits, below}
use Rattle.cows.specs.Kinds.{Node, basic, prefix, join, root, kind, live_kind, open_kinds}
use Rattle.cows.specs.Places.{Frame, left_of, right_of, inside, plug, Way, fill, Spot, descend, spot_at, way_to, sub, frame_chooses}
use Rattle.cows.specs.Format.{nodes}
use Rattle.cows.specs.Active.{live}
use Rattle.cows.specs.Within.{Within}
use Rattle.cows.specs.Moves.{Substitution, silence, continue, bind, around_choice, communicate_at}
use Rattle.cows.specs.Allows.{Meets, gathered, InOrder, Choices, no-choice, left-choice, right_choice, Choice, as_nil}
use Rattle.cows.specs.Remains.{Begins, InTerm, keys, BoundRecord, binder_goes, is_replaced, Remains, of_invoke, of_choice, of_continuation, of_others, MeetingLeaves}
use Rattle.cows.proofs.Basics.{never, clash, cond_case, bool_case, lt_case, or_left, or_right, or_case, not_so, same_test, same_some, any_append}
use Rattle.cows.specs.Records.{At, ahead, opens, behind, node_delimits, bind_node, bound_nodes}
use Rattle.cows.proofs.Places.{size_pos, fill_spot, fill_append, descend_way, spot_under, spot_part, spot_fits}
use Rattle.cows.proofs.Format.{length-nodes}
use Rattle.cows.proofs.Stands.{prefixed_is, delimits-atom}
use Rattle.cows.proofs.Ways.{nodes-fill, length-ahead, nodes_here, nodes_replaced}
use Rattle.cows.proofs.Gathered.{gathered_same, in_order_unique, stretch, stretch_whole, stretch_split, stretch_none}
use Rattle.cows.proofs.Contexts.{choice_around, choice_split, live_unchosen, at_fill, dormant, stopped}
use Rattle.cows.proofs.Silence.{relieved_size, alike_at, alike_ahead, alike_around, silence-size, silence-prefix, silence-nodes}
use Rattle.cows.proofs.Recordwise.{node_at, rewritten_map, rewritten_is}
use Rattle.cows.proofs.BoundNodes.{bound_append, bind-nodes}
use Rattle.cows.proofs.Meeting.{fits_fit, reaches_in_scope}
use Rattle.cows.proofs.Parts.{Sound}
use Rattle.cows.proofs.CommunicateKeeps.{AllBind}
use Rattle.cows.proofs.Preserving.{meeting-binds}
use Rattle.cows.proofs.Allows.{communicate_meets, meets_communicate}

-- The whole choice around the guard at place a: where it begins, what it is, and that it holds the guard.
ahead_append : (v w : Way) → length (ahead (v ++ w)) ≡ length (ahead w) + length (ahead v)
unfolding ahead
ahead_append [] w = omega arith
ahead_append (f ∷ v) w = omega (arith, length-append (ahead (v ++ w)) (opens f), length-append (ahead v) (opens f), ahead_append v w)

pub record Around (t : Term) (a : ℕ) (w : Way) : Type 0 where
  pub inner : Way
  pub way : way_to t a ≡ inner ++ w
  pub choice : Choice inner w
  pub at : At t (length (ahead w)) w (fill inner (sub t a))
  pub low : length (ahead w) ≤ a
  pub ends : a + size (sub t a) ≤ length (ahead w) + size (sub t (length (ahead w)))

pub around_at : (t : Term) (a : ℕ) → a < size t → Around t a (around_choice (way_to t a))
around_at t a l =
    let (z, w, q, h) = choice_split (way_to t a) in
    let s = sub t a in
    let around : around_choice (way_to t a) ≡ w = ap around_choice q ∙ choice_around z w h in
    let whole : fill w (fill z s) ≡ t = sym (fill_append z w s) ∙ (ap (λ y. fill y s) (sym q) ∙ fill_spot t a) in
    let here : At t (length (ahead w)) w (fill z s) = subst (λ r. At r (length (ahead w)) w (fill z s)) whole (at_fill w (fill z s)) in
    let place : length (ahead w) + length (ahead z) ≡ a = sym (ahead_append z w) ∙ (ap (λ y. length (ahead y)) (sym q) ∙ length-ahead t a l) in
    let long = ap length (nodes-fill z s) in
    rw around
    (record {
      inner = z;
      way = q;
      choice = h;
      at = here;
      low = omega arith;
      ends = omega (arith, ap size here.1, long, length-nodes (fill z s), length-append (ahead z) (nodes s ++ behind z), length-append (nodes s) (behind z), length-nodes s);
    })

pub begins_at : (t : Term) (a c : ℕ) → Begins t a c → c ≡ length (ahead (around_choice (way_to t a)))
begins_at t a c h = sym (length-ahead t c h.placed) ∙ ap (λ w. length (ahead w)) (sym (ap around_choice h.way ∙ choice_around h.inner (way_to t c) h.choice))

-- The records when the prefix at place a continues: those ahead of the choice, those of the continuation, those behind the choice.
module _ (t : Term) (a : ℕ) (u : Prefix) (l : a < size t) (e : sub t a ≡ under u (below (sub t a))) where
  abbrev c : ℕ
  c = length (ahead (around_choice (way_to t a)))

  pub size-body : size (sub t a) ≡ suc (size (below (sub t a)))
  unfolding size
  size-body = ap size e

  body-nodes : take (size (sub t a) - 1) (drop (suc a) (nodes t)) ≡ nodes (below (sub t a))
  body-nodes =
      let (k, s, w) = spot_under t a u (below (sub t a)) l e in
      ap (take (size (sub t a) - 1)) (nodes_here t (suc a) k ∙ ap (λ r. nodes r ++ behind (way_to t (suc a))) s)
      ∙ take_at (nodes (below (sub t a))) _ (size (sub t a) - 1) (omega (arith, length-nodes (below (sub t a)), size-body))

  continue-nodes : nodes (continue t a) ≡ take c (nodes t) ++ (take (size (sub t a) - 1) (drop (suc a) (nodes t)) ++ drop (c + size (sub t c)) (nodes t))
  unfolding continue
  continue-nodes =
      let (p, s, w) = (around_at t a l).at in
      ap (λ v. nodes (fill v (below (sub t a)))) (sym w) ∙ (nodes_replaced t c p (below (sub t a)) ∙ rw (← body-nodes))

-- The same with the invoke at place b silent, by the places of the term as it was.
module _ (t : Term) (a b : ℕ) {x : Basic} {v : Prefix} (l : a < size t) (ea : sub t a ≡ under v (below (sub t a))) (eb : sub t b ≡ leaf x) where
  abbrev from : ℕ
  from = length (ahead (around_choice (way_to t a)))

  abbrev u : Term
  u = silence t b

  pub silence_part : (n : ℕ) → size (sub u n) ≡ size (sub t n)
  silence_part n = sym (relieved_size (alike_at t b x eb n).1)

  pub silence_from : length (ahead (around_choice (way_to u a))) ≡ from
  silence_from = sym (alike_ahead (alike_around (alike_at t b x eb a).0))

  pub silence-under : sub u a ≡ under v (below (sub u a))
  unfolding prefixed
  silence-under = prefixed_is some (λ y. y) (λ y z e. same_some e) (sub u a) v (silence-prefix some t b x eb a ∙ ap (prefixed some) ea)

  pub met_nodes : nodes (continue u a) ≡ take from (nodes u) ++ (take (size (sub t a) - 1) (drop (suc a) (nodes u)) ++ drop (from + size (sub t from)) (nodes u))
  met_nodes = rw (silence_from, silence_part a, silence_part from) at (continue-nodes u a v (omega (arith, silence-size t b x eb)) silence-under)

-- A live leaf that has no choice on its way does not stand in the choice around a guard.
module _ (x : Basic) (w : Way) where
  abbrev Free : Term → Type 0
  Free s = (i : ℕ) → (descend w s i).here ≡ leaf x → live (descend w s i).way ≡ true → any frame_chooses (descend w s i).way ≡ false → ⊥

  under_free : (g : Prefix) (r : Term) → live_kind (kind (prefix g)) ≡ false → Free (under g r)
  unfolding descend
  under_free g r e zero h l f = never (cc)
  under_free g r e (suc i) h l f = clash l (dormant (inside g ∷ w) (stopped g w e) r i)

  chosen_way : (f : Frame) → frame_chooses f ≡ true → (s : Term) (i : ℕ) → any frame_chooses (descend (f ∷ w) s i).way ≡ true
  unfolding any
  chosen_way f e s i =
      let v = (descend [] s i).way in
      rw (descend_way [] (f ∷ w) s i, any_append frame_chooses v (f ∷ w)) (or_right (any frame_chooses v) _ (or_left (frame_chooses f) (any frame_chooses w) e))

  choice_free : (r s : Term) → Free (both choice r s)
  unfolding descend frame_chooses
  choice_free r s zero h l f = never (cc)
  choice_free r s (suc i) h l f =
      cond_case (λ (z : Spot). any frame_chooses z.way ≡ false → ⊥) (ltb i (size r))
      (λ _ k. clash (chosen_way (left_of choice s) refl r i) k) (λ _ k. clash (chosen_way (right_of choice r) refl s (i - size r)) k) f

  choices_free : {z : Way} → Choices z → (s : Term) → Free s → Free (fill z s)
  unfolding fill plug
  choices_free no-choice s h = h
  choices_free (left-choice {t = r} k) s h = choices_free k (both choice s r) (choice_free s r)
  choices_free (right_choice {s = r} k) s h = choices_free k (both choice r s) (choice_free r s)

-- the place b of such a leaf is not in the choice
module _ (t : Term) (a b : ℕ) (g : Prefix) (r : Term) (x : Basic) (l : a < size t) (k : b < size t) (ea : sub t a ≡ under g r) (stops : live_kind (kind (prefix g)) ≡ false) (eb : sub t b ≡ leaf x)
    (lb : live (way_to t b) ≡ true) (free : any frame_chooses (way_to t b) ≡ false) where
  pub invoke-outside : (let c = length (ahead (around_choice (way_to t a))) in InTerm t c b) → ⊥
  unfolding way_to sub
  invoke-outside (low, high) =
      let o = around_at t a l in
      let c = length (ahead (around_choice (way_to t a))) in
      let s : sub t c ≡ fill o.inner (under g r) = o.at.1 ∙ ap (fill o.inner) ea in
      let e : spot_at t b ≡ descend (way_to t c) (fill o.inner (under g r)) (b - c) =
      ap (spot_at t) (let z : b ≡ c + (b - c) = omega arith in z) ∙ ((spot_part t c o.at.0).1 (b - c) (omega arith) ∙ ap (λ q. descend (way_to t c) q (b - c)) s) in
      choices_free x (way_to t c) o.choice.choices (under g r) (under_free x (way_to t c) g r stops) (b - c)
      (ap (λ (z : Spot). z.here) (sym e) ∙ eb) (ap (λ (z : Spot). live z.way) (sym e) ∙ lb) (ap (λ (z : Spot). any frame_chooses z.way) (sym e) ∙ free)

-- the bound records of a stretch of places
module _ (σ : Substitution) where
  bound_at : List Node → ℕ → List Node
  bound_at ns n = bind_node σ (get_or ns n (basic nil))

  gathered-bound : (ns : List Node) → gathered (bound_at ns) (length ns) ≡ bound_nodes σ ns
  unfolding gathered flat_map bound_at
  gathered-bound [] = refl
  gathered-bound (n ∷ ns) = ap (λ q. bind_node σ n ++ q) (gathered-bound ns)

  stretch_bound : (f : ℕ → List Node) (ns : List Node) (i k : ℕ) → k ≤ length ns → ((n : ℕ) → i ≤ n → n < k → f n ≡ bound_at ns n) → stretch f i k ≡ bound_nodes σ (take (k - i) (drop i ns))
  unfolding stretch bound_at
  stretch_bound f ns i k m h =
      let part = take (k - i) (drop i ns) in
      let e : length part ≡ k - i = length-take-le (k - i) (drop i ns) (omega (arith, length-drop i ns)) in
      gathered_same _ (bound_at part) (k - i)
      (λ n l. h (i + n) (omega arith) (omega arith) ∙ ap (bind_node σ) (sym (get_or-take (k - i) (drop i ns) n (basic nil) l ∙ get_or-drop i ns n (basic nil))))
      ∙ (ap (gathered (bound_at part)) (sym e) ∙ gathered-bound part)

-- a record bound, as the rule has it, and no other way
key_member : (d : ℕ) (σ : Substitution) → any (λ (p : ℕ × ℕ). eqb p.0 d) σ ≡ member d (keys σ)
unfolding any member
key_member d [] = refl
key_member d (p ∷ σ) = ap₂ ◌||◌ (same_test (λ e. eq-eqb d p.0 (sym (eqb-true p.0 d e))) (λ e. eq-eqb p.0 d (sym (eqb-true d p.0 e)))) (key_member d σ)

node_delimits_lem : (d : ℕ) (n : Node) → node_delimits d n ≡ true → n ≡ prefix (delimitation d)
unfolding node_delimits
node_delimits_lem d (basic x) e = never e
node_delimits_lem d (prefix u) e = ap prefix (delimits-atom d u e)
node_delimits_lem d (join j) e = never e

binder : Substitution → Node → Bool
binder σ n = any (λ (p : ℕ × ℕ). node_delimits p.0 n) σ

binder_is : (σ : Substitution) (n : Node) → binder σ n ≡ true → (d : ℕ) × (n ≡ prefix (delimitation d))
unfolding binder any
binder_is [] n e = never e
binder_is (p ∷ σ) n e = or_case _ (node_delimits p.0 n) (binder σ n) e (λ h. (p.0, node_delimits_lem p.0 n h)) (binder_is σ n)

binder_member : (σ : Substitution) (n : Node) (d : ℕ) → n ≡ prefix (delimitation d) → binder σ n ≡ member d (keys σ)
unfolding binder node_delimits delimits_atom delimits found_with
binder_member σ n d e = ap (binder σ) e ∙ key_member d σ

bound_node : (σ : Substitution) (n : Node) → BoundRecord σ n (bind_node σ n)
unfolding bind_node binder
bound_node σ n = cond_case (BoundRecord σ n) (binder σ n)
    (λ e. let (d, q) = binder_is σ n e in
    subst (λ m. BoundRecord σ m []) (sym q) (binder_goes (sym (binder_member σ n d q) ∙ e)))
    (λ e. is_replaced {x = n} (λ d q. sym (binder_member σ n d q) ∙ e) (rewritten_map σ n))

bound_one : (σ : Substitution) {n : Node} {q : List Node} → BoundRecord σ n q → q ≡ bind_node σ n
unfolding bind_node binder
bound_one σ (binder_goes {x = d} e) = rw (binder_member σ (prefix (delimitation d)) d refl, e)
bound_one σ (is_replaced {x = n} {y = m} h r) =
    rw (not_so {a = binder σ n} (λ e. let (d, q) = binder_is σ n e in clash (sym (binder_member σ n d q) ∙ e) (h d q))) (ap (λ k. k ∷ []) (rewritten_is r))

-- The receive at place a and the invoke at place b meet.
module _ (t : Term) (a b : ℕ) (g : Prefix) (r : Term) (x : Basic) (σ : Substitution) (l : a < size t) (k : b < size t) (ea : sub t a ≡ under g r) (stops : live_kind (kind (prefix g)) ≡ false)
    (eb : sub t b ≡ leaf x) (lb : live (way_to t b) ≡ true) (free : any frame_chooses (way_to t b) ≡ false) where
  abbrev N : List Node
  N = nodes (silence t b)

  -- where the choice begins, where the receive's term ends, and where the choice does
  abbrev begin : ℕ
  begin = length (ahead (around_choice (way_to t a)))

  abbrev stop : ℕ
  stop = a + size (sub t a)

  abbrev end : ℕ
  end = begin + size (sub t begin)

  abbrev kept : ℕ → List Node
  kept n = bound_at σ N n

  left : ℕ → List Node
  left n = cond (ltb n begin) (kept n) (cond (ltb n (suc a)) [] (cond (ltb n stop) (kept n) (cond (ltb n end) [] (kept n))))

  low : begin ≤ a
  low = (around_at t a l).low

  inner : stop ≤ end
  inner = (around_at t a l).ends

  outer : end ≤ size t
  outer = spot_fits t begin (around_at t a l).at.0

  long : length N ≡ size t
  long = length-nodes (silence t b) ∙ silence-size t b x eb

  left_before : (n : ℕ) → n < begin → left n ≡ kept n
  unfolding left
  left_before n h = rw (lt-ltb n begin h)

  left_cut : (n : ℕ) → begin ≤ n → n < suc a → left n ≡ []
  unfolding left
  left_cut n h i = rw (le-ltb n begin h, lt-ltb n (suc a) i)

  left_body : (n : ℕ) → suc a ≤ n → n < stop → left n ≡ kept n
  unfolding left
  left_body n h i = rw (le-ltb n begin (omega (arith, low)), le-ltb n (suc a) h, lt-ltb n stop i)

  left_rest : (n : ℕ) → stop ≤ n → n < end → left n ≡ []
  unfolding left
  left_rest n h i = rw (le-ltb n begin (omega (arith, low)), le-ltb n (suc a) (omega (arith, size_pos (sub t a))), le-ltb n stop h, lt-ltb n end i)

  left_behind : (n : ℕ) → end ≤ n → left n ≡ kept n
  unfolding left
  left_behind n h = rw (le-ltb n begin (omega (arith, low)), le-ltb n (suc a) (omega (arith, size_pos (sub t a), inner)), le-ltb n stop (omega (arith, inner)), le-ltb n end h)

  left_split : gathered left (size t) ≡ stretch left 0 begin ++ (stretch left begin (suc a) ++ (stretch left (suc a) stop ++ (stretch left stop end ++ stretch left end (size t))))
  left_split =
      let last = stretch_split left stop end (size t) inner outer in
      let body = stretch_split left (suc a) stop (size t) (omega (arith, size_pos (sub t a))) (omega (arith, inner, outer)) in
      let first = stretch_split left begin (suc a) (size t) (omega (arith, low)) (omega arith) in
      stretch_whole left (size t) ∙ (stretch_split left 0 begin (size t) (omega arith) (omega (arith, low)) ∙ ap (λ q. stretch left 0 begin ++ q)
      (first ∙ ap (λ q. stretch left begin (suc a) ++ q) (body ∙ ap (λ q. stretch left (suc a) stop ++ q) last)))

  left-gathered : gathered left (size t) ≡ bound_nodes σ (take begin N ++ (take (size (sub t a) - 1) (drop (suc a) N) ++ drop end N))
  left-gathered =
      let ahead-is = stretch_bound σ left N 0 begin (omega (arith, low, long)) (λ n h i. left_before n i) in
      let body_is = stretch_bound σ left N (suc a) stop (omega (arith, inner, outer, long)) left_body in
      let behind_is = stretch_bound σ left N end (size t) (omega (arith, long)) (λ n h i. left_behind n h) in
      let body-long : stop - suc a ≡ size (sub t a) - 1 = omega arith in
      left_split ∙ rw (
        ahead-is,
        stretch_none left begin (suc a) left_cut,
        body_is,
        stretch_none left stop end left_rest,
        behind_is,
        body-long,
        sub-zero begin,
        take_all (size t - end) (drop end N) (omega (arith, length-drop end N, long)),
        bound_append σ (take begin N),
        bound_append σ (take (size (sub t a) - 1) (drop (suc a) N)),
      )

  -- the records of the silenced term
  set-nodes : N ≡ set (nodes t) b (basic nil)
  set-nodes = silence-nodes t b k eb ∙ sym (set_split (nodes t) b (basic nil) (omega (arith, length-nodes t)))

  node_sent : get_or N b (basic nil) ≡ basic nil
  node_sent = ap (λ q. get_or q b (basic nil)) set-nodes ∙ get_or-set_same (nodes t) b (basic nil) (basic nil) (omega (arith, length-nodes t))

  node_other : (n : ℕ) → n < size t → n ≢ b → get_or N n (basic nil) ≡ root (sub t n)
  node_other n h i = ap (λ q. get_or q n (basic nil)) set-nodes ∙ (get_or-set_other (nodes t) b n (basic nil) (basic nil) i ∙ node_at t n h)

  bound_other : (n : ℕ) → n < size t → n ≢ b → BoundRecord σ (root (sub t n)) (kept n)
  unfolding bound_at
  bound_other n h i = rw (node_other n h i) (bound_node σ (root (sub t n)))

  kept_sent : kept b ≡ basic nil ∷ []
  unfolding bound_at
  kept_sent = ap (bind_node σ) node_sent ∙ sym (bound_one σ (is_replaced (λ d e. never (cc)) as_nil))

  left_sent : left b ≡ basic nil ∷ []
  left_sent =
      lt_case _ b begin (λ h. left_before b h ∙ kept_sent)
      (λ h. lt_case _ b end (λ i. absurd (invoke-outside t a b g r x l k ea stops eb lb free (h, i))) (λ i. left_behind b i ∙ kept_sent))

  by : {n : ℕ} {q : List Node} → left n ≡ q → Remains t a b begin σ n q → Remains t a b begin σ n (left n)
  by {n} e h = subst (Remains t a b begin σ n) (sym e) h

  remains : (n : ℕ) → n < size t → Remains t a b begin σ n (left n)
  remains n h = bool_case (Remains t a b begin σ n (left n)) (eqb n b) (λ e. subst (λ m. Remains t a b begin σ m (left m)) (sym (eqb-true n b e)) (rw left_sent of_invoke))
      (λ e. let i : n ≢ b = eqb-false n b e in
      let others = bound_other n h i in
      lt_case _ n begin (λ p. by (left_before n p) (of_others i (λ z. omega arith) others))
      (λ p. lt_case _ n (suc a) (λ q. by (left_cut n p q) (of_choice i (p, omega (arith, inner, size_pos (sub t a))) (λ z. omega arith)))
      (λ q. lt_case _ n stop (λ m. by (left_body n q m) (of_continuation i (q, m) others))
      (λ m. lt_case _ n end (λ o. by (left_rest n m o) (of_choice i (p, o) (λ z. omega arith))) (λ o. by (left_behind n o) (of_others i (λ z. omega arith) others))))))

  -- and nothing else remains
  bound-kept : {n : ℕ} → n < size t → n ≢ b → {q : List Node} → BoundRecord σ (root (sub t n)) q → left n ≡ kept n → q ≡ left n
  bound-kept {n} h i e is = bound_one σ e ∙ (sym (bound_one σ (bound_other n h i)) ∙ sym is)

  remains_one : (n : ℕ) → n < size t → {q : List Node} → Remains t a b begin σ n q → q ≡ left n
  remains_one n h of_invoke = sym left_sent
  remains_one n h (of_choice i p z) =
      lt_case _ n (suc a) (λ q. sym (left_cut n p.0 q))
      (λ q. lt_case _ n stop (λ m. absurd (z (q, m))) (λ m. sym (left_rest n m p.1)))
  remains_one n h (of_continuation i p e) = bound-kept h i e (left_body n p.0 p.1)
  remains_one n h (of_others i z e) =
      lt_case _ n begin (λ p. bound-kept h i e (left_before n p))
      (λ p. lt_case _ n end (λ q. absurd (z (p, q))) (λ q. bound-kept h i e (left_behind n q)))

  -- the meeting leaves s exactly if the records of s are these
  met : nodes (continue (silence t b) a) ≡ take begin N ++ (take (size (sub t a) - 1) (drop (suc a) N) ++ drop end N)
  unfolding below
  met = met_nodes t a b {v = g} l (ea ∙ ap (under g) (sym (ap below ea))) eb

  module _ (s : Term) (is : nodes s ≡ bound_nodes σ (nodes (continue (silence t b) a))) where
    in_order : InOrder t (Remains t a b begin σ) s
    in_order = record { left = left; each = remains; records = is ∙ (ap (bound_nodes σ) met ∙ sym left-gathered) }

    pub meeting_in_order : MeetingLeaves t a b σ s
    meeting_in_order =
        let o = around_at t a l in
        record {
          from = begin;
          begins = record { placed = o.at.0; inner = o.inner; way = o.way ∙ ap (λ w. o.inner ++ w) (sym o.at.2); choice = subst (Choice o.inner) (sym o.at.2) o.choice };
          records = in_order;
        }

    pub meeting_one : (q : Term) → MeetingLeaves t a b σ q → s ≡ q
    meeting_one q h =
        in_order_unique t s q (Remains t a b begin σ) (λ n i x y m o. remains_one n i m ∙ sym (remains_one n i o)) in_order
        (subst (λ c. InOrder t (Remains t a b c σ) q) (begins_at t a h.from h.begins) h.records)

met_binds : (t : Term) (a b : ℕ) (σ : Substitution) → Within t → Meets t a b σ → (let s = continue (silence t b) a in Sound s × AllBind s σ)
unfolding prefixed receives invokes
met_binds t a b σ w h =
    let r : Action = record { partner = h.partner; operation = h.operation; tuple = h.pattern } in
    let m : Action = record { partner = h.partner; operation = h.operation; tuple = h.sent } in
    meeting-binds t a b r m σ (ap (prefixed receives) h.receiver.at.stands) (ap invokes h.sender.at.stands)
    (fits_fit r m σ (record { closed = h.closed; partner = refl; operation = refl; matches = h.matches })) (reaches_in_scope t a b σ h.scoped) (w.right, w.formed)

module _ (t : Term) (a b : ℕ) (σ : Substitution) (w : Within t) (h : Meets t a b σ) where
  abbrev after : Term
  after = bind σ (continue (silence t b) a)

  after-nodes : nodes after ≡ bound_nodes σ (nodes (continue (silence t b) a))
  after-nodes = let (sound, binds) = met_binds t a b σ w h in bind-nodes σ (continue (silence t b) a) sound binds

  free_invoke : any frame_chooses (way_to t b) ≡ false
  free_invoke = live_unchosen t b _ w.formed.guarded h.sender (unfold open_kinds in refl)

  meets_leave : MeetingLeaves t a b σ after
  meets_leave =
      meeting_in_order t a b _ h.body _ σ h.receiver.at.placed h.sender.at.placed h.receiver.at.stands (unfold open_kinds in refl) h.sender.at.stands h.sender.live
      free_invoke after after-nodes

  leave_one : (s : Term) → MeetingLeaves t a b σ s → after ≡ s
  leave_one =
      meeting_one t a b _ h.body _ σ h.receiver.at.placed h.sender.at.placed h.receiver.at.stands (unfold open_kinds in refl) h.sender.at.stands h.sender.live
      free_invoke after after-nodes

-- An accepted meeting leaves such records, and what has such records is what it leaves.
pub meeting-leaves : (t s : Term) (a b : ℕ) → Within t → communicate_at t a b ≡ accept s → (σ : Substitution) × Meets t a b σ × MeetingLeaves t a b σ s
meeting-leaves t s a b w e =
    let (σ, h, q) = communicate_meets t s a b e in
    (σ, h, subst (MeetingLeaves t a b σ) q (meets_leave t a b σ w h))

pub leaves-meeting : (t s : Term) (a b : ℕ) (σ : Substitution) → Within t → Meets t a b σ → MeetingLeaves t a b σ s → communicate_at t a b ≡ accept s
leaves-meeting t s a b σ w h m = meets_communicate t a b σ h ∙ ap accept (leave_one t a b σ w h s m)
