-- What a kill, a timeout and a meeting leave, said by contexts (specs/Allows: Ended, Choice, Exchanged), is what specs/Moves computes (halt_inside,
-- around_choice, continue after silence). Here too: a term is told by a way and what fills it; no live invoke or kill stands in a choice.
use mathlib.Core.Path.{◌≡◌, refl, sym, ap, subst, ◌∙◌}
use mathlib.Core.Bool.{Bool, true, false, cond, ◌||◌}
use mathlib.Core.List.{[], ◌∷◌, ◌++◌, map, append_assoc}
use Prim.Native.Nat.{ℕ, zero, suc, ◌+◌, ◌-◌, ◌≤◌, ◌<◌}
use native.Mathlib.Omega.{arith}
use lib.Dec.{ltb}
use lib.ListN.{length, length-append}
use borrow.Author.Tests.{eq-eqb}
use Rattle.cows.specs.Basics.{any, every, found_with}
use Rattle.cows.specs.Terms.{Basic, nil, Prefix, receive, wait, protection, delimitation, replication, Join, choice, parallel, Term, leaf, under, both, size, delimits, delimits_atom, below}
use Rattle.cows.specs.Kinds.{guard, prefix, join, kind, live_kind, open_kinds}
use Rattle.cows.specs.Places.{Frame, inside, left_of, right_of, plug, Way, fill, Spot, descend, spot_at, way_to, sub, frame_delimits, enclosed, frame_chooses, passed}
use Rattle.cows.specs.Format.{nodes}
use Rattle.cows.specs.Active.{live, on_kind}
use Rattle.cows.specs.Within.{Guarded, counts}
use Rattle.cows.specs.Moves.{halt_beside, halt_inside, silence, around_choice, continue}
use Rattle.cows.specs.Allows.{StandsLive, Ended, at_kill, halts_right, halts_left, passes, Choices, no-choice, left-choice, right_choice, Whole, Choice, Exchanged, receive-left, receive_right}
use Rattle.cows.proofs.Basics.{never, clash, cond_case, or_false, and_none, or_second, every_append, any_append}
use Rattle.cows.specs.Records.{At, opens, ahead}
use Rattle.cows.proofs.Places.{size_pos, fill_spot, fill_append, descend_way, descend-first, spot_under, spot_left, spot_right}
use Rattle.cows.proofs.Format.{length-nodes}
use Rattle.cows.proofs.Halting.{halt-halted, halted-halt}
use Rattle.cows.proofs.Ways.{length-ahead, size-swap}
use Rattle.cows.proofs.Scopes.{counts-enclosed}
use Rattle.cows.proofs.Stands.{delimits-atom}

-- the way from [k] to its kill
pub halts_ended : (v : Way) → any frame_chooses v ≡ false → Ended v (map halt_beside v)
unfolding any frame_chooses halt_beside
halts_ended [] e = at_kill
halts_ended (inside u ∷ v) e = passes (halts_ended v e)
halts_ended (left_of choice t ∷ v) e = never (sym e)
halts_ended (left_of parallel t ∷ v) e = halts_right (halt-halted t) (halts_ended v e)
halts_ended (right_of choice t ∷ v) e = never (sym e)
halts_ended (right_of parallel t ∷ v) e = halts_left (halt-halted t) (halts_ended v e)

pub ended_halts : {v u : Way} → Ended v u → u ≡ map halt_beside v
unfolding halt_beside
ended_halts at_kill = refl
ended_halts (halts_right h e) = cc (halted-halt h, ended_halts e)
ended_halts (halts_left h e) = cc (halted-halt h, ended_halts e)
ended_halts (passes e) = cc (ended_halts e)

pub halt-cut : (k : ℕ) (v w : Way) → enclosed k v ≡ false → halt_inside k (v ++ (inside (delimitation k) ∷ w)) ≡ map halt_beside v ++ (inside (delimitation k) ∷ w)
unfolding halt_inside enclosed any frame_delimits delimits_atom delimits found_with
halt-cut k [] w e = rw (eq-eqb k k refl)
halt-cut k (f ∷ v) w e =
    let (p, q) = or_false (frame_delimits k f) (enclosed k v) e in
    rw p (ap (λ l. halt_beside f ∷ l) (halt-cut k v w q))

-- the nearest [k] on a way
abbrev pub Nearest : ℕ → Way → Type 0
Nearest k z = (v : Way) × (w : Way) × (z ≡ v ++ (inside (delimitation k) ∷ w)) × (enclosed k v ≡ false)

frame_is : (k : ℕ) (f : Frame) → frame_delimits k f ≡ true → f ≡ inside (delimitation k)
unfolding frame_delimits
frame_is k (inside u) e = ap inside (delimits-atom k u e)
frame_is k (left_of j t) e = never e
frame_is k (right_of j s) e = never e

pub nearest : (k : ℕ) (z : Way) → enclosed k z ≡ true → Nearest k z
unfolding enclosed any
nearest k [] e = never e
nearest k (f ∷ z) e = go (frame_delimits k f) refl e (nearest k z)
  where
    go : (b : Bool) → frame_delimits k f ≡ b → (b || enclosed k z) ≡ true → (enclosed k z ≡ true → Nearest k z) → Nearest k (f ∷ z)
    go true p h r = ([], z, ap (λ g. g ∷ z) (frame_is k f p), refl)
    go false p h r =
        let (v, w, e, n) = r h in
        (f ∷ v, w, ap (λ l. f ∷ l) e, rw p n)

pub fill-cut : (k : ℕ) (v w z : Way) → z ≡ v ++ (inside (delimitation k) ∷ w) → (s : Term) → fill z s ≡ fill w (under (delimitation k) (fill v s))
unfolding fill plug
fill-cut k v w z e s = ap (λ l. fill l s) e ∙ fill_append v (inside (delimitation k) ∷ w) s

-- a live record that is no guard stands in no choice
plug_inner : (f : Frame) (s : Term) → Guarded (plug f s) → Guarded s
unfolding plug
plug_inner (inside u) s h = h
plug_inner (left_of j t) s h = h.1
plug_inner (right_of j t) s h = h.2

guarded_inner : (w : Way) (s : Term) → Guarded (fill w s) → Guarded s
unfolding fill
guarded_inner [] s h = h
guarded_inner (f ∷ w) s h = plug_inner f s (guarded_inner w (plug f s) h)

unchosen : (w : Way) (s : Term) → guard s ≡ false → live w ≡ true → Guarded (fill w s) → any frame_chooses w ≡ false
unfolding live every on_kind passed any frame_chooses fill plug open_kinds
unchosen [] s g l h = refl
unchosen (inside (receive p o ws) ∷ w) s g l h = never l
unchosen (inside (wait n) ∷ w) s g l h = never l
unchosen (inside protection ∷ w) s g l h = unchosen w (under protection s) refl l h
unchosen (inside (delimitation d) ∷ w) s g l h = unchosen w (under (delimitation d) s) refl l h
unchosen (inside replication ∷ w) s g l h = never l
unchosen (left_of choice t ∷ w) s g l h = clash (guarded_inner w (both choice s t) h).0.0 g
unchosen (left_of parallel t ∷ w) s g l h = unchosen w (both parallel s t) refl l h
unchosen (right_of choice t ∷ w) s g l h = clash (guarded_inner w (both choice t s) h).0.1 g
unchosen (right_of parallel t ∷ w) s g l h = unchosen w (both parallel t s) refl l h

pub live_unchosen : (t : Term) (a : ℕ) (s : Term) → Guarded t → StandsLive t a s → guard s ≡ false → any frame_chooses (way_to t a) ≡ false
live_unchosen t a s h l g = unchosen (way_to t a) s g l.live (subst Guarded (sym (ap (fill (way_to t a)) (sym l.at.stands) ∙ fill_spot t a)) h)

-- the whole choice around a guard
whole_first : (f : Frame) (w : Way) → Whole (f ∷ w) → frame_chooses f ≡ false
unfolding frame_chooses
whole_first (inside u) w h = refl
whole_first (left_of choice t) w h = absurd (h.not_left t w refl)
whole_first (left_of parallel t) w h = refl
whole_first (right_of choice t) w h = absurd (h.not_right t w refl)
whole_first (right_of parallel t) w h = refl

first_whole : (f : Frame) (w : Way) → frame_chooses f ≡ false → Whole (f ∷ w)
unfolding frame_chooses
first_whole f w e = record {
  not_left = λ t z q. let p : f ≡ left_of choice t = cc in never (sym (subst (λ g. frame_chooses g ≡ false) p e));
  not_right = λ t z q. let p : f ≡ right_of choice t = cc in never (sym (subst (λ g. frame_chooses g ≡ false) p e));
}

around_whole : (w : Way) → Whole w → around_choice w ≡ w
unfolding around_choice
around_whole [] h = refl
around_whole (f ∷ w) h = rw (whole_first f w h)

around_choices : {c : Way} → Choices c → (w : Way) → around_choice (c ++ w) ≡ around_choice w
unfolding around_choice frame_chooses
around_choices no-choice w = refl
around_choices (left-choice h) w = around_choices h w
around_choices (right_choice h) w = around_choices h w

pub choice_around : (c w : Way) → Choice c w → around_choice (c ++ w) ≡ w
choice_around c w h = around_choices h.choices w ∙ around_whole w h.whole

more_choice : (f : Frame) (c w : Way) → frame_chooses f ≡ true → Choice c w → Choice (f ∷ c) w
unfolding frame_chooses
more_choice (inside u) c w e h = never e
more_choice (left_of choice t) c w e h = record { choices = left-choice h.choices; whole = h.whole }
more_choice (left_of parallel t) c w e h = never e
more_choice (right_of choice t) c w e h = record { choices = right_choice h.choices; whole = h.whole }
more_choice (right_of parallel t) c w e h = never e

none-chosen : (f : Frame) (w : Way) → frame_chooses f ≡ false → Choice [] (f ∷ w)
none-chosen f w e = record { choices = no-choice; whole = first_whole f w e }

abbrev pub Split : Way → Type 0
Split z = (c : Way) × (w : Way) × (z ≡ c ++ w) × Choice c w

pub choice_split : (z : Way) → Split z
choice_split [] = ([], [], refl, record { choices = no-choice; whole = record { not_left = λ t z e. never (cc); not_right = λ t z e. never (cc) } })
choice_split (f ∷ z) = go (frame_chooses f) refl (choice_split z)
  where
    go : (b : Bool) → frame_chooses f ≡ b → Split z → Split (f ∷ z)
    go true e (c, w, q, h) = (f ∷ c, w, ap (λ l. f ∷ l) q, more_choice f c w e h)
    go false e s = ([], f ∷ z, refl, none-chosen f z e)

-- the same, on the way to a frame that is no choice
abbrev SplitAt : Way → Frame → Way → Type 0
SplitAt z f w = (c : Way) × (v : Way) × (z ≡ c ++ v) × Choice c (v ++ (f ∷ w))

split_at : (z : Way) (f : Frame) (w : Way) → frame_chooses f ≡ false → SplitAt z f w
split_at [] f w n = ([], [], refl, none-chosen f w n)
split_at (g ∷ z) f w n = go (frame_chooses g) refl (split_at z f w n)
  where
    go : (b : Bool) → frame_chooses g ≡ b → SplitAt z f w → SplitAt (g ∷ z) f w
    go true e (c, v, q, h) = (g ∷ c, v, ap (λ l. g ∷ l) q, more_choice g c _ e h)
    go false e s = ([], g ∷ z, refl, none-chosen g _ e)

-- another frame there that is no choice
choice-swap : (c v : Way) (f g : Frame) (w : Way) → frame_chooses g ≡ false → Choice c (v ++ (f ∷ w)) → Choice c (v ++ (g ∷ w))
choice-swap c [] f g w e h = record { choices = h.choices; whole = first_whole g w e }
choice-swap c (x ∷ v) f g w e h = record { choices = h.choices; whole = first_whole x (v ++ (g ∷ w)) (whole_first x (v ++ (f ∷ w)) h.whole) }

-- The place at the end of a way that is filled: as many records stand ahead of it as the way says.
pub at_fill : (w : Way) (s : Term) → At (fill w s) (length (ahead w)) w s
unfolding fill plug ahead opens
at_fill [] s = (size_pos s, unfold sub spot_at in ap (λ (z : Spot). z.here) (descend-first [] s), unfold way_to spot_at in ap (λ (z : Spot). z.way) (descend-first [] s))
at_fill (inside u ∷ w) s =
    let t = fill w (under u s) in
    let n = length (ahead w) in
    let (l, e, k) : At t n w (under u s) = at_fill w (under u s) in
    subst (λ m. At t m (inside u ∷ w) s) (let z : suc n ≡ length (ahead w ++ (prefix u ∷ [])) = omega (arith, length-append (ahead w) (prefix u ∷ [])) in z)
    (subst (λ y. At t (suc n) (inside u ∷ y) s) k (spot_under t n u s l e))
at_fill (left_of j r ∷ w) s =
    let t = fill w (both j s r) in
    let n = length (ahead w) in
    let (l, e, k) : At t n w (both j s r) = at_fill w (both j s r) in
    subst (λ m. At t m (left_of j r ∷ w) s) (let z : suc n ≡ length (ahead w ++ (join j ∷ [])) = omega (arith, length-append (ahead w) (join j ∷ [])) in z)
    (subst (λ y. At t (suc n) (left_of j r ∷ y) s) k (spot_left t n j s r l e))
at_fill (right_of j r ∷ w) s =
    let t = fill w (both j r s) in
    let n = length (ahead w) in
    let (l, e, k) : At t n w (both j r s) = at_fill w (both j r s) in
    subst (λ m. At t m (right_of j r ∷ w) s)
    (let z : suc n + size r ≡ length (ahead w ++ (join j ∷ nodes r)) = omega (arith, length-append (ahead w) (join j ∷ nodes r), length-nodes r) in z)
    (subst (λ y. At t (suc n + size r) (right_of j r ∷ y) s) k (spot_right t n j r s l e))

plug_injective : (f : Frame) (s r : Term) → plug f s ≡ plug f r → s ≡ r
unfolding plug
plug_injective (inside u) s r e = cc
plug_injective (left_of j t) s r e = cc
plug_injective (right_of j t) s r e = cc

fill_injective : (w : Way) (s r : Term) → fill w s ≡ fill w r → s ≡ r
unfolding fill
fill_injective [] s r e = e
fill_injective (f ∷ w) s r e = plug_injective f s r (fill_injective w (plug f s) (plug f r) e)

ahead-swap : (v : Way) (f g : Frame) (w : Way) → length (opens f) ≡ length (opens g) → length (ahead (v ++ (f ∷ w))) ≡ length (ahead (v ++ (g ∷ w)))
unfolding ahead
ahead-swap [] f g w e = omega (arith, length-append (ahead w) (opens f), length-append (ahead w) (opens g))
ahead-swap (x ∷ v) f g w e = omega (arith, length-append (ahead (v ++ (f ∷ w))) (opens x), length-append (ahead (v ++ (g ∷ w))) (opens x), ahead-swap v f g w e)

-- A meeting across a parallel: near is the frame on the receive's side, far the one on the invoke's.
pub record Sides (near far : Term → Frame) : Type 0 where
  pub meets : (x y : Term) → plug (near y) x ≡ plug (far x) y
  pub apart : (x y p q : Term) → plug (near y) x ≡ plug (far p) q → (x ≡ p) × (y ≡ q)
  pub as_long : (x y : Term) → size x ≡ size y → length (opens (near x)) ≡ length (opens (near y))
  pub unchosen : (y : Term) → frame_chooses (near y) ≡ false
  pub undelimited : (d : ℕ) (y : Term) → frame_delimits d (near y) ≡ false

pub left_right : Sides (left_of parallel) (right_of parallel)
unfolding plug opens frame_chooses frame_delimits
left_right = record { meets = λ x y. refl; apart = λ x y p q e. (cc, cc); as_long = λ x y e. refl; unchosen = λ y. refl; undelimited = λ d y. refl }

pub right_left : Sides (right_of parallel) (left_of parallel)
unfolding plug opens frame_chooses frame_delimits
right_left = record { meets = λ x y. refl; apart = λ x y p q e. (cc, cc); as_long = λ x y e. omega (arith, length-nodes x, length-nodes y); unchosen = λ y. refl; undelimited = λ d y. refl }

choices_enclose : (d : ℕ) {c : Way} → Choices c → enclosed d c ≡ false
unfolding enclosed any frame_delimits
choices_enclose d no-choice = refl
choices_enclose d (left-choice h) = choices_enclose d h
choices_enclose d (right_choice h) = choices_enclose d h

enclosed-swap : (d : ℕ) (v : Way) (f g : Frame) (w : Way) → frame_delimits d f ≡ frame_delimits d g → enclosed d (v ++ (f ∷ w)) ≡ enclosed d (v ++ (g ∷ w))
unfolding enclosed any
enclosed-swap d [] f g w e = rw e
enclosed-swap d (x ∷ v) f g w e = ap (λ b. frame_delimits d x || b) (enclosed-swap d v f g w e)

module _ (near far : Term → Frame) (sides : Sides near far) (t : Term) (a b : ℕ) (c v u w : Way) (x y g : Term) (i : Basic) (l : a < size t)
    (ga : sub t a ≡ g) (wa : way_to t a ≡ c ++ (v ++ (near y ∷ w))) (ib : sub t b ≡ leaf i) (wb : way_to t b ≡ u ++ (far x ∷ w)) where
  -- what stands on the two sides
  across : plug (near y) (fill (c ++ v) g) ≡ plug (far x) (fill u (leaf i))
  unfolding fill
  across =
      fill_injective w _ _
      (sym (fill_append (c ++ v) (near y ∷ w) g)
      ∙ (ap (λ z. fill z g) (append_assoc c v (near y ∷ w) ∙ sym wa)
      ∙ (ap (fill (way_to t a)) (sym ga)
      ∙ (fill_spot t a
      ∙ (sym (fill_spot t b)
      ∙ (ap (fill (way_to t b)) ib
      ∙ (ap (λ z. fill z (leaf i)) wb
      ∙ fill_append u (far x ∷ w) (leaf i))))))))

  abbrev other : Term
  other = fill u (leaf nil)

  abbrev round : Way
  round = v ++ (near other ∷ w)

  silenced : silence t b ≡ fill (c ++ round) g
  unfolding silence fill
  silenced =
      ap (λ z. fill z (leaf nil)) wb
      ∙ (fill_append u (far x ∷ w) (leaf nil)
      ∙ (ap (λ z. fill w (plug (far z) other)) (sym (sides.apart _ _ _ _ across).0)
      ∙ (ap (fill w) (sym (sides.meets (fill (c ++ v) g) other))
      ∙ (sym (fill_append (c ++ v) (near other ∷ w) g)
      ∙ ap (λ z. fill z g) (append_assoc c v (near other ∷ w))))))

  same_place : length (ahead (c ++ round)) ≡ a
  unfolding size
  same_place =
      ap (λ z. length (ahead z)) (sym (append_assoc c v (near other ∷ w)))
      ∙ (ahead-swap (c ++ v) (near other) (near y) w
      (sides.as_long other y (omega (arith, ap size (sides.apart _ _ _ _ across).1, size-swap u (leaf i) (leaf nil))))
      ∙ (ap (λ z. length (ahead z)) (append_assoc c v (near y ∷ w) ∙ sym wa) ∙ length-ahead t a l))

  pub at_silence : At (silence t b) a (c ++ round) g
  at_silence = subst (λ n. At (silence t b) n (c ++ round) g) same_place (subst (λ r. At r (length (ahead (c ++ round))) (c ++ round) g) (sym silenced) (at_fill (c ++ round) g))

  pub exchange_continues : Choice c (v ++ (near y ∷ w)) → continue (silence t b) a ≡ fill w (plug (near other) (fill v (below g)))
  unfolding continue fill
  exchange_continues h =
      rw (at_silence.1, at_silence.2, choice_around c round (choice-swap c v (near y) (near other) w (sides.unchosen other) h))
      (fill_append v (near other ∷ w) (below g))

  -- a delimitation around the receive is around what it becomes
  pub exchange-encloses : Choice c (v ++ (near y ∷ w)) → (d : ℕ) (r : Term) → enclosed d (way_to t a) ≡ true → 1 ≤ counts d (fill w (plug (near other) (fill v r)))
  unfolding fill enclosed
  exchange-encloses h d r e =
      let k : enclosed d (v ++ (near y ∷ w)) ≡ true = or_second (choices_enclose d h.choices) (rw (wa, any_append) at e) in
      let z : enclosed d round ≡ true = enclosed-swap d v (near other) (near y) w (sides.undelimited d other ∙ sym (sides.undelimited d y)) ∙ k in
      omega (arith, counts-enclosed round r d z, ap (counts d) (fill_append v (near other ∷ w) r))

-- below a record that stops the live way nothing is live
pub dormant : (w : Way) → live w ≡ false → (t : Term) (n : ℕ) → live (descend w t n).way ≡ false
unfolding live
dormant w e t n = rw (descend_way [] w t n, every_append (on_kind live_kind) (descend [] t n).way w, e) (and_none (every (on_kind live_kind) (descend [] t n).way))

pub stopped : (u : Prefix) (w : Way) → live_kind (kind (prefix u)) ≡ false → live (inside u ∷ w) ≡ false
unfolding live every on_kind passed
stopped u w e = rw e

-- the ways to a guard and to a live leaf part at a join
data Parting (p q : Way) : Type 0 where
  to_left : (v u w : Way) (j : Join) (x y : Term) → p ≡ v ++ (left_of j y ∷ w) → q ≡ u ++ (right_of j x ∷ w) → Parting p q
  to_right : (v u w : Way) (j : Join) (x y : Term) → p ≡ v ++ (right_of j y ∷ w) → q ≡ u ++ (left_of j x ∷ w) → Parting p q

module _ (g : Prefix) (r : Term) (x : Basic) (stops : live_kind (kind (prefix g)) ≡ false) where
  abbrev Apart : Spot → Spot → Type 0
  Apart p q = p.here ≡ under g r → q.here ≡ leaf x → live q.way ≡ true → Parting p.way q.way

  parting : (z : Way) (t : Term) (a b : ℕ) → Apart (descend z t a) (descend z t b)
  unfolding descend
  parting z (leaf y) a b ha hb l = never (cc)
  parting z (under h t) zero zero ha hb l = never (cc)
  parting z (under h t) zero (suc b) ha hb l =
      let e : h ≡ g = cc in
      clash l (dormant (inside h ∷ z) (stopped h z (ap (λ u. live_kind (kind (prefix u))) e ∙ stops)) t b)
  parting z (under h t) (suc a) zero ha hb l = never (cc)
  parting z (under h t) (suc a) (suc b) ha hb l = parting (inside h ∷ z) t a b ha hb l
  parting z (both j s t) zero b ha hb l = never (cc)
  parting z (both j s t) (suc a) zero ha hb l = never (cc)
  parting z (both j s t) (suc a) (suc b) ha hb l =
      cond_case (λ (p : Spot). Apart p (cond (ltb b (size s)) (descend (left_of j t ∷ z) s b) (descend (right_of j s ∷ z) t (b - size s)))) (ltb a (size s))
      (λ _. cond_case (λ (q : Spot). Apart (descend (left_of j t ∷ z) s a) q) (ltb b (size s)) (λ _. parting (left_of j t ∷ z) s a b)
      (λ _ ha hb l. to_left (descend [] s a).way (descend [] t (b - size s)).way z j s t (descend_way [] (left_of j t ∷ z) s a) (descend_way [] (right_of j s ∷ z) t (b - size s))))
      (λ _. cond_case (λ (q : Spot). Apart (descend (right_of j s ∷ z) t (a - size s)) q) (ltb b (size s))
      (λ _ ha hb l. to_right (descend [] t (a - size s)).way (descend [] s b).way z j t s (descend_way [] (right_of j s ∷ z) t (a - size s)) (descend_way [] (left_of j t ∷ z) s b))
      (λ _. parting (right_of j s ∷ z) t (a - size s) (b - size s))) ha hb l

frame_chosen : (j : Join) (t : Term) → frame_chooses (left_of j t) ≡ frame_chooses (right_of j t)
unfolding frame_chooses
frame_chosen choice t = refl
frame_chosen parallel t = refl

parallel_is : (j : Join) (t : Term) → frame_chooses (left_of j t) ≡ false → j ≡ parallel
unfolding frame_chooses
parallel_is choice t e = never (sym e)
parallel_is parallel t e = refl

frame_unchosen : (u : Way) (f : Frame) (w z : Way) → z ≡ u ++ (f ∷ w) → any frame_chooses z ≡ false → frame_chooses f ≡ false
unfolding any
frame_unchosen u f w z e h = (or_false (frame_chooses f) (any frame_chooses w) (or_false (any frame_chooses u) _ (rw (e, any_append) at h)).1).0

-- the meeting of a live guard and a live invoke
pub record Met (t : Term) (a b : ℕ) (r : Term) (s : Term) : Type 0 where
  pub continues : continue (silence t b) a ≡ s
  pub guard_there : (g : Term) → sub t a ≡ g → sub (silence t b) a ≡ g
  pub encloses : (d : ℕ) → enclosed d (way_to t a) ≡ true → 1 ≤ counts d s

module _ (t : Term) (a b : ℕ) (g : Prefix) (r : Term) (i : Basic) (la : StandsLive t a (under g r)) (lb : StandsLive t b (leaf i)) where
  pub exchanged_met : {s : Term} → Exchanged t a b r s → Met t a b r s
  unfolding plug below
  exchanged_met (receive-left c v u w x y wa h wb) = record {
    continues = exchange_continues (left_of parallel) (right_of parallel) left_right t a b c v u w x y (under g r) i la.at.placed la.at.stands wa lb.at.stands wb h;
    guard_there = λ k e. (at_silence (left_of parallel) (right_of parallel) left_right t a b c v u w x y k i la.at.placed e wa lb.at.stands wb).1;
    encloses = λ d. exchange-encloses (left_of parallel) (right_of parallel) left_right t a b c v u w x y (under g r) i la.at.placed la.at.stands wa lb.at.stands wb h d r;
  }
  exchanged_met (receive_right c v u w x y wa h wb) = record {
    continues = exchange_continues (right_of parallel) (left_of parallel) right_left t a b c v u w x y (under g r) i la.at.placed la.at.stands wa lb.at.stands wb h;
    guard_there = λ k e. (at_silence (right_of parallel) (left_of parallel) right_left t a b c v u w x y k i la.at.placed e wa lb.at.stands wb).1;
    encloses = λ d. exchange-encloses (right_of parallel) (left_of parallel) right_left t a b c v u w x y (under g r) i la.at.placed la.at.stands wa lb.at.stands wb h d r;
  }

  module _ (stops : live_kind (kind (prefix g)) ≡ false) (sends : guard (leaf i) ≡ false) (guarded : Guarded t) where
    free : any frame_chooses (way_to t b) ≡ false
    free = live_unchosen t b (leaf i) guarded lb sends

    pub parties_exchanged : (s : Term) × Exchanged t a b r s
    unfolding sub way_to spot_at
    parties_exchanged = go (parting g r i stops [] t a b la.at.stands lb.at.stands lb.live)
      where
        go : Parting (way_to t a) (way_to t b) → (s : Term) × Exchanged t a b r s
        go (to_left z u w j x y wa wb) =
            let q : j ≡ parallel = parallel_is j x (frame_chosen j x ∙ frame_unchosen u (right_of j x) w (way_to t b) wb free) in
            let (c, v, e, h) = split_at z (left_of parallel y) w (left_right.unchosen y) in
            (_, receive-left c v u w x y (wa ∙ (ap (λ k. z ++ (left_of k y ∷ w)) q ∙ (ap (λ k. k ++ (left_of parallel y ∷ w)) e ∙ append_assoc c v _))) h (wb ∙ ap (λ k. u ++ (right_of k x ∷ w)) q))
        go (to_right z u w j x y wa wb) =
            let q : j ≡ parallel = parallel_is j x (frame_unchosen u (left_of j x) w (way_to t b) wb free) in
            let (c, v, e, h) = split_at z (right_of parallel y) w (right_left.unchosen y) in
            (_, receive_right c v u w x y (wa ∙ (ap (λ k. z ++ (right_of k y ∷ w)) q ∙ (ap (λ k. k ++ (right_of parallel y ∷ w)) e ∙ append_assoc c v _))) h (wb ∙ ap (λ k. u ++ (left_of k x ∷ w)) q))
