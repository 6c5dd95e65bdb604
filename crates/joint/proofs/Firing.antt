-- One kill of k fires: the term inside its [k] becomes r, and nothing else changes. The relation Fired, and what it does to the places outside [k].
use mathlib.Core.Path.{◌≡◌, refl, sym, ap, ◌∙◌}
use mathlib.Core.Bool.{Bool, true, false, cond, ◌&&◌, ◌||◌}
use mathlib.Core.List.{[], ◌∷◌, ◌++◌, map, append_assoc}
use Prim.Native.Nat.{ℕ, zero, suc, ◌+◌, ◌-◌, ◌≤◌, ◌<◌}
use native.Mathlib.Omega.{arith}
use borrow.Author.Tests.{eq-eqb}
use Rattle.cows.specs.Basics.{any, every, found_with, one_if}
use Rattle.cows.specs.Terms.{Basic, nil, delimitation, Term, leaf, under, both, size, delimits, delimits_atom}
use Rattle.cows.specs.Places.{Frame, inside, left_of, right_of, passed, plug, Way, fill, way_to, sub, frame_delimits, enclosed}
use Rattle.cows.specs.Kinds.{live_kind}
use Rattle.cows.specs.Active.{on_kind, live}
use Rattle.cows.specs.Within.{counts}
use Rattle.cows.specs.Moves.{halt_beside, halt_inside, after_kill}
use Rattle.cows.proofs.Basics.{never, clash, lt_case, or_both, cond_case₂, or_right, or_false, or_none, every_append}
use Rattle.cows.proofs.Places.{fill_spot, fill_append}
use Rattle.cows.proofs.Stands.{delimits-atom}
use Rattle.cows.proofs.Contexts.{halt-cut}
use Rattle.cows.proofs.Scopes.{counts-fill, counts-enclosed}
use Rattle.cows.proofs.Parts.{part_counts, part_kill}
use Rattle.joint.specs.Joint.{halt_scope}
use Rattle.joint.specs.Singly.{carried}
use Rattle.joint.proofs.Entering.{enter, way_root, way_enter, here_root, here_enter, enclosed_more, Place, root, below, on_right, on_left, place, carried_fits, carried-enter, carried_right, carried-left}

-- Fired k r t a q: the kill of k at place a of t has left q, where r stands inside its [k].
pub data Fired (k : ℕ) (r : Term) : Term → ℕ → Term → Type 0 where
  scope : (s : Term) (n : ℕ) → n < size s → ((l : ℕ) → counts l r ≤ counts l s) → Fired k r (under (delimitation k) s) (suc n) (under (delimitation k) r)
  up : (f : Frame) (s q : Term) (n : ℕ) → n < size s → Fired k r s n q → Fired k r (plug f s) (enter f n) (plug f q)

pub itself : (k : ℕ) → delimits_atom k (delimitation k) ≡ true
unfolding delimits_atom delimits found_with
itself k = eq-eqb k k refl

-- What is read off a way only up to [k] is not changed by what goes on above it.
pub up_to : {A : Type 0} (k : ℕ) (end : A) (step : Frame → A → A) (read : Way → A) → ((f : Frame) (w : Way) → read (f ∷ w) ≡ cond (frame_delimits k f) end (step f (read w)))
    → (v w : Way) → enclosed k v ≡ true → read (v ++ w) ≡ read v
unfolding enclosed any
up_to k end step read is [] w h = never h
up_to k end step read is (f ∷ v) w h =
    is f (v ++ w)
    ∙ (cond_case₂ (λ x y. x ≡ y) (frame_delimits k f) (λ e. refl) (λ e. ap (step f) (up_to k end step read is v w (rw e at h))) ∙ sym (is f v))

pub scope_more : (k : ℕ) (v w : Way) → enclosed k v ≡ true → halt_scope k (v ++ w) ≡ halt_scope k v
unfolding halt_scope
scope_more k = up_to k [] (λ f v. halt_beside f ∷ v) (halt_scope k) (λ f w. refl)

inside_more : (k : ℕ) (v w : Way) → enclosed k v ≡ true → halt_inside k (v ++ w) ≡ halt_inside k v ++ w
unfolding halt_inside enclosed any
inside_more k [] w h = never h
inside_more k (f ∷ v) w h =
    cond_case₂ (λ (x y : Way). x ≡ y ++ w) (frame_delimits k f) (λ e. refl) (λ e. ap (λ (x : Way). halt_beside f ∷ x) (inside_more k v w (rw e at h)))

-- a way cut at its nearest [k]
pub scope_cut : (k : ℕ) (v w : Way) → enclosed k v ≡ false → halt_scope k (v ++ (inside (delimitation k) ∷ w)) ≡ map halt_beside v
unfolding halt_scope enclosed any
scope_cut k [] w h = unfold frame_delimits in rw (itself k)
scope_cut k (f ∷ v) w h =
    let (a, b) = or_false (frame_delimits k f) (enclosed k v) h in
    rw a (ap (λ (x : Way). halt_beside f ∷ x) (scope_cut k v w b))

-- A kill inside its [k] fires so.
abbrev pub Fires : ℕ → Term → ℕ → Type 0
Fires k t a = Fired k (fill (halt_scope k (way_to t a)) (leaf nil)) t a (after_kill k t a)

fires_up : (k : ℕ) (f : Frame) (s : Term) (n : ℕ) → n < size s → enclosed k (way_to s n) ≡ true → Fires k s n → Fires k (plug f s) (enter f n)
unfolding after_kill
fires_up k f s n l h d =
    rw (way_enter f s n l, scope_more k (way_to s n) (f ∷ []) h, inside_more k (way_to s n) (f ∷ []) h, fill_append (halt_inside k (way_to s n)) (f ∷ []) (leaf nil))
    (unfold fill in up f s (fill (halt_inside k (way_to s n)) (leaf nil)) n l d)

after_scope : (k : ℕ) (s : Term) (n : ℕ) → n < size s → enclosed k (way_to s n) ≡ false → let t = under (delimitation k) s in
    after_kill k t (suc n) ≡ under (delimitation k) (fill (halt_scope k (way_to t (suc n))) (leaf nil))
unfolding after_kill plug enter
after_scope k s n l h =
    let f : Frame = inside (delimitation k) in
    rw (way_enter f s n l, halt-cut k (way_to s n) [] h, scope_cut k (way_to s n) [] h, fill_append (map halt_beside (way_to s n)) (f ∷ []) (leaf nil)) (unfold fill in refl)

fires_scope : (k : ℕ) (s : Term) (n : ℕ) → n < size s → enclosed k (way_to s n) ≡ false → Fires k (under (delimitation k) s) (suc n)
fires_scope k s n l h =
    let e = after_scope k s n l h in
    let t = under (delimitation k) s in
    rw e (scope s n l (λ d. omega (arith, part_counts (part_kill k t (suc n)) d, ap (counts d) e)))

-- the way to a place of the parent encloses; then the way in the child does, or the frame
pub enclosed-enter : (k : ℕ) (f : Frame) (s : Term) (n : ℕ) → n < size s → enclosed k (way_to (plug f s) (enter f n)) ≡ (enclosed k (way_to s n) || frame_delimits k f)
unfolding enclosed any
enclosed-enter k f s n l =
    ap (enclosed k) (way_enter f s n l) ∙ (enclosed_more k (way_to s n) (f ∷ []) ∙ ap (λ b. enclosed k (way_to s n) || b) (or_none (frame_delimits k f)))

enclosed-root : {A : Type 0} (k : ℕ) (t : Term) → enclosed k (way_to t 0) ≡ true → A
enclosed-root k t h = never (unfold enclosed any in sym (ap (enclosed k) (way_root t)) ∙ h)

fires_frame : (k : ℕ) (f : Frame) (s : Term) (n : ℕ) → n < size s → enclosed k (way_to s n) ≡ false → frame_delimits k f ≡ true → Fires k (plug f s) (enter f n)
unfolding frame_delimits plug enter
fires_frame k (inside u) s n l h e = rw (delimits-atom k u e) (fires_scope k s n l h)
fires_frame k (left_of j t) s n l h e = never e
fires_frame k (right_of j t) s n l h e = never e

fires_in : (k : ℕ) (f : Frame) (s : Term) (n : ℕ) → n < size s → enclosed k (way_to (plug f s) (enter f n)) ≡ true
    → (enclosed k (way_to s n) ≡ true → Fires k s n) → Fires k (plug f s) (enter f n)
fires_in k f s n l h d = go (enclosed k (way_to s n)) refl (sym (enclosed-enter k f s n l) ∙ h)
  where
    go : (b : Bool) → enclosed k (way_to s n) ≡ b → (b || frame_delimits k f) ≡ true → Fires k (plug f s) (enter f n)
    go true e x = fires_up k f s n l e (d e)
    go false e x = fires_frame k f s n l e x

pub fires : (k : ℕ) (t : Term) (a : ℕ) → a < size t → enclosed k (way_to t a) ≡ true → Fires k t a
unfolding size plug enter
fires k (leaf x) zero l h = enclosed-root k (leaf x) h
fires k (leaf x) (suc n) l h = absurd (omega arith)
fires k (under u t) zero l h = enclosed-root k (under u t) h
fires k (under u t) (suc n) l h = fires_in k (inside u) t n (omega arith) h (fires k t n (omega arith))
fires k (both j s t) zero l h = enclosed-root k (both j s t) h
fires k (both j s t) (suc n) l h =
    lt_case (Fires k (both j s t) (suc n)) n (size s)
    (λ e. fires_in k (left_of j t) s n e h (fires k s n e))
    (λ e. let z : suc (size s + (n - size s)) ≡ suc n = omega arith in
    rw z at (fires_in k (right_of j s) t (n - size s) (omega arith) (rw z h) (fires k t (n - size s) (omega arith))))

-- delimitations: t has the [k], and what r delimits
pub counts_up : (f : Frame) (s : Term) (a : ℕ) → counts a s ≤ counts a (plug f s)
unfolding fill
counts_up f s a = counts-fill (f ∷ []) s a

pub fired_counts : {k : ℕ} {r t q : Term} {a : ℕ} → Fired k r t a q → 1 ≤ counts k t
fired_counts {k = k} (scope s n l h) = omega (arith, ap one_if (itself k))
fired_counts {k = k} (up f s q n l d) = omega (arith, counts_up f s k, fired_counts d)

fired_left : {k : ℕ} {r t q : Term} {a : ℕ} → Fired k r t a q → (c : ℕ) → counts c r ≤ counts c t
fired_left (scope s n l h) c = omega (arith, h c)
fired_left (up f s q n l d) c = omega (arith, counts_up f s c, fired_left d c)

-- an atom delimited on the way to a place is delimited
way_counts : (t : Term) (n a : ℕ) → enclosed a (way_to t n) ≡ true → 1 ≤ counts a t
way_counts t n a h = omega (arith, counts-enclosed (way_to t n) (sub t n) a h, ap (counts a) (fill_spot t n))

-- beside a frame that is a join
beside-enter : (c : ℕ) (f : Frame) (s : Term) (n : ℕ) → frame_delimits c f ≡ false → n < size s → enclosed c (way_to (plug f s) (enter f n)) ≡ enclosed c (way_to s n)
beside-enter c f s n e l = enclosed-enter c f s n l ∙ (ap (λ b. enclosed c (way_to s n) || b) e ∙ or_none (enclosed c (way_to s n)))

-- The delimitation of c is around place b, which is outside [k], and not around a: then it is not inside [k].
lone_in : {k : ℕ} {r s q : Term} {n : ℕ} (f : Frame) (b c : ℕ) → n < size s → Fired k r s n q → Place f s b
    → enclosed c (way_to (plug f s) b) ≡ true → enclosed c (way_to (plug f s) (enter f n)) ≡ false → counts c (plug f s) ≤ 1
    → ((m : ℕ) → m < size s → b ≡ enter f m → enclosed c (way_to s m) ≡ true → enclosed c (way_to s n) ≡ false → counts c r ≡ 0) → counts c r ≡ 0
unfolding plug
lone_in {s = s} f b c l d root h x u rec = enclosed-root c (plug f s) h
lone_in {s = s} {n = n} f b c l d (below m i) h x u rec =
    let (p, e) = or_false (enclosed c (way_to s n)) (frame_delimits c f) (sym (enclosed-enter c f s n l) ∙ x) in
    rec m i refl (sym (beside-enter c f s m e i) ∙ h) p
lone_in {s = s} f b c l d (on_right {j = j} {r = t} m i) h x u rec =
    omega (arith, fired_left d c, way_counts t m c (sym (beside-enter c (right_of j s) t m (unfold frame_delimits in refl) i) ∙ h))
lone_in {s = s} f b c l d (on_left {j = j} {r = t} m i) h x u rec =
    omega (arith, fired_left d c, way_counts t m c (sym (beside-enter c (left_of j s) t m (unfold frame_delimits in refl) i) ∙ h))

out_enter : (k : ℕ) (f : Frame) (s : Term) (b m : ℕ) → enclosed k (way_to (plug f s) b) ≡ false → b ≡ enter f m → m < size s → enclosed k (way_to s m) ≡ false
out_enter k f s b m e z l = (or_false (enclosed k (way_to s m)) (frame_delimits k f) (sym (enclosed-enter k f s m l) ∙ (ap (λ n. enclosed k (way_to (plug f s) n)) (sym z) ∙ e))).0

-- every place of [k]s but its root is inside [k]
inside_place : {A : Type 0} (k : ℕ) (s : Term) (b : ℕ) → b < size (under (delimitation k) s) → enclosed k (way_to (under (delimitation k) s) b) ≡ false → (b ≡ 0 → A) → A
unfolding plug enter size
inside_place k s zero l e f = f refl
inside_place k s (suc n) l e f =
    let i : Frame = inside (delimitation k) in
    clash (or_right (enclosed k (way_to s n)) (frame_delimits k i) (unfold frame_delimits in itself k)) (sym (enclosed-enter k i s n (omega arith)) ∙ e)

pub lone : {k : ℕ} {r t q : Term} {a : ℕ} → Fired k r t a q → (b c : ℕ) → b < size t → enclosed k (way_to t b) ≡ false
    → enclosed c (way_to t b) ≡ true → enclosed c (way_to t a) ≡ false → counts c t ≤ 1 → counts c r ≡ 0
lone {k = k} (scope s n l h) b c i e g x u =
    inside_place k s b i e (λ z. enclosed-root c (under (delimitation k) s) (ap (λ m. enclosed c (way_to (under (delimitation k) s) m)) (sym z) ∙ g))
lone {k = k} (up f s q n l d) b c i e g x u =
    lone_in f b c l d (place f s b i) g x u (λ m j z y p. lone d m c j (out_enter k f s b m e z j) y p (omega (arith, counts_up f s c)))

-- A place outside [k] keeps its record, and the way to it from the meeting of the ways on; above, the same prefixes stand.
pub record Kept (t : Term) (a : ℕ) (q : Term) (b : ℕ) : Type 0 where
  pub low : Way
  pub high : Way
  pub high' : Way
  pub before : way_to t b ≡ low ++ high
  pub after : way_to q (carried t q b) ≡ low ++ high'
  pub lives : live high' ≡ live high
  pub encloses : (d : ℕ) → enclosed d high' ≡ enclosed d high
  pub shared : (d : ℕ) → enclosed d high ≡ true → enclosed d (way_to t a) ≡ true
  pub here : sub q (carried t q b) ≡ sub t b

pub live_more : (v w : Way) → live (v ++ w) ≡ (live v && live w)
unfolding live
live_more v w = every_append (on_kind live_kind) v w

kept_up : (f : Frame) (s q : Term) (n m : ℕ) → n < size s → m < size s → Kept s n q m → Kept (plug f s) (enter f n) (plug f q) (enter f m)
kept_up f s q n m l i k =
    record {
      low = k.low;
      high = k.high ++ (f ∷ []);
      high' = k.high' ++ (f ∷ []);
      before = way_enter f s m i ∙ (ap (λ (w : Way). w ++ (f ∷ [])) k.before ∙ append_assoc k.low k.high (f ∷ []));
      after = rw (carried-enter f s q m i) (way_enter f q (carried s q m) (carried_fits s q m) ∙ (ap (λ (w : Way). w ++ (f ∷ [])) k.after ∙ append_assoc k.low k.high' (f ∷ [])));
      lives = live_more k.high' (f ∷ []) ∙ (ap (λ b. b && live (f ∷ [])) k.lives ∙ sym (live_more k.high (f ∷ [])));
      encloses = λ d. enclosed_more d k.high' (f ∷ []) ∙ (ap (λ b. b || enclosed d (f ∷ [])) (k.encloses d) ∙ sym (enclosed_more d k.high (f ∷ [])));
      shared = λ d h.
          rw (way_enter f s n l, enclosed_more)
          (or_both {c = enclosed d (way_to s n)} (k.shared d) (λ e. e) (rw enclosed_more at h));
      here = rw (carried-enter f s q m i) (here_enter f q (carried s q m) (carried_fits s q m) ∙ (k.here ∙ sym (here_enter f s m i)));
    }

-- beside the child that changes: g is the frame of the other child before, g' after
kept-beside : (g g' : Frame) (r : Term) (m a : ℕ) (t q : Term) → m < size r → plug g r ≡ t → plug g' r ≡ q → carried t q (enter g m) ≡ enter g' m
    → live (g' ∷ []) ≡ live (g ∷ []) → ((d : ℕ) → enclosed d (g ∷ []) ≡ false) → ((d : ℕ) → enclosed d (g' ∷ []) ≡ false) → Kept t a q (enter g m)
kept-beside g g' r m a t q l et eq c lives off off' =
    record {
      low = way_to r m;
      high = g ∷ [];
      high' = g' ∷ [];
      before = ap (λ x. way_to x (enter g m)) (sym et) ∙ way_enter g r m l;
      after = rw (c, ← eq) (way_enter g' r m l);
      lives = lives;
      encloses = λ d. off' d ∙ sym (off d);
      shared = λ d h. never (sym (off d) ∙ h);
      here = rw (c, ← eq, ← et) (here_enter g' r m l ∙ sym (here_enter g r m l));
    }

no-plug : {A : Type 0} (f : Frame) (s : Term) (x : Basic) → plug f s ≡ leaf x → A
unfolding plug
no-plug (inside u) s x e = absurd (let z : ◌≡◌ {A = ℕ} 0 1 = cc in omega arith)
no-plug (left_of j t) s x e = absurd (let z : ◌≡◌ {A = ℕ} 0 1 = cc in omega arith)
no-plug (right_of j t) s x e = absurd (let z : ◌≡◌ {A = ℕ} 0 1 = cc in omega arith)

kept_in : (f : Frame) (s q : Term) (n b : ℕ) (x : Basic) → n < size s → Place f s b → sub (plug f s) b ≡ leaf x
    → ((m : ℕ) → m < size s → b ≡ enter f m → sub s m ≡ leaf x → Kept s n q m) → Kept (plug f s) (enter f n) (plug f q) b
unfolding plug
kept_in f s q n b x l root h rec = no-plug f s x (sym (here_root (plug f s)) ∙ h)
kept_in f s q n b x l (below m i) h rec = kept_up f s q n m l i (rec m i refl (sym (here_enter f s m i) ∙ h))
kept_in f s q n b x l (on_right {j = j} {r = r} m i) h rec =
    unfold live every on_kind passed enclosed any frame_delimits in
    kept-beside (right_of j s) (right_of j q) r m _ (both j s r) (both j q r) i refl refl (carried_right j s q r m i) refl (λ d. refl) (λ d. refl)
kept_in f s q n b x l (on_left {j = j} {r = r} m i) h rec =
    unfold live every on_kind passed enclosed any frame_delimits in
    kept-beside (left_of j s) (left_of j q) r m _ (both j r s) (both j r q) i refl refl (carried-left j s q r m i) refl (λ d. refl) (λ d. refl)

pub kept : {k : ℕ} {r t q : Term} {a : ℕ} → Fired k r t a q → (b : ℕ) (x : Basic) → b < size t → enclosed k (way_to t b) ≡ false → sub t b ≡ leaf x → Kept t a q b
kept {k = k} {r = r} (scope s n l h) b x i e g =
    let t = under (delimitation k) s in
    inside_place k s b i e (λ z. no-plug (inside (delimitation k)) s x (unfold plug in sym (here_root t) ∙ (ap (sub t) (sym z) ∙ g)))
kept {k = k} (up f s q n l d) b x i e g =
    kept_in f s q n b x l (place f s b i) g (λ m j z y. kept d m x j (out_enter k f s b m e z j) y)
