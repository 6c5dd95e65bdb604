-- What is left of a term is as well formed as the term: the relation Part, what it keeps, and that halts, kills, elapsed time and continuations leave parts.
use mathlib.Core.Path.{◌≡◌, refl, sym, subst, ◌∙◌}
use mathlib.Core.Bool.{Bool, true, false, ◌||◌}
use mathlib.Core.Option.{none}
use mathlib.Core.List.{[], ◌∷◌}
use Prim.Native.Nat.{ℕ, ◌-◌, ◌≤◌}
use native.Mathlib.Omega.{arith}
use lib.Dec.{eqb}
use Rattle.cows.specs.Basics.{found_with}
use Rattle.cows.specs.Terms.{nil, Prefix, receive, wait, protection, delimitation, replication, choice, parallel, Term, leaf, under, both, prefixed, delimits, delimits_atom, below, uses_basic, uses_prefix}
use Rattle.cows.specs.Kinds.{guard, prefix, kind, live_kind, open_kinds}
use Rattle.cows.specs.Places.{Frame, inside, left_of, right_of, plug, Way, fill, way_to, sub, frame_delimits, frame_chooses}
use Rattle.cows.specs.Within.{Right, Guarded, Scoped, counts, restricted, nowhere, Formed}
use Rattle.cows.specs.Moves.{halt_under, halt_both, halt, halt_beside, halt_inside, after_kill, silence, around_choice, continue, lower, elapse}
use Rattle.cows.proofs.Basics.{never, cond_case, or_right, or_swap}
use Rattle.cows.proofs.Places.{fill_spot, fill_ind, replaced}
use Rattle.cows.proofs.Scopes.{Rule, inner, Used, local, Need, Inside, Weakens, inside-refl, need_weakens, all_map, used_mono, used_scoped, scoped_used, guard-plug, guarded_plug, restricted_mono}

-- right records and right scopes
abbrev pub Sound : Term → Type 0
Sound t = Right t × Formed t

-- the same prefix, or a wait with a shorter interval
pub data Lowered : Prefix → Prefix → Type 0 where
  same : {u : Prefix} → Lowered u u
  lowered : {m n : ℕ} → n ≤ m → Lowered (wait m) (wait n)

-- Part g t r: r is what is left of t. Subterms have become nil, intervals are lowered, prefixes that delimit nothing and other sides of choices are gone,
-- and a delimitation has changed places with its parent. If g holds and t is a guard, so is r.
pub data Part : Bool → Term → Term → Type 0 where
  whole : {t : Term} → Part true t t
  cut : {t : Term} → Part true t (leaf nil)
  down : {g : Bool} {u v : Prefix} {t r : Term} → Lowered u v → Part g t r → Part true (under u t) (under v r)
  beside : {g h : Bool} {s t q r : Term} → Part g s q → Part h t r → Part true (both parallel s t) (both parallel q r)
  either : {s t q r : Term} → Part true s q → Part true t r → Part true (both choice s t) (both choice q r)
  behind : {g : Bool} {u : Prefix} {t r : Term} → delimits u ≡ none → Part g t r → Part false (under u t) r
  chose_left : {g : Bool} {s t r : Term} → Part g s r → Part false (both choice s t) r
  chose_right : {g : Bool} {s t r : Term} → Part g t r → Part false (both choice s t) r
  outward : (d : ℕ) (f : Frame) (s : Term) → guard (plug f s) ≡ false → Part true (plug f (under (delimitation d) s)) (under (delimitation d) (plug f s))

-- guards
part_guard : {t r : Term} → Part true t r → guard t ≡ true → guard r ≡ true
unfolding open_kinds plug
part_guard whole h = h
part_guard cut h = refl
part_guard (down {u = u} {t = t} {r = r} same p) h = sym (guard-plug (inside u) t r) ∙ h
part_guard (down (lowered l) p) h = h
part_guard (beside p q) h = h
part_guard (either p q) h = h
part_guard (outward d f s e) h = never (sym e ∙ (guard-plug f s (under (delimitation d) s) ∙ h))

part_guarded : {g : Bool} {t r : Term} → Part g t r → Guarded t → Guarded r
unfolding open_kinds
part_guarded whole h = h
part_guarded cut h = tt
part_guarded (down l p) h = part_guarded p h
part_guarded (beside p q) h = (tt, part_guarded p h.1, part_guarded q h.2)
part_guarded (either p q) h = ((part_guard p h.0.0, part_guard q h.0.1), part_guarded p h.1, part_guarded q h.2)
part_guarded (behind e p) h = part_guarded p h
part_guarded (chose_left p) h = part_guarded p h.1
part_guarded (chose_right p) h = part_guarded p h.2
part_guarded (outward d f s e) h = guarded_plug f (under (delimitation d) s) s never (λ k. k) h

-- scopes
outward_used : (P : Rule) → Weakens P P → (d : ℕ) (f : Frame) (s : Term) (E : ℕ → Bool) → Used P E (plug f (under (delimitation d) s)) → Used P (inner (delimitation d) E) (plug f s)
unfolding plug
outward_used P grows d f s E h = go f h
  where
    wider : Inside E (inner (delimitation d) E)
    wider a = or_right (delimits_atom a (delimitation d)) (E a)

    go : (f : Frame) → Used P E (plug f (under (delimitation d) s)) → Used P (inner (delimitation d) E) (plug f s)
    go (inside u) h = (
      all_map _ _ (λ a. grows a E _ wider) (uses_prefix u) h.0,
      used_mono P P grows (inner (delimitation d) (inner u E)) (inner u (inner (delimitation d) E)) (λ a. or_swap (delimits_atom a (delimitation d)) (delimits_atom a u) (E a)) s h.1.1,
    )
    go (left_of j t) h = (h.0.1, used_mono P P grows E _ wider t h.1)
    go (right_of j t) h = (used_mono P P grows E _ wider t h.0, h.1.1)

pub part_used : {g : Bool} {t r : Term} → Part g t r → (P : Rule) → Weakens P P → (E : ℕ → Bool) → Used P E t → Used P E r
unfolding uses_basic uses_prefix delimits_atom delimits found_with
part_used whole P w E h = h
part_used cut P w E h = tt
part_used (down {u = u} same p) P w E h = (h.0, part_used p P w (inner u E) h.1)
part_used (down (lowered l) p) P w E h = (h.0, part_used p P w E h.1)
part_used (beside p q) P w E h = (part_used p P w E h.0, part_used q P w E h.1)
part_used (either p q) P w E h = (part_used p P w E h.0, part_used q P w E h.1)
part_used (behind {t = t} e p) P w E h = part_used p P w E (subst (λ o. Used P (λ a. found_with (eqb a) o || E a) t) e h.1)
part_used (chose_left p) P w E h = part_used p P w E h.0
part_used (chose_right p) P w E h = part_used p P w E h.1
part_used (outward d f s e) P w E h = (tt, outward_used P w d f s E h)

-- delimitations
outward_counts : (d : ℕ) (f : Frame) (s : Term) (a : ℕ) → counts a (under (delimitation d) (plug f s)) ≤ counts a (plug f (under (delimitation d) s))
unfolding plug
outward_counts d (inside u) s a = omega arith
outward_counts d (left_of j t) s a = omega arith
outward_counts d (right_of j t) s a = omega arith

pub part_counts : {g : Bool} {t r : Term} → Part g t r → (a : ℕ) → counts a r ≤ counts a t
unfolding delimits_atom delimits found_with
part_counts whole a = omega arith
part_counts cut a = omega arith
part_counts (down same p) a = omega (arith, part_counts p a)
part_counts (down (lowered l) p) a = omega (arith, part_counts p a)
part_counts (beside p q) a = omega (arith, part_counts p a, part_counts q a)
part_counts (either p q) a = omega (arith, part_counts p a, part_counts q a)
part_counts (behind e p) a = omega (arith, part_counts p a)
part_counts (chose_left p) a = omega (arith, part_counts p a)
part_counts (chose_right p) a = omega (arith, part_counts p a)
part_counts (outward d f s e) a = outward_counts d f s a

-- the table of kinds
outward_right : (d : ℕ) (f : Frame) (s : Term) → Right (plug f (under (delimitation d) s)) → Right (under (delimitation d) (plug f s))
unfolding plug
outward_right d (inside u) s h = (h.1.0, (h.0, h.1.1))
outward_right d (left_of j t) s h = (h.0.0, (h.0.1, h.1))
outward_right d (right_of j t) s h = (h.1.0, (h.0, h.1.1))

part_right : {g : Bool} {t r : Term} → Part g t r → Right t → Right r
part_right whole h = h
part_right cut h = tt
part_right (down same p) h = (h.0, part_right p h.1)
part_right (down (lowered l) p) h = (omega (arith, h.0), part_right p h.1)
part_right (beside p q) h = (part_right p h.0, part_right q h.1)
part_right (either p q) h = (part_right p h.0, part_right q h.1)
part_right (behind e p) h = part_right p h.1
part_right (chose_left p) h = part_right p h.0
part_right (chose_right p) h = part_right p h.1
part_right (outward d f s e) h = outward_right d f s h

part_scoped : {g : Bool} {t r : Term} → Part g t r → (K L : ℕ → Bool) → Inside L K → Scoped K nowhere t → Scoped L nowhere r
part_scoped {t = t} {r = r} p K L k h =
    used_scoped L nowhere r
    (used_mono (Need K) (Need L) (need_weakens K L k) nowhere nowhere (inside-refl nowhere) r
    (part_used p (Need K) (need_weakens K K (inside-refl K)) nowhere (scoped_used K nowhere t h)))

part_formed : {g : Bool} {t r : Term} → Part g t r → Formed t → Formed r
part_formed {t = t} {r = r} p f =
    record {
      guarded = part_guarded p f.guarded;
      closed = part_scoped p local local (inside-refl local) f.closed;
      unique = λ a. omega (arith, part_counts p a, f.unique a);
      private = part_scoped p (restricted t) (restricted r) (λ a. restricted_mono r t a (part_counts p a)) f.private;
    }

pub part_sound : {g : Bool} {t r : Term} → Part g t r → Sound t → Sound r
part_sound p (h, f) = (part_right p h, part_formed p f)

-- in a frame, and along a way
plug_part : (f : Frame) (s r : Term) → Part true s r → Part true (plug f s) (plug f r)
unfolding plug
plug_part (inside u) s r p = down same p
plug_part (left_of choice t) s r p = either p whole
plug_part (left_of parallel t) s r p = beside p whole
plug_part (right_of choice t) s r p = either whole p
plug_part (right_of parallel t) s r p = beside whole p

pub fill_part : (w : Way) {s r : Term} → Part true s r → Part true (fill w s) (fill w r)
fill_part w {s} {r} p = fill_ind (Part true) plug_part w s r p

-- Kill: halting prunes, and so does halting beside the way.
pub part_halt : (t : Term) → Part true t (halt t)
unfolding halt halt_under halt_both
part_halt (leaf x) = cut
part_halt (under (receive p o ws) t) = cut
part_halt (under (wait n) t) = cut
part_halt (under protection t) = whole
part_halt (under (delimitation d) t) = down same (part_halt t)
part_halt (under replication t) = down same (part_halt t)
part_halt (both choice s t) = cut
part_halt (both parallel s t) = beside (part_halt s) (part_halt t)

part_halt_beside : (f : Frame) {s r : Term} → Part true s r → Part true (plug f s) (plug (halt_beside f) r)
unfolding plug halt_beside
part_halt_beside (inside u) p = down same p
part_halt_beside (left_of choice t) p = either p whole
part_halt_beside (left_of parallel t) p = beside p (part_halt t)
part_halt_beside (right_of choice t) p = either whole p
part_halt_beside (right_of parallel t) p = beside (part_halt t) p

part_halt_inside : (k : ℕ) (w : Way) {s r : Term} → Part true s r → Part true (fill w s) (fill (halt_inside k w) r)
unfolding fill halt_inside
part_halt_inside k [] p = p
part_halt_inside k (f ∷ w) {s} {r} p =
    cond_case (λ v. Part true (fill w (plug f s)) (fill v r)) (frame_delimits k f) (λ e. fill_part (f ∷ w) p) (λ e. part_halt_inside k w (part_halt_beside f p))

pub part_kill : (k : ℕ) (t : Term) (n : ℕ) → Part true t (after_kill k t n)
unfolding after_kill
part_kill k t n = subst (λ s. Part true s (after_kill k t n)) (fill_spot t n) (part_halt_inside k (way_to t n) {s = sub t n} cut)

pub part_silence : (t : Term) (n : ℕ) → Part true t (silence t n)
unfolding silence
part_silence t n = replaced (Part true) plug_part t n (leaf nil) cut

-- Elapse
lowered_by : (m d : ℕ) → Lowered (wait m) (wait (m - d))
lowered_by m d = lowered {m = m} {n = m - d} (omega arith)

lowered_lower : (d : ℕ) (u : Prefix) → Lowered u (lower d u)
unfolding lower
lowered_lower d (receive p o ws) = same
lowered_lower d (wait n) = lowered_by n _
lowered_lower d protection = same
lowered_lower d (delimitation a) = same
lowered_lower d replication = same

pub part_elapse : (d : ℕ) (t : Term) → Part true t (elapse d t)
unfolding elapse
part_elapse d (leaf x) = whole
part_elapse d (under u t) = down (lowered_lower d u) (cond_case (Part true t) (live_kind (kind (prefix u))) (λ e. part_elapse d t) (λ e. whole))
part_elapse d (both choice s t) = either (part_elapse d s) (part_elapse d t)
part_elapse d (both parallel s t) = beside (part_elapse d s) (part_elapse d t)

-- Continuation: what stands behind a prefix, in place of the whole choice.
part_below : (s : Term) → prefixed delimits s ≡ none → (g : Bool) × Part g s (below s)
unfolding below prefixed
part_below (leaf x) e = (true, cut)
part_below (under u t) e = (false, behind e whole)
part_below (both j s t) e = (true, cut)

part_around : (w : Way) {g : Bool} {s r : Term} → Part g s r → (h : Bool) × Part h (fill w s) (fill (around_choice w) r)
unfolding fill around_choice frame_chooses plug
part_around [] {g} p = (g, p)
part_around (inside u ∷ w) p = (true, fill_part w (down same p))
part_around (left_of choice t ∷ w) p = part_around w (chose_left p)
part_around (left_of parallel t ∷ w) p = (true, fill_part w (beside p whole))
part_around (right_of choice t ∷ w) p = part_around w (chose_right p)
part_around (right_of parallel t ∷ w) p = (true, fill_part w (beside whole p))

pub part_continue : (t : Term) (n : ℕ) → prefixed delimits (sub t n) ≡ none → (g : Bool) × Part g t (continue t n)
unfolding continue
part_continue t n e =
    subst (λ s. (g : Bool) × Part g s (continue t n)) (fill_spot t n) (part_around (way_to t n) (part_below (sub t n) e).1)
