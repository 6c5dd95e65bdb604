-- The successor that the moves compute (specs/Moves) is the one that the rules allow (specs/Allows), on every term within the limits:
-- successor_allows and allows_successor; so the rules allow at most one successor of a move, allows_unique.
use mathlib.Core.Path.{◌≡◌, refl, sym, ap, subst, ◌∙◌}
use mathlib.Core.Bool.{true, false, not, ◌||◌}
use mathlib.Core.Option.{Option, none, some}
use mathlib.Core.List.{[], ◌∷◌, ◌++◌, map}
use Prim.Native.Nat.{ℕ, ◌≤◌}
use native.Mathlib.Omega.{arith}
use lib.Dec.{eqb}
use lib.ListN.{length}
use borrow.Author.Tests.{eq-eqb, eqb-true, not-false}
use Rattle.cows.specs.Basics.{any, every, found_with, accept, ◌>>=◌, ◌>>◌, forbid, place_if, one_if}
use Rattle.cows.specs.Terms.{nil, kill, Prefix, receive, wait, protection, delimitation, replication, choice, parallel, Term, leaf, under, both, Action, variable, label, size, kills, invokes, prefixed, receives, waits, delimits, delimits_atom, replicates, below, uses, uses_basic, binders, atoms, invoke_of, receive_of}
use Rattle.cows.specs.Kinds.{open_kinds}
use Rattle.cows.specs.Places.{Frame, inside, left_of, right_of, plug, Way, fill, way_to, sub, first, enclosed, frame_chooses, passed}
use Rattle.cows.specs.Within.{Right, counts, Within}
use Rattle.cows.specs.Active.{wanted, on_kind}
use Rattle.cows.specs.Moves.{Substitution, binds, halt_beside, halt_inside, after_kill, kill_at, fit, matched, in_scope, held_back, tighter, silence, continue, bind, communicate_at, timeout_at, elapse_by, renaming, after_unfold, unfold_at, fitting, exchange, after_extrude, extrude_at, Move, Kill, Communicate, Timeout, Elapse, Unfold, Extrude, successor, fresh_copy}
use Rattle.cows.specs.Allows.{Stands, StandsLive, Meets, Renames, Ended, Choice, Exchanged, Replaced, Instantiated, Elapsed, Parent, on_left, on_right, protected, delimited, Allows, by_kill, by_communicate, by_timeout, by_elapse, by_unfold, by_extrude}
use Rattle.cows.proofs.Basics.{never, or_false, or_right, not_so, any_append, bind-accept, same_accept, forbid-accept, place_if-none}
use Rattle.cows.proofs.Renaming.{renaming-renames, renames_unique}
use Rattle.cows.proofs.Atoms.{few_binders, few_atoms, binders_right}
use Rattle.cows.proofs.Places.{fill_spot}
use Rattle.cows.proofs.Stands.{sub_ind, right_at, scoped_at, kills_is, invokes_is, looks, prefixed_is, wanted-live, live-wanted}
use Rattle.cows.proofs.Meeting.{fit_fits, fits_fit, matched-binds, in_scope_reaches, reaches_in_scope, held_back-unheld, unheld-held_back, tighter_tightest, tightest_tighter}
use Rattle.cows.proofs.Scopes.{counts-fill, counts-enclosed}
use Rattle.cows.proofs.Parts.{part_counts, part_silence, part_continue}
use Rattle.cows.proofs.Recordwise.{map_replaced, replaced_map, elapse_elapsed, elapsed_elapse, some-time, time_gives}
use Rattle.cows.proofs.Contexts.{halts_ended, ended_halts, halt-cut, nearest, fill-cut, live_unchosen, choice_around, choice_split, Met, exchanged_met, parties_exchanged}
use Rattle.cows.proofs.Instances.{Unique, instantiated_bind, Distinct, bind_instantiated, matches_distinct, reach_keyed}

-- a live prefix of the kind looked for
wanted-under : {A : Type 0} (f : Prefix → Option A) (g : A → Prefix) → ((u : Prefix) (x : A) → f u ≡ some x → u ≡ g x) → (t : Term) (n : ℕ) (x : A) → wanted (prefixed f) t n ≡ accept x
    → StandsLive t n (under (g x) (below (sub t n)))
wanted-under f g is t n x e = wanted-live (prefixed f) t n x _ (prefixed_is f g is (sub t n) x) e

-- kill
pub kill_fires : (t s : Term) (a : ℕ) → kill_at t a ≡ accept s → (k : ℕ) × StandsLive t a (leaf (kill k)) × (after_kill k t a ≡ s)
unfolding kill_at
kill_fires t s a e =
    let (k, ek, es) = bind-accept (wanted kills t a) _ s e in
    (k, wanted-live kills t a k _ (kills_is (sub t a) k) ek, same_accept es)

-- there is but one [k]
kill_once : (t s : Term) (a k : ℕ) (v w : Way) → Within t → sub t a ≡ s → way_to t a ≡ v ++ (inside (delimitation k) ∷ w) → enclosed k v ≡ false
unfolding delimits_atom delimits found_with
kill_once t s a k v w h q e =
    let whole : t ≡ fill w (under (delimitation k) (fill v s)) = sym (fill_spot t a) ∙ (ap (fill (way_to t a)) q ∙ fill-cut k v w (way_to t a) e s) in
    not_so (λ n. omega (arith, h.formed.unique k, ap (counts k) whole, counts-fill w (under (delimitation k) (fill v s)) k, ap one_if (eq-eqb k k refl), counts-enclosed v s k n))

kill-after : (t : Term) (a k : ℕ) (v u w : Way) → way_to t a ≡ v ++ (inside (delimitation k) ∷ w) → enclosed k v ≡ false → Ended v u
    → after_kill k t a ≡ fill w (under (delimitation k) (fill u (leaf nil)))
unfolding after_kill
kill-after t a k v u w e n h =
    ap (λ z. fill (halt_inside k z) (leaf nil)) e ∙ (ap (λ z. fill z (leaf nil)) (halt-cut k v w n)
    ∙ (fill-cut k (map halt_beside v) w _ refl (leaf nil) ∙ ap (λ z. fill w (under (delimitation k) (fill z (leaf nil)))) (sym (ended_halts h))))

-- a kill stands inside the [k] of its label
kill-enclosed : (t : Term) (a k : ℕ) → Within t → Stands t a (leaf (kill k)) → enclosed k (way_to t a) ≡ true
unfolding uses uses_basic
kill-enclosed t a k w h =
    (rw h.stands at (scoped_at (λ c. variable c || label c) t a w.formed.closed)).0
    (or_right (variable k) (label k) (subst Right h.stands (right_at t a w.right)))

-- what a live kill of k leaves: the way to it is v inside its [k] and w outside, and v becomes u
abbrev pub KillLeaves : Term → ℕ → ℕ → Term → Type 0
KillLeaves t a k s =
    (v : Way) × (u : Way) × (w : Way) × (way_to t a ≡ v ++ (inside (delimitation k) ∷ w)) × (enclosed k v ≡ false) × Ended v u
    × (s ≡ fill w (under (delimitation k) (fill u (leaf nil))))

pub kill-leaves : (t : Term) (a k : ℕ) → Within t → StandsLive t a (leaf (kill k)) → KillLeaves t a k (after_kill k t a)
kill-leaves t a k h l =
    let (v, w, c, n) = nearest k (way_to t a) (kill-enclosed t a k h l.at) in
    let d = halts_ended v (or_false (any frame_chooses v) _ (rw (c, any_append) at (live_unchosen t a (leaf (kill k)) h.formed.guarded l (unfold open_kinds in refl)))).0 in
    (v, map halt_beside v, w, c, n, d, kill-after t a k v _ w c n d)

kill_allows : (t s : Term) (a : ℕ) → Within t → kill_at t a ≡ accept s → Allows t (Kill a) s
kill_allows t s a h e =
    let (k, l, q) = kill_fires t s a e in
    let (v, u, w, c, n, d, z) = kill-leaves t a k h l in
    subst (Allows t (Kill a)) (sym z ∙ q) (by_kill a k v u w l c d)

allows_kill : (t : Term) (a k : ℕ) → StandsLive t a (leaf (kill k)) → kill_at t a ≡ accept (after_kill k t a)
unfolding kill_at ◌>>=◌ kills
allows_kill t a k l = rw (live-wanted kills t a k (leaf (kill k)) refl l)

-- communicate
meets : (t : Term) (a b : ℕ) (r m : Action) (σ : Substitution) → wanted (prefixed receives) t a ≡ accept r → wanted invokes t b ≡ accept m → fit r m ≡ binds σ
    → every (in_scope t a b) σ ≡ true → first (held_back a b) t ≡ none → first (tighter m (length σ)) t ≡ none → Meets t a b σ
meets t a b r m σ er em eσ sc hb tg =
    let f = fit_fits r m σ eσ in
    record {
      partner = m.partner;
      operation = m.operation;
      pattern = r.tuple;
      sent = m.tuple;
      body = below (sub t a);
      receiver = rw (f.partner, f.operation) at (wanted-under receives receive_of (λ u. (looks u).receiving) t a r er);
      sender = wanted-live invokes t b m _ (invokes_is (sub t b) m) em;
      closed = f.closed;
      matches = f.matches;
      scoped = in_scope_reaches t a b σ sc;
      receiver_free = (held_back-unheld t a b hb).0;
      sender_free = (held_back-unheld t a b hb).1;
      tightest = tighter_tightest t m (length σ) f.closed tg;
    }

pub communicate_meets : (t s : Term) (a b : ℕ) → communicate_at t a b ≡ accept s → (σ : Substitution) × Meets t a b σ × (bind σ (continue (silence t b) a) ≡ s)
unfolding communicate_at
communicate_meets t s a b e =
    let (r, er, e₁) = bind-accept (wanted (prefixed receives) t a) _ s e in
    let (m, em, e₂) = bind-accept (wanted invokes t b) _ s e₁ in
    let (σ, eσ, e₃) = bind-accept (matched (fit r m)) _ s e₂ in
    let (sc, e₄) = forbid-accept 13 (place_if (not (every (in_scope t a b) σ)) a) _ s e₃ in
    let (hb, e₅) = forbid-accept 14 (first (held_back a b) t) _ s e₄ in
    let (tg, e₆) = forbid-accept 15 (first (tighter m (length σ)) t) _ s e₅ in
    (σ, meets t a b r m σ er em (matched-binds (fit r m) σ eσ) (not-false _ (place_if-none _ a sc)) hb tg, same_accept e₆)

pub meets_communicate : (t : Term) (a b : ℕ) (σ : Substitution) → Meets t a b σ → communicate_at t a b ≡ accept (bind σ (continue (silence t b) a))
unfolding communicate_at ◌>>=◌ ◌>>◌ forbid matched place_if prefixed receives invokes
meets_communicate t a b σ h =
    let r : Action = record { partner = h.partner; operation = h.operation; tuple = h.pattern } in
    let m : Action = record { partner = h.partner; operation = h.operation; tuple = h.sent } in
    rw (
      live-wanted (prefixed receives) t a r (under (receive_of r) h.body) refl h.receiver,
      live-wanted invokes t b m (leaf (invoke_of m)) refl h.sender,
      fits_fit r m σ (record { closed = h.closed; partner = refl; operation = refl; matches = h.matches }),
      reaches_in_scope t a b σ h.scoped,
      unheld-held_back t a b h.receiver_free h.sender_free,
      tightest_tighter t m (length σ) h.tightest,
    )

-- what a meeting leaves before its variables are bound
module _ (t : Term) (a b : ℕ) (σ : Substitution) (h : Meets t a b σ) where
  met : {r : Term} → Exchanged t a b h.body r → Met t a b h.body r
  met = exchanged_met t a b _ h.body _ h.receiver h.sender

  exchanges : Within t → (r : Term) × Exchanged t a b h.body r
  exchanges w = parties_exchanged t a b _ h.body _ h.receiver h.sender (unfold open_kinds in refl) (unfold open_kinds in refl) w.formed.guarded

  met_unique : {r : Term} → Within t → Exchanged t a b h.body r → Unique r
  unfolding prefixed delimits
  met_unique {r} w e =
      let m = met e in
      let p = (part_continue (silence t b) a (rw (m.guard_there _ h.receiver.at.stands) refl)).1 in
      subst Unique m.continues (λ c. omega (arith, part_counts p c, part_counts (part_silence t b) c, w.formed.unique c))

  met_distinct : Within t → Distinct σ
  met_distinct w = matches_distinct h.matches (subst Right h.receiver.at.stands (right_at t a w.right)).0.3

communicate_allows : (t s : Term) (a b : ℕ) → Within t → communicate_at t a b ≡ accept s → Allows t (Communicate a b) s
communicate_allows t s a b w e =
    let (σ, h, q) = communicate_meets t s a b e in
    let (r, x) = exchanges t a b σ h w in
    let m = met t a b σ h x in
    let i = bind_instantiated σ r (met_unique t a b σ h w x) (met_distinct t a b σ h w) (reach_keyed t a b r m.encloses σ h.scoped) in
    by_communicate a b σ r s h x (subst (Instantiated σ r) (ap (bind σ) (sym m.continues) ∙ q) i)

allows_communicate : (t s : Term) (a b : ℕ) (σ : Substitution) (r : Term) → Within t → (h : Meets t a b σ) → Exchanged t a b h.body r → Instantiated σ r s
    → communicate_at t a b ≡ accept s
allows_communicate t s a b σ r w h x i =
    meets_communicate t a b σ h ∙ ap accept (ap (bind σ) (met t a b σ h x).continues ∙ instantiated_bind (met_unique t a b σ h w x) i)

-- timeout
continue-leaves : (t : Term) (a : ℕ) (u : Prefix) (r : Term) (c w : Way) → sub t a ≡ under u r → way_to t a ≡ c ++ w → Choice c w → continue t a ≡ fill w r
unfolding continue below
continue-leaves t a u r c w e q h = rw (e, q, choice_around c w h)

timeout_leaves : (t : Term) (a : ℕ) (r : Term) → StandsLive t a (under (wait 0) r) → Allows t (Timeout a) (continue t a)
timeout_leaves t a r l =
    let (c, w, q, h) = choice_split (way_to t a) in
    subst (Allows t (Timeout a)) (sym (continue-leaves t a (wait 0) r c w l.at.stands q h)) (by_timeout a r c w l q h)

timeout_allows : (t s : Term) (a : ℕ) → timeout_at t a ≡ accept s → Allows t (Timeout a) s
unfolding timeout_at
timeout_allows t s a e =
    let (i, ei, e₁) = bind-accept (wanted (prefixed waits) t a) _ s e in
    let (z, e₂) = forbid-accept 16 (place_if (not (eqb i 0)) a) _ s e₁ in
    let q = eqb-true i 0 (not-false _ (place_if-none _ a z)) in
    subst (Allows t (Timeout a)) (same_accept e₂) (timeout_leaves t a (below (sub t a)) (rw q at (wanted-under waits wait (λ u. (looks u).waiting) t a i ei)))

allows_timeout : (t : Term) (a : ℕ) (r : Term) (c w : Way) → StandsLive t a (under (wait 0) r) → way_to t a ≡ c ++ w → Choice c w → timeout_at t a ≡ accept (fill w r)
unfolding timeout_at ◌>>=◌ ◌>>◌ forbid place_if prefixed waits
allows_timeout t a r c w l q h = rw (live-wanted (prefixed waits) t a 0 (under (wait 0) r) refl l) (ap accept (continue-leaves t a (wait 0) r c w l.at.stands q h))

-- elapse
elapse_allows : (t s : Term) (d : ℕ) → elapse_by t d ≡ accept s → Allows t (Elapse d) s
elapse_allows t s d e = let (z, k) = time_gives t s d e in subst (Allows t (Elapse d)) k (by_elapse d _ (omega (arith, z)) (elapse_elapsed d t))

allows_elapse : (t s : Term) (d : ℕ) → 1 ≤ d → Elapsed d t s → elapse_by t d ≡ accept s
allows_elapse t s d h e = some-time t d (λ z. omega arith) ∙ ap accept (sym (elapsed_elapse d t s e))

-- unfold: there is room for new atoms
body_right : (t s : Term) (a : ℕ) → sub t a ≡ under replication s → Right t → Right s
body_right t s a e h = (subst Right e (right_at t a h)).1

body-size : (t s : Term) (a : ℕ) → sub t a ≡ under replication s → size s ≤ size t
unfolding size
body-size t s a e = omega (arith, subst (λ r. size r ≤ size t) e (sub_ind (λ r. size r ≤ size t) (λ u r k. omega arith) (λ j q r k. omega arith) t a (omega arith)))

copy-renames : (t s : Term) (a : ℕ) → Within t → sub t a ≡ under replication s → Renames (atoms t) (binders s) (renaming (atoms t) (binders s))
copy-renames t s a w e =
    renaming-renames (atoms t) (binders s) (binders_right s (body_right t s a e w.right))
    (omega (arith, w.small, few_atoms t w.right, few_binders s, body-size t s a e))

unfolded_is : (t s c : Term) (a : ℕ) (σ : Substitution) → sub t a ≡ under replication s → renaming (atoms t) (binders s) ≡ σ → Replaced σ s c
    → after_unfold t a ≡ fill (way_to t a) (both parallel c (under replication s))
unfolding after_unfold fresh_copy below
unfolded_is t s c a σ e q h = rw (e, q, replaced_map σ s c h)

unfold_allows : (t s : Term) (a : ℕ) → Within t → unfold_at t a ≡ accept s → Allows t (Unfold a) s
unfolding unfold_at
unfold_allows t s a w e =
    let (i, ei, e₁) = bind-accept (wanted (prefixed replicates) t a) _ s e in
    let l = wanted-under replicates (λ x. replication) (λ u. (looks u).replicating) t a i ei in
    let c = map_replaced (renaming (atoms t) (binders (below (sub t a)))) (below (sub t a)) in
    subst (Allows t (Unfold a)) (sym (unfolded_is t _ _ a _ l.at.stands refl c) ∙ same_accept e₁) (by_unfold a _ _ _ l (copy-renames t _ a w l.at.stands) c)

allows_unfold : (t : Term) (a : ℕ) (s c : Term) (σ : Substitution) → Within t → StandsLive t a (under replication s) → Renames (atoms t) (binders s) σ → Replaced σ s c
    → unfold_at t a ≡ accept (fill (way_to t a) (both parallel c (under replication s)))
unfolding unfold_at ◌>>=◌ prefixed replicates
allows_unfold t a s c σ w l r h =
    let e = l.at.stands in
    rw (live-wanted (prefixed replicates) t a tt (under replication s) refl l) (ap accept (unfolded_is t s c a σ e (renames_unique (copy-renames t s a w e) r) h))

-- extrude
fitting_parent : (w : Way) → fitting w ≡ true → (f : Frame) × (v : Way) × (w ≡ f ∷ v) × Parent f
unfolding fitting on_kind passed open_kinds
fitting_parent [] e = never e
fitting_parent (inside (receive p o ws) ∷ w) e = never e
fitting_parent (inside (wait n) ∷ w) e = never e
fitting_parent (inside protection ∷ w) e = (_, w, refl, protected)
fitting_parent (inside (delimitation d) ∷ w) e = (_, w, refl, delimited)
fitting_parent (inside replication ∷ w) e = never e
fitting_parent (left_of choice t ∷ w) e = never e
fitting_parent (left_of parallel t ∷ w) e = (_, w, refl, on_left)
fitting_parent (right_of choice s ∷ w) e = never e
fitting_parent (right_of parallel s ∷ w) e = (_, w, refl, on_right)

parent_fitting : {f : Frame} (w : Way) → Parent f → fitting (f ∷ w) ≡ true
unfolding fitting on_kind passed open_kinds
parent_fitting w on_left = refl
parent_fitting w on_right = refl
parent_fitting w protected = refl
parent_fitting w delimited = refl

fitting_allows : (t : Term) (a d : ℕ) → StandsLive t a (under (delimitation d) (below (sub t a))) → label d ≡ false → fitting (way_to t a) ≡ true → Allows t (Extrude a) (after_extrude d t a)
unfolding after_extrude exchange
fitting_allows t a d l h e =
    let (f, w, q, p) = fitting_parent (way_to t a) e in
    subst (Allows t (Extrude a)) (sym (ap (exchange d (below (sub t a))) q)) (by_extrude a d (below (sub t a)) f w l h q p)

extrude_allows : (t s : Term) (a : ℕ) → extrude_at t a ≡ accept s → Allows t (Extrude a) s
unfolding extrude_at
extrude_allows t s a e =
    let (d, ed, e₁) = bind-accept (wanted (prefixed delimits) t a) _ s e in
    let (z, e₂) = forbid-accept 18 (place_if (label d || not (fitting (way_to t a))) a) _ s e₁ in
    let (h, f) = or_false (label d) (not (fitting (way_to t a))) (place_if-none _ a z) in
    subst (Allows t (Extrude a)) (same_accept e₂) (fitting_allows t a d (wanted-under delimits delimitation (λ u. (looks u).delimiting) t a d ed) h (not-false _ f))

allows_extrude : (t : Term) (a d : ℕ) (s : Term) (f : Frame) (w : Way) → StandsLive t a (under (delimitation d) s) → label d ≡ false → way_to t a ≡ f ∷ w → Parent f
    → extrude_at t a ≡ accept (fill w (under (delimitation d) (plug f s)))
unfolding extrude_at after_extrude exchange ◌>>=◌ ◌>>◌ forbid place_if prefixed delimits below
allows_extrude t a d s f w l h q p =
    rw (live-wanted (prefixed delimits) t a d (under (delimitation d) s) refl l, h, q, parent_fitting w p, l.at.stands)

-- the six together
pub successor_allows : (t s : Term) (m : Move) → Within t → successor t m ≡ accept s → Allows t m s
unfolding successor
successor_allows t s (Kill a) w e = kill_allows t s a w e
successor_allows t s (Communicate a b) w e = communicate_allows t s a b w e
successor_allows t s (Timeout a) w e = timeout_allows t s a e
successor_allows t s (Elapse d) w e = elapse_allows t s d e
successor_allows t s (Unfold a) w e = unfold_allows t s a w e
successor_allows t s (Extrude a) w e = extrude_allows t s a e

pub allows_successor : (t s : Term) (m : Move) → Within t → Allows t m s → successor t m ≡ accept s
unfolding successor
allows_successor t s m w (by_kill a k v u z l e h) = allows_kill t a k l ∙ ap accept (kill-after t a k v u z e (kill_once t _ a k v z w l.at.stands e) h)
allows_successor t s m w (by_communicate a b σ r q h x i) = allows_communicate t q a b σ r w h x i
allows_successor t s m w (by_timeout a r c z l q h) = allows_timeout t a r c z l q h
allows_successor t s m w (by_elapse d q h e) = allows_elapse t q d h e
allows_successor t s m w (by_unfold a r c σ l h k) = allows_unfold t a r c σ w l h k
allows_successor t s m w (by_extrude a d r f v l h q p) = allows_extrude t a d r f v l h q p

pub allows_unique : (t s r : Term) (m : Move) → Within t → Allows t m s → Allows t m r → s ≡ r
allows_unique t s r m w h k = same_accept (sym (allows_successor t s m w h) ∙ allows_successor t r m w k)
