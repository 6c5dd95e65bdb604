-- Down a way by the ends of terms, a record at a time, and what each step adds to the answer.
use mathlib.Core.Path.{◌≡◌, refl, sym, ap, subst, ◌∙◌}
use mathlib.Core.Logic.{◌≢◌}
use mathlib.Core.Bool.{true, false, cond}
use mathlib.Core.Option.{some}
use mathlib.Core.List.{List, [], ◌∷◌}
use Prim.Native.Nat.{ℕ, suc, ◌+◌, ◌*◌, ◌-◌, ◌≤◌, ◌<◌}
use native.Mathlib.Omega.{arith}
use native.Mathlib.Numerals.{add-one}
use lib.Dec.{eqb}
use lib.ListN.{length, get_or, length-append}
use borrow.Author.Tests.{eq-eqb, ne_eqb}
use Rattle.cows.specs.Basics.{every}
use Rattle.cows.specs.Terms.{Term, leaf, under, both, size, delimits_at}
use Rattle.cows.specs.Kinds.{kind_of, live_kind}
use Rattle.cows.specs.Places.{Frame, inside, left_of, right_of, plug, Spot, spot_at, way_to, sub}
use Rattle.cows.specs.Active.{live, on_kind}
use Rattle.cows.specs.Records.{At, ahead, opens}
use Rattle.cows.specs.Within.{Formed}
use Rattle.cows.proofs.Basics.{true_and, found_some, lt_case}
use Rattle.cows.proofs.Format.{length-nodes}
use Rattle.cows.proofs.Rows.{plug-kind}
use Rattle.cows.proofs.Places.{descend-first, spot_under, spot_left, spot_right}
use Rattle.cows.proofs.Ways.{length-ahead}
use Rattle.cows.proofs.Reach.{is_delimits_at, reaches_enclosed}
use Rattle.cows.proofs.Scans.{shut_below}
use Rattle.records.specs.Holds.{Holds}
use Rattle.records.proofs.StandsIn.{holds_kind}
use Rattle.ways.specs.Known.{Table, Known}
use Rattle.ways.specs.Ways.{start_of, scope_of, Over, Step, parent_of}
use Rattle.ways.proofs.Frames.{frame_choice, frame_delimits_lem}
use Rattle.ways.proofs.Starts.{scope_at, scope_found}
use Rattle.ways.proofs.Once.{one_delimitation}
use Rattle.ways.proofs.Parts.{part_ends}

-- at the root
pub way_root : (t : Term) → way_to t 0 ≡ []
unfolding way_to spot_at
way_root t = ap (λ (z : Spot). z.way) (descend-first [] t)

pub over_root : (t : Term) (a : ℕ) → a < size t → Over t 0 a
unfolding sub spot_at
over_root t a l = record { inside = omega arith; low = omega arith; over = omega (arith, ap (λ (z : Spot). size z.here) (descend-first [] t)) }

-- a step: to the first child, or to the second if the place lies behind the first
module _ (t : Term) (p a : ℕ) (o : Over t p a) (b : p < a) where
  step_to : (q : ℕ) (f : Frame) (c : Term) → At t q (f ∷ way_to t p) c → sub t p ≡ plug f c → p < q → q ≤ a → a < q + size c → Step t p a q
  step_to q f c (l, s, w) e n i r =
      record { frame = f; way = w; stands = e ∙ ap (plug f) (sym s); further = n; over = record { inside = l; low = i; over = omega (arith, ap size s) } }

  module _ (end : ℕ) (at : p + 1 < size t → end ≡ p + 1 + size (sub t (p + 1))) where
    first-end : (c : Term) → suc p < size t → sub t (suc p) ≡ c → end ≡ suc p + size c
    first-end c l s = rw add-one at at l ∙ ap (λ x. suc p + size x) s

    pub step_first : a < end → Step t p a (p + 1)
    unfolding size plug
    step_first h = rw add-one (go (sub t p) refl)
      where
        go : (s : Term) → sub t p ≡ s → Step t p a (suc p)
        go (leaf x) z = absurd (omega (arith, o.over, ap size z))
        go (under u c) z = step_to (suc p) (inside u) c (spot_under t p u c o.inside z) z (omega arith) (omega arith) (omega (arith, o.over, ap size z))
        go (both j c d) z =
            let k = spot_left t p j c d o.inside z in
            step_to (suc p) (left_of j d) c k z (omega arith) (omega arith) (omega (arith, first-end c k.0 k.1))

    pub step_second : end ≤ a → Step t p a end
    unfolding size plug
    step_second h = go (sub t p) refl
      where
        go : (s : Term) → sub t p ≡ s → Step t p a end
        go (leaf x) z = absurd (omega (arith, o.over, ap size z))
        go (under u c) z = let k = spot_under t p u c o.inside z in absurd (omega (arith, first-end c k.0 k.1, o.over, ap size z))
        go (both j c d) z =
            let k = spot_left t p j c d o.inside z in
            let f = first-end c k.0 k.1 in
            step_to end (right_of j c) d (subst (λ n. At t n (right_of j c ∷ way_to t p) d) (sym f) (spot_right t p j c d o.inside z)) z (omega arith) h (omega (arith, o.over, ap size z))

-- the answers after a step, by the record that it leaves
module _ {t : Term} {p a q : ℕ} (o : Over t p a) (x : Step t p a q) where
  pub step_count : length (way_to t q) ≡ length (way_to t p) + 1
  step_count = rw x.way (omega arith)

  pub step_parent : parent_of (way_to t q) ≡ p
  unfolding parent_of
  step_parent = rw x.way (length-ahead t p o.inside)

  pub step_scope : (d : ℕ) → delimits_at d (sub t p) ≡ false → scope_of d (way_to t q) ≡ scope_of d (way_to t p)
  unfolding scope_of
  step_scope d e = rw (x.way, frame_delimits_lem d x.frame (sub t q), ← x.stands, e)

  module _ (s : List ℕ) (h : Holds s t) where
    kind-left : get_or s (16 * p) 0 ≡ kind_of (plug x.frame (sub t q))
    kind-left = holds_kind s t p h o.inside ∙ ap kind_of x.stands

    pub step_live : live_kind (get_or s (16 * p) 0) ≡ true → live (way_to t p) ≡ true → live (way_to t q) ≡ true
    unfolding live every on_kind
    step_live k l = rw x.way (true_and (ap live_kind (sym (plug-kind x.frame (sub t q)) ∙ sym kind-left) ∙ k) l)

    step_start : start_of q (way_to t q) ≡ cond (eqb (get_or s (16 * p) 0) 5) (start_of p (way_to t p)) q
    unfolding start_of
    step_start = rw (x.way, frame_choice x.frame (sub t q), ← kind-left, length-ahead t p o.inside)

    pub same_start : get_or s (16 * p) 0 ≡ 5 → start_of q (way_to t q) ≡ start_of p (way_to t p)
    same_start e = step_start ∙ rw (eq-eqb _ _ e)

    pub new-start : get_or s (16 * p) 0 ≢ 5 → start_of q (way_to t q) ≡ q
    new-start e = step_start ∙ rw (ne_eqb _ _ e)

-- between a record on the way and the next none is on the way
module _ {t : Term} {p a q : ℕ} (o : Over t p a) (x : Step t p a q) where
  next_place : q ≡ p + length (opens x.frame)
  unfolding ahead
  next_place =
      sym (length-ahead t q x.over.inside) ∙ ap (λ w. length (ahead w)) x.way
      ∙ length-append (ahead (way_to t p)) (opens x.frame) ∙ ap (λ n. n + length (opens x.frame)) (length-ahead t p o.inside)

  pub step_between : (r : ℕ) → Over t r a → p < r → q ≤ r
  unfolding opens plug
  step_between r v l = go x.frame refl
    where
      go : (f : Frame) → x.frame ≡ f → q ≤ r
      go (inside u) e = omega (arith, next_place, ap (λ f. length (opens f)) e)
      go (left_of j s) e = omega (arith, next_place, ap (λ f. length (opens f)) e)
      go (right_of j s) e =
          let z : sub t p ≡ both j s (sub t q) = x.stands ∙ ap (λ f. plug f (sub t q)) e in
          let k = spot_left t p j s (sub t q) o.inside z in
          let n : length (opens x.frame) ≡ suc (size s) = ap (λ f. length (opens f)) e ∙ ap suc (length-nodes s) in
          let y : q ≡ suc p + size s = omega (arith, next_place, n) in
          let u : size (sub t (suc p)) ≡ size s = ap size k.1 in
          lt_case (q ≤ r) r q
          (λ m. absurd (let w = part_ends t (suc p) r k.0 (omega arith) (omega (arith, u)) in omega (arith, w, u, y, v.over, x.over.low)))
          (λ m. m)

  -- what holds of the records above p, and of p, holds of those above the next
  pub above_next : (P : ℕ → Type 0) → ((r : ℕ) → Over t r a → r < p → P r) → P p → (r : ℕ) → Over t r a → r < q → P r
  above_next P h e r v l =
      lt_case (P r) r p (h r v)
      (λ m. lt_case (P r) p r (λ n. absurd (omega (arith, step_between r v n))) (λ n. subst P (let z : p ≡ r = omega arith in z) e))

-- below a record that lets nothing through, nothing is live
pub stop-live : {s : List ℕ} {t : Term} {p a : ℕ} → Holds s t → Over t p a → p < a → live_kind (get_or s (16 * p) 0) ≡ false → live (way_to t a) ≡ false
unfolding live
stop-live {s = s} {t = t} {p = p} {a = a} h o b k = shut_below live_kind t p o.inside (ap live_kind (sym (holds_kind s t p h o.inside)) ∙ k) a b o.over

-- the delimitation of an atom on the way is the one that encloses the place, since no atom is delimited twice
pub stop_scope : {t : Term} {p a : ℕ} → Formed t → a < size t → Over t p a → p < a → (d : ℕ) → delimits_at d (sub t p) ≡ true → scope_of d (way_to t a) ≡ some p
stop_scope {t = t} {p = p} {a = a} f i o b d e =
    let (r, x) = found_some (scope_of d (way_to t a)) (sym (scope_found d (way_to t a)) ∙ reaches_enclosed t d a i (p, b, e, o.over)) in
    let y = scope_at t a (way_to t a) (sub t a) d r (i, refl, refl) x in
    x ∙ ap some (one_delimitation t f d r p y.inside o.inside (is_delimits_at d (sub t r) _ y.stands) e)

-- On a table: the walk comes nearer with each step, and ends at the place.
pub step_less : {s ends : List ℕ} {p a q : ℕ} (k : Known s ends) → ((t : Term) → Table s ends t → Step t p a q) → a - q < a - p
step_less k f = let x = f k.term k.table in omega (arith, x.further, x.over.low)

pub at_end : {A : Type 0} {t : Term} {p a : ℕ} (f : ℕ → A) → Over t p a → a ≤ p → f p ≡ f a
at_end {p = p} {a = a} f o l = ap f (let z : p ≡ a = omega (arith, o.low) in z)
