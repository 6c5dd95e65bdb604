-- What a firing kill leaves of a table (specs/Moves, after_kill): the records inside the delimitation of its label, their number, depth and bytes.
use mathlib.Core.Path.{◌≡◌, refl, sym, ap, subst, ◌∙◌}
use mathlib.Core.Bool.{true, false, ◌||◌}
use mathlib.Core.Option.{some}
use mathlib.Core.List.{[], ◌∷◌, ◌++◌}
use Prim.Native.Nat.{ℕ, zero, suc, ◌+◌, ◌*◌, ◌-◌, ◌≤◌, ◌<◌}
use native.Mathlib.Omega.{arith}
use native.Mathlib.Numerals.{add-one}
use lib.Dec.{ltb, leb}
use lib.ListN.{take, drop}
use borrow.Author.Tests.{ltb-true, ltb-false, leb-true, leb-false}
use Rattle.cows.specs.Basics.{every}
use Rattle.cows.specs.Terms.{kill, receive, wait, protection, delimitation, replication, choice, parallel, Term, leaf, under, both, size, depth, kills, label, variable, bindable, below, uses, uses_basic}
use Rattle.cows.specs.Kinds.{open_kinds}
use Rattle.cows.specs.Places.{inside, left_of, right_of, Way, fill, plug, Spot, descend, spot_at, way_to, sub, enclosed, passed}
use Rattle.cows.specs.Format.{encode}
use Rattle.cows.specs.Active.{live, on_kind}
use Rattle.cows.specs.Allows.{Stands, StandsLive}
use Rattle.cows.specs.Moves.{halt, halt_under, halt_both, after_kill}
use Rattle.cows.specs.Step.{over_limits}
use Rattle.cows.specs.Within.{Right, Bound, Guarded, Within}
use Rattle.cows.proofs.Basics.{never, cond_case, cond_case₂, or_false, or_case, or_right, found_some}
use Rattle.cows.specs.Records.{At}
use Rattle.cows.proofs.Places.{size_pos, fill_spot, spot_under}
use Rattle.cows.proofs.Ways.{encode_replaced, depth-fill, size-swap}
use Rattle.cows.proofs.Stands.{right_at, scoped_at}
use Rattle.rewriting.specs.Halting.{halt_aside}
use Rattle.rewriting.proofs.Firing.{live-behind, no-under, no_both, guard-kill, guarded_at, live-kill, after-kill}
use Rattle.kill.specs.Losses.{left}
use Rattle.ways.specs.Ways.{scope_of}
use Rattle.ways.proofs.Starts.{Scope, scope_at, scope_found}
use Rattle.kill.specs.Killing.{kill_scope}
use Rattle.plans.proofs.Planning.{within_limits}

-- What is left of a term (specs/Losses) is what halting leaves of it, if the kill stands outside of it.
abbrev Outside : ℕ → ℕ → ℕ → Type 0
Outside a i n = i ≤ a → i + n ≤ a

left_out : (a i : ℕ) (t : Term) → Outside a i (size t) → left a i t ≡ size (halt t)
unfolding left size halt halt_under halt_both
left_out a i (leaf x) o = refl
left_out a i (under (receive p q ws) t) o = refl
left_out a i (under (wait n) t) o = refl
left_out a i (under protection t) o =
    cond_case (λ n. n ≡ suc (size t)) (ltb a i || leb (i + suc (size t)) a) (λ e. refl)
    (λ e. let (x, y) = or_false (ltb a i) _ e in absurd (omega (arith, o (ltb-false a i x), leb-false (i + suc (size t)) a y)))
left_out a i (under (delimitation d) t) o = ap suc (left_out a (suc i) t (λ h. omega (arith, o (omega arith))))
left_out a i (under replication t) o = ap suc (left_out a (suc i) t (λ h. omega (arith, o (omega arith))))
left_out a i (both choice s t) o = refl
left_out a i (both parallel s t) o =
    rw (left_out a (suc i) s (λ h. omega (arith, o (omega arith))), left_out a (suc i + size s) t (λ h. omega (arith, o (omega arith))))

-- If it stands in the term, it is what halting along the way to it leaves.
left_in : (w : Way) (a i m : ℕ) (t : Term) (k : ℕ) → a ≡ i + m → m < size t → Guarded t → live (descend w t m).way ≡ true → (descend w t m).here ≡ leaf (kill k) → left a i t ≡ size (halt_aside m t)
unfolding left size halt_aside descend live every on_kind passed open_kinds
left_in w a i m (leaf x) k q l g v e = refl
left_in w a i zero (under u t) k q l g v e = absurd (no-under e)
left_in w a i (suc m) (under (receive p o ws) t) k q l g v e = never (live-behind (inside (receive p o ws) ∷ w) t m v)
left_in w a i (suc m) (under (wait n) t) k q l g v e = never (live-behind (inside (wait n) ∷ w) t m v)
left_in w a i (suc m) (under protection t) k q l g v e =
    cond_case (λ n. n ≡ suc (size (halt_aside m t))) (ltb a i || leb (i + suc (size t)) a)
    (λ h. absurd (or_case ⊥ (ltb a i) _ h (λ x. omega (arith, ltb-true a i x)) (λ x. omega (arith, leb-true (i + suc (size t)) a x))))
    (λ h. ap suc (left_in (inside protection ∷ w) a (suc i) m t k (omega arith) (omega arith) g v e))
left_in w a i (suc m) (under (delimitation d) t) k q l g v e = ap suc (left_in (inside (delimitation d) ∷ w) a (suc i) m t k (omega arith) (omega arith) g v e)
left_in w a i (suc m) (under replication t) k q l g v e = ap suc (left_in (inside replication ∷ w) a (suc i) m t k (omega arith) (omega arith) g v e)
left_in w a i zero (both j s t) k q l g v e = absurd (no_both e)
left_in w a i (suc m) (both choice s t) k q l g v e = absurd (guard-kill w (both choice s t) (suc m) k refl g v e)
left_in w a i (suc m) (both parallel s t) k q l g v e =
    cond_case₂ (λ (z : Spot) (r : Term). live z.way ≡ true → z.here ≡ leaf (kill k) → suc (left a (suc i) s + left a (suc i + size s) t) ≡ size r) (ltb m (size s))
    {x = descend (left_of parallel t ∷ w) s m} {y = descend (right_of parallel s ∷ w) t (m - size s)} {u = both parallel (halt_aside m s) (halt t)} {v = both parallel (halt s) (halt_aside (m - size s) t)}
    (λ h v e. let b = ltb-true m (size s) h in rw (left_in (left_of parallel t ∷ w) a (suc i) m s k (omega arith) b g.1 v e, left_out a (suc i + size s) t (λ x. omega arith)))
    (λ h v e. let b = ltb-false m (size s) h in rw (left_out a (suc i) s (λ x. omega arith), left_in (right_of parallel s ∷ w) a (suc i + size s) (m - size s) t k (omega arith) (omega arith) g.2 v e))
    v e

-- Halting makes no term deeper.
depth-halt : (t : Term) → depth (halt t) ≤ depth t
unfolding halt halt_under halt_both depth
depth-halt (leaf x) = omega arith
depth-halt (under (receive p o ws) t) = omega arith
depth-halt (under (wait n) t) = omega arith
depth-halt (under protection t) = omega arith
depth-halt (under (delimitation d) t) = omega (arith, depth-halt t)
depth-halt (under replication t) = omega (arith, depth-halt t)
depth-halt (both choice s t) = omega arith
depth-halt (both parallel s t) = omega (arith, depth-halt s, depth-halt t)

depth_aside : (n : ℕ) (t : Term) → depth (halt_aside n t) ≤ depth t
unfolding halt_aside depth
depth_aside n (leaf x) = omega arith
depth_aside zero (under u t) = omega arith
depth_aside (suc n) (under u t) = omega (arith, depth_aside n t)
depth_aside zero (both j s t) = omega arith
depth_aside (suc n) (both j s t) =
    cond_case (λ r. depth r ≤ depth (both j s t)) (ltb n (size s)) (λ h. omega (arith, depth_aside n s, depth-halt t))
    (λ h. omega (arith, depth-halt s, depth_aside (n - size s) t))

-- A live kill stands inside the delimitation of its label.
module _ (t : Term) (w : Within t) (a k : ℕ) (l : StandsLive t a (leaf (kill k))) where
  pub is-label : label k ≡ true
  is-label = subst Right l.at.stands (right_at t a w.right)

  is_enclosed : enclosed k (way_to t a) ≡ true
  unfolding uses uses_basic
  is_enclosed =
      (subst (λ s. Bound bindable (λ x. enclosed x (way_to t a)) (uses s)) l.at.stands (scoped_at bindable t a w.formed.closed)).0
      (or_right (variable k) (label k) is-label)

  pub has_scope : (p : ℕ) × (scope_of k (way_to t a) ≡ some p)
  has_scope = found_some (scope_of k (way_to t a)) (sym (scope_found k (way_to t a)) ∙ is_enclosed)

  pub scope_place : (p : ℕ) → scope_of k (way_to t a) ≡ some p → kill_scope t a ≡ p
  unfolding kill_scope kills
  scope_place p e = rw (l.at.stands, e)

  -- It stands at place p, and its body at the next place.
  module _ (p : ℕ) (e : scope_of k (way_to t a) ≡ some p) where
    around : Scope t a (sub t a) k p
    around = scope_at t a (way_to t a) (sub t a) k p (l.at.placed, refl, refl) e

    abbrev body : Term
    body = below (sub t p)

    body_at : At t (p + 1) (inside (delimitation k) ∷ way_to t p) body
    body_at = rw (add-one p) (spot_under t p (delimitation k) body around.inside around.stands)

    scope_stands : Stands t p (under (delimitation k) body)
    scope_stands = record { placed = around.inside; stands = around.stands }

    high : a < p + size (under (delimitation k) body)
    high = omega (arith, around.ends, size_pos (sub t a), ap size around.stands)

    -- the kill's place in it
    abbrev m : ℕ
    m = a - (p + 1)

    m_is : a - p - 1 ≡ m
    m_is = omega arith

    pub body_placed : (p + 1 < size t) × (p + 1 ≤ a) × (a < p + 1 + size (sub t (p + 1)))
    unfolding size
    body_placed = (body_at.0, omega (arith, around.before), omega (arith, high, ap size body_at.1))

    body_live : StandsLive (sub t (p + 1)) m (leaf (kill k))
    body_live = rw (body_at.1, ← m_is) (live-kill k t a p body w l scope_stands around.before high)

    after : after_kill k t a ≡ fill (way_to t (p + 1)) (halt_aside m (sub t (p + 1)))
    unfolding fill plug
    after = rw (body_at.1, body_at.2, ← m_is) (after-kill k t a p body w l scope_stands around.before high)

    pub left_is : left a (p + 1) (sub t (p + 1)) ≡ size (halt_aside m (sub t (p + 1)))
    unfolding way_to sub spot_at
    left_is = left_in [] a (p + 1) m (sub t (p + 1)) k (omega (arith, body_placed)) body_live.at.placed (guarded_at t (p + 1) w.formed.guarded) body_live.live body_live.at.stands

    pub kill-size : size (after_kill k t a) + size (sub t (p + 1)) ≡ size t + left a (p + 1) (sub t (p + 1))
    kill-size = rw (left_is, after) (omega (arith, size-swap (way_to t (p + 1)) (sub t (p + 1)) (halt_aside m (sub t (p + 1))), ap size (fill_spot t (p + 1))))

    pub kill_limits : size (after_kill k t a) ≤ size t → over_limits (after_kill k t a) ≡ false
    kill_limits h =
        within_limits (after_kill k t a) (omega (arith, w.small))
        (rw after (omega (arith, depth-fill (way_to t (p + 1)) _ _ (depth_aside m (sub t (p + 1))), ap depth (fill_spot t (p + 1)), w.shallow)))

    pub kill-bytes : encode (after_kill k t a) ≡ take (16 * (p + 1)) (encode t) ++ (encode (halt_aside m (sub t (p + 1))) ++ drop (16 * (p + 1 + size (sub t (p + 1)))) (encode t))
    kill-bytes = ap encode after ∙ encode_replaced t (p + 1) body_at.0 (halt_aside m (sub t (p + 1)))
