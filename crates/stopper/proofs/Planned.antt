-- The plan of a single kill (crate kill) tells whether it is live, where its scope stands, and how many records it takes away.
use mathlib.Core.Path.{◌≡◌, refl, sym, subst, ◌∙◌}
use mathlib.Core.Logic.{⊎_elim}
use Prim.Native.Nat.{ℕ}
use native.Mathlib.Omega.{arith}
use Rattle.cows.specs.Basics.{place_if, refuse, accept, ◌>>=◌, ◌>>◌, forbid}
use Rattle.cows.specs.Terms.{Term, size, kills, below}
use Rattle.cows.specs.Places.{way_to, sub}
use Rattle.cows.specs.Active.{wanted}
use Rattle.cows.specs.Moves.{after_kill, kill_at}
use Rattle.cows.specs.Within.{Within}
use Rattle.cows.proofs.Basics.{same_accept}
use Rattle.joint.specs.Joint.{label_at}
use Rattle.joint.specs.Listed.{LiveKill, HasScope}
use Rattle.joint.proofs.Stops.{live-label}
use Rattle.joint.proofs.Judging.{kill-wanted}
use Rattle.joint.proofs.Pruning.{smaller_kill}
use Rattle.joint.proofs.Listing.{not-both, live_or}
use Rattle.ways.proofs.Starts.{scope_at}
use Rattle.std.specs.Prelude as rust
use Rattle.std.specs.Prelude.{Ok, Err}
use Rattle.plans.specs.declared.Refusal.{Refusal}
use Rattle.plans.specs.declared.Plan.{Plan}
use Rattle.plans.specs.Plans.{limited, Allowed, Planned}
use Rattle.plans.proofs.Planning.{never_accepts, within_limits}
use Rattle.kill.specs.Killing.{kill_scope}
use Rattle.kill.proofs.Left.{has_scope, scope_place}

module _ (t : Term) (w : Within t) (a : ℕ) where
  -- the single move
  fires : (l : LiveKill t a) → kill_at t a ≡ accept (after_kill (label_at t a) t a)
  unfolding kill_at ◌>>=◌
  fires l = rw (kill-wanted t a l, live-label t a l)

  limited-live : LiveKill t a → limited (kill_at t a) ≡ accept (size (after_kill (label_at t a) t a))
  unfolding limited ◌>>=◌ ◌>>◌ forbid place_if
  limited-live l =
      let (i, j) = smaller_kill (label_at t a) t a in
      rw (fires l, within_limits (after_kill (label_at t a) t a) (omega (arith, w.small)) (omega (arith, w.shallow)))

  limited_dead : wanted kills t a ≡ refuse 11 a → limited (kill_at t a) ≡ refuse 11 a
  unfolding limited kill_at ◌>>=◌
  limited_dead e = rw e

  -- a live kill stands inside its scope
  pub scope_there : LiveKill t a → HasScope t a (kill_scope t a)
  scope_there l =
      let (p, e) = has_scope t w a l.label l.kill in
      let q = scope_at t a (way_to t a) (sub t a) l.label p (l.kill.at.placed, refl, refl) e in
      subst (HasScope t a) (sym (scope_place t w a l.label l.kill p e))
      (record { live = l; body = below (sub t p); scope = record { placed = q.inside; stands = q.stands } })

  -- an allowed kill
  module _ {p : Plan} (h : Allowed (kill_at t a) (kill_scope t a) p) where
    pub allowed_live : LiveKill t a
    allowed_live = ⊎_elim (λ l. l) (λ d. not-both (sym (limited_dead d) ∙ sym h.judged)) (live_or t a)

    pub allowed_left : p.records ≡ size (after_kill (label_at t a) t a)
    allowed_left = same_accept (h.judged ∙ limited-live allowed_live)

  -- one that is refused
  pub else_dead : (j : rust.Result Plan Refusal) → Planned (kill_at t a) (kill_scope t a) j → ((p : Plan) → j ≡ Ok p → ⊥) → wanted kills t a ≡ refuse 11 a
  else_dead (Ok p) h k = absurd (k p refl)
  else_dead (Err r) h k = ⊎_elim (λ l. absurd (never_accepts r _ (h.judged ∙ limited-live l))) (λ d. d) (live_or t a)
