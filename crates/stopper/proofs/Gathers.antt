-- Gathering the scopes of a list (specs/Gathering), from its i-th kill on: what one turn of the loop knows.
use mathlib.Core.Path.{◌≡◌, refl, sym, ap, ◌∙◌}
use mathlib.Core.List.{List, [], ◌∷◌, ◌++◌, map, map-append}
use Prim.Native.Nat.{ℕ, ◌+◌, ◌-◌, ◌≤◌, ◌<◌}
use native.Mathlib.Omega.{arith}
use native.Mathlib.Numerals.{add-one}
use lib.ListN.{length, get_or, take, drop, set}
use lib.Seq.{take-length, lt-length-set, take-suc, get_or-set_same, take-set-le}
use Rattle.cows.specs.Terms.{Term, size}
use Rattle.cows.specs.Moves.{kill_at}
use Rattle.cows.specs.Within.{Within}
use Rattle.joint.specs.Joint.{label_at, all_live}
use Rattle.joint.specs.Singly.{gone_by_all}
use Rattle.joint.proofs.Pruning.{smaller_kill}
use Rattle.joint.proofs.Listing.{live-next, dead_here}
use Rattle.std.specs.Prelude as rust
use Rattle.std.specs.Prelude.{Ok}
use Rattle.cows.specs.Basics.{refuse}
use Rattle.plans.specs.declared.Refusal.{Refusal}
use Rattle.plans.specs.declared.Plan.{Plan}
use Rattle.plans.specs.Plans.{Allowed, Planned}
use Rattle.kill.specs.Killing.{kill_scope}
use Rattle.settling.proofs.Searching.{drop-end, drop_here, take_here}
use Rattle.stopper.specs.Gathering.{AtHand}
use Rattle.stopper.proofs.Planned.{scope_there, allowed_live, allowed_left, else_dead}

-- The first i kills are live, their scopes are at hand, and what they take away is counted.
pub record Gathering (t : Term) (ps scopes : List ℕ) (i gone : ℕ) : Type 0 where
  pub live_so : all_live t ps ≡ all_live t (drop i ps)
  pub scopes_so : take i scopes ≡ map (kill_scope t) (take i ps)
  pub gone_so : gone + gone_by_all t (drop i ps) ≡ gone_by_all t ps

pub gathering_start : (t : Term) (ps scopes : List ℕ) → Gathering t ps scopes 0 0
gathering_start t ps scopes = record { live_so = refl; scopes_so = refl; gone_so = omega arith }

-- the i-th kill is at place a
module _ {t : Term} {ps scopes : List ℕ} {i gone a : ℕ} (w : Within t) (h : Gathering t ps scopes i gone) (l : i < length ps) (at : a ≡ get_or ps i 0) where
  -- it is live, and p is the plan of its move
  module _ {p : Plan} (q : Allowed (kill_at t a) (kill_scope t a) p) (n : ℕ) (whole : n ≡ size t) where
    pub from_fits : p.from < size t
    from_fits = omega (arith, q.place_is, (scope_there t w a (allowed_live t w a q)).scope.placed)

    pub left_fits : p.records ≤ n
    left_fits = omega (arith, allowed_left t w a q, (smaller_kill (label_at t a) t a).0)

    scopes_next : i < length scopes → take (i + 1) (set scopes i p.from) ≡ take i scopes ++ (kill_scope t a ∷ [])
    scopes_next k =
        rw (add-one i)
        (take-suc (set scopes i p.from) i 0 (lt-length-set scopes i p.from k)
        ∙ rw (take-set-le i scopes i p.from (omega arith), get_or-set_same scopes i p.from 0 k, q.place_is))

    pub gathering_turn : i < length scopes → Gathering t ps (set scopes i p.from) (i + 1) (gone + (n - p.records))
    gathering_turn k = record {
      live_so = h.live_so ∙ (ap (all_live t) (drop_here ps i l at) ∙ live-next t a (drop (i + 1) ps) (allowed_live t w a q));
      scopes_so = scopes_next k ∙ (rw h.scopes_so (sym (map-append (kill_scope t) (take i ps) (a ∷ []))) ∙ ap (map (kill_scope t)) (sym (take_here ps i l at)));
      gone_so = omega (arith, h.gone_so, ap (gone_by_all t) (drop_here ps i l at), allowed_left t w a q);
    }

  -- it is not
  pub gathers_absent : (j : rust.Result Plan Refusal) → Planned (kill_at t a) (kill_scope t a) j → ((p : Plan) → j ≡ Ok p → ⊥) → all_live t ps ≡ refuse 11 a
  gathers_absent j q k = h.live_so ∙ (ap (all_live t) (drop_here ps i l at) ∙ dead_here t a (drop (i + 1) ps) (else_dead t w a j q k))

-- all of them are
pub gathers_gone : {t : Term} {ps scopes : List ℕ} {i gone : ℕ} → Gathering t ps scopes i gone → i ≤ length ps → length ps ≤ i → AtHand t ps scopes gone
unfolding all_live
gathers_gone {t} {ps} {scopes} {i} {gone} h l k =
    let n : i ≡ length ps = omega arith in
    let z = drop-end ps i l k in
    record {
      all_are_live = h.live_so ∙ rw z;
      scopes_are = rw n at h.scopes_so ∙ ap (map (kill_scope t)) (take-length ps);
      gone_are = omega (arith, h.gone_so, ap (gone_by_all t) z);
    }
