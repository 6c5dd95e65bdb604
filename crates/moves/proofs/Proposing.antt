-- Laws of the moves as they are read (specs/Places): what is planned, asked and given of a move holds of the same move by another name.
use mathlib.Core.Path.{◌≡◌, sym, subst}
use mathlib.Core.List.{List}
use mathlib.Core.Option.{some}
use Prim.Native.Nat.{ℕ}
use Rattle.cows.specs.Terms.{Term}
use Rattle.cows.specs.Step.{proposed}
use Rattle.proposals.specs.declared.Move.{Move}
use Rattle.proposals.specs.Proposals.{move_of}
use Rattle.std.specs.Prelude as rust
use Rattle.plans.specs.declared.Refusal.{Refusal}
use Rattle.plans.specs.declared.Plan.{Plan}
use Rattle.plans.specs.Plans.{Planned, Asks, Gives}
use Rattle.moves.specs.Places.{plan_place}

module _ {m v : Move} (same : m ≡ v) where
  pub plans : (t : Term) (r : rust.Result Plan Refusal) → Planned (proposed (some (move_of v)) t) (plan_place v t) r → Planned (proposed (some (move_of m)) t) (plan_place m t) r
  plans t r h = subst (λ x. Planned (proposed (some (move_of x)) t) (plan_place x t) r) (sym same) h

  module _ (s ends out : List ℕ) where
    pub asked : (from : ℕ) → Asks (proposed (some (move_of m))) (plan_place m) s ends from out → Asks (proposed (some (move_of v))) (plan_place v) s ends from out
    asked from h = subst (λ x. Asks (proposed (some (move_of x))) (plan_place x) s ends from out) same h

    -- the place is that of the plan
    pub asked_at : (from place : ℕ) → ((t : Term) → plan_place v t ≡ place) → Asks (proposed (some (move_of m))) (plan_place m) s ends from out → Asks (proposed (some (move_of v))) (plan_place v) s ends place out
    asked_at from place is h = let q = asked from h in record {
      known = q.known;
      successor = q.successor;
      accepted = q.accepted;
      place_is = sym (is q.known.term);
      room = q.room;
    }

    pub given : (after : List ℕ) → Gives (proposed (some (move_of v))) s ends out after → Gives (proposed (some (move_of m))) s ends out after
    given after h = subst (λ x. Gives (proposed (some (move_of x))) s ends out after) (sym same) h
