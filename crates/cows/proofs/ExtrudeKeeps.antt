-- Extrusion leaves a part (proofs/Parts): a delimitation that changes places with a fitting parent.
use mathlib.Core.Path.{◌≡◌, subst, ap, ◌∙◌}
use mathlib.Core.Bool.{true, false}
use mathlib.Core.Option.{some}
use mathlib.Core.List.{[], ◌∷◌}
use Prim.Native.Nat.{ℕ}
use Rattle.cows.specs.Terms.{delimitation, Term, under, prefixed, delimits, below}
use Rattle.cows.specs.Active.{on_kind}
use Rattle.cows.specs.Kinds.{guard, guard_kind, kind}
use Rattle.cows.specs.Places.{Frame, plug, Way, fill, way_to, sub, passed}
use Rattle.cows.specs.Moves.{fitting, exchange, after_extrude}
use Rattle.cows.proofs.Places.{fill_spot}
use Rattle.cows.proofs.Stands.{looks, prefixed_is}
use Rattle.cows.proofs.Parts.{Part, whole, outward, fill_part}
use Rattle.cows.proofs.Rows.{plug-kind, floats_guard}

-- a fitting parent is no guard
fitting-guard : (f : Frame) (w : Way) (s : Term) → fitting (f ∷ w) ≡ true → guard (plug f s) ≡ false
unfolding fitting on_kind guard
fitting-guard f w s h = ap guard_kind (plug-kind f s) ∙ floats_guard (kind (passed f)) h

part_exchange : (d : ℕ) (s : Term) (w : Way) → fitting w ≡ true → Part true (fill w (under (delimitation d) s)) (exchange d s w)
unfolding exchange fill fitting
part_exchange d s [] h = whole
part_exchange d s (f ∷ w) h = fill_part w (outward d f s (fitting-guard f w s h))

pub part_extrude : (d : ℕ) (t : Term) (n : ℕ) → prefixed delimits (sub t n) ≡ some d → fitting (way_to t n) ≡ true → Part true t (after_extrude d t n)
unfolding after_extrude below
part_extrude d t n e h =
    subst (λ s. Part true s (after_extrude d t n)) (fill_spot t n)
    (rw (prefixed_is delimits delimitation (λ u. (looks u).delimiting) (sub t n) d e) (part_exchange d (below (sub t n)) (way_to t n) h))
