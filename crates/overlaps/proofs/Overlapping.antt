-- The first of the listed terms that overlaps another (specs/Overlaps), from the i-th on: what one turn of the loop knows.
use mathlib.Core.Path.{◌≡◌, ap, ◌∙◌}
use mathlib.Core.Bool.{Bool, true, false, ◌||◌}
use mathlib.Core.List.{List, [], ◌++◌}
use mathlib.Core.Option.{none, some}
use Prim.Native.Nat.{ℕ, ◌+◌, ◌-◌, ◌≤◌, ◌<◌}
use native.Mathlib.Omega.{arith}
use lib.ListN.{length, get_or, take, drop, length-drop}
use lib.Seq.{take_all, length-take-le}
use Rattle.std.specs.List.{list_any}
use Rattle.cows.specs.Basics.{any, place_if, or_else}
use Rattle.cows.proofs.Basics.{any_append}
use Rattle.settling.proofs.Searching.{drop-end, drop_here, take_here, any_listed}
use Rattle.overlaps.specs.Overlaps.{overlap, first_overlap}

-- the i-th stands at place p; x says whether it overlaps one before it, y one behind it
module _ (ends ps : List ℕ) (i : ℕ) {p : ℕ} {x y : Bool} (h : first_overlap ends [] ps ≡ first_overlap ends (take i ps) (drop i ps)) (l : i < length ps) (at : p ≡ get_or ps i 0)
    (told : x ≡ list_any (overlap ends p) (take i ps)) (told' : y ≡ list_any (overlap ends p) (take (length ps - (i + 1)) (drop (i + 1) ps))) where
  others : any (overlap ends p) (take i ps ++ drop (i + 1) ps) ≡ (x || y)
  others =
      any_append (overlap ends p) (take i ps) (drop (i + 1) ps)
      ∙ rw (told, told', take_all (length ps - (i + 1)) (drop (i + 1) ps) (omega (arith, length-drop (i + 1) ps)), any_listed (overlap ends p) (take i ps), any_listed (overlap ends p) (drop (i + 1) ps))

  here : first_overlap ends (take i ps) (drop i ps) ≡ or_else (place_if (x || y) i) (first_overlap ends (take (i + 1) ps) (drop (i + 1) ps))
  unfolding first_overlap
  here = ap (first_overlap ends (take i ps)) (drop_here ps i l at) ∙ rw (others, length-take-le i ps (omega arith), take_here ps i l at)

  pub overlap-stop : (x || y) ≡ true → first_overlap ends [] ps ≡ some i
  unfolding place_if or_else
  overlap-stop e = h ∙ here ∙ rw e

  pub overlap-turn : (x || y) ≡ false → first_overlap ends [] ps ≡ first_overlap ends (take (i + 1) ps) (drop (i + 1) ps)
  unfolding place_if or_else
  overlap-turn e = h ∙ here ∙ rw e

pub overlap-end : (ends ps : List ℕ) (i : ℕ) → first_overlap ends [] ps ≡ first_overlap ends (take i ps) (drop i ps) → i ≤ length ps → length ps ≤ i → first_overlap ends [] ps ≡ none
unfolding first_overlap
overlap-end ends ps i h l k = h ∙ ap (first_overlap ends (take i ps)) (drop-end ps i l k)
