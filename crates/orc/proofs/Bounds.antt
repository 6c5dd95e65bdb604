-- Every refusal of a script has a number from 1 on, and a place that is at most the number of its records.
use mathlib.Core.Path.{◌≡◌, ap, ◌∙◌}
use mathlib.Core.Bool.{Bool, ◌||◌}
use mathlib.Core.Option.{Option, none, some}
use mathlib.Core.List.{List, [], ◌∷◌, ◌++◌}
use Prim.Native.Nat.{ℕ, suc, ◌+◌, ◌*◌, ◌/◌, ◌≤◌, ◌<◌}
use native.Mathlib.Omega.{arith}
use lib.Dec.{ltb}
use lib.ListN.{length, replicate, length-map}
use Rattle.cows.specs.Basics.{found_with, member, place_if, or_else}
use Rattle.cows.specs.Terms.{optional, size}
use Rattle.cows.specs.Cut.{cut, first_failing}
use Rattle.cows.specs.Tables.{end_of, wrong_end}
use Rattle.cows.specs.Within.{nowhere}
use Rattle.cows.specs.Step.{over_limits, fitted}
use Rattle.cows.proofs.Basics.{place_if-none}
use Rattle.cows.proofs.Ends.{none-some, end_bounds}
use Rattle.cows.proofs.Cut.{failing_below, length_cut}
use Rattle.cows.proofs.Bounds.{Below, place_below, shape_below, of_bind, of_forbid}
use Rattle.orc.specs.Expressions.{Orc, act, composed, records_in, bound, over_left, over_right, bound_in}
use Rattle.orc.specs.Scripts.{OrcNode, parts, right_record8, read_orc_node, nodes_of, expression, wrong_script, wrong_endpoint, first_deep, misplaced, misbound, out_of_scope, judge_script}
use Rattle.orc.specs.Translation.{translation, judge_orc}
use Rattle.orc.proofs.Format.{length_nodes8}
use Rattle.orc.proofs.Scripts.{right_start, misplaced-none}

-- the first of two places is one of them
first_place : (P : ℕ → Type 0) (x y : Option ℕ) → ((p : ℕ) → x ≡ some p → P p) → ((p : ℕ) → y ≡ some p → P p) → (p : ℕ) → or_else x y ≡ some p → P p
unfolding or_else
first_place P none y f g p e = g p e
first_place P (some q) y f g p e = f p e

-- 31: a record that is too deep is one of them, and a wrong shape is seen behind the last at most
deep-below : (ds : List ℕ) (n : ℕ) (rs : List OrcNode) (p : ℕ) → first_deep ds n rs ≡ some p → p < n + length rs
unfolding first_deep
deep-below [] n [] p e = none-some e
deep-below [] n (r ∷ rs) p e = none-some e
deep-below (d ∷ ds) n [] p e = none-some e
deep-below (d ∷ ds) n (r ∷ rs) p e =
    first_place (λ q. q < n + suc (length rs)) (place_if (ltb 64 d) n) (first_deep (replicate (parts r) (suc d) ++ ds) (suc n) rs) (place_below _ n (n + suc (length rs)) (omega arith))
    (λ q h. omega (arith, deep-below (replicate (parts r) (suc d) ++ ds) (suc n) rs q h)) p e

pub misplaced-below : (ns : List OrcNode) (p : ℕ) → misplaced ns ≡ some p → p ≤ length ns
unfolding misplaced
misplaced-below ns p e =
    first_place (λ q. q ≤ length ns) (first_deep (1 ∷ []) 0 ns) (wrong_end (length ns) (end_of parts 1 0 ns)) (λ q h. omega (arith, deep-below (1 ∷ []) 0 ns q h))
    (shape_below (length ns) (end_of parts 1 0 ns) (λ k h. omega (arith, end_bounds parts 1 0 ns k h))) p e

-- 32: one of the expression's records
pub misbound-below : (E : ℕ → Bool) (seen : List ℕ) (n : ℕ) (e : Orc) (p : ℕ) → misbound E seen n e ≡ some p → p < n + records_in e
unfolding misbound records_in
misbound-below E seen n (act x) p h = place_below (out_of_scope E x) n (n + 1) (omega arith) p h
misbound-below E seen n (composed c f g) p h =
    let z = n + suc (records_in f + records_in g) in
    first_place (λ q. q < z) (place_if (found_with (λ x. member x seen) (bound c)) n) _ (place_below _ n z (omega arith))
    (first_place (λ q. q < z) (misbound (over_left c E) (optional (bound c) ++ seen) (suc n) f) _
    (λ q k. omega (arith, misbound-below (over_left c E) (optional (bound c) ++ seen) (suc n) f q k))
    (λ q k. omega (arith, misbound-below (over_right c E) (bound_in f ++ (optional (bound c) ++ seen)) (suc n + records_in f) g q k))) p h

length-nodes_of : (b : List ℕ) → length (nodes_of b) ≡ length b / 8
length-nodes_of b = length-map (cut 8 b) read_orc_node ∙ length_cut 8 b

-- all of them, below any number over 512
pub below_orc : (limit : ℕ) → 512 < limit → (b : List ℕ) (p o room : ℕ) → Below limit (judge_orc b p o room)
unfolding judge_orc judge_script fitted
below_orc limit few b p o room =
    of_bind _ _ _
    (of_forbid _ 30 (place_if (wrong_script b || wrong_endpoint p o) 0) _ (λ q h. (omega arith, place_below _ 0 limit (omega arith) q h))
    (λ h₁. let (l, z, x, y) = right_start b p o (place_if-none _ 0 h₁) in
    of_forbid _ 30 (first_failing right_record8 0 (cut 8 b)) _ (λ q h. (omega arith, omega (arith, failing_below right_record8 0 (cut 8 b) q h, length_cut 8 b)))
    (λ h₂. of_forbid _ 31 (misplaced (nodes_of b)) _ (λ q h. (omega arith, omega (arith, misplaced-below (nodes_of b) q h, length-nodes_of b)))
    (λ h₃. of_forbid _ 32 (misbound nowhere [] 0 (expression (nodes_of b))) _
    (λ q h. (omega arith, omega (arith, misbound-below nowhere [] 0 (expression (nodes_of b)) q h, length_nodes8 (expression (nodes_of b)), ap length (misplaced-none (nodes_of b) h₃).0, length-nodes_of b)))
    (λ _. tt)))))
    (λ e _. of_forbid _ 20 (place_if (over_limits (translation p o e)) 0) _ (λ q h. (omega arith, place_below _ 0 limit (omega arith) q h))
    (λ _. of_forbid _ 21 (place_if (ltb room (16 * size (translation p o e))) 0) _ (λ q h. (omega arith, place_below _ 0 limit (omega arith) q h)) (λ _. tt)))
