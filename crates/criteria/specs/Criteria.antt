-- Criteria: the tests by which the open moves are listed without trying them (request 2026-01). Most of a test is what a record says by itself; what is
-- left for a pair of records is put into few numbers. For a term within the limits they agree with the rules (proofs/Theorems).
use Rattle.std.specs.Prelude.{Bool, false, not, ◌&&◌, List, [], ◌∷◌, ◌++◌, map, ℕ, suc, ◌+◌, leb, length}
use Rattle.cows.specs.Limits.{max_records, max_depth}
use Rattle.cows.specs.Terms.{Term, size, depth}
use Rattle.cows.specs.Places.{plug, Way, way_to, sub}
use Rattle.cows.specs.Moves.{Move, Kill, Communicate, Timeout, Unfold, Extrude}
use Rattle.roles.specs.Roles.{full, crowded, firing, expiring, repeating, floating, meets}
use Rattle.opening.specs.Opening.{up_from, filter, each}

-- 20 for an unfolding at place a: the table gets as many records as stand there, and what stands there goes deeper by one.
unfoldable pub unfolds : Term → ℕ → Bool
unfolds t a = leb (size t + size (sub t a)) max_records && leb (length (way_to t a) + 1 + depth (sub t a)) max_depth

-- 18 and 20 for an extrusion, by the way to the delimitation and the term s below it: there is a record above, which gets s for the delimitation and goes
-- deeper by one.
unfoldable pub lifts : Way → Term → Bool
lifts [] s = false
lifts (f ∷ w) s = leb (length w + suc (depth (plug f s))) max_depth

-- The open moves by what each record says by itself (roles, specs/Roles) and what is left for a pair, in the request's order.
unfoldable pub quick_moves : Term → List Move
quick_moves t =
    let places = up_from 0 (size t) in
    map Kill (filter (firing t) places)
    ++ (each (λ a. map (Communicate a) (filter (meets t a) places)) places
    ++ (map Timeout (filter (expiring t) places)
    ++ (map Unfold (filter (λ a. repeating t a && not (full t a)) places) ++ map Extrude (filter (λ a. floating t a && not (crowded t a)) places))))
