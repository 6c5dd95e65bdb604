-- The scopes of live kills by their places: that they are where settling needs them, and that they overlap exactly where the kills clash.
use mathlib.Core.Path.{◌≡◌, refl, sym, ap, ◌∙◌}
use mathlib.Core.Option.{none, some}
use mathlib.Core.List.{List, [], ◌∷◌, ◌++◌, map, map-append}
use Prim.Native.Nat.{ℕ, zero, suc, ◌+◌, ◌<◌}
use native.Mathlib.Omega.{arith}
use lib.ListN.{length, get_or, length-append, length-map}
use Rattle.cows.specs.Basics.{any, All, place_if, or_else}
use Rattle.cows.specs.Terms.{delimitation, Term, under, size}
use Rattle.cows.proofs.Basics.{bool_case}
use Rattle.cows.proofs.Cut.{all_append}
use Rattle.joint.specs.Joint.{label_at, clash, first_clash}
use Rattle.joint.specs.Listed.{LiveKill, HasScope}
use Rattle.joint.proofs.Stops.{live-stop}
use Rattle.joint.proofs.Scoping.{stands_in}
use Rattle.joint.proofs.Listing.{scope_stands}
use Rattle.joint.proofs.Theorems.{clash_scopes}
use Rattle.ways.specs.Known.{Table}
use Rattle.ways.proofs.KnownTables.{table_size, table_ended}
use Rattle.kill.specs.Killing.{kill_scope}
use Rattle.overlaps.specs.Overlaps.{overlap, first_overlap, AllBefore}
use Rattle.stopper.proofs.Planned.{scope_there}

module _ (s ends : List ℕ) (t : Term) (h : Table s ends t) where
  -- the end of a scope
  scope_end : (a : ℕ) (q : HasScope t a (kill_scope t a)) → get_or ends (kill_scope t a) 0 ≡ kill_scope t a + size (under (delimitation (label_at t a)) q.body)
  scope_end a q =
      let z = scope_stands t a (kill_scope t a) q in
      table_ended s ends t h (kill_scope t a) z.placed ∙ ap (λ r. kill_scope t a + size r) z.stands

  pub scopes_before : (ps : List ℕ) → All (LiveKill t) ps → AllBefore (length ends) (map (kill_scope t) ps)
  scopes_before [] ls k d l = absurd (omega arith)
  scopes_before (a ∷ ps) ls zero d l = let q = scope_there t h.within a ls.0 in omega (arith, q.scope.placed, table_size s ends t h, h.end.room)
  scopes_before (a ∷ ps) ls (suc k) d l = scopes_before ps ls.1 k d (omega arith)

  overlap-clash : (a b : ℕ) → LiveKill t a → LiveKill t b → overlap ends (kill_scope t a) (kill_scope t b) ≡ clash t a b
  unfolding overlap stands_in
  overlap-clash a b x y =
      let p = scope_there t h.within a x in
      let q = scope_there t h.within b y in
      rw (scope_end a p, scope_end b q)
      (sym (clash_scopes t a b (kill_scope t a) (kill_scope t b) p.body q.body h.within (live-stop t a x) (live-stop t b y) (scope_stands t a (kill_scope t a) p) (scope_stands t b (kill_scope t b) q)))

  any_overlaps : (a : ℕ) (bs : List ℕ) → LiveKill t a → All (LiveKill t) bs → any (overlap ends (kill_scope t a)) (map (kill_scope t) bs) ≡ any (clash t a) bs
  unfolding any
  any_overlaps a [] x ls = refl
  any_overlaps a (b ∷ bs) x ls = rw (overlap-clash a b x ls.0, any_overlaps a bs x ls.1)

  overlaps_of : (a : ℕ) (before ps : List ℕ) → LiveKill t a → All (LiveKill t) before → All (LiveKill t) ps
      → any (overlap ends (kill_scope t a)) (map (kill_scope t) before ++ map (kill_scope t) ps) ≡ any (clash t a) (before ++ ps)
  overlaps_of a before ps x bs ls = ap (any (overlap ends (kill_scope t a))) (sym (map-append (kill_scope t) before ps)) ∙ any_overlaps a (before ++ ps) x (all_append (LiveKill t) before ps bs ls)

  -- none overlaps another where none clashes, and else the first that does is the first that clashes
  pub clash_none : (before ps : List ℕ) → All (LiveKill t) before → All (LiveKill t) ps → first_overlap ends (map (kill_scope t) before) (map (kill_scope t) ps) ≡ none → first_clash t before ps ≡ none
  unfolding first_overlap first_clash place_if or_else
  clash_none before [] bs ls e = refl
  clash_none before (a ∷ ps) bs ls e =
      let z = overlaps_of a before ps ls.0 bs ls.1 in
      bool_case _ (any (clash t a) (before ++ ps))
      (λ c. let x : some _ ≡ none = rw (z, c) at e in absurd cc)
      (λ c. rw c (clash_none (before ++ (a ∷ [])) ps (all_append (LiveKill t) before (a ∷ []) bs (ls.0, tt)) ls.1 (rw (z, c, sym (map-append (kill_scope t) before (a ∷ []))) at e)))

  pub clash_some : (before ps : List ℕ) → All (LiveKill t) before → All (LiveKill t) ps → (i : ℕ) → first_overlap ends (map (kill_scope t) before) (map (kill_scope t) ps) ≡ some i
      → (k : ℕ) × (i ≡ length before + k) × (k < length ps) × (first_clash t before ps ≡ some (get_or ps k 0))
  unfolding first_overlap first_clash place_if or_else
  clash_some before [] bs ls i e = absurd cc
  clash_some before (a ∷ ps) bs ls i e =
      let z = overlaps_of a before ps ls.0 bs ls.1 in
      bool_case _ (any (clash t a) (before ++ ps))
      (λ c. let x : some (length (map (kill_scope t) before)) ≡ some i = rw (z, c) at e in
      let n : length (map (kill_scope t) before) ≡ i = cc in
      (0, omega (arith, n, length-map before (kill_scope t)), omega arith, rw c))
      (λ c. let w = clash_some (before ++ (a ∷ [])) ps (all_append (LiveKill t) before (a ∷ []) bs (ls.0, tt)) ls.1 i (rw (z, c, sym (map-append (kill_scope t) before (a ∷ []))) at e) in
      (suc w.0, omega (arith, w.1, length-append before (a ∷ [])), omega (arith, w.2), rw c w.3))
