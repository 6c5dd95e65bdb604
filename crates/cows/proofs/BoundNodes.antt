-- Variables that take their values, record by record (bound_nodes): the records, size and depth of what instantiate and bind leave (specs/Moves).
use mathlib.Core.Path.{◌≡◌, refl, sym, ap, ap₂, subst, ◌∙◌}
use mathlib.Core.Bool.{Bool, true, false, cond, ◌||◌}
use mathlib.Core.List.{List, [], ◌∷◌, ◌++◌, map, append-nil, flat_map}
use Prim.Native.Nat.{ℕ, suc, ◌+◌, ◌≤◌}
use native.Mathlib.Omega.{arith}
use lib.Dec.{eqb}
use lib.ListN.{length}
use borrow.Author.Tests.{eqb-true, eq-eqb}
use Rattle.cows.specs.Basics.{any, found_with, All, one_if}
use Rattle.cows.specs.Terms.{Basic, nil, kill, invoke, Prefix, receive, wait, protection, delimitation, replication, Term, leaf, under, both, value, variable, label, size, depth, delimits, delimits_atom, uses_basic, uses_prefix}
use Rattle.cows.specs.Kinds.{Node, basic, prefix, join}
use Rattle.cows.specs.Format.{nodes}
use Rattle.cows.specs.Within.{nowhere, counts}
use Rattle.cows.specs.Moves.{Substitution, map_basic, map_prefix, map_node, map_atoms, image, instantiate, bind}
use Rattle.cows.specs.Records.{node_delimits, bind_node, bound_nodes}
use Rattle.cows.proofs.Basics.{clash, cond_case, or_false, or_left, not_so, eqb_swap}
use Rattle.cows.proofs.Scopes.{inner, Used, local, Need, all_map, used_any, scoped_used, one_false}
use Rattle.cows.proofs.Sets.{value-range, variable-range}
use Rattle.cows.proofs.Mapping.{counts_at}
use Rattle.cows.proofs.Parts.{Sound}
use Rattle.cows.proofs.CommunicateKeeps.{delimits_one, AllBind, sound_instantiate, all_instantiate}
use Rattle.cows.proofs.Recordwise.{of_size, of_depth, map-keeps}
use Rattle.cows.proofs.Cut.{flat_map_append}

-- two lists of records, one behind the other
pub bound_append : (σ : Substitution) (ms ns : List Node) → bound_nodes σ (ms ++ ns) ≡ bound_nodes σ ms ++ bound_nodes σ ns
bound_append σ = flat_map_append (bind_node σ)

-- where f changes no atom, it changes no record
module _ (f : ℕ → ℕ) where
  abbrev Same : ℕ → Type 0
  Same a = f a ≡ a

  list_same : (l : List ℕ) → All Same l → map f l ≡ l
  list_same [] h = refl
  list_same (a ∷ l) h = ap₂ ◌∷◌ h.0 (list_same l h.1)

  basic_same : (y : Basic) → All Same (uses_basic y) → map_basic f y ≡ y
  unfolding map_basic uses_basic
  basic_same nil h = refl
  basic_same (kill k) h = ap kill h.0
  basic_same (invoke p o ws) h = rw (h.0, h.1.0, list_same ws h.1.1)

  prefix_same : (u : Prefix) → All Same (uses_prefix u) → ((d : ℕ) → delimits_atom d u ≡ true → Same d) → map_prefix f u ≡ u
  unfolding map_prefix uses_prefix delimits_atom delimits found_with
  prefix_same (receive p o ws) h k = rw (h.0, h.1.0, list_same ws h.1.1)
  prefix_same (wait n) h k = refl
  prefix_same protection h k = refl
  prefix_same (delimitation d) h k = ap delimitation (k d (eq-eqb d d refl))
  prefix_same replication h k = refl

-- One variable x takes a value v.
module _ (x v : ℕ) where
  abbrev at : ℕ → ℕ
  at = image ((x, v) ∷ [])

  -- records that are kept, and those that go
  node_kept : (n : Node) → node_delimits x n ≡ false → bind_node ((x, v) ∷ []) n ≡ map_node at n ∷ []
  unfolding bind_node any
  node_kept n e = rw e

  node_gone : (n : Node) → node_delimits x n ≡ true → bind_node ((x, v) ∷ []) n ≡ []
  unfolding bind_node any
  node_gone n e = rw e

  -- inside [x] every record is mapped
  bound-inside : (t : Term) → counts x t ≡ 0 → bound_nodes ((x, v) ∷ []) (nodes t) ≡ nodes (map_atoms at t)
  unfolding flat_map nodes map_atoms node_delimits map_node
  bound-inside (leaf y) e = rw (node_kept (basic y) refl)
  bound-inside (under u t) e = rw (node_kept (prefix u) (one_false (delimits_atom x u) (omega arith)), bound-inside t (omega arith))
  bound-inside (both j s t) e =
      rw (node_kept (join j) refl, bound_append ((x, v) ∷ []) (nodes s) (nodes t), bound-inside s (omega arith), bound-inside t (omega arith))

  -- outside it no record uses x, so none changes
  abbrev Other : ℕ → Type 0
  Other a = eqb a x ≡ false

  other_same : (a : ℕ) → Other a → at a ≡ a
  unfolding image
  other_same a e = rw e

  delimits_other : (u : Prefix) → delimits_atom x u ≡ false → (d : ℕ) → delimits_atom d u ≡ true → at d ≡ d
  delimits_other u e d h = other_same d (not_so (λ k. clash (subst (λ y. delimits_atom y u ≡ true) (eqb-true d x k) h) e))

  use_other : variable x ≡ true → (E : ℕ → Bool) → E x ≡ false → (a : ℕ) → Need local a E → at a ≡ a
  use_other vx E o a h = other_same a (not_so (λ e.
      let z = eqb-true a x e in
      clash (subst (λ y. E y ≡ true) z (h (subst (λ y. local y ≡ true) (sym z) (or_left (variable x) (label x) vx)))) o))

  -- E is what is delimited around the term
  instantiate_around : variable x ≡ true → (E : ℕ → Bool) → E x ≡ false → (t : Term) → Used (Need local) E t → counts x t ≤ 1 → nodes (instantiate x v t) ≡ bound_nodes ((x, v) ∷ []) (nodes t)
  unfolding instantiate nodes flat_map node_delimits map_node
  instantiate_around vx E o (leaf y) h l = rw (node_kept (basic y) refl, basic_same at y (all_map _ _ (use_other vx E o) (uses_basic y) h))
  instantiate_around vx E o (under u t) h l = go (delimits_atom x u) refl (λ e k. instantiate_around vx (inner u E) (rw e k) t h.1 (omega arith))
    where
      go : (b : Bool) → delimits_atom x u ≡ b → (delimits_atom x u ≡ false → E x ≡ false → nodes (instantiate x v t) ≡ bound_nodes ((x, v) ∷ []) (nodes t))
          → nodes (cond b (map_atoms at t) (under u (instantiate x v t))) ≡ bind_node ((x, v) ∷ []) (prefix u) ++ bound_nodes ((x, v) ∷ []) (nodes t)
      go true e k = rw (node_gone (prefix u) e) (sym (bound-inside t (omega (arith, ap one_if e))))
      go false e k = rw (node_kept (prefix u) e, prefix_same at u (all_map _ _ (use_other vx E o) (uses_prefix u) h.0) (delimits_other u e), k e o)
  instantiate_around vx E o (both j s t) h l =
      rw (node_kept (join j) refl, bound_append ((x, v) ∷ []) (nodes s) (nodes t), instantiate_around vx E o s h.0 (omega arith), instantiate_around vx E o t h.1 (omega arith))

  pub instantiate-nodes : variable x ≡ true → (t : Term) → Sound t → nodes (instantiate x v t) ≡ bound_nodes ((x, v) ∷ []) (nodes t)
  instantiate-nodes vx t h = instantiate_around vx nowhere refl t (scoped_used local nowhere t h.1.closed) (h.1.unique x)

  -- size and depth
  pub instantiate-size : (t : Term) → counts x t ≤ 1 → size (instantiate x v t) + counts x t ≡ size t
  unfolding instantiate size
  instantiate-size (leaf y) l = refl
  instantiate-size (under u t) l =
      cond_case (λ r. size r + (one_if (delimits_atom x u) + counts x t) ≡ suc (size t)) (delimits_atom x u)
      (λ e. omega (arith, ap one_if e, map-keeps of_size at t)) (λ e. omega (arith, ap one_if e, instantiate-size t (omega arith)))
  instantiate-size (both j s t) l = omega (arith, instantiate-size s (omega arith), instantiate-size t (omega arith))

  pub instantiate-depth : (t : Term) → depth (instantiate x v t) ≤ depth t
  unfolding instantiate depth
  instantiate-depth (leaf y) = omega arith
  instantiate-depth (under u t) =
      cond_case (λ r. depth r ≤ suc (depth t)) (delimits_atom x u) (λ e. omega (arith, map-keeps of_depth at t)) (λ e. omega (arith, instantiate-depth t))
  instantiate-depth (both j s t) = omega (arith, instantiate-depth s, instantiate-depth t)

  -- another atom is delimited as often as before
  counts_other : variable x ≡ true → value v ≡ true → (y : ℕ) → eqb y x ≡ false → (t : Term) → counts x t ≤ 1 → counts y (instantiate x v t) ≡ counts y t
  unfolding instantiate
  counts_other vx vv y o (leaf b) l = refl
  counts_other vx vv y o (under u t) l =
      cond_case (λ r. counts y r ≡ one_if (delimits_atom y u) + counts y t) (delimits_atom x u)
      (λ e. omega (arith, counts_at x v t (omega (arith, ap one_if e)) y, ap one_if (not_so (λ k. clash (eq-eqb y x (delimits_one y x u k e)) o))))
      (λ e. omega (arith, counts_other vx vv y o t (omega arith)))
  counts_other vx vv y o (both j s t) l = omega (arith, counts_other vx vv y o s (omega arith), counts_other vx vv y o t (omega arith))

-- One substitution behind another.
module _ (f g h : ℕ → ℕ) (k : (a : ℕ) → f (g a) ≡ h a) where
  list_both : (l : List ℕ) → map f (map g l) ≡ map h l
  list_both [] = refl
  list_both (a ∷ l) = ap₂ ◌∷◌ (k a) (list_both l)

  node_both : (n : Node) → map_node f (map_node g n) ≡ map_node h n
  unfolding map_node map_basic map_prefix
  node_both (basic nil) = refl
  node_both (basic (kill i)) = rw (k i)
  node_both (basic (invoke p o ws)) = rw (k p, k o, list_both ws)
  node_both (prefix (receive p o ws)) = rw (k p, k o, list_both ws)
  node_both (prefix (wait n)) = refl
  node_both (prefix protection) = refl
  node_both (prefix (delimitation d)) = rw (k d)
  node_both (prefix replication) = refl
  node_both (join j) = refl

-- a record delimits what it did before, but x
delimits-kept : (x v : ℕ) (n : Node) → node_delimits x n ≡ false → (d : ℕ) → node_delimits d (map_node (image ((x, v) ∷ [])) n) ≡ node_delimits d n
unfolding node_delimits map_node map_prefix delimits_atom delimits found_with
delimits-kept x v (basic y) e d = refl
delimits-kept x v (prefix (receive p o ws)) e d = refl
delimits-kept x v (prefix (wait n)) e d = refl
delimits-kept x v (prefix protection) e d = refl
delimits-kept x v (prefix (delimitation c)) e d = ap (eqb d) (other_same x v c (eqb_swap x c e))
delimits-kept x v (prefix replication) e d = refl
delimits-kept x v (join j) e d = refl

any_key : (m n : Node) → ((d : ℕ) → node_delimits d m ≡ node_delimits d n) → (σ : Substitution) → any (λ (p : ℕ × ℕ). node_delimits p.0 m) σ ≡ any (λ (p : ℕ × ℕ). node_delimits p.0 n) σ
unfolding any
any_key m n h [] = refl
any_key m n h (p ∷ σ) = ap₂ ◌||◌ (h p.0) (any_key m n h σ)

-- the value of x is no variable of σ
module _ (x v : ℕ) (σ : Substitution) (same : image σ v ≡ v) where
  pub image-both : (a : ℕ) → image σ (image ((x, v) ∷ []) a) ≡ image ((x, v) ∷ σ) a
  unfolding image
  image-both a = go (eqb a x)
    where
      go : (b : Bool) → image σ (cond b v a) ≡ cond b v (image σ a)
      go true = same
      go false = refl

  bound_node : (n : Node) → bound_nodes σ (bind_node ((x, v) ∷ []) n) ≡ bind_node ((x, v) ∷ σ) n
  unfolding flat_map bind_node any
  bound_node n = go (node_delimits x n) refl
    where
      go : (b : Bool) → node_delimits x n ≡ b → bound_nodes σ (cond (b || false) [] (map_node (image ((x, v) ∷ [])) n ∷ [])) ≡ cond (b || any (λ (p : ℕ × ℕ). node_delimits p.0 n) σ) [] (map_node (image ((x, v) ∷ σ)) n ∷ [])
      go true e = refl
      go false e =
          append-nil (bind_node σ (map_node (image ((x, v) ∷ [])) n))
          ∙ rw (
            any_key (map_node (image ((x, v) ∷ [])) n) n (delimits-kept x v n e) σ,
            node_both (image σ) (image ((x, v) ∷ [])) (image ((x, v) ∷ σ)) image-both n,
          )

  pub bound-bound : (ns : List Node) → bound_nodes σ (bound_nodes ((x, v) ∷ []) ns) ≡ bound_nodes ((x, v) ∷ σ) ns
  unfolding flat_map
  bound-bound [] = refl
  bound-bound (n ∷ ns) = bound_append σ (bind_node ((x, v) ∷ []) n) (bound_nodes ((x, v) ∷ []) ns) ∙ ap₂ ◌++◌ (bound_node n) (bound-bound ns)

-- Every variable of a substitution takes its value.
node_none : (n : Node) → map_node (image []) n ≡ n
unfolding map_node image
node_none (basic y) = ap basic (basic_same (image []) y (used_any (λ a E. image [] a ≡ a) (λ a E. refl) nowhere (leaf y)))
node_none (prefix u) = ap prefix (prefix_same (image []) u (used_any (λ a E. image [] a ≡ a) (λ a E. refl) nowhere (under u (leaf nil))).0 (λ d e. refl))
node_none (join j) = refl

bound-none : (ns : List Node) → bound_nodes [] ns ≡ ns
unfolding flat_map bind_node any
bound-none [] = refl
bound-none (n ∷ ns) = ap₂ ◌∷◌ (node_none n) (bound-none ns)

pub image_other : (t : Term) (σ : Substitution) → AllBind t σ → (a : ℕ) → variable a ≡ false → image σ a ≡ a
unfolding image
image_other t [] h a e = refl
image_other t (p ∷ σ) h a e = rw (not_so {a = eqb a p.0} (λ k. clash (ap variable (eqb-true a p.0 k) ∙ h.0.key) e)) (image_other t σ h.1 a e)

pub image-value : (t : Term) (σ : Substitution) → AllBind t σ → (a : ℕ) → value a ≡ true → image σ a ≡ a
image-value t σ h a e = image_other t σ h a (not_so (λ k. omega (arith, value-range a e, variable-range a k)))

pub bind-nodes : (σ : Substitution) (t : Term) → Sound t → AllBind t σ → nodes (bind σ t) ≡ bound_nodes σ (nodes t)
unfolding bind
bind-nodes [] t s h = sym (bound-none (nodes t))
bind-nodes (p ∷ σ) t s h =
    bind-nodes σ (instantiate p.0 p.1 t)
    (sound_instantiate p.0 p.1 h.0.key h.0.datum t s h.0.instead)
    (all_instantiate p.0 p.1 h.0.key h.0.datum t s.1 σ h.1)
    ∙ (ap (bound_nodes σ) (instantiate-nodes p.0 p.1 h.0.key t s) ∙ bound-bound p.0 p.1 σ (image-value t σ h.1 p.1 h.0.datum) (nodes t))

pub bind-depth : (σ : Substitution) (t : Term) → depth (bind σ t) ≤ depth t
unfolding bind
bind-depth [] t = omega arith
bind-depth (p ∷ σ) t = omega (arith, bind-depth σ (instantiate p.0 p.1 t), instantiate-depth p.0 p.1 t)

-- each variable is delimited once, and bound once
abbrev pub Once : Term → Substitution → Type 0
Once t [] = Unit {0}
Once t (p ∷ σ) = (counts p.0 t ≡ 1) × (any (λ (q : ℕ × ℕ). eqb q.0 p.0) σ ≡ false) × Once t σ

once_instantiate : (x v : ℕ) → variable x ≡ true → value v ≡ true → (t : Term) → counts x t ≤ 1
    → (σ : Substitution) → any (λ (q : ℕ × ℕ). eqb q.0 x) σ ≡ false → Once t σ → Once (instantiate x v t) σ
unfolding any
once_instantiate x v vx vv t l [] e h = tt
once_instantiate x v vx vv t l (p ∷ σ) e h =
    let (o, k) = or_false (eqb p.0 x) _ e in
    (counts_other x v vx vv p.0 o t l ∙ h.0, h.1, once_instantiate x v vx vv t l σ k h.2)

pub bind-size : (σ : Substitution) (t : Term) → Sound t → AllBind t σ → Once t σ → size (bind σ t) + length σ ≡ size t
unfolding bind
bind-size [] t s h o = omega arith
bind-size (p ∷ σ) t s h o =
    omega (
      arith,
      bind-size σ (instantiate p.0 p.1 t) (sound_instantiate p.0 p.1 h.0.key h.0.datum t s h.0.instead)
          (all_instantiate p.0 p.1 h.0.key h.0.datum t s.1 σ h.1)
          (once_instantiate p.0 p.1 h.0.key h.0.datum t (s.1.unique p.0) σ o.1 o.2),
      instantiate-size p.0 p.1 t (s.1.unique p.0),
      o.0,
    )
