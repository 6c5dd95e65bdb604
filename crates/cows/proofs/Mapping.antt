-- Laws of map_atoms (specs/Moves), for substitutions and renamings alike: guards, scopes, delimitations and the table of kinds after every atom is mapped.
use mathlib.Core.Path.{◌≡◌, refl, ap, ◌∙◌}
use mathlib.Core.Bool.{Bool, true, false, not, ◌&&◌}
use mathlib.Core.List.{List, [], ◌∷◌, map}
use Prim.Native.Nat.{ℕ, zero, suc, ◌≤◌}
use native.Mathlib.Omega.{arith}
use lib.Dec.{eqb}
use lib.ListN.{length-map}
use borrow.Author.Tests.{eqb-true, eq-eqb}
use Rattle.cows.specs.Basics.{any, every, member, found_with, All, one_if}
use Rattle.cows.specs.Terms.{Basic, nil, kill, invoke, Prefix, receive, wait, protection, delimitation, replication, choice, parallel, Term, leaf, under, both, value, variable, label, datum, atom, delimits, delimits_atom, uses_basic, uses_prefix}
use Rattle.cows.specs.Kinds.{guard, distinct, kind_of, root, basic, prefix, guard_kind}
use Rattle.cows.specs.Within.{RightTuple, RightBasic, RightPrefix, Right, Guarded, counts}
use Rattle.cows.specs.Moves.{map_basic, map_prefix, map_atoms, image, map_node}
use Rattle.cows.proofs.Basics.{never, cond_case, and_true, true_and, not_mono, or_left, or_both, or_case}
use Rattle.cows.proofs.Scopes.{Rule, inner, Used}
use Rattle.cows.proofs.Rows.{mapped-kind}

-- guards
guard-mapped : (f : ℕ → ℕ) (t : Term) → guard t ≡ true → guard (map_atoms f t) ≡ true
unfolding guard kind_of root map_atoms map_node
guard-mapped f (leaf x) h = ap guard_kind (mapped-kind f (basic x)) ∙ h
guard-mapped f (under u t) h = ap guard_kind (mapped-kind f (prefix u)) ∙ h
guard-mapped f (both j s t) h = h

pub guarded_mapped : (f : ℕ → ℕ) (t : Term) → Guarded t → Guarded (map_atoms f t)
unfolding map_atoms
guarded_mapped f (leaf x) h = tt
guarded_mapped f (under u t) h = guarded_mapped f t h
guarded_mapped f (both choice s t) h = ((guard-mapped f s h.0.0, guard-mapped f t h.0.1), guarded_mapped f s h.1, guarded_mapped f t h.2)
guarded_mapped f (both parallel s t) h = (tt, guarded_mapped f s h.1, guarded_mapped f t h.2)

-- uses
uses-basic : (f : ℕ → ℕ) (x : Basic) → uses_basic (map_basic f x) ≡ map f (uses_basic x)
unfolding uses_basic map_basic
uses-basic f nil = refl
uses-basic f (kill k) = refl
uses-basic f (invoke p o ws) = refl

uses-prefix : (f : ℕ → ℕ) (u : Prefix) → uses_prefix (map_prefix f u) ≡ map f (uses_prefix u)
unfolding uses_prefix map_prefix
uses-prefix f (receive p o ws) = refl
uses-prefix f (wait n) = refl
uses-prefix f protection = refl
uses-prefix f (delimitation d) = refl
uses-prefix f replication = refl

delimits-image : (f : ℕ → ℕ) (u : Prefix) (a : ℕ) → delimits_atom a u ≡ true → delimits_atom (f a) (map_prefix f u) ≡ true
unfolding delimits_atom delimits found_with map_prefix
delimits-image f (receive p o ws) a h = h
delimits-image f (wait n) a h = h
delimits-image f protection a h = h
delimits-image f (delimitation d) a h = eq-eqb (f a) (f d) (ap f (eqb-true a d h))
delimits-image f replication a h = h

-- Of the atoms of which M holds: where one is in E, its image is in F.
abbrev pub Carries : (ℕ → ℕ) → (ℕ → Type 0) → (ℕ → Bool) → (ℕ → Bool) → Type 0
Carries f M E F = (a : ℕ) → M a → E a ≡ true → F (f a) ≡ true

all_mapped : (f : ℕ → ℕ) (P Q : ℕ → Type 0) → ((a : ℕ) → P a → Q (f a)) → (l : List ℕ) → All P l → All Q (map f l)
all_mapped f P Q k [] h = tt
all_mapped f P Q k (a ∷ l) h = (k a h.0, all_mapped f P Q k l h.1)

pub used_mapped : (f : ℕ → ℕ) (M : ℕ → Type 0) (P Q : Rule) → ((a : ℕ) (E F : ℕ → Bool) → Carries f M E F → P a E → Q (f a) F)
    → (E F : ℕ → Bool) → Carries f M E F → (t : Term) → Used P E t → Used Q F (map_atoms f t)
unfolding map_atoms
used_mapped f M P Q k E F c (leaf x) h = rw (uses-basic f x) (all_mapped f _ _ (λ a. k a E F c) (uses_basic x) h)
used_mapped f M P Q k E F c (under u t) h = (
  rw (uses-prefix f u) (all_mapped f _ _ (λ a. k a E F c) (uses_prefix u) h.0),
  used_mapped f M P Q k (inner u E) (inner (map_prefix f u) F) (λ a m. or_both {a = delimits_atom a u} (delimits-image f u a) (c a m)) t h.1,
)
used_mapped f M P Q k E F c (both j s t) h = (used_mapped f M P Q k E F c s h.0, used_mapped f M P Q k E F c t h.1)

-- Delimitations: b is delimited as often as a was, if just the delimitations of a become ones of b.
delimits-mapped : (f : ℕ → ℕ) (a b : ℕ) (u : Prefix) → ((d : ℕ) → delimits_atom d u ≡ true → eqb b (f d) ≡ eqb a d) → delimits_atom b (map_prefix f u) ≡ delimits_atom a u
unfolding delimits_atom delimits found_with map_prefix
delimits-mapped f a b (receive p o ws) h = refl
delimits-mapped f a b (wait n) h = refl
delimits-mapped f a b protection h = refl
delimits-mapped f a b (delimitation d) h = h d (eq-eqb d d refl)
delimits-mapped f a b replication h = refl

pub counts-mapped : (f : ℕ → ℕ) (a b : ℕ) (t : Term) → ((d : ℕ) → 1 ≤ counts d t → eqb b (f d) ≡ eqb a d) → counts b (map_atoms f t) ≡ counts a t
unfolding map_atoms
counts-mapped f a b (leaf x) h = refl
counts-mapped f a b (under u t) h =
    omega (arith, ap one_if (delimits-mapped f a b u (λ d e. h d (omega (arith, ap one_if e)))), counts-mapped f a b t (λ d l. h d (omega arith)))
counts-mapped f a b (both j s t) h = omega (arith, counts-mapped f a b s (λ d l. h d (omega arith)), counts-mapped f a b t (λ d l. h d (omega arith)))

-- where x is not delimited, another atom for it changes no delimitation
pub counts_at : (x v : ℕ) (t : Term) → counts x t ≤ 0 → (a : ℕ) → counts a (map_atoms (image ((x, v) ∷ [])) t) ≡ counts a t
unfolding image
counts_at x v t z a =
    counts-mapped (image ((x, v) ∷ [])) a a t
    (λ d l. cond_case (λ c. eqb a c ≡ eqb a d) (eqb d x) (λ e. absurd (omega (arith, ap (λ c. counts c t) (eqb-true d x e)))) (λ e. refl))

-- every atom delimited afterwards is the image of one delimited before
delimits_source : (f : ℕ → ℕ) (b : ℕ) (u : Prefix) → delimits_atom b (map_prefix f u) ≡ true → (d : ℕ) × (delimits_atom d u ≡ true) × (b ≡ f d)
unfolding delimits_atom delimits found_with map_prefix
delimits_source f b (receive p o ws) h = never h
delimits_source f b (wait n) h = never h
delimits_source f b protection h = never h
delimits_source f b (delimitation d) h = (d, eq-eqb d d refl, eqb-true b (f d) h)
delimits_source f b replication h = never h

abbrev pub Source : (ℕ → ℕ) → ℕ → Term → Type 0
Source f b t = (d : ℕ) × (1 ≤ counts d t) × (b ≡ f d)

pub counts_source : (f : ℕ → ℕ) (b : ℕ) (t : Term) → 1 ≤ counts b (map_atoms f t) → Source f b t
unfolding map_atoms
counts_source f b (leaf x) h = absurd (omega arith)
counts_source f b (under u t) h = go (delimits_atom b (map_prefix f u)) refl (counts_source f b t)
  where
    go : (p : Bool) → delimits_atom b (map_prefix f u) ≡ p → (1 ≤ counts b (map_atoms f t) → Source f b t) → Source f b (under u t)
    go true e k = let (d, q, i) = delimits_source f b u e in (d, omega (arith, ap one_if q), i)
    go false e k = let (d, q, i) = k (omega (arith, ap one_if e)) in (d, omega arith, i)
counts_source f b (both j s t) h = go (counts b (map_atoms f s)) refl (counts_source f b s) (counts_source f b t)
  where
    go : (n : ℕ) → counts b (map_atoms f s) ≡ n → (1 ≤ counts b (map_atoms f s) → Source f b s) → (1 ≤ counts b (map_atoms f t) → Source f b t) → Source f b (both j s t)
    go zero e k l = let (d, q, i) = l (omega arith) in (d, omega arith, i)
    go (suc n) e k l = let (d, q, i) = k (omega arith) in (d, omega arith, i)

-- A map that keeps the table of kinds: values and labels stay such, variables stay data, and among the atoms of which M holds none becomes the same variable as another.
pub record Fits (f : ℕ → ℕ) (M : ℕ → Type 0) : Type 0 where
  pub values : (a : ℕ) → value a ≡ true → value (f a) ≡ true
  pub variables : (a : ℕ) → variable a ≡ true → datum (f a) ≡ true
  pub labels : (a : ℕ) → label a ≡ true → label (f a) ≡ true
  pub back : (a : ℕ) → variable (f a) ≡ true → variable a ≡ true
  pub apart : (a b : ℕ) → M a → M b → variable (f a) ≡ true → eqb (f a) (f b) ≡ true → eqb a b ≡ true

module _ (f : ℕ → ℕ) (M : ℕ → Type 0) (fits : Fits f M) where
  datum-mapped : (a : ℕ) → datum a ≡ true → datum (f a) ≡ true
  unfolding datum
  datum-mapped a h = or_case _ (value a) (variable a) h (λ e. or_left (value (f a)) (variable (f a)) (fits.values a e)) (fits.variables a)

  atom-mapped : (a : ℕ) → atom a ≡ true → atom (f a) ≡ true
  unfolding atom
  atom-mapped a h = or_both {a = datum a} (datum-mapped a) (fits.labels a) h

  every-mapped : (ws : List ℕ) → every datum ws ≡ true → every datum (map f ws) ≡ true
  unfolding every
  every-mapped [] h = refl
  every-mapped (w ∷ ws) h =
      let (h₁, h₂) = and_true (datum w) (every datum ws) h in
      true_and (datum-mapped w h₁) (every-mapped ws h₂)

  member-mapped : (w : ℕ) → M w → variable (f w) ≡ true → (ws : List ℕ) → All M ws → member (f w) (map f ws) ≡ true → member w ws ≡ true
  unfolding member any
  member-mapped w m v [] ms h = h
  member-mapped w m v (b ∷ ws) ms h = or_both {a = eqb (f w) (f b)} (fits.apart w b m ms.0 v) (member-mapped w m v ws ms.1) h

  distinct-mapped : (ws : List ℕ) → All M ws → distinct ws ≡ true → distinct (map f ws) ≡ true
  unfolding distinct
  distinct-mapped [] ms h = refl
  distinct-mapped (w ∷ ws) ms h =
      let (h₁, h₂) = and_true (not (variable w && member w ws)) (distinct ws) h in
      true_and (not_mono twice h₁) (distinct-mapped ws ms.1 h₂)
    where
      twice : (variable (f w) && member (f w) (map f ws)) ≡ true → (variable w && member w ws) ≡ true
      twice e =
          let (v, m) = and_true (variable (f w)) (member (f w) (map f ws)) e in
          true_and (fits.back w v) (member-mapped w ms.0 v ws ms.1 m)

  tuple-mapped : (ws : List ℕ) → RightTuple ws → RightTuple (map f ws)
  tuple-mapped ws h = (omega (arith, length-map ws f, h.0), every-mapped ws h.1)

  basic-mapped : (x : Basic) → RightBasic x → RightBasic (map_basic f x)
  unfolding map_basic
  basic-mapped nil h = h
  basic-mapped (kill k) h = fits.labels k h
  basic-mapped (invoke p o ws) h = (datum-mapped p h.0, datum-mapped o h.1, tuple-mapped ws h.2)

  prefix-mapped : (u : Prefix) → All M (uses_prefix u) → RightPrefix u → RightPrefix (map_prefix f u)
  unfolding map_prefix uses_prefix
  prefix-mapped (receive p o ws) m h = (fits.values p h.0, fits.values o h.1, tuple-mapped ws h.2, distinct-mapped ws m.1.1 h.3)
  prefix-mapped (wait n) m h = h
  prefix-mapped protection m h = h
  prefix-mapped (delimitation d) m h = atom-mapped d h
  prefix-mapped replication m h = h

  pub right_mapped : (E : ℕ → Bool) (t : Term) → Used (λ a F. M a) E t → Right t → Right (map_atoms f t)
  unfolding map_atoms
  right_mapped E (leaf x) m h = basic-mapped x h
  right_mapped E (under u t) m h = (prefix-mapped u m.0 h.0, right_mapped (inner u E) t m.1 h.1)
  right_mapped E (both j s t) m h = (right_mapped E s m.0 h.0, right_mapped E t m.1 h.1)
