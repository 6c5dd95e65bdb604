-- The atoms of a term: those that it uses and those that it delimits are among them, they are few, and the parts of a term have no others.
use mathlib.Core.Path.{◌≡◌, refl, sym, ◌∙◌}
use mathlib.Core.Bool.{Bool, true}
use mathlib.Core.Option.{Option, none, some}
use mathlib.Core.List.{List, [], ◌∷◌, ◌++◌}
use Prim.Native.Nat.{ℕ, ◌*◌, ◌≤◌}
use native.Mathlib.Omega.{arith}
use lib.Dec.{eqb}
use lib.ListN.{length, length-append}
use borrow.Author.Tests.{eq-eqb}
use Rattle.cows.specs.Basics.{any, every, member, All}
use Rattle.cows.specs.Terms.{nil, kill, invoke, receive, wait, protection, delimitation, replication, Term, leaf, under, both, atom, size, delimits, uses_basic, uses_prefix, optional, binders, atoms}
use Rattle.cows.specs.Places.{Frame, inside, left_of, right_of, plug, Way, fill}
use Rattle.cows.specs.Within.{Right, counts}
use Rattle.cows.proofs.Basics.{never, true_and, or_left, or_right, or_case, member_append, every_append}
use Rattle.cows.proofs.Scopes.{inner, Used, counts-member}

-- every atom of one list is in the other
abbrev pub In : List ℕ → List ℕ → Type 0
In xs ys = (a : ℕ) → member a xs ≡ true → member a ys ≡ true

in_left : (xs ys zs : List ℕ) → In (xs ++ ys) zs → In xs zs
in_left xs ys zs h a m = h a (member_append a xs ys ∙ or_left (member a xs) (member a ys) m)

in_right : (xs ys zs : List ℕ) → In (xs ++ ys) zs → In ys zs
in_right xs ys zs h a m = h a (member_append a xs ys ∙ or_right (member a xs) (member a ys) m)

all_in : (xs zs : List ℕ) → In xs zs → All (λ a. member a zs ≡ true) xs
unfolding member any
all_in [] zs h = tt
all_in (x ∷ xs) zs h = (h x (rw (eq-eqb x x refl)), all_in xs zs (λ a m. h a (or_right (eqb a x) (any (eqb a) xs) m)))

-- The atoms used in a term, and those delimited, are among its atoms.
pub used_atoms : (l : List ℕ) (E : ℕ → Bool) (t : Term) → In (atoms t) l → Used (λ a F. member a l ≡ true) E t
unfolding atoms
used_atoms l E (leaf x) i = all_in (uses_basic x) l i
used_atoms l E (under u t) i = (
  all_in (uses_prefix u) l (in_left (uses_prefix u) (optional (delimits u)) l (in_left (uses_prefix u ++ optional (delimits u)) (atoms t) l i)),
  used_atoms l (inner u E) t (in_right (uses_prefix u ++ optional (delimits u)) (atoms t) l i),
)
used_atoms l E (both j s t) i = (used_atoms l E s (in_left (atoms s) (atoms t) l i), used_atoms l E t (in_right (atoms s) (atoms t) l i))

pub in_refl : (xs : List ℕ) → In xs xs
in_refl xs a m = m

binders-atoms : (t : Term) (l : List ℕ) → In (atoms t) l → In (binders t) l
unfolding binders atoms member any
binders-atoms (leaf x) l i a m = never m
binders-atoms (under u t) l i a m =
    or_case _ (member a (optional (delimits u))) (member a (binders t)) (sym (member_append a (optional (delimits u)) (binders t)) ∙ m)
    (in_right (uses_prefix u) (optional (delimits u)) l (in_left (uses_prefix u ++ optional (delimits u)) (atoms t) l i) a)
    (binders-atoms t l (in_right (uses_prefix u ++ optional (delimits u)) (atoms t) l i) a)
binders-atoms (both j s t) l i a m =
    or_case _ (member a (binders s)) (member a (binders t)) (sym (member_append a (binders s) (binders t)) ∙ m)
    (binders-atoms s l (in_left (atoms s) (atoms t) l i) a) (binders-atoms t l (in_right (atoms s) (atoms t) l i) a)

pub counts-atoms : (a : ℕ) (t : Term) → 1 ≤ counts a t → member a (atoms t) ≡ true
counts-atoms a t h = binders-atoms t (atoms t) (in_refl (atoms t)) a (counts-member a t h)

-- there are few of them, and those delimited are atoms
few_optional : (o : Option ℕ) → length (optional o) ≤ 1
unfolding optional
few_optional none = omega arith
few_optional (some d) = omega arith

pub few_binders : (t : Term) → length (binders t) ≤ size t
unfolding binders size
few_binders (leaf x) = omega arith
few_binders (under u t) = omega (arith, length-append (optional (delimits u)) (binders t), few_optional (delimits u), few_binders t)
few_binders (both j s t) = omega (arith, length-append (binders s) (binders t), few_binders s, few_binders t)

pub few_atoms : (t : Term) → Right t → length (atoms t) ≤ 6 * size t
unfolding atoms size uses_basic uses_prefix delimits optional
few_atoms (leaf nil) h = omega arith
few_atoms (leaf (kill k)) h = omega arith
few_atoms (leaf (invoke p o ws)) h = omega (arith, h.2.0)
few_atoms (under (receive p o ws) t) h = omega (arith, h.0.2.0, length-append (ws ++ []) (atoms t), length-append ws [], few_atoms t h.1)
few_atoms (under (wait n) t) h = omega (arith, few_atoms t h.1)
few_atoms (under protection t) h = omega (arith, few_atoms t h.1)
few_atoms (under (delimitation d) t) h = omega (arith, few_atoms t h.1)
few_atoms (under replication t) h = omega (arith, few_atoms t h.1)
few_atoms (both j s t) h = omega (arith, length-append (atoms s) (atoms t), few_atoms s h.0, few_atoms t h.1)

pub binders_right : (t : Term) → Right t → every atom (binders t) ≡ true
unfolding binders every delimits optional
binders_right (leaf x) h = refl
binders_right (under (receive p o ws) t) h = binders_right t h.1
binders_right (under (wait n) t) h = binders_right t h.1
binders_right (under protection t) h = binders_right t h.1
binders_right (under (delimitation d) t) h = true_and h.0 (binders_right t h.1)
binders_right (under replication t) h = binders_right t h.1
binders_right (both j s t) h = every_append atom (binders s) (binders t) ∙ true_and (binders_right s h.0) (binders_right t h.1)

-- What stands at the end of a way is no larger than the whole, and has no other atoms.
size-plug : (f : Frame) (s : Term) → size s ≤ size (plug f s)
unfolding plug size
size-plug (inside u) s = omega arith
size-plug (left_of j t) s = omega arith
size-plug (right_of j t) s = omega arith

pub size-fill : (w : Way) (s : Term) → size s ≤ size (fill w s)
unfolding fill
size-fill [] s = omega arith
size-fill (f ∷ w) s = omega (arith, size-plug f s, size-fill w (plug f s))

pub in_plug : (f : Frame) (s : Term) (l : List ℕ) → In (atoms (plug f s)) l → In (atoms s) l
unfolding plug atoms
in_plug (inside u) s l i = in_right (uses_prefix u ++ optional (delimits u)) (atoms s) l i
in_plug (left_of j t) s l i = in_left (atoms s) (atoms t) l i
in_plug (right_of j t) s l i = in_right (atoms t) (atoms s) l i

pub in_fill : (w : Way) (s : Term) (l : List ℕ) → In (atoms (fill w s)) l → In (atoms s) l
unfolding fill
in_fill [] s l i = i
in_fill (f ∷ w) s l i = in_plug f s l (in_fill w (plug f s) l i)
