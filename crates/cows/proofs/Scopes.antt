-- Laws of specs/Within: what holds of every atom that a term uses, with the atoms delimited around the use; guards, scopes and kinds along a way; and how often an atom is delimited.
use mathlib.Core.Path.{◌≡◌, refl, sym, ap, ap₂, ◌∙◌}
use mathlib.Core.Bool.{Bool, true, false, ◌||◌}
use mathlib.Core.Option.{Option, none, some}
use mathlib.Core.List.{List, [], ◌∷◌}
use Prim.Native.Nat.{ℕ, zero, suc, ◌+◌, ◌≤◌}
use native.Mathlib.Omega.{arith}
use native.Mathlib.Nat.{zero-add}
use lib.Dec.{ltb, eqb}
use borrow.Author.Tests.{lt-ltb, ltb-true}
use Rattle.cows.specs.Basics.{any, member, found_with, All, one_if}
use Rattle.cows.specs.Terms.{Prefix, choice, parallel, Term, leaf, under, both, value, variable, label, delimits, delimits_atom, uses_basic, uses_prefix, optional, binders}
use Rattle.cows.specs.Kinds.{guard, guard_kind}
use Rattle.cows.specs.Places.{Frame, inside, left_of, right_of, plug, Way, fill, frame_delimits, enclosed}
use Rattle.cows.specs.Within.{Scoped, Right, Guarded, nowhere, counts, restricted}
use Rattle.cows.proofs.Places.{fill_ind}
use Rattle.cows.proofs.Basics.{and_true, true_and, or_both, or_case, or_none, member_append}
use Rattle.cows.proofs.Rows.{plug-kind}

-- A rule of use says of an atom and of a set of atoms whether the atom may be used inside the delimitations of the set.
abbrev pub Rule : Type 1
Rule = ℕ → (ℕ → Bool) → Type 0

-- the atoms delimited inside a prefix, E being those around it
abbrev pub inner : Prefix → (ℕ → Bool) → ℕ → Bool
inner u E a = delimits_atom a u || E a

-- Every use in a term keeps the rule.
abbrev pub Used : Rule → (ℕ → Bool) → Term → Type 0
Used P E (leaf x) = All (λ a. P a E) (uses_basic x)
Used P E (under u t) = All (λ a. P a E) (uses_prefix u) × Used P (inner u E) t
Used P E (both j s t) = Used P E s × Used P E t

-- the atoms that a closed term delimits around each use
abbrev pub local : ℕ → Bool
local a = variable a || label a

-- The rule of Scoped: an atom of which K holds is delimited.
abbrev pub Need : (ℕ → Bool) → Rule
Need K a E = K a ≡ true → E a ≡ true

pub scoped_used : (K E : ℕ → Bool) (t : Term) → Scoped K E t → Used (Need K) E t
scoped_used K E (leaf x) h = h
scoped_used K E (under u t) h = (h.0, scoped_used K (inner u E) t h.1)
scoped_used K E (both j s t) h = (scoped_used K E s h.0, scoped_used K E t h.1)

pub used_scoped : (K E : ℕ → Bool) (t : Term) → Used (Need K) E t → Scoped K E t
used_scoped K E (leaf x) h = h
used_scoped K E (under u t) h = (h.0, used_scoped K (inner u E) t h.1)
used_scoped K E (both j s t) h = (used_scoped K E s h.0, used_scoped K E t h.1)

-- one set of atoms inside another; a rule that asks less, with more atoms around
abbrev pub Inside : (ℕ → Bool) → (ℕ → Bool) → Type 0
Inside E F = (a : ℕ) → E a ≡ true → F a ≡ true

abbrev pub Weakens : Rule → Rule → Type 0
Weakens P Q = (a : ℕ) (E F : ℕ → Bool) → Inside E F → P a E → Q a F

pub inside-refl : (E : ℕ → Bool) → Inside E E
inside-refl E a h = h

pub inside_inner : (u : Prefix) (E F : ℕ → Bool) → Inside E F → Inside (inner u E) (inner u F)
inside_inner u E F i a = or_both {a = delimits_atom a u} {c = delimits_atom a u} (λ e. e) (i a)

pub need_weakens : (K L : ℕ → Bool) → Inside L K → Weakens (Need K) (Need L)
need_weakens K L k a E F i h l = i a (h (k a l))

pub all_map : {A : Type 0} (P Q : A → Type 0) → ((a : A) → P a → Q a) → (l : List A) → All P l → All Q l
all_map P Q f [] h = tt
all_map P Q f (a ∷ l) h = (f a h.0, all_map P Q f l h.1)

pub used_mono : (P Q : Rule) → Weakens P Q → (E F : ℕ → Bool) → Inside E F → (t : Term) → Used P E t → Used Q F t
used_mono P Q f E F i (leaf x) h = all_map _ _ (λ a. f a E F i) (uses_basic x) h
used_mono P Q f E F i (under u t) h =
    (all_map _ _ (λ a. f a E F i) (uses_prefix u) h.0, used_mono P Q f (inner u E) (inner u F) (inside_inner u E F i) t h.1)
used_mono P Q f E F i (both j s t) h = (used_mono P Q f E F i s h.0, used_mono P Q f E F i t h.1)

-- two rules at once; a rule that everything keeps
abbrev pub And : Rule → Rule → Rule
And P Q a E = P a E × Q a E

all_both : (P Q : ℕ → Type 0) (l : List ℕ) → All P l → All Q l → All (λ a. P a × Q a) l
all_both P Q [] h k = tt
all_both P Q (a ∷ l) h k = ((h.0, k.0), all_both P Q l h.1 k.1)

pub used_both : (P Q : Rule) (E : ℕ → Bool) (t : Term) → Used P E t → Used Q E t → Used (And P Q) E t
used_both P Q E (leaf x) h k = all_both _ _ (uses_basic x) h k
used_both P Q E (under u t) h k = (all_both _ _ (uses_prefix u) h.0 k.0, used_both P Q (inner u E) t h.1 k.1)
used_both P Q E (both j s t) h k = (used_both P Q E s h.0 k.0, used_both P Q E t h.1 k.1)

all_any : (P : ℕ → Type 0) → ((a : ℕ) → P a) → (l : List ℕ) → All P l
all_any P f [] = tt
all_any P f (a ∷ l) = (f a, all_any P f l)

pub used_any : (P : Rule) → ((a : ℕ) (E : ℕ → Bool) → P a E) → (E : ℕ → Bool) (t : Term) → Used P E t
used_any P f E (leaf x) = all_any _ (λ a. f a E) (uses_basic x)
used_any P f E (under u t) = (all_any _ (λ a. f a E) (uses_prefix u), used_any P f (inner u E) t)
used_any P f E (both j s t) = (used_any P f E s, used_any P f E t)

-- What stands in a frame decides nothing of whether the whole is a guard; a guard in place of a guard keeps a choice right.
pub guard-plug : (f : Frame) (s r : Term) → guard (plug f s) ≡ guard (plug f r)
unfolding guard
guard-plug f s r = ap guard_kind (plug-kind f s ∙ sym (plug-kind f r))

pub guarded_plug : (f : Frame) (s r : Term) → (guard s ≡ true → guard r ≡ true) → (Guarded s → Guarded r) → Guarded (plug f s) → Guarded (plug f r)
unfolding plug
guarded_plug (inside u) s r g k h = k h
guarded_plug (left_of choice t) s r g k h = ((g h.0.0, h.0.1), k h.1, h.2)
guarded_plug (left_of parallel t) s r g k h = (tt, k h.1, h.2)
guarded_plug (right_of choice t) s r g k h = ((h.0.0, g h.0.1), h.1, k h.2)
guarded_plug (right_of parallel t) s r g k h = (tt, h.1, k h.2)

pub guarded_fill : (w : Way) (s r : Term) → (guard s ≡ true → guard r ≡ true) → (Guarded s → Guarded r) → Guarded (fill w s) → Guarded (fill w r)
guarded_fill w s r g k =
    (fill_ind (λ s r. (guard s ≡ true → guard r ≡ true) × (Guarded s → Guarded r))
    (λ f s r h. ((λ e. sym (guard-plug f s r) ∙ e), guarded_plug f s r h.0 h.1)) w s r (g, k)).1

-- What stands at the end of a way is used inside the delimitations on the way.
used_plug : (P Q : Rule) → Weakens P Q → (f : Frame) (w : Way) (s r : Term) → (Used P (λ a. enclosed a (f ∷ w)) s → Used Q (λ a. enclosed a (f ∷ w)) r)
    → Used P (λ a. enclosed a w) (plug f s) → Used Q (λ a. enclosed a w) (plug f r)
unfolding plug enclosed any frame_delimits
used_plug P Q g (inside u) w s r k h = (all_map _ _ (λ a. g a _ _ (inside-refl _)) (uses_prefix u) h.0, k h.1)
used_plug P Q g (left_of j t) w s r k h = (k h.0, used_mono P Q g _ _ (inside-refl _) t h.1)
used_plug P Q g (right_of j t) w s r k h = (used_mono P Q g _ _ (inside-refl _) t h.0, k h.1)

pub used_fill : (P Q : Rule) → Weakens P Q → (w : Way) (s r : Term) → (Used P (λ a. enclosed a w) s → Used Q (λ a. enclosed a w) r) → Used P nowhere (fill w s) → Used Q nowhere (fill w r)
unfolding fill enclosed any
used_fill P Q g [] s r k h = k h
used_fill P Q g (f ∷ w) s r k h = used_fill P Q g w (plug f s) (plug f r) (used_plug P Q g f w s r k) h

-- The table of kinds is kept where what stands at the end of a way is replaced by a right term.
right_plug : (f : Frame) (s : Term) → Right (plug f s) → Right s × ((r : Term) → Right r → Right (plug f r))
unfolding plug
right_plug (inside u) s h = (h.1, λ r k. (h.0, k))
right_plug (left_of j t) s h = (h.0, λ r k. (k, h.1))
right_plug (right_of j t) s h = (h.1, λ r k. (h.0, k))

pub right_fill : (w : Way) (s : Term) → Right (fill w s) → Right s × ((r : Term) → Right r → Right (fill w r))
unfolding fill
right_fill [] s h = (h, λ r k. k)
right_fill (f ∷ w) s h =
    let (p, up) = right_fill w (plug f s) h in
    let (q, on) = right_plug f s p in
    (q, λ r k. up (plug f r) (on r k))

-- A term delimits the atoms that it counts.
member-optional : (a : ℕ) (o : Option ℕ) → member a (optional o) ≡ found_with (eqb a) o
unfolding member any optional found_with
member-optional a none = refl
member-optional a (some d) = or_none (eqb a d)

pub one_false : (b : Bool) → one_if b ≤ 0 → b ≡ false
one_false true h = absurd (omega arith)
one_false false h = refl

one_positive : (b : Bool) → b ≡ ltb 0 (one_if b)
one_positive true = refl
one_positive false = refl

sum_positive : (m n : ℕ) → (ltb 0 m || ltb 0 n) ≡ ltb 0 (m + n)
sum_positive zero n = ap (ltb 0) (sym (zero-add n))
sum_positive (suc m) n = rw (lt-ltb 0 (suc m) (omega arith), lt-ltb 0 (suc m + n) (omega arith))

member-binders : (a : ℕ) (t : Term) → member a (binders t) ≡ ltb 0 (counts a t)
unfolding binders member any delimits_atom
member-binders a (leaf x) = refl
member-binders a (under u t) =
    member_append a (optional (delimits u)) (binders t)
    ∙ (ap₂ ◌||◌ (member-optional a (delimits u) ∙ one_positive (delimits_atom a u)) (member-binders a t)
    ∙ sum_positive (one_if (delimits_atom a u)) (counts a t))
member-binders a (both j s t) =
    member_append a (binders s) (binders t) ∙ (ap₂ ◌||◌ (member-binders a s) (member-binders a t) ∙ sum_positive (counts a s) (counts a t))

pub member-counts : (a : ℕ) (t : Term) → member a (binders t) ≡ true → 1 ≤ counts a t
member-counts a t h = ltb-true 0 (counts a t) (sym (member-binders a t) ∙ h)

pub counts-member : (a : ℕ) (t : Term) → 1 ≤ counts a t → member a (binders t) ≡ true
counts-member a t h = member-binders a t ∙ lt-ltb 0 (counts a t) h

pub restricted_mono : (r t : Term) (a : ℕ) → counts a r ≤ counts a t → restricted r a ≡ true → restricted t a ≡ true
restricted_mono r t a le e =
    let (v, m) = and_true (value a) (member a (binders r)) e in
    true_and v (counts-member a t (omega (arith, member-counts a r m)))

-- counts along a way
pub counts-plug : (f : Frame) (s r : Term) (a n : ℕ) → counts a r ≡ counts a s + n → counts a (plug f r) ≡ counts a (plug f s) + n
unfolding plug
counts-plug (inside u) s r a n h = omega arith
counts-plug (left_of j t) s r a n h = omega arith
counts-plug (right_of j t) s r a n h = omega arith

counts_frame : (f : Frame) (s : Term) (a : ℕ) → one_if (frame_delimits a f) + counts a s ≤ counts a (plug f s)
unfolding plug frame_delimits
counts_frame (inside u) s a = omega arith
counts_frame (left_of j t) s a = omega arith
counts_frame (right_of j t) s a = omega arith

pub counts-fill : (w : Way) (s : Term) (a : ℕ) → counts a s ≤ counts a (fill w s)
unfolding fill
counts-fill [] s a = omega arith
counts-fill (f ∷ w) s a = omega (arith, counts_frame f s a, counts-fill w (plug f s) a)

-- a delimitation on the way is one more
pub counts-enclosed : (w : Way) (s : Term) (a : ℕ) → enclosed a w ≡ true → 1 + counts a s ≤ counts a (fill w s)
unfolding fill enclosed any
counts-enclosed [] s a h = absurd (omega (arith, ap one_if h))
counts-enclosed (f ∷ w) s a h =
    or_case _ (frame_delimits a f) (enclosed a w) h
    (λ e. omega (arith, ap one_if e, counts_frame f s a, counts-fill w (plug f s) a))
    (λ e. omega (arith, counts_frame f s a, counts-enclosed w (plug f s) a e))
