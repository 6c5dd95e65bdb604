-- Laws of specs/Basics: case analysis on a test, what a judgement that accepted has passed, and lists.
use mathlib.Core.Path.{◌≡◌, refl, sym, ap, ◌∙◌}
use mathlib.Core.Logic.{◌≢◌}
use mathlib.Core.Bool.{Bool, true, false, cond, not, ◌&&◌, ◌||◌}
use mathlib.Core.Option.{Option, none, some}
use mathlib.Core.List.{List, [], ◌∷◌, ◌++◌}
use Prim.Native.Nat.{ℕ, zero, suc, ◌+◌, ◌-◌, ◌≤◌, ◌<◌}
use native.Mathlib.Omega.{arith}
use native.Mathlib.Nat.{zero-add, add-zero, suc-add}
use native.Mathlib.Numerals.{add-one}
use lib.Dec.{ltb, eqb}
use lib.ListN.{get_or, replicate}
use borrow.Author.Tests.{ltb-true, ltb-false, eqb-true, eq-eqb, eqb-false}
use Rattle.cows.specs.Basics.{any, every, member, found_with, found, only, place_if, or_else, first_from, Result, refuse, accept, ◌>>=◌, ◌>>◌, forbid, need}

-- a false test proves anything
pub never : {A : Type 0} → false ≡ true → A
never e = absurd (let z : ◌≡◌ {A = ℕ} 0 1 = cc in omega arith)

pub clash : {A : Type 0} {b : Bool} → b ≡ true → b ≡ false → A
clash e f = never (sym f ∙ e)

pub cond_case : {A : Type 0} (P : A → Type 0) (b : Bool) {x y : A} → (b ≡ true → P x) → (b ≡ false → P y) → P (cond b x y)
cond_case P true f g = f refl
cond_case P false f g = g refl

-- both of two conds by the same test
pub cond_case₂ : {A B : Type 0} (P : A → B → Type 0) (b : Bool) {x y : A} {u v : B} → (b ≡ true → P x u) → (b ≡ false → P y v) → P (cond b x y) (cond b u v)
cond_case₂ P true f g = f refl
cond_case₂ P false f g = g refl

pub bool_case : (P : Type 0) (b : Bool) → (b ≡ true → P) → (b ≡ false → P) → P
bool_case P true f g = f refl
bool_case P false f g = g refl

pub eq_case : (P : Type 0) (a b : ℕ) → (a ≡ b → P) → (a ≢ b → P) → P
eq_case P a b f g = bool_case P (eqb a b) (λ e. f (eqb-true a b e)) (λ e. g (eqb-false a b e))

pub lt_case : (P : Type 0) (a b : ℕ) → (a < b → P) → (b ≤ a → P) → P
lt_case P a b f g = bool_case P (ltb a b) (λ e. f (ltb-true a b e)) (λ e. g (ltb-false a b e))

-- tests
pub and_true : (a b : Bool) → (a && b) ≡ true → (a ≡ true) × (b ≡ true)
and_true true b e = (refl, e)
and_true false b e = (e, cc)

pub true_and : {a b : Bool} → a ≡ true → b ≡ true → (a && b) ≡ true
true_and {a = true} p q = q
true_and {a = false} p q = p

pub or_false : (a b : Bool) → (a || b) ≡ false → (a ≡ false) × (b ≡ false)
or_false true b e = (e, cc)
or_false false b e = (refl, e)

pub or_left : (a b : Bool) → a ≡ true → (a || b) ≡ true
or_left true b e = refl
or_left false b e = never e

pub or_right : (a b : Bool) → b ≡ true → (a || b) ≡ true
or_right true b e = refl
or_right false b e = e

-- the second of two, where the first is false
pub or_second : {a b : Bool} → a ≡ false → (a || b) ≡ true → b ≡ true
or_second {a = true} e h = never (sym e)
or_second {a = false} e h = h

pub or_both : {a b c d : Bool} → (a ≡ true → c ≡ true) → (b ≡ true → d ≡ true) → (a || b) ≡ true → (c || d) ≡ true
or_both {a = true} {c = c} {d = d} f g h = or_left c d (f refl)
or_both {a = false} {c = c} {d = d} f g h = or_right c d (g h)

pub or_none : (a : Bool) → (a || false) ≡ a
or_none true = refl
or_none false = refl

pub and_none : (a : Bool) → (a && false) ≡ false
and_none true = refl
and_none false = refl

pub and_one : (a : Bool) → (a && true) ≡ a
and_one true = refl
and_one false = refl

pub or_swap : (a b c : Bool) → (a || (b || c)) ≡ true → (b || (a || c)) ≡ true
or_swap true b c h = or_right b true refl
or_swap false b c h = h

pub or_case : (P : Type 0) (a b : Bool) → (a || b) ≡ true → (a ≡ true → P) → (b ≡ true → P) → P
or_case P true b h f g = f refl
or_case P false b h f g = g h

pub and_not : {a b : Bool} → (a && not b) ≡ false → a ≡ true → b ≡ true
and_not {a = true} {b = true} e h = refl
and_not {a = true} {b = false} e h = sym e
and_not {a = false} e h = never h

pub not_mono : {a b : Bool} → (a ≡ true → b ≡ true) → not b ≡ true → not a ≡ true
not_mono {a = true} f h = sym (ap not (f refl)) ∙ h
not_mono {a = false} f h = refl

pub not_so : {a : Bool} → (a ≡ true → ⊥) → a ≡ false
not_so {a = true} f = absurd (f refl)
not_so {a = false} f = refl

-- two tests that imply each other are equal
pub same_test : {a b : Bool} → (a ≡ true → b ≡ true) → (b ≡ true → a ≡ true) → a ≡ b
same_test {a = true} f g = sym (f refl)
same_test {a = false} {b = true} f g = g refl
same_test {a = false} {b = false} f g = refl

-- an accepted judgement: its parts were accepted
pub bind-accept : {A B : Type 0} (m : Result A) (k : A → Result B) (b : B) → (m >>= k) ≡ accept b → (a : A) × (m ≡ accept a) × (k a ≡ accept b)
unfolding ◌>>=◌
bind-accept (refuse n p) k b e = let z : ◌≡◌ {A = ℕ} 0 1 = cc in absurd (omega arith)
bind-accept (accept a) k b e = (a, refl, e)

pub accept-bind : {A B : Type 0} (m : Result A) (k : A → Result B) (a : A) → m ≡ accept a → (m >>= k) ≡ k a
unfolding ◌>>=◌
accept-bind m k a e = rw e

pub same_accept : {A : Type 0} {x y : A} → ◌≡◌ {A = Result A} (accept x) (accept y) → x ≡ y
same_accept e = cc

pub same_some : {A : Type 0} {x y : A} → ◌≡◌ {A = Option A} (some x) (some y) → x ≡ y
same_some e = cc

pub need-accept : {A : Type 0} (n p : ℕ) (o : Option A) (x : A) → need n p o ≡ accept x → o ≡ some x
unfolding need
need-accept n p none x e = cc
need-accept n p (some y) x e = ap some (same_accept e)

pub need-some : {A : Type 0} (n p : ℕ) (o : Option A) (x : A) → o ≡ some x → need n p o ≡ accept x
unfolding need
need-some n p o x e = rw e

-- a forbidden place is not there, and what follows was accepted
pub forbid-accept : {B : Type 0} (n : ℕ) (o : Option ℕ) (k : Result B) (b : B) → (forbid n o >> k) ≡ accept b → (o ≡ none) × (k ≡ accept b)
unfolding ◌>>◌ forbid
forbid-accept n none k b e = (refl, e)
forbid-accept n (some p) k b e = (cc, cc)

-- values and places that may be missing
pub only-some : {A : Type 0} (b : Bool) (o : Option A) (x : A) → only b o ≡ some x → (b ≡ true) × (o ≡ some x)
unfolding only
only-some true o x e = (refl, e)
only-some false o x e = (cc, cc)

pub some-only : {A : Type 0} (b : Bool) (o : Option A) (x : A) → b ≡ true → o ≡ some x → only b o ≡ some x
unfolding only
some-only b o x e h = rw (e, h)

pub or_else_none : (p q : Option ℕ) → or_else p q ≡ none → (p ≡ none) × (q ≡ none)
unfolding or_else
or_else_none none q e = (refl, e)
or_else_none (some p) q e = (cc, cc)

pub place_if-none : (b : Bool) (n : ℕ) → place_if b n ≡ none → b ≡ false
unfolding place_if
place_if-none true n e = cc
place_if-none false n e = refl

pub place_if-some : (b : Bool) (n p : ℕ) → place_if b n ≡ some p → (b ≡ true) × (n ≡ p)
unfolding place_if
place_if-some true n p e = (refl, same_some e)
place_if-some false n p e = absurd (let z : ◌≡◌ {A = ℕ} 0 1 = cc in omega arith)

pub found_none : {A : Type 0} (o : Option A) → found o ≡ false → o ≡ none
unfolding found
found_none none e = refl
found_none (some a) e = never (sym e)

pub none_found : {A : Type 0} (o : Option A) → o ≡ none → found o ≡ false
unfolding found
none_found o e = rw e

pub found_some : {A : Type 0} (o : Option A) → found o ≡ true → (a : A) × (o ≡ some a)
unfolding found
found_some none e = never e
found_some (some a) e = (a, refl)

pub holds_some : {A : Type 0} (f : A → Bool) (o : Option A) → found_with f o ≡ true → (a : A) × (o ≡ some a) × (f a ≡ true)
unfolding found_with
holds_some f none e = never e
holds_some f (some a) e = (a, refl, e)

-- a search finds nothing exactly if nothing passes
pub first_from-none : (f : ℕ → Bool) (n k : ℕ) → first_from f n k ≡ none → (i : ℕ) → i < k → f (n + i) ≡ false
unfolding first_from
first_from-none f n zero e i h = absurd (omega arith)
first_from-none f n (suc k) e zero h =
    let e₁ = place_if-none (f n) n (or_else_none (place_if (f n) n) (first_from f (suc n) k) e).0 in
    ap f (let z : n + 0 ≡ n = omega arith in z) ∙ e₁
first_from-none f n (suc k) e (suc i) h =
    let e₂ = (or_else_none (place_if (f n) n) (first_from f (suc n) k) e).1 in
    ap f (let z : n + suc i ≡ suc n + i = omega arith in z) ∙ first_from-none f (suc n) k e₂ i (omega arith)

pub none-first_from : (f : ℕ → Bool) (n k : ℕ) → ((i : ℕ) → i < k → f (n + i) ≡ false) → first_from f n k ≡ none
unfolding first_from place_if or_else
none-first_from f n zero h = refl
none-first_from f n (suc k) h =
    rw (
      ap f (let z : n ≡ n + 0 = omega arith in z) ∙ h 0 (omega arith),
      none-first_from f (suc n) k (λ i l. ap f (let z : suc n + i ≡ n + suc i = omega arith in z) ∙ h (suc i) (omega arith)),
    )

-- a search in two parts; what it finds is one of the numbers
or_else_assoc : (p q r : Option ℕ) → or_else (or_else p q) r ≡ or_else p (or_else q r)
unfolding or_else
or_else_assoc none q r = refl
or_else_assoc (some p) q r = refl

pub first_from_append : (f : ℕ → Bool) (n a b : ℕ) → first_from f n (a + b) ≡ or_else (first_from f n a) (first_from f (n + a) b)
unfolding first_from
first_from_append f n zero b = unfold or_else in rw (zero-add, add-zero)
first_from_append f n (suc a) b =
    let z : n + suc a ≡ suc n + a = omega arith in
    rw (suc-add, first_from_append f (suc n) a b, z) (sym (or_else_assoc (place_if (f n) n) _ _))

-- a search among the places below n, from place j on: one place more, none left, and places passed over
pub from_next : (f : ℕ → Bool) (j n : ℕ) → j < n → first_from f j (n - j) ≡ or_else (place_if (f j) j) (first_from f (j + 1) (n - (j + 1)))
unfolding first_from
from_next f j n l = let e : n - j ≡ suc (n - (j + 1)) = omega arith in rw (e, add-one j)

pub from_end : (f : ℕ → Bool) (j n : ℕ) → n ≤ j → first_from f j (n - j) ≡ none
unfolding first_from
from_end f j n l = let e : n - j ≡ 0 = omega arith in rw e

pub from_skip : (f : ℕ → Bool) (j m n : ℕ) → j ≤ m → m ≤ n → ((i : ℕ) → j ≤ i → i < m → f i ≡ false) → first_from f j (n - j) ≡ first_from f m (n - m)
unfolding or_else
from_skip f j m n h l k =
    let e : n - j ≡ (m - j) + (n - m) = omega arith in
    let z : j + (m - j) ≡ m = omega arith in
    rw e (first_from_append f j (m - j) (n - m) ∙ rw (none-first_from f j (m - j) (λ i x. k (j + i) (omega arith) (omega arith)), z))

pub first_from-below : (f : ℕ → Bool) (n k p : ℕ) → first_from f n k ≡ some p → p < n + k
unfolding first_from place_if or_else
first_from-below f n zero p e = absurd (let z : ◌≡◌ {A = ℕ} 0 1 = cc in omega arith)
first_from-below f n (suc k) p e = go (f n) (first_from-below f (suc n) k p) e
  where
    go : (b : Bool) → (first_from f (suc n) k ≡ some p → p < suc n + k) → or_else (place_if b n) (first_from f (suc n) k) ≡ some p → p < n + suc k
    go true h e = omega (arith, same_some e)
    go false h e = omega (arith, h e)

-- lists of numbers
pub get_d_zeros : (n i : ℕ) → ◌≡◌ {A = ℕ} (get_or (replicate n 0) i 0) 0
get_d_zeros zero i = refl
get_d_zeros (suc n) zero = refl
get_d_zeros (suc n) (suc i) = get_d_zeros n i

pub eqb_swap : (a b : ℕ) → eqb a b ≡ false → eqb b a ≡ false
eqb_swap a b e = not_so (λ h. never (sym e ∙ eq-eqb a b (sym (eqb-true b a h))))

pub member_append : (a : ℕ) (xs ys : List ℕ) → member a (xs ++ ys) ≡ (member a xs || member a ys)
unfolding member any
member_append a [] ys = refl
member_append a (x ∷ xs) ys = go (eqb a x) (member_append a xs ys)
  where
    go : (p : Bool) → any (eqb a) (xs ++ ys) ≡ (any (eqb a) xs || any (eqb a) ys) → (p || any (eqb a) (xs ++ ys)) ≡ ((p || any (eqb a) xs) || any (eqb a) ys)
    go true e = refl
    go false e = e

pub every_append : {A : Type 0} (f : A → Bool) (xs ys : List A) → every f (xs ++ ys) ≡ (every f xs && every f ys)
unfolding every
every_append f [] ys = refl
every_append f (x ∷ xs) ys = go (f x) (every_append f xs ys)
  where
    go : (p : Bool) → every f (xs ++ ys) ≡ (every f xs && every f ys) → (p && every f (xs ++ ys)) ≡ ((p && every f xs) && every f ys)
    go true e = e
    go false e = refl

pub any_append : {A : Type 0} (f : A → Bool) (xs ys : List A) → any f (xs ++ ys) ≡ (any f xs || any f ys)
unfolding any
any_append f [] ys = refl
any_append f (x ∷ xs) ys = go (f x) (any_append f xs ys)
  where
    go : (p : Bool) → any f (xs ++ ys) ≡ (any f xs || any f ys) → (p || any f (xs ++ ys)) ≡ ((p || any f xs) || any f ys)
    go true e = refl
    go false e = e
