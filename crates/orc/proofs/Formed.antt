-- What the clauses make with any fresh atoms is well formed (cows, specs/Within): right records, guards, scopes, no atom delimited twice.
use mathlib.Core.Path.{◌≡◌, refl, sym, ap, ◌∙◌}
use mathlib.Core.Bool.{Bool, true, false, ◌||◌}
use mathlib.Core.List.{List, [], ◌∷◌, ◌++◌}
use Prim.Native.Nat.{ℕ, zero, suc, ◌+◌, ◌≤◌}
use native.Mathlib.Omega.{arith}
use lib.Dec.{eqb}
use borrow.Author.Tests.{eqb-true, eq-eqb}
use Rattle.cows.specs.Basics.{any, every, member, found_with, one_if}
use Rattle.cows.specs.Terms.{Term, receive, value, variable, datum, atom, label, bindable, size, depth, delimits, delimits_atom, uses_basic, uses_prefix, optional, binders}
use Rattle.cows.specs.Kinds.{distinct}
use Rattle.cows.specs.Within.{RightPrefix, Right, Guarded, Bound, Scoped, nowhere, counts, restricted, Formed, Within}
use Rattle.cows.proofs.Basics.{never, clash, or_left, or_right, or_both, and_true, not_so, member_append}
use Rattle.cows.proofs.Sets.{in-values, in-variables, value-range, variable-range}
use Rattle.cows.proofs.Scopes.{Inside, all_map, member-counts}
use Rattle.cows.proofs.Renaming.{times, times_append}
use Rattle.orc.specs.Expressions.{Composition, sequential, symmetric, asymmetric, Orc, act, composed, bound, over_left, over_right, act_uses, occurring, RightComposition, RightOrc, InScope, times_bound}
use Rattle.orc.specs.Translation.{taken_by}
use Rattle.orc.specs.Clauses.{Translates, by_nothing, by_symmetric, by_call, by_sequential, by_asymmetric, Fresh}

-- of fresh atoms, none is there twice, and none that is taken
pub fresh_times : (a : ℕ) (taken ns : List ℕ) → Fresh taken ns → times a ns + one_if (member a taken) ≤ 1
unfolding member any
fresh_times a taken [] h = small (any (eqb a) taken)
  where
    small : (b : Bool) → 0 + one_if b ≤ 1
    small true = omega arith
    small false = omega arith
fresh_times a taken (n ∷ ns) h = go (eqb a n) (any (eqb a) taken) (λ e. (ap (λ c. any (eqb c) taken) (eqb-true a n e)) ∙ h.0) (fresh_times a (n ∷ taken) ns h.1)
  where
    go : (b m : Bool) → (b ≡ true → m ≡ false) → times a ns + one_if (b || m) ≤ 1 → one_if b + times a ns + one_if m ≤ 1
    go true true f l = clash {A = _} refl (f refl)
    go true false f l = omega arith
    go false m f l = omega arith

-- The atoms that a translation delimits: the variables that the expression binds, and those that the clauses introduce.
pub counts_translates : {e : Orc} {p o : ℕ} {t : Term} {ns : List ℕ} → Translates e p o t ns → (a : ℕ) → counts a t ≡ times_bound a e + times a ns
unfolding delimits_atom found_with delimits bound
counts_translates by_nothing a = refl
counts_translates by_call a = refl
counts_translates (by_symmetric {ms = ms} {ns = ns} f g) a = omega (arith, counts_translates f a, counts_translates g a, times_append a ms ns)
counts_translates (by_sequential {ms = ms} {ns = ns} v w f g) a = omega (arith, counts_translates f a, counts_translates g a, times_append a ms ns)
counts_translates (by_asymmetric {k = k} {ms = ms} {ns = ns} v w l g f) a = omega (arith, counts_translates g a, counts_translates f a, times_append a ms (k ∷ ns))

-- Scopes: larger with more atoms around.
or_inside : (x : ℕ) (E F : ℕ → Bool) → Inside E F → Inside (λ a. eqb a x || E a) (λ a. eqb a x || F a)
or_inside x E F i a = or_both {a = eqb a x} {c = eqb a x} (λ e. e) (i a)

left_mono : (j : Composition) (E F : ℕ → Bool) → Inside E F → Inside (over_left j E) (over_left j F)
unfolding over_left
left_mono (sequential x) E F i = i
left_mono symmetric E F i = i
left_mono (asymmetric x) E F i = or_inside x E F i

right_mono : (j : Composition) (E F : ℕ → Bool) → Inside E F → Inside (over_right j E) (over_right j F)
unfolding over_right
right_mono (sequential x) E F i = or_inside x E F i
right_mono symmetric E F i = i
right_mono (asymmetric x) E F i = i

pub wider_scope : (K E F : ℕ → Bool) → Inside E F → (e : Orc) → InScope K E e → InScope K F e
wider_scope K E F i (act x) h = all_map _ _ (λ a f k. i a (f k)) (act_uses x) h
wider_scope K E F i (composed c f g) h = (wider_scope K (over_left c E) (over_left c F) (left_mono c E F i) f h.0, wider_scope K (over_right c E) (over_right c F) (right_mono c E F i) g h.1)

-- with one atom more around: that atom, and the others
here : (x : ℕ) (E : ℕ → Bool) → (eqb x x || E x) ≡ true
here x E = rw (eq-eqb x x refl)

more : (x : ℕ) (E : ℕ → Bool) → Inside E (λ a. eqb a x || E a)
more x E a h = or_right (eqb a x) (E a) h

-- Every use in a translation is a use of the expression, or of an endpoint or label inside its delimitation.
pub scoped_translates : {e : Orc} {p o : ℕ} {t : Term} {ns : List ℕ} → Translates e p o t ns → (K E : ℕ → Bool)
    → (K p ≡ true → E p ≡ true) → (K o ≡ true → E o ≡ true) → InScope K E e → Scoped K E t
unfolding delimits_atom found_with delimits uses_basic uses_prefix act_uses over_left over_right
scoped_translates by_nothing K E hp ho h = tt
scoped_translates by_call K E hp ho h = (h.0, (h.1.0, (h.1.1.0, (hp, (ho, tt)))))
scoped_translates (by_symmetric f g) K E hp ho h = (scoped_translates f K E hp ho h.0, scoped_translates g K E hp ho h.1)
scoped_translates (by_sequential {p = p} {o = o} {q = q} {r = r} {x = x} {f = e} {g = d} v w f g) K E hp ho h =
    let E₁ : ℕ → Bool = (λ a. eqb a q || E a) in
    let E₂ : ℕ → Bool = (λ a. eqb a r || E₁ a) in
    let E₃ : ℕ → Bool = (λ a. eqb a x || E₂ a) in
    let i : Inside E E₂ = (λ a k. more r E₁ a (more q E a k)) in
    let hq : E₂ q ≡ true = more r E₁ q (here q E) in
    let hr : E₂ r ≡ true = here r E₁ in
    let j : Inside E E₃ = (λ a k. more x E₂ a (i a k)) in (
      tt,
      (
        tt,
        (
          scoped_translates f K E₂ (λ k. hq) (λ k. hr) (wider_scope K E E₂ i e h.0),
          (
            tt,
            (
              tt,
              (
                ((λ k. more x E₂ q hq), ((λ k. more x E₂ r hr), ((λ k. here x E₂), tt))),
                scoped_translates g K E₃ (λ k. j p (hp k)) (λ k. j o (ho k)) (wider_scope K _ E₃ (or_inside x E E₂ i) d h.1),
              ),
            ),
          ),
        ),
      ),
    )
scoped_translates (by_asymmetric {p = p} {o = o} {q = q} {r = r} {x = x} {k = k} {f = e} {g = d} v w l g f) K E hp ho h =
    let E₁ : ℕ → Bool = (λ a. eqb a q || E a) in
    let E₂ : ℕ → Bool = (λ a. eqb a r || E₁ a) in
    let E₃ : ℕ → Bool = (λ a. eqb a x || E₂ a) in
    let E₄ : ℕ → Bool = (λ a. eqb a k || E₃ a) in
    let i : Inside E E₂ = (λ a k. more r E₁ a (more q E a k)) in
    let hq : E₄ q ≡ true = more k E₃ q (more x E₂ q (more r E₁ q (here q E))) in
    let hr : E₄ r ≡ true = more k E₃ r (more x E₂ r (here r E₁)) in
    let j : Inside E E₃ = (λ a k. more x E₂ a (i a k)) in (
      tt,
      (
        tt,
        (
          tt,
          (
            scoped_translates g K E₃ (λ k. j p (hp k)) (λ k. j o (ho k)) (wider_scope K _ E₃ (or_inside x E E₂ i) d h.0),
            (
              tt,
              (
                scoped_translates f K E₄ (λ k. hq) (λ k. hr) (wider_scope K E E₄ (λ a n. more k E₃ a (j a n)) e h.1),
                (((λ k. hq), ((λ k. hr), ((λ n. more k E₃ x (here x E₂)), tt))), ((λ n. here k E₃), tt)),
              ),
            ),
          ),
        ),
      ),
    )

-- Right records, and no choice.
value-datum : (a : ℕ) → value a ≡ true → datum a ≡ true
unfolding datum
value-datum a h = or_left (value a) (variable a) h

value-atom : (a : ℕ) → value a ≡ true → atom a ≡ true
unfolding atom
value-atom a h = or_left (datum a) (label a) (value-datum a h)

variable-datum : (a : ℕ) → variable a ≡ true → datum a ≡ true
unfolding datum
variable-datum a h = or_right (value a) (variable a) h

variable-atom : (a : ℕ) → variable a ≡ true → atom a ≡ true
unfolding atom
variable-atom a h = or_left (datum a) (label a) (variable-datum a h)

label-atom : (a : ℕ) → label a ≡ true → atom a ≡ true
unfolding atom
label-atom a h = or_right (datum a) (label a) h

right_receive : (q r x : ℕ) → value q ≡ true → value r ≡ true → variable x ≡ true → RightPrefix (receive q r (x ∷ []))
unfolding every distinct member any
right_receive q r x hq hr hx = (hq, hr, (omega arith, rw (variable-datum x hx)), rw (hx))

pub right_translates : {e : Orc} {p o : ℕ} {t : Term} {ns : List ℕ} → Translates e p o t ns → value p ≡ true → value o ≡ true → RightOrc e → Right t
unfolding every
right_translates by_nothing hp ho h = tt
right_translates (by_call {p = p} {o = o} {s = s} {q = q} {w = w}) hp ho h =
    (value-datum s h.0, value-datum q h.1, (omega arith, rw (h.2, value-datum p hp, value-datum o ho)))
right_translates (by_symmetric f g) hp ho h = (right_translates f hp ho h.1, right_translates g hp ho h.2)
right_translates (by_sequential {q = q} {r = r} {x = x} v w f g) hp ho h = (
  value-atom q v,
  (
    value-atom r w,
    (
      right_translates f v w h.1,
      (tt, (variable-atom x h.0, (right_receive q r x v w h.0, right_translates g hp ho h.2))),
    ),
  ),
)
right_translates (by_asymmetric {q = q} {r = r} {x = x} {k = k} v w l g f) hp ho h = (
  value-atom q v,
  (
    value-atom r w,
    (
      variable-atom x h.0,
      (
        right_translates g hp ho h.1,
        (label-atom k l, (right_translates f v w h.2, (right_receive q r x v w h.0, l))),
      ),
    ),
  ),
)

pub guarded_translates : {e : Orc} {p o : ℕ} {t : Term} {ns : List ℕ} → Translates e p o t ns → Guarded t
guarded_translates by_nothing = tt
guarded_translates by_call = tt
guarded_translates (by_symmetric f g) = (tt, guarded_translates f, guarded_translates g)
guarded_translates (by_sequential v w f g) = (tt, guarded_translates f, guarded_translates g)
guarded_translates (by_asymmetric v w l g f) = (tt, guarded_translates g, (tt, guarded_translates f, tt))

-- The variables that an expression binds are variables, and among its atoms.
bound-variable : (a : ℕ) (e : Orc) → RightOrc e → 1 ≤ times_bound a e → variable a ≡ true
unfolding found_with bound
bound-variable a (act x) h l = absurd (omega arith)
bound-variable a (composed c f g) h l = go c h.0 (times_bound a f) (times_bound a g) (bound-variable a f h.1) (bound-variable a g h.2) l
  where
    sums : (b : Bool) (m n : ℕ) → (b ≡ true → variable a ≡ true) → (1 ≤ m → variable a ≡ true) → (1 ≤ n → variable a ≡ true) → 1 ≤ one_if b + m + n → variable a ≡ true
    sums true m n k f g l = k refl
    sums false zero n k f g l = g (omega arith)
    sums false (suc m) n k f g l = f (omega arith)

    go : (j : Composition) → RightComposition j → (m n : ℕ) → (1 ≤ m → variable a ≡ true) → (1 ≤ n → variable a ≡ true) → 1 ≤ one_if (found_with (eqb a) (bound j)) + m + n → variable a ≡ true
    go (sequential x) h m n f g l = sums (eqb a x) m n (λ e. ap variable (eqb-true a x e) ∙ h) f g l
    go symmetric h m n f g l = sums false m n (λ e. never e) f g l
    go (asymmetric x) h m n f g l = sums (eqb a x) m n (λ e. ap variable (eqb-true a x e) ∙ h) f g l

bound-occurring : (a : ℕ) (e : Orc) → 1 ≤ times_bound a e → member a (occurring e) ≡ true
unfolding occurring found_with bound optional
bound-occurring a (act x) l = absurd (omega arith)
bound-occurring a (composed c f g) l =
    member_append a (optional (bound c)) (occurring f ++ occurring g)
    ∙ (ap (λ b. member a (optional (bound c)) || b) (member_append a (occurring f) (occurring g)) ∙ go c (times_bound a f) (times_bound a g) (bound-occurring a f) (bound-occurring a g) l)
  where
    sums : (b c : Bool) (m n : ℕ) → (b ≡ true → c ≡ true) → (1 ≤ m → member a (occurring f) ≡ true) → (1 ≤ n → member a (occurring g) ≡ true) → 1 ≤ one_if b + m + n
        → (c || (member a (occurring f) || member a (occurring g))) ≡ true
    sums true c m n k f' g' l = or_left c _ (k refl)
    sums false c zero n k f' g' l = or_right c _ (or_right (member a (occurring f)) _ (g' (omega arith)))
    sums false c (suc m) n k f' g' l = or_right c _ (or_left (member a (occurring f)) _ (f' (omega arith)))

    only_one : (x : ℕ) → eqb a x ≡ true → member a (x ∷ []) ≡ true
    only_one x e = unfold member in unfold any in or_left (eqb a x) false e

    go : (j : Composition) (m n : ℕ) → (1 ≤ m → member a (occurring f) ≡ true) → (1 ≤ n → member a (occurring g) ≡ true) → 1 ≤ one_if (found_with (eqb a) (bound j)) + m + n
        → (member a (optional (bound j)) || (member a (occurring f) || member a (occurring g))) ≡ true
    go (sequential x) m n f' g' l = sums (eqb a x) (member a (x ∷ [])) m n (only_one x) f' g' l
    go symmetric m n f' g' l = sums false (member a []) m n (λ e. never e) f' g' l
    go (asymmetric x) m n f' g' l = sums (eqb a x) (member a (x ∷ [])) m n (only_one x) f' g' l

-- where K holds of none of an expression's atoms there is nothing to ask
bound-none : (K E : ℕ → Bool) (l : List ℕ) → ((a : ℕ) → member a l ≡ true → K a ≡ false) → Bound K E l
unfolding member any
bound-none K E [] h = tt
bound-none K E (a ∷ l) h = ((λ k. clash k (h a (here a (λ c. any (eqb c) l)))), bound-none K E l (λ c m. h c (or_right (eqb c a) (any (eqb c) l) m)))

member-left : (a : ℕ) (xs ys : List ℕ) → member a xs ≡ true → member a (xs ++ ys) ≡ true
member-left a xs ys m = member_append a xs ys ∙ or_left (member a xs) (member a ys) m

member_right : (a : ℕ) (xs ys : List ℕ) → member a ys ≡ true → member a (xs ++ ys) ≡ true
member_right a xs ys m = member_append a xs ys ∙ or_right (member a xs) (member a ys) m

scoped_none : (K E : ℕ → Bool) (e : Orc) → ((a : ℕ) → member a (occurring e) ≡ true → K a ≡ false) → InScope K E e
unfolding occurring
scoped_none K E (act x) h = bound-none K E (act_uses x) h
scoped_none K E (composed c f g) h = (
  scoped_none K (over_left c E) f (λ a m. h a (member_right a (optional (bound c)) _ (member-left a (occurring f) (occurring g) m))),
  scoped_none K (over_right c E) g (λ a m. h a (member_right a (optional (bound c)) _ (member_right a (occurring f) (occurring g) m))),
)

-- a value is not to be bound
values_free : (a : ℕ) → value a ≡ true → bindable a ≡ false
values_free a h = let (l, u) = value-range a h in let s = in-values a l u in rw (s.1, s.2)

-- The clauses' term, with any fresh atoms, keeps every rule of document 01's section Records that is not about its size.
module _ (e : Orc) (p o : ℕ) (t : Term) (ns : List ℕ) (c : Translates e p o t ns) (hp : value p ≡ true) (ho : value o ≡ true)
    (right : RightOrc e) (closed : InScope bindable nowhere e) (unique : (a : ℕ) → times_bound a e ≤ 1) (fresh : Fresh (taken_by p o e) ns) where
  abbrev taken : List ℕ
  taken = taken_by p o e

  in_taken : (a : ℕ) → member a (occurring e) ≡ true → member a taken ≡ true
  unfolding member any
  in_taken a m = or_right (eqb a p) _ (or_right (eqb a o) _ m)

  first_taken : member p taken ≡ true
  unfolding member any
  first_taken = here p (λ a. eqb a o || any (eqb a) (occurring e))

  second_taken : member o taken ≡ true
  unfolding member any
  second_taken = or_right (eqb o p) _ (here o (λ a. any (eqb a) (occurring e)))

  -- a value that is taken is not delimited
  not-restricted : (a : ℕ) → member a taken ≡ true → restricted t a ≡ false
  not-restricted a m = not_so (λ h.
      let (v, b) = and_true (value a) (member a (binders t)) h in
      let x = bound-variable a e right (omega (arith, member-counts a t b, counts_translates c a, fresh_times a taken ns fresh, ap one_if m)) in
      let (l, u) = variable-range a x in
      let z : true ≡ false = sym v ∙ (in-variables a l u).0 in
      clash refl z)

  once : (a : ℕ) → counts a t ≤ 1
  once a = go (member a taken) refl (fresh_times a taken ns fresh)
    where
      go : (b : Bool) → member a taken ≡ b → times a ns + one_if b ≤ 1 → counts a t ≤ 1
      go true q f = omega (arith, counts_translates c a, unique a)
      go false q f = none (times_bound a e) (bound-occurring a e) (counts_translates c a)
        where
          none : (n : ℕ) → (1 ≤ n → member a (occurring e) ≡ true) → counts a t ≡ n + times a ns → counts a t ≤ 1
          none zero k r = omega arith
          none (suc n) k r = clash (in_taken a (k (omega arith))) q

  pub formed_translates : Formed t
  formed_translates = record {
    guarded = guarded_translates c;
    closed = scoped_translates c bindable nowhere (λ k. never (sym (values_free p hp) ∙ k)) (λ k. never (sym (values_free o ho) ∙ k)) closed;
    unique = once;
    private = scoped_translates c (restricted t) nowhere (λ k. clash k (not-restricted p first_taken)) (λ k. clash k (not-restricted o second_taken))
        (scoped_none (restricted t) nowhere e (λ a m. not-restricted a (in_taken a m)));
  }

  -- so it is within the limits as soon as it is small and shallow
  pub within_translates : size t ≤ 2048 → depth t ≤ 256 → Within t
  within_translates l d = record { right = right_translates c hp ho right; formed = formed_translates; small = l; shallow = d }
