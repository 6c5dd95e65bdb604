-- Communication keeps a term well formed: the variables bound are delimited where their values may be used, so each value may take its variable's place.
use mathlib.Core.Path.{◌≡◌, refl, sym, ap, subst, ◌∙◌}
use mathlib.Core.Bool.{Bool, true, false, not, ◌&&◌, ◌||◌}
use mathlib.Core.Option.{some}
use mathlib.Core.List.{List, [], ◌∷◌}
use Prim.Native.Nat.{ℕ, suc, ◌+◌, ◌≤◌}
use native.Mathlib.Omega.{arith}
use lib.Dec.{eqb}
use borrow.Author.Tests.{eqb-true, eqb-false, eq-eqb, not-true}
use Rattle.cows.specs.Basics.{any, every, member, found_with, found, All, one_if}
use Rattle.cows.specs.Terms.{nil, kill, invoke, Prefix, receive, wait, protection, delimitation, replication, choice, parallel, Term, leaf, under, both, Action, value, variable, label, datum, size, invokes, prefixed, delimits, delimits_atom, uses_basic, uses_prefix, binders}
use Rattle.cows.specs.Kinds.{guard, open_kinds}
use Rattle.cows.specs.Places.{inside, left_of, right_of, Way, way_to, first, frame_delimits, enclosed}
use Rattle.cows.specs.Within.{Right, Guarded, counts, restricted, nowhere, Formed}
use Rattle.cows.specs.Allows.{Matches, empty, takes, equals}
use Rattle.cows.specs.Moves.{Substitution, binds, fit, outside, in_scope, image, instantiate, bind}
use Rattle.cows.proofs.Basics.{never, cond_case, and_true, and_not, or_false, or_left, or_right, or_second, or_case, not_so, found_none, holds_some}
use Rattle.cows.proofs.Places.{Everywhere, at_first, at_under, at_left, at_right, Fails, first-none}
use Rattle.cows.proofs.Meeting.{fit_fits}
use Rattle.cows.proofs.Sets.{datum-value, value-range, variable-range, label-range}
use Rattle.cows.proofs.Scopes.{Rule, inner, Used, local, Need, Inside, Weakens, And, inside-refl, need_weakens, all_map, used_mono, used_both, used_any, used_scoped, scoped_used, restricted_mono}
use Rattle.cows.proofs.Mapping.{Carries, Fits, guarded_mapped, used_mapped, counts_at, right_mapped}
use Rattle.cows.proofs.Parts.{Sound, Part, part_used, part_counts}

-- Where x is used, v may be used by the rule P.
abbrev pub Instead : ℕ → ℕ → Rule → Rule
Instead x v P a E = eqb a x ≡ true → P v E

value-variable : {A : Type 0} (a b : ℕ) → value a ≡ true → variable b ≡ true → eqb a b ≡ true → A
value-variable a b h k e = absurd (omega (arith, value-range a h, variable-range b k, eqb-true a b e))

label-variable : {A : Type 0} (a b : ℕ) → label a ≡ true → variable b ≡ true → eqb a b ≡ true → A
label-variable a b h k e = absurd (omega (arith, label-range a h, variable-range b k, eqb-true a b e))

value_local : {A : Type 0} (a : ℕ) → value a ≡ true → local a ≡ true → A
value_local a h l =
    or_case _ (variable a) (label a) l
    (λ e. absurd (omega (arith, value-range a h, variable-range a e))) (λ e. absurd (omega (arith, value-range a h, label-range a e)))

instead_weakens : (x v : ℕ) (K L : ℕ → Bool) → Inside L K → Weakens (Instead x v (Need K)) (Instead x v (Need L))
instead_weakens x v K L k a E F i h e = need_weakens K L k v E F i (h e)

-- a prefix delimits one atom
pub delimits_one : (a b : ℕ) (u : Prefix) → delimits_atom a u ≡ true → delimits_atom b u ≡ true → a ≡ b
unfolding delimits_atom
delimits_one a b u h k =
    let (c, e, p) = holds_some (eqb a) (delimits u) h in
    let (d, f, q) = holds_some (eqb b) (delimits u) k in
    cc (eqb-true a c p, eqb-true b d q)

-- A pair of a variable and a value that it may take in t.
pub record Binds (t : Term) (p : ℕ × ℕ) : Type 0 where
  pub key : variable p.0 ≡ true
  pub datum : value p.1 ≡ true
  pub instead : Used (Instead p.0 p.1 (Need (restricted t))) nowhere t

abbrev pub AllBind : Term → Substitution → Type 0
AllBind t σ = All (Binds t) σ

-- what a change of the term keeps of one pair, it keeps of all
all_bind : (t r : Term) → ((y w : ℕ) → variable y ≡ true → value w ≡ true → Used (Instead y w (Need (restricted t))) nowhere t → Used (Instead y w (Need (restricted r))) nowhere r)
    → (σ : Substitution) → AllBind t σ → AllBind r σ
all_bind t r k [] h = tt
all_bind t r k (p ∷ σ) h = (
  record { key = h.0.key; datum = h.0.datum; instead = k p.0 p.1 h.0.key h.0.datum h.0.instead },
  all_bind t r k σ h.1,
)

-- A variable x takes a value v.
module _ (x v : ℕ) (vx : variable x ≡ true) (vv : value v ≡ true) where
  abbrev at : ℕ → ℕ
  at = image ((x, v) ∷ [])

  -- what holds of v, and of each atom but x, holds of the images
  at_case : (P : ℕ → Type 0) (a : ℕ) → (eqb a x ≡ true → P v) → (eqb a x ≡ false → P a) → P (at a)
  unfolding image
  at_case P a f g = cond_case P (eqb a x) f g

  no-variable : {A : Type 0} → variable v ≡ true → A
  no-variable h = value-variable v v vv h (eq-eqb v v refl)

  fits_at : Fits at (λ a. Unit {0})
  unfolding datum
  fits_at =
      record {
        values = λ a h. at_case (λ b. value b ≡ true) a (λ e. vv) (λ e. h);
        variables = λ a h. at_case (λ b. datum b ≡ true) a (λ e. rw vv) (λ e. or_right (value a) (variable a) h);
        labels = λ a h. at_case (λ b. label b ≡ true) a (label-variable a x h vx) (λ e. h);
        back = λ a. at_case (λ b. variable b ≡ true → variable a ≡ true) a (λ e. no-variable) (λ e h. h);
        apart = λ a b m n. at_case (λ c. variable c ≡ true → eqb c (at b) ≡ true → eqb a b ≡ true) a (λ e. no-variable)
            (λ e h. at_case (λ c. eqb a c ≡ true → eqb a b ≡ true) b (λ q i. value-variable v a vv h (eq-eqb v a (sym (eqb-true a v i)))) (λ q i. i));
      }

  right_instantiate : (t : Term) → Right t → Right (instantiate x v t)
  unfolding instantiate
  right_instantiate (leaf y) h = h
  right_instantiate (under u t) h =
      cond_case Right (delimits_atom x u) (λ e. right_mapped at _ fits_at nowhere t (used_any _ (λ a E. tt) nowhere t) h.1) (λ e. (h.0, right_instantiate t h.1))
  right_instantiate (both j s t) h = (right_instantiate s h.0, right_instantiate t h.1)

  -- guards
  guard-instantiate : (t : Term) → guard t ≡ true → guard (instantiate x v t) ≡ true
  unfolding open_kinds instantiate delimits_atom delimits found_with
  guard-instantiate (leaf y) h = h
  guard-instantiate (under (receive p o ws) t) h = h
  guard-instantiate (under (wait n) t) h = h
  guard-instantiate (under protection t) h = h
  guard-instantiate (under (delimitation d) t) h = never h
  guard-instantiate (under replication t) h = h
  guard-instantiate (both choice s t) h = h
  guard-instantiate (both parallel s t) h = h

  guarded_instantiate : (t : Term) → Guarded t → Guarded (instantiate x v t)
  unfolding instantiate
  guarded_instantiate (leaf y) h = tt
  guarded_instantiate (under u t) h = cond_case Guarded (delimits_atom x u) (λ e. guarded_mapped at t h) (λ e. guarded_instantiate t h)
  guarded_instantiate (both choice s t) h =
      ((guard-instantiate s h.0.0, guard-instantiate t h.0.1), guarded_instantiate s h.1, guarded_instantiate t h.2)
  guarded_instantiate (both parallel s t) h = (tt, guarded_instantiate s h.1, guarded_instantiate t h.2)

  -- delimitations: there is no second [x]
  counts-instantiate : (t : Term) → counts x t ≤ 1 → (a : ℕ) → counts a (instantiate x v t) ≤ counts a t
  unfolding instantiate
  counts-instantiate (leaf y) l a = omega arith
  counts-instantiate (under u t) l a =
      cond_case (λ r. counts a r ≤ one_if (delimits_atom a u) + counts a t) (delimits_atom x u)
      (λ e. omega (arith, counts_at x v t (omega (arith, ap one_if e)) a)) (λ e. omega (arith, counts-instantiate t (omega arith) a))
  counts-instantiate (both j s t) l a = omega (arith, counts-instantiate s (omega arith) a, counts-instantiate t (omega arith) a)

  -- scopes: outside [x] nothing changes; inside it, all atoms delimited around a use but x stay so
  abbrev Other : ℕ → Type 0
  Other a = eqb a x ≡ false

  used_instantiate : (P Q : Rule) → Weakens P Q → ((a : ℕ) (E F : ℕ → Bool) → Carries at Other E F → P a E → Q (at a) F) → (E : ℕ → Bool) (t : Term) → Used P E t → Used Q E (instantiate x v t)
  unfolding instantiate
  used_instantiate P Q f g E (leaf y) h = all_map _ _ (λ a. f a E E (inside-refl E)) (uses_basic y) h
  used_instantiate P Q f g E (under u t) h =
      cond_case (Used Q E) (delimits_atom x u)
      (λ e. used_mapped at Other P Q g (inner u E) E (λ a o i. at_case (λ c. E c ≡ true) a (λ q. never (sym o ∙ q)) (λ q. outer e a o i)) t h.1)
      (λ e. (all_map _ _ (λ a. f a E E (inside-refl E)) (uses_prefix u) h.0, used_instantiate P Q f g (inner u E) t h.1))
    where
      outer : delimits_atom x u ≡ true → (a : ℕ) → Other a → inner u E a ≡ true → E a ≡ true
      outer e a o i = or_case _ (delimits_atom a u) (E a) i (λ q. absurd (eqb-false a x o (delimits_one a x u q e))) (λ q. q)
  used_instantiate P Q f g E (both j s t) h = (used_instantiate P Q f g E s h.0, used_instantiate P Q f g E t h.1)

  carried : (E F : ℕ → Bool) → Carries at Other E F → (a : ℕ) → Other a → E a ≡ true → F a ≡ true
  unfolding image
  carried E F c a o h = rw o at (c a o h)

  other_value_lem : (w : ℕ) → value w ≡ true → Other w
  other_value_lem w vw = not_so (value-variable w x vw vx)

  closed-instantiate : (E : ℕ → Bool) (t : Term) → Used (Need local) E t → Used (Need local) E (instantiate x v t)
  closed-instantiate E t =
      used_instantiate (Need local) (Need local) (need_weakens local local (inside-refl local))
      (λ a E F c h. at_case (λ b. Need local b F) a (λ e. value_local v vv) (λ o l. carried E F c a o (h l))) E t

  -- of K all that is left is in L
  module _ (K L : ℕ → Bool) (k : Inside L K) where
    private_instantiate : (E : ℕ → Bool) (t : Term) → Used (Need K) E t → Used (Instead x v (Need K)) E t → Used (Need L) E (instantiate x v t)
    private_instantiate E t h i =
        used_instantiate (And (Need K) (Instead x v (Need K))) (Need L) (λ a E F j p. need_weakens K L k a E F j p.0)
        (λ a E F c p. at_case (λ b. Need L b F) a (λ e l. carried E F c v (other_value_lem v vv) (p.1 e (k v l))) (λ o l. carried E F c a o (p.0 (k a l))))
        E t (used_both (Need K) (Instead x v (Need K)) E t h i)

    -- another variable's value may still be used instead of it
    instead_instantiate : (y w : ℕ) → variable y ≡ true → value w ≡ true → (E : ℕ → Bool) (t : Term) → Used (Instead y w (Need K)) E t → Used (Instead y w (Need L)) E (instantiate x v t)
    instead_instantiate y w vy vw =
        used_instantiate (Instead y w (Need K)) (Instead y w (Need L)) (instead_weakens y w K L k)
        (λ a E F c h. at_case (λ b. Instead y w (Need L) b F) a (λ e. value-variable v y vv vy) (λ o q l. carried E F c w (other_value_lem w vw) (h q (k w l))))

  -- what is delimited afterwards was so before
  fewer : (t : Term) → Formed t → Inside (restricted (instantiate x v t)) (restricted t)
  fewer t f a = restricted_mono (instantiate x v t) t a (counts-instantiate t (f.unique x) a)

  formed_instantiate : (t : Term) → Formed t → Used (Instead x v (Need (restricted t))) nowhere t → Formed (instantiate x v t)
  formed_instantiate t f i =
      record {
        guarded = guarded_instantiate t f.guarded;
        closed = used_scoped local nowhere (instantiate x v t) (closed-instantiate nowhere t (scoped_used local nowhere t f.closed));
        unique = λ a. omega (arith, counts-instantiate t (f.unique x) a, f.unique a);
        private = used_scoped _ nowhere (instantiate x v t) (private_instantiate _ _ (fewer t f) nowhere t (scoped_used _ nowhere t f.private) i);
      }

  pub sound_instantiate : (t : Term) → Sound t → Used (Instead x v (Need (restricted t))) nowhere t → Sound (instantiate x v t)
  sound_instantiate t (r, f) i = (right_instantiate t r, formed_instantiate t f i)

  -- the pairs that are still to be bound
  pub all_instantiate : (t : Term) → Formed t → (σ : Substitution) → AllBind t σ → AllBind (instantiate x v t) σ
  all_instantiate t f = all_bind t (instantiate x v t) (λ y w vy vw. instead_instantiate _ _ (fewer t f) y w vy vw nowhere t)

pub part_bind : {g : Bool} {t r : Term} → Part g t r → (σ : Substitution) → AllBind t σ → AllBind r σ
part_bind {t = t} {r = r} p =
    all_bind t r
    (λ y w vy vw h. used_mono _ _ (instead_weakens y w (restricted t) (restricted r) (λ a. restricted_mono r t a (part_counts p a))) nowhere nowhere (inside-refl nowhere) r
    (part_used p _ (instead_weakens y w (restricted t) (restricted t) (inside-refl (restricted t))) nowhere h))

pub sound_bind : (σ : Substitution) (t : Term) → AllBind t σ → Sound t → Sound (bind σ t)
unfolding bind
sound_bind [] t h k = k
sound_bind (p ∷ σ) t h k =
    sound_bind σ (instantiate p.0 p.1 t)
    (all_instantiate p.0 p.1 h.0.key h.0.datum t k.1 σ h.1)
    (sound_instantiate p.0 p.1 h.0.key h.0.datum t k h.0.instead)

-- The test of scopes: no [x] stands outside [v], and each use of x stands inside [x].
instead_use : (x v : ℕ) (K : ℕ → Bool) → variable x ≡ true → (E : ℕ → Bool) → (E x ≡ true → Need K v E) → (a : ℕ) → Need local a E → Instead x v (Need K) a E
instead_use x v K vx E i a h q =
    let e = eqb-true a x q in
    i (subst (λ b. E b ≡ true) e (h (subst (λ b. local b ≡ true) (sym e) (or_left (variable x) (label x) vx))))

instead_everywhere : (x v : ℕ) (K : ℕ → Bool) → variable x ≡ true → (w : Way) (o : ℕ) (t : Term)
    → (K v ≡ true → Everywhere (Fails (outside v x)) w o t) → (enclosed x w ≡ true → Need K v (λ a. enclosed a w))
    → Used (Need local) (λ a. enclosed a w) t → Used (Instead x v (Need K)) (λ a. enclosed a w) t
unfolding enclosed any frame_delimits outside prefixed delimits_atom
instead_everywhere x v K vx w o (leaf y) e i h = all_map _ _ (instead_use x v K vx (λ a. enclosed a w) i) (uses_basic y) h
instead_everywhere x v K vx w o (under u t) e i h = (
  all_map _ _ (instead_use x v K vx (λ a. enclosed a w) i) (uses_prefix u) h.0,
  instead_everywhere x v K vx (inside u ∷ w) (suc o) t (λ k. at_under (Fails (outside v x)) w o u t (e k))
      (λ q k. or_right (delimits_atom v u) (enclosed v w) (or_case _ (delimits_atom x u) (enclosed x w) q (and_not (at_first (Fails (outside v x)) w o (under u t) (e k))) (λ p. i p k))) h.1,
)
instead_everywhere x v K vx w o (both j s t) e i h = (
  instead_everywhere x v K vx (left_of j t ∷ w) (suc o) s (λ k. at_left (Fails (outside v x)) w o j s t (e k)) i h.0,
  instead_everywhere x v K vx (right_of j s ∷ w) (suc (o + size s)) t (λ k. at_right (Fails (outside v x)) w o j s t (e k)) i h.1,
)

pub in_scope_lem : (t : Term) (a b x v : ℕ) → Formed t → variable x ≡ true → in_scope t a b (x, v) ≡ true → Used (Instead x v (Need (restricted t))) nowhere t
unfolding in_scope enclosed any
in_scope_lem t a b x v f vx e = instead_everywhere x v (restricted t) vx [] 0 t none-outside never (scoped_used local nowhere t f.closed)
  where
    none-outside : restricted t v ≡ true → Everywhere (Fails (outside v x)) [] 0 t
    none-outside r =
        let m = (and_true (value v) (member v (binders t)) r).1 in
        let s = (and_true (enclosed x (way_to t a) && enclosed x (way_to t b)) (not (member v (binders t)) || not (found (first (outside v x) t))) e).1 in
        first-none (outside v x) t (found_none (first (outside v x) t) (not-true (found (first (outside v x) t)) (or_second (ap not m) s)))

-- Matching: a pattern's variables take values, where the tuple sent has no variable.
abbrev pub Values : Substitution → Type 0
Values σ = All (λ (p : ℕ × ℕ). (variable p.0 ≡ true) × (value p.1 ≡ true)) σ

values_matches : {ws vs : List ℕ} {σ : Substitution} → Matches ws vs σ → every datum vs ≡ true → any variable vs ≡ false → Values σ
unfolding every any
values_matches empty d n = tt
values_matches (takes {v = v} {vs = vs} e m) d n =
    let (d₁, d₂) = and_true (datum v) (every datum vs) d in
    let (n₁, n₂) = or_false (variable v) (any variable vs) n in
    ((e, datum-value v d₁ n₁), values_matches m d₂ n₂)
values_matches (equals {v = v} {vs = vs} e m) d n = values_matches m (and_true (datum v) (every datum vs) d).1 (or_false (variable v) (any variable vs) n).1

pub values_fit : (r m : Action) (σ : Substitution) → every datum m.tuple ≡ true → fit r m ≡ binds σ → Values σ
unfolding any
values_fit r m σ d e =
    let f = fit_fits r m σ e in
    values_matches f.matches d (or_false (variable m.operation) _ (or_false (variable m.partner) _ f.closed).1).1

-- an invoke sends data
pub invokes_data : (s : Term) (m : Action) → invokes s ≡ some m → Right s → every datum m.tuple ≡ true
unfolding invokes
invokes_data (leaf nil) m e r = cc
invokes_data (leaf (kill k)) m e r = cc
invokes_data (leaf (invoke p o ws)) m e r =
    let q : ◌≡◌ {A = Action} (record { partner = p; operation = o; tuple = ws }) m = cc in
    subst (λ n. every datum n.tuple ≡ true) q r.2.1
invokes_data (under u t) m e r = cc
invokes_data (both j s t) m e r = cc

-- every pair of a substitution that is in scope
pub all-in-scope : (t : Term) (a b : ℕ) → Formed t → (σ : Substitution) → Values σ → every (in_scope t a b) σ ≡ true → AllBind t σ
unfolding every
all-in-scope t a b f [] v e = tt
all-in-scope t a b f (p ∷ σ) v e =
    let (e₁, e₂) = and_true (in_scope t a b p) (every (in_scope t a b) σ) e in
    (record { key = v.0.0; datum = v.0.1; instead = in_scope_lem t a b p.0 p.1 f v.0.0 e₁ }, all-in-scope t a b f σ v.1 e₂)
