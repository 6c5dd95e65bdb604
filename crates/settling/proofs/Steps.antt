-- Settling by places (specs/Settling): one record of the walk, which holds no scope, is a scope, or stands above one.
use mathlib.Core.Path.{◌≡◌, refl, sym, ap, ◌∙◌}
use mathlib.Core.Logic.{◌≢◌}
use mathlib.Core.Bool.{Bool, true, false}
use mathlib.Core.List.{List, [], ◌∷◌}
use Prim.Native.Nat.{ℕ, suc, ◌+◌, ◌*◌, ◌-◌, ◌/◌, ◌≤◌, ◌<◌}
use native.Mathlib.Omega.{arith}
use lib.Dec.{leb, ltb, eqb}
use lib.ListN.{length, take, drop, get_or}
use borrow.Author.Tests.{eqb-true, eq-eqb, leb-true, le-leb, ltb-true, lt-ltb}
use Rattle.cows.specs.Basics.{any}
use Rattle.cows.specs.Terms.{Term, leaf, under, both, size}
use Rattle.cows.specs.Kinds.{children_of, root, open_kinds}
use Rattle.cows.proofs.Basics.{clash, never, bool_case, and_true, true_and, or_false, or_case, not_so}
use Rattle.cows.proofs.Format.{length-encode}
use Rattle.records.specs.Rewrites.{put, StandsIn, Passes, Rewritable, Rewrites, unchanged}
use Rattle.records.proofs.StandsIn.{encode-under, encode-both, stands_children, stands_left}
use Rattle.records.proofs.Rewrites.{Step, as_asks, as_gives}
use Rattle.rewriting.specs.Aligned.{Aligned}
use Rattle.rewriting.specs.Halting.{halt_aside, place_in, PlaceOf}
use Rattle.rewriting.proofs.Aligned.{end_placed, first_placed, passes_placed}
use Rattle.rewriting.proofs.Children.{head, first_child, second_child, two_children, one_child}
use Rattle.settling.specs.Searching.{between}
use Rattle.settling.proofs.Searching.{index_of}
use Rattle.settling.specs.Settling.{closes, settle_at, Scopes}

-- Places in a list: the one that the index is of; what is found or not between two places.
pub index_at : (p : ℕ) (qs : List ℕ) → index_of p qs < length qs → get_or qs (index_of p qs) 0 ≡ p
unfolding index_of
index_at p [] h = absurd (omega arith)
index_at p (q ∷ qs) h =
    bool_case _ (eqb p q) (λ e. rw e (sym (eqb-true p q e))) (λ e. rw e (index_at p qs (let z = rw e at h in omega arith)))

fewer-between : (p e o f : ℕ) (qs : List ℕ) → any (between p e) qs ≡ false → p ≤ o → f ≤ e → any (between o f) qs ≡ false
unfolding any
fewer-between p e o f [] h l k = refl
fewer-between p e o f (q ∷ qs) h l k =
    let (x, y) = or_false (between p e q) (any (between p e) qs) h in
    rw (not_so (λ z. let (i, m) = and_true (leb o q) (ltb q f) z in
    let w : ⊥ = clash (true_and (le-leb p q (omega (arith, leb-true o q i))) (lt-ltb q e (omega (arith, ltb-true q f m)))) x in w)) (fewer-between p e o f qs y l k)

none_there : (p e : ℕ) (qs : List ℕ) → any (between p e) qs ≡ false → p < e → length qs ≤ index_of p qs
unfolding any index_of
none_there p e [] h l = omega arith
none_there p e (q ∷ qs) h l =
    let (x, y) = or_false (between p e q) (any (between p e) qs) h in
    let z : eqb p q ≡ false = not_so (λ w. let i = eqb-true p q w in let v : ⊥ = clash (true_and (le-leb p q (omega arith)) (lt-ltb q e (omega arith))) x in v) in
    rw z (omega (arith, none_there p e qs y l))

one_there : (p : ℕ) (qs : List ℕ) → any (between p (suc p)) qs ≡ true → index_of p qs < length qs
unfolding any index_of
one_there p [] h = never h
one_there p (q ∷ qs) h =
    bool_case _ (eqb p q) (λ e. rw e (omega arith))
    (λ e. rw e (or_case _ (between p (suc p) q) (any (between p (suc p)) qs) h
    (λ b. let (x, y) = and_true (leb p q) (ltb q (suc p)) b in clash (eq-eqb p q (omega (arith, leb-true p q x, ltb-true q (suc p) y))) e)
    (λ b. omega (arith, one_there p qs b))))

-- What becomes of the term below a record: at a scope it is halted along the way to its kill, and else it is settled.
pub closes_there : (qs ks : List ℕ) (p : ℕ) (t r : Term) → length qs ≡ length ks → index_of p qs < length qs → closes qs ks p t r ≡ halt_aside (get_or ks (index_of p qs) 0 - suc p) t
unfolding closes index_of
closes_there [] ks p t r e h = absurd (omega arith)
closes_there (q ∷ qs) [] p t r e h = absurd (omega arith)
closes_there (q ∷ qs) (k ∷ ks) p t r e h =
    bool_case _ (eqb p q) (λ x. rw x) (λ x. rw x (closes_there qs ks p t r (omega arith) (let z = rw x at h in omega arith)))

pub closes_else : (qs ks : List ℕ) (p : ℕ) (t r : Term) → length qs ≤ index_of p qs → closes qs ks p t r ≡ r
unfolding closes index_of
closes_else [] ks p t r h = refl
closes_else (q ∷ qs) [] p t r h = refl
closes_else (q ∷ qs) (k ∷ ks) p t r h =
    bool_case _ (eqb p q) (λ x. absurd (let z = rw x at h in omega arith)) (λ x. rw x (closes_else qs ks p t r (let z = rw x at h in omega arith)))

-- A term that holds no scope stays as it is.
abbrev pub Free : List ℕ → ℕ → Term → Type 0
Free qs p t = any (between p (p + size t)) qs ≡ false

pub settle_free : (qs ks : List ℕ) (p : ℕ) (t : Term) → Free qs p t → settle_at qs ks p t ≡ unchanged t
unfolding settle_at size
settle_free qs ks p (leaf x) h = refl
settle_free qs ks p (under u t) h =
    ap (under u)
    (closes_else qs ks p t _ (none_there p (p + suc (size t)) qs h (omega arith)) ∙ settle_free qs ks (suc p) t (fewer-between p (p + suc (size t)) (suc p) (suc p + size t) qs h (omega arith) (omega arith)))
settle_free qs ks p (both j s t) h =
    rw (
      settle_free qs ks (suc p) s (fewer-between p (p + suc (size s + size t)) (suc p) (suc p + size s) qs h (omega arith) (omega arith)),
      settle_free qs ks (suc p + size s) t (fewer-between p (p + suc (size s + size t)) (suc p + size s) (suc p + size s + size t) qs h (omega arith) (omega arith)),
    )

-- A scope is a record with one child; of any other record the second child stands at place q.
abbrev pub OneChild : Term → Type 0
OneChild (leaf x) = ⊥
OneChild (under u t) = Unit {0}
OneChild (both j s t) = ⊥

abbrev pub Second : ℕ → ℕ → Term → Type 0
Second p q (leaf x) = ⊥
Second p q (under u t) = Unit {0}
Second p q (both j s t) = q ≡ suc p + size s

scope_step : (qs ks : List ℕ) (p n : ℕ) → length qs ≡ length ks → index_of p qs < length qs → n ≡ get_or ks (index_of p qs) 0 - suc p
    → (t : Term) → OneChild t → Step (settle_at qs ks p) (halt_aside n) unchanged (head t) t
unfolding settle_at root
scope_step qs ks p n e h m (leaf x) k = absurd k
scope_step qs ks p n e h m (under u t) k = rw (closes_there qs ks p t (settle_at qs ks (suc p) t) e h, ← m) (encode-under u (halt_aside n t))
scope_step qs ks p n e h m (both j s t) k = absurd k

through_step : (qs ks : List ℕ) (p o q : ℕ) → o ≡ suc p → length qs ≤ index_of p qs
    → (t : Term) → Second p q t → Step (settle_at qs ks p) (settle_at qs ks o) (settle_at qs ks q) (head t) t
unfolding settle_at root
through_step qs ks p o q e h (leaf x) k = absurd k
through_step qs ks p o q e h (under u t) k = rw (e, closes_else qs ks p t (settle_at qs ks (suc p) t) h) (encode-under u (settle_at qs ks (suc p) t))
through_step qs ks p o q e h (both j s t) k = rw (e, k) (encode-both j (settle_at qs ks (suc p) s) (settle_at qs ks (suc p + size s) t))

-- The calls at the record at byte i: what they are asked and what they give.
module _ {s ends qs ks : List ℕ} {i : ℕ} {d : List ℕ} {j : ℕ}
    (r : Rewritable (settle_at qs ks (i / 16)) s i d j) (l : Aligned s ends i) (z : Scopes s ends qs ks) where
  end_is : (t : Term) → StandsIn s i t → 16 * get_or ends (i / 16) 0 / 16 ≡ i / 16 + size t
  end_is t h = omega (arith, end_placed l t h, length-encode t)

  -- no scope in it
  module _ {end : ℕ} {b : Bool} (e : end ≡ 16 * get_or ends (i / 16) 0) (told : b ≡ any (between (i / 16) (end / 16)) qs) (no : b ≡ false) where
    free : (t : Term) → StandsIn s i t → Free qs (i / 16) t
    free t h = let n : end / 16 ≡ i / 16 + size t = omega (arith, end_is t h) in rw n at (sym told ∙ no)

    pub free_asks : Rewritable unchanged s i d j × Passes s i end
    free_asks = (as_asks _ unchanged (Free qs (i / 16)) (settle_free qs ks (i / 16)) r free, passes_placed l r e)

    pub free_gives : {o : List ℕ} {p q : ℕ} → Rewrites unchanged s i d j o p q → Rewrites (settle_at qs ks (i / 16)) s i d j o p q
    free_gives w = as_gives _ unchanged (Free qs (i / 16)) (settle_free qs ks (i / 16)) w free

  -- a scope
  module _ {m : ℕ} (e : m ≡ index_of (i / 16) qs) (h : m < length qs) where
    there : index_of (i / 16) qs < length qs
    there = omega arith

    abbrev kill : ℕ
    kill = 16 * get_or ks m 0

    scope_is : 16 * get_or qs m 0 ≡ i
    scope_is = omega (arith, ap (λ n. get_or qs n 0) e, index_at (i / 16) qs there, l.whole)

    kind_is : get_or s i 0 ≡ 8
    kind_is = ap (λ n. get_or s n 0) (sym scope_is) ∙ z.delimits m h

    one : (t : Term) → StandsIn s i t → children_of (get_or s i 0) ≡ 1 → OneChild t
    one (leaf x) y k = absurd (omega (arith, stands_children (leaf x) y))
    one (under u t) y k = tt
    one (both o a b) y k = absurd (omega (arith, stands_children (both o a b) y))

    one_child_there : children_of (get_or s i 0) ≡ 1
    unfolding open_kinds
    one_child_there = rw kind_is

    pub kill_of : PlaceOf s ends (i + 16) kill
    kill_of = rw scope_is at (z.holds m h)

    step : (t : Term) → OneChild t → Step (settle_at qs ks (i / 16)) (halt_aside (place_in (i + 16) kill)) unchanged (head t) t
    step = scope_step qs ks (i / 16) (place_in (i + 16) kill) z.as_many there (omega (arith, ap (λ n. get_or ks n 0) e, kill_of.from, l.whole))

    know : (t : Term) → StandsIn s i t → OneChild t
    know t y = one t y one_child_there

    pub scope_asks : {d' : List ℕ} {j' : ℕ} → j' ≡ j + 16 → length d' ≡ length d → Rewritable (halt_aside (place_in (i + 16) kill)) s (i + 16) d' j' × PlaceOf s ends (i + 16) kill
    scope_asks at keep = ((first_child _ _ unchanged OneChild step r l know (omega (arith, one_child_there)) at keep).0, kill_of)

    pub scope_gives : {d' o : List ℕ} {j' p q : ℕ} → Rewrites (halt_aside (place_in (i + 16) kill)) s (i + 16) d' j' o p q → j' ≡ j + 16 → d' ≡ put d j (take 16 (drop i s))
        → Rewrites (settle_at qs ks (i / 16)) s i d j o p q
    scope_gives w at x = one_child _ _ unchanged OneChild step r l know (omega (arith, one_child_there)) w at (omega (arith, one_child_there)) x

  -- above a scope
  module _ {end m : ℕ} {b : Bool} (e : end ≡ 16 * get_or ends (i / 16) 0) (told : b ≡ any (between (i / 16) (end / 16)) qs) (yes : b ≡ true) (f : m ≡ index_of (i / 16) qs) (h : length qs ≤ m) where
    abbrev second : ℕ
    second = get_or ends ((i + 16) / 16) 0

    above : (t : Term) → StandsIn s i t → Second (i / 16) second t
    unfolding size
    above (leaf x) y =
        let n : end / 16 ≡ suc (i / 16) = omega (arith, end_is (leaf x) y) in
        absurd (omega (arith, one_there (i / 16) qs (rw n at (sym told ∙ yes))))
    above (under u t) y = tt
    above (both o a b) y = omega (arith, end_placed (first_placed l) a (stands_left o a b y), length-encode a, l.whole)

    some_child : 1 ≤ children_of (get_or s i 0)
    some_child = go r.term r.stands (above r.term r.stands)
      where
        go : (t : Term) → StandsIn s i t → Second (i / 16) second t → 1 ≤ children_of (get_or s i 0)
        go (leaf x) y k = absurd k
        go (under u t) y k = omega (arith, stands_children (under u t) y)
        go (both o a b) y k = omega (arith, stands_children (both o a b) y)

    step_on : (t : Term) → Second (i / 16) second t → Step (settle_at qs ks (i / 16)) (settle_at qs ks ((i + 16) / 16)) (settle_at qs ks second) (head t) t
    step_on = through_step qs ks (i / 16) ((i + 16) / 16) second (omega arith) (omega arith)

    pub first_on : {d' : List ℕ} {j' : ℕ} → j' ≡ j + 16 → length d' ≡ length d → Rewritable (settle_at qs ks ((i + 16) / 16)) s (i + 16) d' j' × Aligned s ends (i + 16) × Scopes s ends qs ks
    first_on at keep = let a = first_child _ _ (settle_at qs ks second) _ step_on r l above some_child at keep in (a.0, a.1, z)

    module _ {d' o : List ℕ} {j' p q : ℕ} (w : Rewrites (settle_at qs ks ((i + 16) / 16)) s (i + 16) d' j' o p q) (at : j' ≡ j + 16) where
      second_is : children_of (get_or s i 0) ≡ 2 → p / 16 ≡ second
      second_is c = go r.term r.stands
        where
          go : (t : Term) → StandsIn s i t → p / 16 ≡ second
          go (leaf x) y = absurd (omega (arith, stands_children (leaf x) y))
          go (under u t) y = absurd (omega (arith, stands_children (under u t) y))
          go (both v a b) y = omega (arith, (w.done a (stands_left v a b y)).next, end_placed (first_placed l) a (stands_left v a b y))

      pub second_on : children_of (get_or s i 0) ≡ 2 → length o ≡ length d → Rewritable (settle_at qs ks (p / 16)) s p o q × Aligned s ends p × Scopes s ends qs ks
      second_on c keep =
          let a = second_child _ _ (settle_at qs ks second) _ step_on r l above some_child w at c keep in
          (rw (second_is c) a.0, a.1, z)

      pub two_on : {o' : List ℕ} {p' q' : ℕ} → children_of (get_or s i 0) ≡ 2 → d' ≡ put d j (take 16 (drop i s)) → Rewrites (settle_at qs ks (p / 16)) s p o q o' p' q' → Rewrites (settle_at qs ks (i / 16)) s i d j o' p' q'
      two_on c x v = two_children _ _ (settle_at qs ks second) _ step_on r l above some_child w at c x (rw (second_is c) at v)

      pub one_on : children_of (get_or s i 0) ≢ 2 → d' ≡ put d j (take 16 (drop i s)) → Rewrites (settle_at qs ks (i / 16)) s i d j o p q
      one_on c x = one_child _ _ (settle_at qs ks second) _ step_on r l above some_child w at c x
