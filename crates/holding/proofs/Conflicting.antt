-- A receive that fits an invoke and binds fewer variables (cows, specs/Moves, tighter), by the bytes of its record.
use mathlib.Core.Path.{◌≡◌, refl, sym, ap, ◌∙◌}
use mathlib.Core.Logic.{◌≢◌}
use mathlib.Core.Bool.{Bool, true, false, ◌||◌}
use mathlib.Core.List.{List}
use mathlib.Core.Option.{Option, none, some}
use Prim.Native.Nat.{ℕ, ◌+◌, ◌*◌, ◌/◌, ◌≤◌, ◌<◌}
use native.Mathlib.Omega.{arith}
use lib.Dec.{ltb, eqb}
use lib.ListN.{length, get_or}
use borrow.Author.Tests.{ltb-true, eqb-true, eqb-false, eq-eqb}
use Rattle.cows.specs.Basics.{found_with}
use Rattle.cows.specs.Terms.{Term, Action, size, prefixed, receives, below, receive_of}
use Rattle.cows.specs.Kinds.{root, kind_of}
use Rattle.cows.specs.Places.{way_to, sub, first}
use Rattle.cows.specs.Format.{byte, layout, record16}
use Rattle.cows.specs.Active.{ready}
use Rattle.cows.specs.Moves.{Substitution, Matching, binds, differs, fit, fewer, tighter}
use Rattle.cows.proofs.Basics.{never, clash, bool_case, lt_case, and_true, true_and, or_false, holds_some}
use Rattle.cows.proofs.Meeting.{fit_fits}
use Rattle.cows.proofs.Stands.{looks, prefixed_is, fails_first}
use Rattle.records.specs.Holds.{Holds}
use Rattle.records.proofs.StandsIn.{holds_kind}
use Rattle.ways.specs.Known.{Table}
use Rattle.ways.proofs.KnownTables.{table_size}
use Rattle.std.specs.Prelude as rust
use Rattle.matching.specs.declared.Difference.{Difference}
use Rattle.std.specs.Prelude.{Ok, Err}
use Rattle.matching.specs.Matching.{fit_of, ActionAt}
use Rattle.matching.proofs.Parties.{receive_here, receive_ends}
use Rattle.holding.specs.Holding.{rival_at}

-- the test of a record
abbrev pub tightening : ℕ → Action → Term → Bool
tightening l m r = found_with (λ q. fewer l (fit q m)) (prefixed receives r)

-- and of an answer
abbrev pub fewer_bound : ℕ → rust.Result ℕ Difference → Bool
fewer_bound l (Ok n) = ltb n l
fewer_bound l (Err d) = false

fewer-bound : (l : ℕ) (x : Matching) → fewer_bound l (fit_of x) ≡ fewer l x
unfolding fewer
fewer-bound l (binds σ) = refl
fewer-bound l (differs d) = refl

module _ (s : List ℕ) (t : Term) (i l : ℕ) (m : Action) (h : Holds s t) (p : i < size t) where
  pub no-receive : get_or s (16 * i) 0 ≢ 3 → false ≡ tightening l m (sub t i)
  unfolding kind_of root record16 layout byte found_with
  no-receive e = go (prefixed receives (sub t i)) refl
    where
      go : (o : Option Action) → prefixed receives (sub t i) ≡ o → false ≡ found_with (λ q. fewer l (fit q m)) o
      go none x = refl
      go (some q) x = absurd (e (holds_kind s t i h p ∙ ap kind_of (prefixed_is receives receive_of (λ u. (looks u).receiving) (sub t i) q x)))

  module _ (e : get_or s (16 * i) 0 ≡ 3) where
    receiving : (q : Action) × ActionAt s i q × (prefixed receives (sub t i) ≡ some q)
    unfolding prefixed receives
    receiving = let (q, z, k) = receive_here s t i h p (sym (holds_kind s t i h p) ∙ e) in (q, k, ap (prefixed receives) z)

    pub receive_tests : (r : rust.Result ℕ Difference) → ((q : Action) → ActionAt s i q → r ≡ fit_of (fit q m)) → fewer_bound l r ≡ tightening l m (sub t i)
    unfolding found_with
    receive_tests r f = let (q, k, z) = receiving in rw (z, f q k) (fewer-bound l (fit q m))

-- what binds fewer
binds-fewer : (l : ℕ) (x : Matching) → fewer l x ≡ true → (σ : Substitution) × (x ≡ binds σ) × (length σ < l)
unfolding fewer
binds-fewer l (binds σ) e = (σ, refl, ltb-true (length σ) l e)
binds-fewer l (differs d) e = never e

-- a receive that is tighter
module _ (t : Term) (m : Action) (l i : ℕ) (e : tighter m l i (record { way = way_to t i; here = sub t i }) ≡ true) where
  pub tighter_is : (q : Action) × (σ : Substitution) × (prefixed receives (sub t i) ≡ some q) × (fit q m ≡ binds σ) × (length σ < l)
  unfolding tighter
  tighter_is =
      let (q, z, f) = holds_some (λ r. fewer l (fit r m)) (prefixed receives (sub t i)) (and_true (ready (way_to t i)) _ e).1 in
      let (σ, x, n) = binds-fewer l (fit q m) f in
      (q, σ, z, x, n)

-- than one that binds nothing none is tighter
pub none-under : (t : Term) (m : Action) → first (tighter m 0) t ≡ none
none-under t m = fails_first (tighter m 0) t (λ i k e. let (q, σ, z, x, n) = tighter_is t m 0 i e in omega arith)

-- nor than one that is alone on its endpoint
module _ {s ends : List ℕ} {t : Term} (h : Table s ends t) (a b l : ℕ) (q m : Action) (here : prefixed receives (sub t a) ≡ some q) (sent : ActionAt s b m) (f : Ok l ≡ fit_of (fit q m))
    (ahead : (i : ℕ) → 0 ≤ i → i < a → rival_at s b i ≡ false) (behind : (i : ℕ) → a + 1 ≤ i → i < length s / 16 → rival_at s b i ≡ false) where
  not_itself : (r : Action) (σ : Substitution) → prefixed receives (sub t a) ≡ some r → fit r m ≡ binds σ → length σ < l → ⊥
  not_itself r σ z x n =
      let s : some q ≡ some r = sym here ∙ z in
      let y : q ≡ r = cc in
      let w : Ok l ≡ Ok (length σ) = f ∙ (ap (λ p. fit_of (fit p m)) y ∙ ap fit_of x) in
      let v : l ≡ length σ = cc in
      omega arith

  is_rival : (i : ℕ) (r : Action) (σ : Substitution) → i < size t → prefixed receives (sub t i) ≡ some r → fit r m ≡ binds σ → rival_at s b i ≡ true
  unfolding rival_at kind_of root record16 layout byte
  is_rival i r σ k z x =
      let u = prefixed_is receives receive_of (λ u. (looks u).receiving) (sub t i) r z in
      let c = receive_ends s t i h.holds k r (below (sub t i)) u in
      let g = fit_fits r m σ x in
      true_and (eq-eqb _ 3 (holds_kind s t i h.holds k ∙ ap kind_of u))
      (true_and (eq-eqb _ _ (c.partner ∙ (g.partner ∙ sym sent.partner))) (eq-eqb _ _ (c.operation ∙ (g.operation ∙ sym sent.operation))))

  alone : (i : ℕ) → i < length s / 16 → i ≢ a → rival_at s b i ≡ false
  alone i k n = lt_case (rival_at s b i ≡ false) i a (ahead i (omega arith)) (λ l. lt_case (rival_at s b i ≡ false) a i (λ h. behind i (omega arith) k) (λ h. absurd (n (omega arith))))

  pub alone_tighter : first (tighter m l) t ≡ none
  alone_tighter = fails_first (tighter m l) t (λ i k e.
      let (r, σ, z, x, n) = tighter_is t m l i e in
      bool_case ⊥ (eqb i a) (λ y. not_itself r σ (ap (λ j. prefixed receives (sub t j)) (sym (eqb-true i a y)) ∙ z) x n)
      (λ y. clash (is_rival i r σ k z x) (alone i (omega (arith, table_size s ends t h)) (eqb-false i a y))))

-- one more record of the pass
pub rival_turn : (s : List ℕ) (b from i : ℕ) {any r : Bool} → (any ≡ false → (j : ℕ) → from ≤ j → j < i → rival_at s b j ≡ false) → r ≡ rival_at s b i → (any || r) ≡ false
    → (j : ℕ) → from ≤ j → j < i + 1 → rival_at s b j ≡ false
rival_turn s b from i {any} {r} h e o j f l =
    let (x, y) = or_false any r o in
    lt_case (rival_at s b j ≡ false) j i (h x j f) (λ k. let z : j ≡ i = omega arith in rw (z, ← e) y)
