-- Outside the outermost delimitation that goes (specs/Outermost) a communication leaves every record as it is: there no record holds a variable that takes a value.
use mathlib.Core.Path.{◌≡◌, refl, sym, ap, subst, ◌∙◌}
use mathlib.Core.Bool.{true, false}
use mathlib.Core.Option.{none, some}
use mathlib.Core.List.{List, [], ◌∷◌}
use Prim.Native.Nat.{ℕ, suc, min, ◌+◌, ◌-◌, ◌≤◌, ◌<◌}
use native.Mathlib.Omega.{arith}
use lib.Dec.{eqb}
use lib.ListN.{length, get_or, take}
use lib.Seq.{get_or-take, length-take-le, take_all}
use borrow.Author.Tests.{eqb-true}
use Rattle.cows.specs.Basics.{any, member}
use Rattle.cows.specs.Terms.{Term, Action, size, variable, label, bindable, delimits_at, uses}
use Rattle.cows.specs.Kinds.{root}
use Rattle.cows.specs.Places.{way_to, sub, enclosed}
use Rattle.cows.specs.Format.{record16}
use Rattle.cows.specs.Allows.{AllReach}
use Rattle.cows.specs.Moves.{Substitution}
use Rattle.cows.proofs.Basics.{never, clash, bool_case, not_so, or_case, lt_case, or_left, found_some}
use Rattle.cows.proofs.Places.{size_pos, spot_fits}
use Rattle.cows.proofs.Reach.{is_delimits_at, enclosed_reaches}
use Rattle.cows.proofs.Meeting.{in_scope_reaches}
use Rattle.cows.proofs.Stands.{scoped_at}
use Rattle.records.specs.declared.Variable.{Variable}
use Rattle.records.specs.declared.Binding.{Binding}
use Rattle.std.specs.Prelude as rust
use Rattle.std.specs.Prelude.{Some, None}
use Rattle.std.specs.List.{list_any}
use Rattle.records.specs.Atoms.{takes_variable}
use Rattle.records.proofs.Atoms.{class_variable}
use Rattle.records.proofs.StandsIn.{stands_record, holds_stands}
use Rattle.ways.specs.Known.{Table}
use Rattle.ways.specs.Ways.{Over, scope_of}
use Rattle.ways.proofs.KnownTables.{table_size, table_ended}
use Rattle.ways.proofs.Starts.{Scope, scope_at, scope_found}
use Rattle.ways.proofs.Once.{one_delimitation}
use Rattle.renaming.specs.Bound.{takes_one, record_bound, Unchanged}
use Rattle.renaming.proofs.Bound.{not_taken, untaken_stays}
use Rattle.scoping.proofs.InScope.{bound_used}
use Rattle.ways.proofs.Parts.{part_ends}
use Rattle.communicate.specs.Outermost.{slots_taken, NoneAhead, Outer, Outermost}
use Rattle.communicate.proofs.Left.{Matched}
use Rattle.communicate.proofs.Replacing.{taken-bound}

-- The outer one of place p and the delimitation around place b of a variable that takes a value.
module _ {t : Term} {b p : ℕ} (o : Over t p b) where
  pub outer_none : Outer t b p None p
  outer_none = record { over = o; low = omega arith; none_ahead = λ x e. never e }

  module _ (x : Binding) where
    pub outer_unscoped : scope_of x.variable.0 (way_to t b) ≡ none → Outer t b p (Some x) p
    outer_unscoped e = record { over = o; low = omega arith; none_ahead = λ y f q h. absurd (let z = eqb-true y.0 x.variable.0 f in let w : ◌≡◌ {A = ℕ} 0 1 = cc in omega arith) }

    module _ (q : ℕ) (e : scope_of x.variable.0 (way_to t b) ≡ some q) where
      ahead_of : (r : ℕ) → r ≤ q → NoneAhead t b (Some x) r
      ahead_of r l y f k h = let z = eqb-true y.0 x.variable.0 f in let w : k ≡ q = cc in omega arith

      outer_inside : p ≤ q → Outer t b p (Some x) p
      outer_inside l = record { over = o; low = omega arith; none_ahead = ahead_of p l }

      outer_scope : b < size t → q < p → Outer t b p (Some x) q
      outer_scope i l =
          let c = scope_at t b (way_to t b) (sub t b) x.variable.0 q (i, refl, refl) e in
          record { over = record { inside = c.inside; low = omega (arith, c.before); over = omega (arith, c.ends, size_pos (sub t b)) }; low = omega arith; none_ahead = ahead_of q (omega arith) }

      pub outer_min : b < size t → Outer t b p (Some x) (min p q)
      outer_min i =
          lt_case (Outer t b p (Some x) (min p q)) q p (λ h. let z : min p q ≡ q = omega arith in rw z (outer_scope i h)) (λ h. let z : min p q ≡ p = omega arith in rw z (outer_inside h))

-- The innermost is the invoke itself.
pub over_itself : (t : Term) (b : ℕ) → b < size t → Over t b b
over_itself t b l = record { inside = l; low = omega arith; over = omega (arith, size_pos (sub t b)) }

-- Slot by slot: outside the first of them, and with the next.
pub outers_start : {t : Term} {b : ℕ} (ts : List (rust.Option Binding)) → Over t b b → Outermost t b (take 0 ts) b
outers_start ts o = record { over = o; none_ahead = λ i l. absurd (omega arith) }

pub outers_turn : {t : Term} {b p r : ℕ} (ts : List (rust.Option Binding)) (i : ℕ) → i < length ts → Outermost t b (take i ts) p → Outer t b p (get_or ts i None) r → Outermost t b (take (i + 1) ts) r
outers_turn {t} {b} {p} {r} ts i l o f = record { over = f.over; none_ahead = λ j m. turn j (omega (arith, length-take-le (i + 1) ts (omega arith))) }
  where
    turn : (j : ℕ) → j < i + 1 → NoneAhead t b (get_or (take (i + 1) ts) j None) r
    turn j m = rw (get_or-take (i + 1) ts j None m)
        (lt_case (NoneAhead t b (get_or ts j None) r) j i
        (λ h x k q e. let z = rw (get_or-take i ts j None h) at (o.none_ahead j (omega (arith, length-take-le i ts (omega arith)))) in omega (arith, z x k q e, f.low))
        (λ h. let z : j ≡ i = omega arith in rw z f.none_ahead))

pub outers_end : {t : Term} {b r : ℕ} (ts : List (rust.Option Binding)) (i : ℕ) → length ts ≤ i → Outermost t b (take i ts) r → Outermost t b ts r
outers_end ts i l o = rw (take_all i ts l) at o

-- a variable that is bound is delimited around the invoke
bound-enclosed : (t : Term) (a b x : ℕ) (σ : Substitution) → AllReach t a b σ → any (λ (p : ℕ × ℕ). eqb p.0 x) σ ≡ true → enclosed x (way_to t b) ≡ true
unfolding any
bound-enclosed t a b x [] h e = never e
bound-enclosed t a b x (p ∷ σ) h e =
    or_case _ (eqb p.0 x) _ e (λ k. subst (λ y. enclosed y (way_to t b) ≡ true) (eqb-true p.0 x k) h.0.sender) (bound-enclosed t a b x σ h.1)

-- The receive q at place a and the invoke m at place b match.
module _ {s ends : List ℕ} {t : Term} (k : Table s ends t) (a b : ℕ) (q m : Action) (σ : Substitution) (h : Matched t a b q m σ) where
  abbrev four : List (rust.Option Binding)
  four = slots_taken s a b

  abbrev taken : ℕ → Type 0
  taken x = takes_one four x ≡ true

  taken-variable : (x : ℕ) → taken x → variable x ≡ true
  taken-variable x e = bool_case _ (variable x) (λ v. v) (λ v. clash e (not_taken four x v))

  taken_scope : (x : ℕ) → taken x → (p : ℕ) × (scope_of x (way_to t b) ≡ some p) × Scope t b (sub t b) x p
  taken_scope x e =
      let r = bound-enclosed t a b x σ (in_scope_reaches t a b σ h.scopes) (taken-bound s t a b q m σ k.within h k.holds x e) in
      let (p, f) = found_some (scope_of x (way_to t b)) (sym (scope_found x (way_to t b)) ∙ r) in
      (p, f, scope_at t b (way_to t b) (sub t b) x p (h.sender, refl, refl) f)

  module _ (low : ℕ) (o : Outermost t b four low) where
    first-behind : (v : Variable) (p : ℕ) → scope_of v.0 (way_to t b) ≡ some p → (ts : List (rust.Option Binding)) → ((i : ℕ) → i < length ts → NoneAhead t b (get_or ts i None) low) → list_any (λ x. takes_variable x v) ts ≡ true → low ≤ p
    first-behind v p f [] h e = never e
    first-behind v p f (x ∷ ts) h e =
        or_case (low ≤ p) (takes_variable x v) _ e (λ w. h 0 (omega arith) v w p f) (first-behind v p f ts (λ i l. h (suc i) (omega arith)))

    taken-behind : (x : ℕ) → taken x → (p : ℕ) → scope_of x (way_to t b) ≡ some p → low ≤ p
    taken-behind x e p f =
        let w = rw (class_variable x (taken-variable x e)) at e in
        first-behind (record { 0 = x }) p f four o.none_ahead w

    -- its delimitation lies inside the term at place low
    taken-inside : (x j : ℕ) → taken x → j < size t → delimits_at x (sub t j) ≡ true → (low ≤ j) × (j + size (sub t j) ≤ low + size (sub t low))
    taken-inside x j e l d =
        let (p, f, c) = taken_scope x e in
        let z = one_delimitation t k.within.formed x j p l c.inside d (is_delimits_at x (sub t p) _ c.stands) in
        let i = taken-behind x e p f in
        let u : Over t low j = record { inside = o.over.inside; low = omega arith; over = omega (arith, o.over.over, c.before) } in
        (omega arith, part_ends t low j u.inside u.low u.over)

    -- and so does each record that holds it
    module _ (j : ℕ) (l : j < size t) (out : (low ≤ j → j < low + size (sub t low) → ⊥)) where
      not_used : (x : ℕ) → member x (uses (sub t j)) ≡ true → takes_one four x ≡ false
      not_used x u = not_so (λ e.
          let r = bound_used bindable _ (uses (sub t j)) x (scoped_at bindable t j k.within.formed.closed) u (or_left (variable x) (label x) (taken-variable x e)) in
          let (i, n, d, v) = enclosed_reaches t x j l r in
          let y = taken-inside x i e (omega arith) d in
          out (omega arith) (omega arith))

      not-delimited : (x : ℕ) → delimits_at x (sub t j) ≡ true → takes_one four x ≡ false
      not-delimited x d = not_so (λ e. let y = taken-inside x j e l d in out y.0 (omega (arith, y.1, size_pos (sub t j))))

      stays : record_bound four b j (record16 (root (sub t j))) ≡ record16 (root (sub t j))
      stays = untaken_stays four (sub t j) not_used not-delimited b j (λ e. out (omega (arith, o.over.low)) (omega (arith, o.over.over)))

    pub outside-unchanged : {high : ℕ} → high ≡ get_or ends low 0 → Unchanged four b s low high
    outside-unchanged {high} e =
        let n = table_size s ends t k in
        let f = table_ended s ends t k low o.over.inside in
        record {
          ahead = λ j i l. let p : j < size t = omega arith in rw (stands_record (sub t j) (holds_stands s t j k.holds p)) (stays j p (λ u v. omega arith));
          behind = λ j i l. let p : j < size t = omega arith in rw (stands_record (sub t j) (holds_stands s t j k.holds p)) (stays j p (λ u v. omega arith));
        }
