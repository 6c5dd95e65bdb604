-- The pass over the places: what the whole search finds is what was found so far, or else what is found from here on.
use mathlib.Core.Path.{◌≡◌, refl, sym, ap, ◌∙◌}
use mathlib.Core.Logic.{◌≢◌}
use mathlib.Core.Bool.{Bool, true, false}
use mathlib.Core.List.{List}
use mathlib.Core.Option.{Option, none, some}
use Prim.Native.Nat.{ℕ, ◌+◌, ◌-◌, ◌*◌, ◌/◌, ◌≤◌, ◌<◌}
use native.Mathlib.Omega.{arith}
use native.Mathlib.Nat.{sub-zero}
use lib.ListN.{length, get_or}
use Rattle.cows.specs.Basics.{any, place_if, or_else, first_from}
use Rattle.cows.specs.Terms.{Term, size}
use Rattle.cows.specs.Places.{spot_at, sub, first}
use Rattle.cows.specs.Tables.{unbound, again, escaped, clash}
use Rattle.cows.proofs.Basics.{never, or_none, from_next, from_end}
use Rattle.records.specs.Holds.{Holds}
use Rattle.std.specs.Prelude as rust
use Rattle.std.specs.Prelude.{Some, None, Ok, Err}
use Rattle.std.specs.Option.{option_or}
use Rattle.std.specs.Bool.{then_some}
use Rattle.scopes.specs.declared.ScopeFault.TheVariants.{Open, Clash}
use denote.Enum.Bare.{sameb}
use Rattle.scopes.specs.contracts.Level.{the_type}
use Rattle.scopes.specs.declared.Level.{Level}
use Rattle.scopes.specs.declared.Level.TheVariants.{Fine, Escaped, Unbound}
use Rattle.scopes.specs.Scopes.{scoping_of, PassedTo, level}
use Rattle.scopes.proofs.Marks.{none-again}
use Rattle.records.proofs.StandsIn.{holds_size}
use Rattle.scopes.proofs.Uses.{kind_here, none_used}

-- the code's option, as the definitions have it
abbrev pub meant : rust.Option ℕ → Option ℕ
meant None = none
meant (Some p) = some p

-- what was found so far, and one place more
clash-next : (c : rust.Option ℕ) (j : ℕ) (b : Bool) (q : Option ℕ) → or_else (meant c) (or_else (place_if b j) q) ≡ or_else (meant (option_or c (then_some b j))) q
unfolding place_if or_else
clash-next (Some p) j b q = refl
clash-next None j true q = refl
clash-next None j false q = refl

-- Before place j of n, with the first clash c so far.
pub record Going (s pages marks : List ℕ) (n : ℕ) (c : rust.Option ℕ) (j : ℕ) (t : Term) : Type 0 where
  pub passed : PassedTo s pages marks j t
  pub opened : first unbound t ≡ first_from (λ m. unbound m (spot_at t m)) j (n - j)
  pub clashes : first (clash t) t ≡ or_else (meant c) (first_from (λ m. clash t m (spot_at t m)) j (n - j))

pub going_start : (s pages marks : List ℕ) (n : ℕ) (t : Term) → n ≡ length s / 16 → PassedTo s pages marks 0 t → Going s pages marks n None 0 t
unfolding first place_if or_else
going_start s pages marks n t e p =
    let z : n ≡ size t = omega (arith, holds_size s t p.holds) in
    record { passed = p; opened = rw (sub-zero n, z); clashes = rw (sub-zero n, z) }

module _ (s pages marks : List ℕ) (n : ℕ) (c : rust.Option ℕ) (j : ℕ) (t : Term) (g : Going s pages marks n c j t) where
  pub going_turn : (pages-out marks-out : List ℕ) (b : Bool) (c' : rust.Option ℕ) → j < n → unbound j (spot_at t j) ≡ false → clash t j (spot_at t j) ≡ b → c' ≡ option_or c (then_some b j)
      → PassedTo s pages-out marks-out (j + 1) t → Going s pages-out marks-out n c' (j + 1) t
  unfolding place_if or_else
  going_turn pages-out marks-out b c' l u e ec p = record {
    passed = p;
    opened = g.opened ∙ (from_next _ j n l ∙ (rw u));
    clashes = g.clashes ∙ (ap (or_else (meant c)) (from_next _ j n l) ∙ (rw (e, ec) (clash-next c j b _)));
  }

  pub going_open : j < n → unbound j (spot_at t j) ≡ true → Err (Open j) ≡ scoping_of (first unbound t) (first (clash t) t)
  unfolding place_if or_else
  going_open l u = let e : first unbound t ≡ some j = g.opened ∙ (from_next _ j n l ∙ (rw u)) in rw e

  going_none : n ≤ j → (first unbound t ≡ none) × (first (clash t) t ≡ or_else (meant c) none)
  going_none l = (g.opened ∙ from_end _ j n l, g.clashes ∙ ap (or_else (meant c)) (from_end _ j n l))

  pub going_clash : n ≤ j → (p : ℕ) → c ≡ Some p → Err (Clash p) ≡ scoping_of (first unbound t) (first (clash t) t)
  unfolding or_else
  going_clash l p h = let (x, y) = going_none l in rw (x, y, h)

  pub going_fine : n ≤ j → c ≡ None → Ok tt ≡ scoping_of (first unbound t) (first (clash t) t)
  unfolding or_else
  going_fine l h = let (x, y) = going_none l in rw (x, y, h)

-- levels, read
abbrev is_level : Level → Level → Bool
is_level = sameb the_type

pub unbound_is : (f : Level) → is_level f Unbound ≡ true → f ≡ Unbound
unbound_is Fine e = never e
unbound_is Escaped e = never e
unbound_is Unbound e = refl

pub unbound_not : (f : Level) → is_level f Unbound ≡ false → f ≢ Unbound
unbound_not f e h = never (sym (rw h at e))

level_one : (u v : Bool) → level u v ≢ Unbound → (u ≡ false) × (v ≡ is_level (level u v) Escaped)
unfolding level
level_one true v x = absurd (x refl)
level_one false true x = (refl, refl)
level_one false false x = (refl, refl)

pub level_two : (f : Level) (u v : Bool) → f ≡ level u v → f ≡ Unbound → u ≡ true
unfolding level
level_two f true v e h = refl
level_two f false true e h = cc
level_two f false false e h = cc

-- What is found at one place: at a delimitation only a second one can clash, elsewhere only the uses.
module _ (s : List ℕ) (t : Term) (h : Holds s t) (j : ℕ) (l : j < length s / 16) where
  pub found-delimitation : get_or s (16 * j) 0 ≡ 8 → (unbound j (spot_at t j) ≡ false) × (clash t j (spot_at t j) ≡ again t j (spot_at t j))
  unfolding unbound clash escaped sub any
  found-delimitation k =
      let e = sym (kind_here s t h j l) ∙ k in
      let z = none_used (sub t j) (λ x. omega arith) (λ x. omega arith) (λ x. omega arith) in
      rw z (refl, or_none (again t j (spot_at t j)))

  pub found_other : (f : Level) → f ≡ level (unbound j (spot_at t j)) (escaped t j (spot_at t j)) → f ≢ Unbound → get_or s (16 * j) 0 ≢ 8 → (unbound j (spot_at t j) ≡ false) × (clash t j (spot_at t j) ≡ is_level f Escaped)
  unfolding clash
  found_other f e n k =
      rw (none-again t j (λ x. k (kind_here s t h j l ∙ x)), e) (level_one (unbound j (spot_at t j)) (escaped t j (spot_at t j)) (λ x. n (e ∙ x)))
