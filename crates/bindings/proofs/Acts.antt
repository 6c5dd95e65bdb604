-- An expression without parts: a call uses a variable outside its scope exactly if that is its parameter, and it is not marked as open.
use mathlib.Core.Path.{◌≡◌, refl, sym, ap, subst, ◌∙◌}
use mathlib.Core.Bool.{Bool, true, false, not, ◌&&◌}
use mathlib.Core.List.{List}
use Prim.Native.Nat.{ℕ, ◌+◌, ◌*◌, ◌-◌, ◌≤◌, ◌<◌}
use native.Mathlib.Omega.{arith}
use lib.ListN.{get_or}
use Rattle.cows.specs.Limits.{first_variable}
use Rattle.cows.specs.Basics.{any, place_if}
use Rattle.cows.specs.Terms.{value, variable, datum, bindable}
use Rattle.cows.proofs.Basics.{bool_case, or_none}
use Rattle.cows.proofs.Sets.{value-range, in-values, datum-value}
use Rattle.orc.specs.Expressions.{Act, nothing, call, Composition, sequential, symmetric, asymmetric, Orc, act, composed, RightAct, RightOrc, records_in, act_uses, bound_in}
use Rattle.orc.specs.Scripts.{out_of_scope, misbound}
use Rattle.scripts.specs.Standing.{ScriptAt}
use Rattle.scripts.proofs.Standing.{orc_kind, at_kind, at_call}
use Rattle.std.specs.Prelude.{Ok, Err}
use Rattle.bindings.specs.declared.Mark.{Mark}
use Rattle.bindings.specs.declared.Mark.TheVariants.{Unseen}
use Rattle.bindings.specs.Marks.{is_open, MarkedFor, uses_outside, Scannable, Scanned}
use Rattle.bindings.proofs.Marking.{mark_open}

-- a value is bound nowhere; a parameter is a variable, or a value
value_free : (a : ℕ) → value a ≡ true → bindable a ≡ false
value_free a h = let r = value-range a h in let i = in-values a r.0 r.1 in rw (i.1, i.2)

module _ {marks : List Mark} {seen : List ℕ} {E : ℕ → Bool} (m : MarkedFor marks E seen) where
  parameter_open : (w : ℕ) → datum w ≡ true → (variable w && not (is_open (get_or marks (w - first_variable) Unseen))) ≡ (bindable w && not (E w))
  parameter_open w d =
      bool_case _ (variable w) (λ v. rw (v, mark_open m w v)) (λ v. rw (value_free w (datum-value w d v), v))

  uses_are : {s : List ℕ} {n : ℕ} (x : Act) → ScriptAt s n (act x) → RightAct x → uses_outside s n marks ≡ out_of_scope E x
  unfolding out_of_scope act_uses any orc_kind
  uses_are nothing h r = rw (at_kind _ h)
  uses_are (call p q w) h r =
      rw (at_kind _ h, (at_call p q w h).0, value_free p r.0, value_free q r.1) (parameter_open w r.2 ∙ sym (or_none (bindable w && not (E w))))

-- the kind of a composition
composed-kind : (c : Composition) (f g : Orc) → 2 ≤ orc_kind (composed c f g)
unfolding orc_kind
composed-kind (sequential x) f g = omega arith
composed-kind symmetric f g = omega arith
composed-kind (asymmetric x) f g = omega arith

module _ {s : List ℕ} {n : ℕ} (kind : get_or s (8 * n) 0 < 2) where
  an_act : (e : Orc) → ScriptAt s n e → (x : Act) × (e ≡ act x)
  an_act (act x) h = (x, refl)
  an_act (composed c f g) h = absurd (omega (arith, at_kind _ h, composed-kind c f g))

  module _ {marks : List Mark} (q : Scannable s n marks) where
    act-misbound : (e : Orc) (E : ℕ → Bool) (seen : List ℕ) → ScriptAt s n e → RightOrc e → MarkedFor marks E seen → misbound E seen n e ≡ place_if (uses_outside s n marks) n
    unfolding misbound
    act-misbound e E seen h w m =
        let (x, z) = an_act e h in
        rw z (ap (λ b. place_if b n) (sym (uses_are m x (subst (ScriptAt s n) z h) (subst RightOrc z w))))

    pub act_fault : uses_outside s n marks ≡ true → Scanned s n marks marks (Err n)
    unfolding place_if
    act_fault o = record { all = q.all; to = λ e E seen h w m. act-misbound e E seen h w m ∙ rw o }

    pub act-passed : uses_outside s n marks ≡ false → Scanned s n marks marks (Ok (n + 1))
    unfolding place_if records_in bound_in
    act-passed o = record {
      all = q.all;
      to = (
        omega arith,
        λ e h. let (x, z) = an_act e h in rw z,
        λ e E seen h w m. (act-misbound e E seen h w m ∙ rw o, let (x, z) = an_act e h in rw z m),
      );
    }
