-- One role or another: the test of the definitions, and what a derived `==` says.
use mathlib.Core.Path.{◌≡◌, refl, sym, ap, ◌∙◌}
use mathlib.Core.Logic.{◌≢◌}
use mathlib.Core.Bool.{Bool, true, false}
use lib.Dec.{eqb}
use denote.Enum.Bare.{sameb, same_true, same_false, true_same, false_same}
use denote.Enum.Declared.{tag_of}
use Rattle.roles.specs.declared.Role.{Role}
use Rattle.roles.specs.declared.Role.TheVariants.{Idle, Kill, Timeout, Unfold, Extrude, Sender, Receiver, Rival, Holder}
use Rattle.roles.specs.contracts.Role.{the_type}
use Rattle.roles.specs.Roles.{number_of_role, is_role}

tag_is : (r : Role) → tag_of the_type r ≡ number_of_role r
tag_is Idle = refl
tag_is Kill = refl
tag_is Timeout = refl
tag_is Unfold = refl
tag_is Extrude = refl
tag_is Sender = refl
tag_is Receiver = refl
tag_is Rival = refl
tag_is Holder = refl

pub same_is : (a b : Role) → sameb the_type a b ≡ is_role a b
same_is a b = ap (λ n. eqb n (tag_of the_type b)) (tag_is a) ∙ ap (eqb (number_of_role a)) (tag_is b)

-- what a tested `==` says of r and k
pub by_test : (r k : Role) {b v : Bool} → b ≡ sameb the_type r k → b ≡ v → is_role r k ≡ v
by_test r k e t = sym (same_is r k) ∙ (sym e ∙ t)

pub eq-is_role : (a b : Role) → a ≡ b → is_role a b ≡ true
eq-is_role a b e = sym (same_is a b) ∙ true_same the_type a b e

pub ne-is_role : (a b : Role) → a ≢ b → is_role a b ≡ false
ne-is_role a b e = sym (same_is a b) ∙ false_same the_type tt a b e

pub is_role-eq : (a b : Role) → is_role a b ≡ true → a ≡ b
is_role-eq a b e = same_true the_type tt a b (same_is a b ∙ e)

pub is_role-ne : (a b : Role) → is_role a b ≡ false → a ≢ b
is_role-ne a b e = same_false the_type a b (same_is a b ∙ e)

pub role_case : (A : Type 0) (a b : Role) → (a ≡ b → A) → (a ≢ b → A) → A
role_case A a b f g = go (is_role a b) refl
  where
    go : (x : Bool) → is_role a b ≡ x → A
    go true e = f (is_role-eq a b e)
    go false e = g (is_role-ne a b e)
