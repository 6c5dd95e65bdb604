-- The test of two that may be parties, as the code makes it, and why those of another class need none.
use mathlib.Core.Path.{◌≡◌, refl, sym, ap, ◌∙◌}
use mathlib.Core.Bool.{Bool, true, false, ◌&&◌, ◌||◌}
use mathlib.Core.List.{List, [], ◌∷◌}
use Prim.Native.Nat.{ℕ, ◌+◌, ◌*◌, ◌/◌, ◌<◌}
use native.Mathlib.Omega.{arith}
use lib.Dec.{eqb}
use lib.ListN.{length, get_or}
use borrow.Author.Tests.{eq-eqb, ne_eqb}
use Rattle.cows.specs.Basics.{every}
use Rattle.cows.specs.Terms.{Term, Action, size, invokes}
use Rattle.cows.specs.Places.{sub}
use Rattle.cows.specs.Moves.{Substitution, Matching, binds, differs, closed_action, fit, in_scope}
use Rattle.cows.proofs.Basics.{clash, and_none, and_one, and_true, true_and, not_so, only-some}
use Rattle.ways.specs.Known.{Table}
use Rattle.ways.proofs.KnownTables.{table_inside}
use Rattle.std.specs.Prelude as rust
use Rattle.matching.specs.declared.Difference.{Difference}
use Rattle.std.specs.Prelude.{Ok, Err}
use Rattle.matching.specs.Matching.{fit_of, ActionAt}
use Rattle.roles.specs.declared.Role.{Role}
use Rattle.roles.specs.declared.Role.TheVariants as role
use Rattle.roles.specs.Roles.{seen, fewest_bound, sending, receiving, meets, Cast, is_role, role_at}
use Rattle.roles.proofs.Roles.{role_sender, role_receiver}
use Rattle.chains.specs.Chains.{class_at, sender_here, in_class}
use Rattle.meetings.specs.declared.Reach.{Reach}
use Rattle.meetings.specs.Reaching.{reach_test, Facing}
use Rattle.meetings.proofs.Pairs.{Receiver, Sender, receiver_has, sender_has, sender_stands, receiver_ends, sender_ends, meets-sends, meets_class, meets-binds, meets-differs}
use Rattle.meetings.proofs.SlotScopes.{scopes_reach}

-- by the answer of the matching: as few variables as any binds, and none, or all in reach
abbrev pub meets_if : rust.Result ℕ Difference → (few : ℕ) → (reach : Bool) → Bool
meets_if (Ok l) few reach = eqb l few && (eqb l 0 || reach)
meets_if (Err d) few reach = false

module _ (s ends fewest sent : List ℕ) (a b : ℕ) (x : Reach) (t : Term) (h : Facing s ends fewest sent a b x t) where
  receiver : Receiver t a
  receiver = receiver_has t a h.receiver

  sender : Sender t b
  sender = sender_has t b h.sender

  abbrev reached : Bool
  reached = reach_test x b (get_or sent (4 * b) 0) (get_or sent (4 * b + 1) 0) (get_or sent (4 * b + 2) 0) (get_or sent (4 * b + 3) 0)

  few_is : get_or fewest b 0 ≡ fewest_bound t sender.invoke
  unfolding seen
  few_is = h.numbers b sender.invoke (sender_stands t b sender).at.placed h.sender (only-some _ (invokes (sub t b)) sender.invoke sender.invokes).1

  pub meets_test : (r : rust.Result ℕ Difference) → ((q m : Action) → ActionAt s a q → ActionAt s b m → closed_action m ≡ true → r ≡ fit_of (fit q m)) → meets t a b ≡ meets_if r (get_or fewest b 0) reached
  unfolding every
  meets_test r f = rw (f receiver.receive sender.invoke (receiver_ends t a s ends h.table receiver) (sender_ends t b s ends h.table sender) sender.closed) (go (fit receiver.receive sender.invoke) refl)
    where
      scoped : (σ : Substitution) → every (in_scope t a b) σ ≡ reached → every (in_scope t a b) σ ≡ (eqb (length σ) 0 || reached)
      scoped [] e = refl
      scoped (p ∷ σ) e = rw (ne_eqb (length (p ∷ σ)) 0 (λ z. omega arith)) e

      swap : (c d : Bool) → (c && d) ≡ (d && c)
      swap true d = sym (and_one d)
      swap false d = sym (and_none d)

      go : (o : Matching) → fit receiver.receive sender.invoke ≡ o → meets t a b ≡ meets_if (fit_of o) (get_or fewest b 0) reached
      go (binds σ) e =
          meets-binds t a b receiver sender σ e
          ∙ (swap (every (in_scope t a b) σ) _ ∙ rw (← few_is, scoped σ (scopes_reach s ends t h.table a b receiver sender σ e x sent h.reach h.scopes h.sender)))
      go (differs d) e = meets-differs t a b receiver sender d e

-- The roles in `cast` are those of the term.
module _ (s ends : List ℕ) (cast : List Role) (t : Term) (h : Table s ends t) (k : Cast t cast) (j : ℕ) (l : j < length s / 16) where
  placed : j < size t
  placed = table_inside s ends t h j l

  pub cast_sender : is_role (role_at cast j) role.Sender ≡ sending t j
  cast_sender = ap (λ i. is_role i role.Sender) (k j placed) ∙ role_sender t j placed

  pub cast_receiver : is_role (role_at cast j) role.Receiver ≡ receiving t j
  cast_receiver = ap (λ i. is_role i role.Receiver) (k j placed) ∙ role_receiver t j placed

  sender_marked : sender_here cast j ≡ sending t j
  unfolding sender_here
  sender_marked = cast_sender

  pub in_sends : (c : ℕ) → in_class (sender_here cast) (class_at s) c j ≡ true → sending t j ≡ true
  unfolding in_class
  in_sends c e = sym sender_marked ∙ (and_true (sender_here cast j) _ e).0

  -- what is no sender of the class of a receive does not meet it
  pub not_met : (a : ℕ) → in_class (sender_here cast) (class_at s) (class_at s a) j ≡ false → meets t a j ≡ false
  unfolding in_class
  not_met a e = not_so (λ y. clash (true_and (sender_marked ∙ meets-sends t a j y) (eq-eqb _ _ (meets_class t a j s ends h y))) e)
