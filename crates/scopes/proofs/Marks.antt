-- The marks of a term's atoms: from place to place while the atoms are entered, and in the pass.
use mathlib.Core.Path.{◌≡◌, refl, sym, ap, ◌∙◌}
use mathlib.Core.Logic.{◌≢◌}
use mathlib.Core.Bool.{Bool, true, false, cond}
use mathlib.Core.Option.{Option, none, some}
use Prim.Native.Nat.{ℕ, suc, ◌+◌, ◌≤◌, ◌<◌, max}
use native.Mathlib.Omega.{arith}
use lib.Dec.{ltb, leb}
use borrow.Author.Tests.{lt-ltb, le-ltb, le-leb, lt-leb, ne_eqb}
use Rattle.cows.specs.Basics.{member, found_with, one_if}
use Rattle.cows.specs.Terms.{delimitation, Term, under, size, prefixed, delimits, binders}
use Rattle.cows.specs.Kinds.{root, kind_of}
use Rattle.cows.specs.Places.{spot_at, sub}
use Rattle.cows.specs.Format.{byte, layout, record16}
use Rattle.cows.specs.Tables.{delimited_before, again}
use Rattle.cows.proofs.Basics.{lt_case}
use Rattle.cows.proofs.Places.{size_pos}
use Rattle.cows.proofs.Stands.{looks, prefixed_is, delimited-member}
use Rattle.cows.specs.Records.{reach_of}
use Rattle.cows.proofs.Reach.{is_delimits_at, before_reach, binders_reach}
use Rattle.scopes.specs.Scopes.{entered_of, mark_of}

no-delimits : (s : Term) → kind_of s ≢ 8 → prefixed delimits s ≡ none
no-delimits s h = go (prefixed delimits s) refl
  where
    go : (o : Option ℕ) → prefixed delimits s ≡ o → o ≡ none
    go none e = refl
    go (some d) e = absurd (h (ap kind_of (prefixed_is delimits delimitation (λ u. (looks u).delimiting) s d e) ∙ (unfold kind_of root record16 layout byte in refl)))

two : (r : ℕ) → leb 2 (suc r) ≡ ltb 0 r
two r = lt_case (leb 2 (suc r) ≡ ltb 0 r) 0 r (λ h. rw (le-leb 2 (suc r) (omega arith), lt-ltb 0 r h)) (λ h. rw (lt-leb 2 (suc r) (omega arith), le-ltb 0 r h))

-- at the start; past a record that is no delimitation
pub entered-none : (t : Term) (a : ℕ) → 0 ≡ entered_of t 0 a
unfolding entered_of reach_of
entered-none t a = refl

module _ (t : Term) (j : ℕ) (h : kind_of (sub t j) ≢ 8) (a : ℕ) where
  reach_pass : reach_of t a j ≡ reach_of t a (suc j)
  unfolding reach_of found_with
  reach_pass = rw (no-delimits (sub t j) h)

  pub entered_pass : entered_of t j a ≡ entered_of t (suc j) a
  unfolding entered_of
  entered_pass = ap (λ r. one_if (ltb 0 r)) reach_pass

  pub mark_pass : mark_of t j a ≡ mark_of t (suc j) a
  unfolding mark_of
  mark_pass = ap (λ r. cond (member a (binders t)) (suc r) 0) reach_pass

-- past a delimitation of d
module _ (t : Term) (j d : ℕ) {c : Term} (is : sub t j ≡ under (delimitation d) c) where
  reach_here : reach_of t d (suc j) ≡ max (reach_of t d j) (j + size (sub t j))
  unfolding reach_of
  reach_here = rw (is_delimits_at d (sub t j) c is)

  reach_other : (a : ℕ) → a ≢ d → reach_of t a (suc j) ≡ reach_of t a j
  unfolding reach_of found_with prefixed delimits
  reach_other a h = rw (is, ne_eqb a d h)

  pub entered_here : entered_of t (suc j) d ≡ 1
  unfolding entered_of
  entered_here = rw (lt-ltb 0 (reach_of t d (suc j)) (omega (arith, reach_here, size_pos (sub t j))))

  pub entered_other : (a : ℕ) → a ≢ d → entered_of t (suc j) a ≡ entered_of t j a
  unfolding entered_of
  entered_other a h = ap (λ r. one_if (ltb 0 r)) (reach_other a h)

  pub mark_other : (a : ℕ) → a ≢ d → mark_of t (suc j) a ≡ mark_of t j a
  unfolding mark_of
  mark_other a h = ap (λ r. cond (member a (binders t)) (suc r) 0) (reach_other a h)

  again_here : again t j (spot_at t j) ≡ delimited_before t j d
  unfolding again sub found_with prefixed delimits
  again_here = rw is

  module _ (l : j < size t) where
    mark_here : (i : ℕ) → mark_of t i d ≡ suc (reach_of t d i)
    unfolding mark_of
    mark_here i = rw (delimited-member d t j c (record { placed = l; stands = is }))

    pub mark_there : 0 < mark_of t j d
    mark_there = omega (arith, mark_here j)

    -- the farther of the two ends
    pub mark_farther : mark_of t j d < j + size (sub t j) + 1 → mark_of t (suc j) d ≡ j + size (sub t j) + 1
    mark_farther h = omega (arith, mark_here j, mark_here (suc j), reach_here)

    pub mark_nearer : j + size (sub t j) + 1 ≤ mark_of t j d → mark_of t (suc j) d ≡ mark_of t j d
    mark_nearer h = omega (arith, mark_here j, mark_here (suc j), reach_here)

    -- a second delimitation of d
    pub mark_again : leb 2 (mark_of t j d) ≡ again t j (spot_at t j)
    mark_again = ap (leb 2) (mark_here j) ∙ (two (reach_of t d j) ∙ (sym (before_reach t d j) ∙ sym again_here))

pub none-again : (t : Term) (j : ℕ) → kind_of (sub t j) ≢ 8 → again t j (spot_at t j) ≡ false
unfolding again sub found_with
none-again t j h = rw (no-delimits (sub t j) h)

-- once every place is entered
pub entered_all : (t : Term) (a : ℕ) → entered_of t (size t) a ≡ mark_of t 0 a
unfolding entered_of mark_of reach_of
entered_all t a = rw (binders_reach t a) (go (ltb 0 (reach_of t a (size t))))
  where
    go : (b : Bool) → one_if b ≡ cond b 1 0
    go true = refl
    go false = refl
