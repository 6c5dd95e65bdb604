-- The refusals of a joint step: each has a number from 1 on, and its place is below any bound that the listed places are below; so replies fit their number. And what is
-- accepted comes of a term within the limits.
use mathlib.Core.Path.{◌≡◌, refl, sym, ap, subst, ◌∙◌}
use mathlib.Core.Bool.{Bool}
use mathlib.Core.Option.{some}
use mathlib.Core.List.{List, [], ◌∷◌, ◌++◌}
use Prim.Native.Nat.{ℕ, ◌*◌, ◌≤◌, ◌<◌}
use native.Mathlib.Omega.{arith}
use lib.Dec.{ltb}
use lib.ListN.{length, get_or}
use lib.Seq.{get_or_at}
use Rattle.cows.specs.Basics.{place_if, Result, refuse, accept, ◌>>◌}
use Rattle.cows.specs.Terms.{Term, size}
use Rattle.cows.specs.Format.{AreBytes}
use Rattle.cows.specs.Tables.{judge}
use Rattle.cows.specs.Within.{Within}
use Rattle.cows.proofs.Basics.{bind-accept, forbid-accept, same_accept, place_if-some}
use Rattle.cows.proofs.Tables.{judge-within}
use Rattle.cows.proofs.Bounds.{OfRefusal, Below, of_bind, of_forbid, below-judge}
use Rattle.joint.specs.Joint.{wrong_number, all_live, first_clash, joint_at, joint_term, judge_joint}
use Rattle.joint.proofs.Listing.{refused_dead, clash-listed}

-- all places of a list are below b
abbrev pub PlacesBelow : ℕ → List ℕ → Type 0
PlacesBelow b ps = (k : ℕ) → get_or ps k 0 < b

listed_below : (b : ℕ) (ps before behind : List ℕ) (a : ℕ) → PlacesBelow b ps → ps ≡ before ++ (a ∷ behind) → a < b
listed_below b ps before behind a h e = omega (arith, h (length before), ap (λ l. get_or l (length before) 0) e, get_or_at before a behind 0 (length before) refl)

of_then : (P : ℕ → ℕ → Type 0) {B : Type 0} (m : Result (Unit {0})) (k : Result B) → OfRefusal P m → OfRefusal P k → OfRefusal P (m >> k)
unfolding ◌>>◌
of_then P (refuse n p) k h l = h
of_then P (accept a) k h l = l

-- P of a table's refusals, of 25 and 21 with place 0, and of 11 and 26 with a listed place, holds of every refusal of a joint step.
module _ (P : ℕ → ℕ → Type 0) (ps : List ℕ) (number : P 25 0) (room-short : P 21 0) (listed : (before behind : List ℕ) (a : ℕ) → ps ≡ before ++ (a ∷ behind) → P 11 a × P 26 a) where
  of_live : (t : Term) → OfRefusal P (all_live t ps)
  of_live t = go (all_live t ps) refl
    where
      go : (x : Result (Unit {0})) → all_live t ps ≡ x → OfRefusal P x
      go (refuse n a) e = let (i, d) = refused_dead t ps n a e in subst (λ k. P k a) (sym i) (listed d.before d.behind a d.listed).0
      go (accept _) e = tt

  at_0 : (n : ℕ) (c : Bool) → P n 0 → (p : ℕ) → place_if c 0 ≡ some p → P n p
  at_0 n c h p e = subst (P n) (place_if-some c 0 p e).1 h

  of_at : (t : Term) → OfRefusal P (joint_at t ps)
  unfolding joint_at
  of_at t =
      of_forbid P 25 (place_if (wrong_number ps) 0) _ (at_0 25 (wrong_number ps) number)
      (λ _. of_then P (all_live t ps) _ (of_live t)
      (of_forbid P 26 (first_clash t [] ps) _ (λ p e. let (x, y, z) = clash-listed t ps p e in (listed x y p z).1) (λ _. tt)))

  of_joint : (table : List ℕ) (room : ℕ) → OfRefusal P (judge table) → OfRefusal P (judge_joint table ps room)
  unfolding judge_joint joint_term
  of_joint table room h =
      of_bind P (judge table) _ h
      (λ t _. of_bind P (joint_at t ps) _ (of_at t) (λ s _. of_forbid P 21 (place_if (ltb room (16 * size s)) 0) _ (at_0 21 (ltb room (16 * size s)) room-short) (λ _. tt)))

pub below_joint : (b : ℕ) → 2049 ≤ b → (table ps : List ℕ) (room : ℕ) → PlacesBelow b ps → Below b (judge_joint table ps room)
below_joint b large table ps room h =
    of_joint (λ n p. (1 ≤ n) × (p < b)) ps (omega arith, omega arith) (omega arith, omega arith)
    (λ before behind a e. let l = listed_below b ps before behind a h e in ((omega arith, l), (omega arith, l))) table room (below-judge b large table)

from_one : (x : Result Term) → Below 2049 x → OfRefusal (λ n p. 1 ≤ n) x
from_one (refuse n p) h = h.0
from_one (accept t) h = tt

pub joint_from_one : (table ps : List ℕ) (room n p : ℕ) → judge_joint table ps room ≡ refuse n p → 1 ≤ n
joint_from_one table ps room n p e =
    rw e at (of_joint (λ n p. 1 ≤ n) ps (omega arith) (omega arith) (λ before behind a h. (omega arith, omega arith)) table room (from_one (judge table) (below-judge 2049 (omega arith) table)))

-- What is accepted on bytes is accepted on the term of the table.
pub on_term : (table ps : List ℕ) (room : ℕ) (s : Term) → AreBytes table → judge_joint table ps room ≡ accept s → (t : Term) × (judge table ≡ accept t) × Within t × (joint_at t ps ≡ accept s)
unfolding judge_joint joint_term
on_term table ps room s b e =
    let (t, et, e₁) = bind-accept (judge table) _ s e in
    let (r, er, e₂) = bind-accept (joint_at t ps) _ s e₁ in
    let (_, e₃) = forbid-accept 21 _ _ s e₂ in
    (t, et, judge-within table t b et, er ∙ ap accept (same_accept e₃))
