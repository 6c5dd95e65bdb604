-- The theorems of 2026-06 on what `joint` returns and leaves, each with a short proof that cites where it is shown; those on terms are in crate joint.
use mathlib.Core.Path.{◌≡◌, refl, sym, ap, subst, ◌∙◌}
use mathlib.Core.List.{List}
use Prim.Native.Nat.{ℕ, ◌+◌, ◌*◌, ◌≤◌}
use native.Mathlib.Omega.{arith}
use lib.ListN.{length, take}
use lib.Seq.{take_at}
use Rattle.cows.specs.Basics.{Result, refuse, accept}
use Rattle.cows.specs.Terms.{Term, size}
use Rattle.cows.specs.Format.{AreBytes, encode}
use Rattle.cows.specs.Tables.{judge}
use Rattle.cows.specs.Within.{Within}
use Rattle.cows.specs.Load.{load}
use Rattle.cows.proofs.Basics.{same_accept}
use Rattle.cows.proofs.Format.{length-encode}
use Rattle.cows.proofs.Tables.{judge-encode, within-judge}
use Rattle.joint.specs.Joint.{joint_at, judge_joint}
use Rattle.joint.specs.Singly.{fire_singly, Permuted, halted}
use Rattle.joint.proofs.Bounds.{on_term, joint_from_one}
use Rattle.joint.proofs.Theorems.{any_order, joint_balance, joint_within}
use Rattle.tally.specs.declared.Tally.{Tally}
use Rattle.player.specs.declared.Played.{Played}
use Rattle.stopper.specs.Claims.{Joined, JointFired, JointClaims}
use Rattle.stopper.proofs.Claims.{claims, claims_joined, refused_of, fired_of}

-- 1. What meets the definition's equations meets the request's claims, and the other way round.
pub joined_claims : (table ps out after : List ℕ) (r : Played) → AreBytes table → Joined table ps out after r → JointClaims table ps out after r
joined_claims table ps out after r b h = claims table ps out after r b h

pub claims_definition : (table ps out after : List ℕ) (r : Played) → AreBytes table → JointClaims table ps out after r → Joined table ps out after r
claims_definition table ps out after r b c = claims_joined table ps out after r b c

-- Accepted or refused: what there is then. (A refusal has a number from 1 on.)
pub record AcceptedWith (table ps out after : List ℕ) (r : Played) : Type 0 where
  pub before : Term
  pub judged : judge table ≡ accept before
  pub within : Within before
  pub left : Term
  pub gives : joint_at before ps ≡ accept left
  pub fired : JointFired left ps out after r

module _ (table ps out after : List ℕ) (r : Played) (b : AreBytes table) (h : Joined table ps out after r) (z : r.reply.answer ≡ 0) where
  accepted : AcceptedWith table ps out after r
  accepted = go (judge_joint table ps (length out)) refl
    where
      go : (x : Result Term) → judge_joint table ps (length out) ≡ x → AcceptedWith table ps out after r
      go (refuse n p) e =
          let q = refused_of table ps out after r n p e h in
          absurd (omega (arith, joint_from_one table ps (length out) n p e, z, ap (λ (k : Played). k.reply.answer) q.replied))
      go (accept s) e =
          let (t, et, w, g) = on_term table ps (length out) s b e in
          record { before = t; judged = et; within = w; left = s; gives = g; fired = fired_of table ps out after r s e h }

  -- the table that the output begins with
  abbrev begins : List ℕ
  begins = take (16 * r.reply.records) after

  begins_so : begins ≡ encode accepted.left
  begins_so =
      let f = accepted.fired in
      let n = ap (λ k. k.records) f.replied in
      ap (take (16 * r.reply.records)) f.output ∙ take_at (encode accepted.left) _ (16 * r.reply.records) (omega (arith, length-encode accepted.left))

  -- 2. Fired singly by steps in any order, each with room for the table and positions carried along by record, they are all accepted, and end in the table that the joint
  -- step left at the output's start.
  pub order_replied : (t : Term) (qs : List ℕ) (room : ℕ) → judge table ≡ accept t → Permuted ps qs → length table ≤ room → (s : Term) × (fire_singly room t qs ≡ accept s) × (begins ≡ encode s)
  order_replied t qs room e p l =
      let a = accepted in
      let same = same_accept (sym a.judged ∙ e) in
      let fits : 16 * size a.before ≤ room = omega (arith, ap length (judge-encode table t b e), length-encode t, ap size same) in
      (a.left, subst (λ u. fire_singly room u qs ≡ accept a.left) same (any_order a.before a.left ps qs room a.within a.gives p fits), begins_so)

  -- 3. What is left is well formed.
  pub left_formed : (s : Term) × Within s × (judge begins ≡ accept s)
  left_formed =
      let a = accepted in
      let w = joint_within a.before a.left ps a.within a.gives in
      (a.left, w, ap judge begins_so ∙ within-judge a.left w)

  -- 4. The tally counts as many stops as are listed. From the table before to the one it gives, the load is what is left, one for each of them, and what they halted; so
  -- demand 3's inequality.
  pub load_replied : (t s : Term) → judge table ≡ accept t → judge begins ≡ accept s
      → (r.tally.kills ≡ length ps) × (load t ≡ load s + r.tally.kills + halted t ps) × (2 * r.tally.communications + r.tally.kills + r.tally.timeouts + load s ≤ load t + r.tally.copied)
  unfolding left_formed
  load_replied t s e f =
      let a = accepted in
      let before = same_accept (sym a.judged ∙ e) in
      let left : a.left ≡ s = same_accept (sym left_formed.2 ∙ f) in
      let l = joint_balance a.before a.left ps a.within a.gives in
      let k : r.tally.kills ≡ length ps = ap (λ (c : Tally). c.kills) a.fired.tallied in
      let m : r.tally.communications ≡ 0 = ap (λ (c : Tally). c.communications) a.fired.tallied in
      let o : r.tally.timeouts ≡ 0 = ap (λ (c : Tally). c.timeouts) a.fired.tallied in
      let x : load t ≡ load s + r.tally.kills + halted t ps = omega (arith, ap load before, ap load left, ap (λ u. halted u ps) before) in
      (k, x, omega arith)
