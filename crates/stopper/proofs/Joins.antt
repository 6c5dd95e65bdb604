-- From the table and the list to firing: 25, 11, and the kills that are left to be judged (joint, specs/Joint).
use mathlib.Core.Path.{◌≡◌, refl, sym, subst}
use mathlib.Core.Bool.{true}
use mathlib.Core.Option.{Option, none, some}
use mathlib.Core.List.{List, []}
use Prim.Native.Nat.{ℕ, ◌*◌}
use lib.Dec.{ltb}
use lib.ListN.{length, take}
use Rattle.cows.specs.Basics.{place_if, Result, refuse, accept, ◌>>=◌, ◌>>◌, forbid}
use Rattle.cows.specs.Terms.{Term, size}
use Rattle.joint.specs.Joint.{wrong_number, all_live, first_clash, after_joint, joint_at, joint_term, judge_joint, joint_reply, joint_output, joint_tally}
use Rattle.joint.specs.Listed.{RightNumber}
use Rattle.joint.proofs.Listing.{number_passed}
use Rattle.ways.specs.Known.{Table}
use Rattle.player.specs.declared.Played.{Played}
use Rattle.player.specs.Nights.{refused_with}
use Rattle.stopper.specs.Gathering.{AtHand}
use Rattle.stopper.specs.Firing.{CanJoin, CanFire, fire_term}
use Rattle.stopper.specs.Claims.{JointAnswers, Joined}
use Rattle.stopper.proofs.Fires.{refused_jointly}

-- the number is right
module _ (t : Term) (ps : List ℕ) (room : ℕ) (n : RightNumber ps) where
  pub joint_dead : (a : ℕ) → all_live t ps ≡ refuse 11 a → joint_term t ps room ≡ refuse 11 a
  unfolding joint_term joint_at ◌>>=◌ ◌>>◌ forbid place_if
  joint_dead a e = rw (number_passed ps n, e)

  pub joint_live : all_live t ps ≡ accept tt → joint_term t ps room ≡ fire_term t ps room
  unfolding joint_term joint_at fire_term ◌>>=◌ ◌>>◌ forbid place_if
  joint_live e = rw (number_passed ps n, e) (go (first_clash t [] ps))
    where
      go : (o : Option ℕ) → ((forbid 26 o >> accept (after_joint t ps)) >>= λ s. forbid 21 (place_if (ltb room (16 * size s)) 0) >> accept s)
          ≡ (forbid 26 o >> (forbid 21 (place_if (ltb room (16 * size (after_joint t ps))) 0) >> accept (after_joint t ps)))
      go none = refl
      go (some a) = refl

pub joint_wrong : (t : Term) (ps : List ℕ) (room : ℕ) → wrong_number ps ≡ true → joint_term t ps room ≡ refuse 25 0
unfolding joint_term joint_at ◌>>=◌ ◌>>◌ forbid place_if
joint_wrong t ps room e = rw e

-- what gathering tells, on a known table
module _ {s ends ps : List ℕ} (q : CanJoin s ends ps) where
  pub dead_told : {out : List ℕ} {z : Played} (a : ℕ) → ((t : Term) → Table s ends t → all_live t ps ≡ refuse 11 a) → z ≡ refused_with 11 a
      → (t : Term) → Table s ends t → JointAnswers (joint_term t ps (length out)) ps out out z
  dead_told {out} a g k t h = refused_jointly 11 a (joint_dead t ps (length out) q.number a (g t h)) k

  module _ {places : List ℕ} {n : ℕ} (g : (t : Term) → Table s ends t → AtHand t ps places n) where
    pub can_fire : CanFire s ends ps (take (length ps) places) n
    can_fire =
        let x = g q.known.term q.known.table in
        record { join = q; all_are_live = x.all_are_live; scopes_are = x.scopes_are; gone_are = x.gone_are }

    pub live-told : {out after : List ℕ} {z : Played} → ((t : Term) → Table s ends t → JointAnswers (fire_term t ps (length out)) ps out after z)
        → (t : Term) → Table s ends t → JointAnswers (joint_term t ps (length out)) ps out after z
    live-told {out} {after} {z} k t h = subst (λ x. JointAnswers x ps out after z) (sym (joint_live t ps (length out) q.number (g t h).all_are_live)) (k t h)

-- on any bytes
module _ (table ps out after : List ℕ) (r : Played) where
  pub answers_joined : (x : Result Term) → judge_joint table ps (length out) ≡ x → JointAnswers x ps out after r → Joined table ps out after r
  unfolding joint_reply joint_output joint_tally
  answers_joined x e h =
      let k = subst (λ y. JointAnswers y ps out after r) (sym e) h in
      record { replied = k.answers.replies; tallied = k.tallied; output = k.answers.output }

  pub joined_answers : (x : Result Term) → judge_joint table ps (length out) ≡ x → Joined table ps out after r → JointAnswers x ps out after r
  unfolding joint_reply joint_output joint_tally
  joined_answers x e h =
      subst (λ y. JointAnswers y ps out after r) e (record { answers = record { replies = h.replied; output = h.output }; tallied = h.tallied })
