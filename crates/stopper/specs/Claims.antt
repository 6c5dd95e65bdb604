-- What a joint step replies, counts and leaves: the equations of the definition, and the request's claims, case by case.
use Rattle.std.specs.Prelude.{◌≡◌, List, ◌++◌, ℕ, ◌*◌, ◌≤◌, ◌<◌, length, drop}
use Rattle.cows.specs.Basics.{Result, refuse, accept, All}
use Rattle.cows.specs.Terms.{Term, size}
use Rattle.cows.specs.Format.{encode}
use Rattle.cows.specs.Tables.{judge}
use Rattle.joint.specs.Joint.{max_kills, tally_for, joint_reply, joint_output, joint_tally}
use Rattle.joint.specs.Singly.{fire_singly}
use Rattle.joint.specs.Listed.{RightNumber, LiveKill, AllAlone, FirstDead, FirstClashing}
use Rattle.stepper.specs.Replies.{reply_of, Answers}
use Rattle.tally.specs.Counted.{tally_of}
use Rattle.player.specs.declared.Played.{Played}
use Rattle.player.specs.Nights.{refused_with}

-- Reply, tally and every byte of the output are those of a result.
pub record JointAnswers (x : Result Term) (ps out after : List ℕ) (r : Played) : Type 0 where
  pub answers : Answers x out after r.reply
  pub tallied : r.tally ≡ tally_of (tally_for ps x)

-- Reply, tally and every byte of the output are those of the definition.
pub record Joined (table ps out after : List ℕ) (r : Played) : Type 0 where
  pub replied : r.reply ≡ reply_of (joint_reply table ps out)
  pub tallied : r.tally ≡ tally_of (joint_tally table ps out)
  pub output : after ≡ joint_output table ps out

-- a refusal: a tally of zeros, and the output as it was
pub record JointRefused (n p : ℕ) (out after : List ℕ) (r : Played) : Type 0 where
  pub replied : r ≡ refused_with n p
  pub output : after ≡ out

-- The kills have fired, and s is left: its records in the reply, as many kills in the tally as are listed, and its table at the output's start.
pub record JointFired (s : Term) (ps out after : List ℕ) (r : Played) : Type 0 where
  pub replied : r.reply ≡ record { answer = 0; place = 0; records = size s }
  pub tallied : r.tally ≡ record { communications = 0; kills = length ps; timeouts = 0; copied = 0 }
  pub output : after ≡ encode s ++ drop (16 * size s) out

-- On the table of t: 25, 11 and 26 where they are due, in this order; else, if it fits, what is left when the kills fire singly, each with room for t and positions carried along,
-- and 21 if it does not fit.
pub record ClaimsOn (t : Term) (ps out after : List ℕ) (r : Played) : Type 0 where
  pub none-listed : length ps ≡ 0 → JointRefused 25 0 out after r
  pub too_many : max_kills < length ps → JointRefused 25 0 out after r
  pub not_live : (a : ℕ) → RightNumber ps → FirstDead t ps a → JointRefused 11 a out after r
  pub clashing : (a : ℕ) → RightNumber ps → All (LiveKill t) ps → FirstClashing t ps a → JointRefused 26 a out after r
  pub no_room : (s : Term) → RightNumber ps → All (LiveKill t) ps → AllAlone t ps → fire_singly (16 * size t) t ps ≡ accept s → length out < 16 * size s → JointRefused 21 0 out after r
  pub fired : (s : Term) → RightNumber ps → All (LiveKill t) ps → AllAlone t ps → fire_singly (16 * size t) t ps ≡ accept s → 16 * size s ≤ length out → JointFired s ps out after r

-- The request's claims: a refused table, and an accepted one.
pub record JointClaims (table ps out after : List ℕ) (r : Played) : Type 0 where
  pub table_first : (n p : ℕ) → judge table ≡ refuse n p → JointRefused n p out after r
  pub then_so : (t : Term) → judge table ≡ accept t → ClaimsOn t ps out after r
