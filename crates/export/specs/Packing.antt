-- Replies in one number, and what the exported operations give.
use Rattle.std.specs.Prelude.{◌≡◌, List, [], ◌∷◌, ℕ, ◌+◌, ◌*◌, ◌<◌, length}
use Rattle.cows.specs.Step.{step_reply, step_output}
use Rattle.cows.specs.Run.{play, played_reply, played_tally, played_output, played_replies}
use Rattle.opening.specs.Opening.{judge_open, open_reply, open_buffer}
use Rattle.orc.specs.Translation.{orc_reply, orc_output}
use Rattle.ticks.specs.Ticks.{ticks_reply, ticks_output}
use Rattle.joint.specs.Joint.{joint_reply, joint_output, joint_tally}
use Rattle.tables.specs.declared.Reply.{Reply}
use Rattle.stepper.specs.Replies.{reply_of}
use Rattle.tally.specs.declared.Tally.{Tally}
use Rattle.tally.specs.Counted.{tally_of}

-- A reply fits a number of 64 bits; every reply does (proofs/Fits).
pub record Fits (r : Reply) : Type 0 where
  pub place : r.place < 16777216
  pub records : r.records < 4294967296

-- the answer in the lowest 8 bits, the place in the 24 above them, the records in the highest 32
abbrev pub packed : Reply → ℕ
packed r = r.answer + 256 * r.place + 4294967296 * r.records

-- What a step on any bytes gives, its reply packed.
pub record StepPacked (table m out after : List ℕ) (r : ℕ) : Type 0 where
  pub replies : r ≡ packed (reply_of (step_reply table m out))
  pub output : after ≡ step_output table m out

-- What two readings of a clock give on any bytes, the reply packed.
pub record TicksPacked (table : List ℕ) (earlier later : ℕ) (out after : List ℕ) (r : ℕ) : Type 0 where
  pub replies : r ≡ packed (reply_of (ticks_reply table earlier later out))
  pub output : after ≡ ticks_output table earlier later out

-- communications, kills, timeouts and the load copied
abbrev pub four_counts : Tally → List ℕ
four_counts c = c.communications ∷ c.kills ∷ c.timeouts ∷ c.copied ∷ []

-- What a play on any bytes gives, its reply packed.
pub record PlayedWith (table moves out after slots after' tally : List ℕ) (r : ℕ) : Type 0 where
  pub replied : r ≡ packed (reply_of (played_reply (play table moves out slots)))
  pub tallied : tally ≡ four_counts (tally_of (played_tally (play table moves out slots)))
  pub output : after ≡ played_output (play table moves out slots) out
  pub slots_are : after' ≡ played_replies (play table moves out slots) slots

-- What several kills as one step give on any bytes, the reply packed.
pub record JointPacked (table kills out after tally : List ℕ) (r : ℕ) : Type 0 where
  pub replied : r ≡ packed (reply_of (joint_reply table kills out))
  pub tallied : tally ≡ four_counts (tally_of (joint_tally table kills out))
  pub output : after ≡ joint_output table kills out

-- What the list of open moves of any bytes gives, its reply packed.
pub record OpenPacked (table list after : List ℕ) (r : ℕ) : Type 0 where
  pub replies : r ≡ packed (reply_of (open_reply (judge_open table (length list))))
  pub output : after ≡ open_buffer (judge_open table (length list)) list

-- What the translation of any script gives, its reply packed.
pub record OrcPacked (script : List ℕ) (p o : ℕ) (out after : List ℕ) (r : ℕ) : Type 0 where
  pub replies : r ≡ packed (reply_of (orc_reply script p o out))
  pub output : after ≡ orc_output script p o out
