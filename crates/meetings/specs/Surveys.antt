-- What the list of meetings is made from: all that depends on one record is put down. And the room that it needs.
use Rattle.std.specs.Prelude.{◌≡◌, Bool, true, List, ℕ, ◌+◌, ◌*◌, ◌/◌, ◌≤◌, ◌<◌, length}
use Rattle.cows.specs.Limits.{max_records}
use Rattle.cows.specs.Terms.{Term}
use Rattle.ways.specs.Known.{Table}
use Rattle.roles.specs.declared.Role.TheVariants.{Receiver}
use Rattle.roles.specs.Roles.{role_at}
use Rattle.roles.specs.Played.{Played, Fewest}
use Rattle.chains.specs.Chains.{ByAtom, BySender}
use Rattle.meetings.specs.declared.Survey.{Survey}
use Rattle.meetings.specs.Meetings.{Sent, meetings_at, meetings_of}

pub record Surveyed (x : Survey) : Type 0 where
  pub played : Played x.table.bytes.now x.table.ends.now x.cast.now
  pub atoms : ByAtom x.table.bytes.now x.scopes.heads.now x.scopes.next.now
  pub senders : BySender x.table.bytes.now x.cast.now x.senders.heads.now x.senders.next.now
  pub fewest_all : length x.table.bytes.now / 16 ≤ length x.fewest.now
  pub sent_all : 4 * (length x.table.bytes.now / 16) ≤ length x.sent.now
  pub numbers : (t : Term) → Table x.table.bytes.now x.table.ends.now t → Fewest t x.fewest.now
  pub places : (t : Term) → Table x.table.bytes.now x.table.ends.now t → Sent x.table.bytes.now t x.sent.now

-- place a is that of a receive that may be a party
pub record ReceiverAt (x : Survey) (a : ℕ) : Type 0 where
  pub placed : a < length x.table.bytes.now / 16
  pub receiver : role_at x.cast.now a ≡ Receiver

-- There is room for its meetings behind m moves, if they are to be written.
pub record SpaceAt (x : Survey) (a : ℕ) (writes : Bool) (out : List ℕ) (m : ℕ) : Type 0 where
  pub few : m ≤ 16384 + max_records * max_records
  pub room : (t : Term) → Table x.table.bytes.now x.table.ends.now t → writes ≡ true → 6 * (m + length (meetings_at t a)) ≤ length out

-- So there is for all meetings. The list is not longer than memory.
pub record Space (x : Survey) (writes : Bool) (out : List ℕ) (m : ℕ) : Type 0 where
  pub few : m ≤ 16384
  pub room : (t : Term) → Table x.table.bytes.now x.table.ends.now t → writes ≡ true → 6 * (m + length (meetings_of t)) ≤ length out
