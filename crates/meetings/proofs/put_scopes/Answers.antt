-- The first k numbers are put down.
use native.Mathlib.Omega.{arith}
use Rattle.records.proofs.StandsIn.{holds_size}
use Rattle.meetings.proofs.SlotScopes.{behind_most}
use Rattle.meetings.proofs.put_scopes.Goals as goal

pub overflow_cast-sent : goal.overflow_cast-sent
overflow_cast-sent c = let z = c.requires.0 in
    omega (arith, c.behind.ensures z.term z.holds, behind_most z.term c.word_at.result, holds_size _ _ z.holds, z.few)
