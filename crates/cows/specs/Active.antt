-- Live and ready records: the active contexts of COWS (01, Live and ready). Only live records move; ready ones count when a move is held back.
use Rattle.std.specs.Prelude.{Bool, ◌&&◌, ℕ, ltb}
use mathlib.Core.Option.{Option}
use Rattle.cows.specs.Basics.{every, only, Result, need}
use Rattle.cows.specs.Terms.{Term, size}
use Rattle.cows.specs.Kinds.{kind, live_kind, ready_kind}
use Rattle.cows.specs.Places.{Frame, passed, Way, way_to, sub}

-- A way passes only records of kinds that a test allows.
unfoldable pub on_kind : (ℕ → Bool) → Frame → Bool
on_kind allows f = allows (kind (passed f))

-- Live: the way passes only parallel, protection, delimitation and choice.
unfoldable pub live : Way → Bool
live w = every (on_kind live_kind) w

-- Ready: replication is allowed on that way too.
unfoldable pub ready : Way → Bool
ready w = every (on_kind ready_kind) w

-- 11: no live record of the kind wanted stands at place n.
unfoldable pub wanted : {A : Type 0} → (Term → Option A) → Term → ℕ → Result A
wanted kind t n = need 11 n (only (ltb n (size t) && live (way_to t n)) (kind (sub t n)))

-- (for computed checks) to unfold this is to unfold every definition of this file
unfoldable pub open_active : Unit {0}
unfolding on_kind live ready wanted
open_active = tt
