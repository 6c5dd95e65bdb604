-- What firing several kills on a known table asks, when their number is right, and when all of them are live.
use Rattle.std.specs.Prelude.{◌≡◌, List, [], map, ℕ, ◌*◌, ltb}
use Rattle.cows.specs.Basics.{place_if, Result, accept, ◌>>◌, forbid}
use Rattle.cows.specs.Terms.{Term, size}
use Rattle.joint.specs.Joint.{all_live, first_clash, after_joint}
use Rattle.joint.specs.Singly.{gone_by_all}
use Rattle.joint.specs.Listed.{RightNumber}
use Rattle.ways.specs.Known.{Known}
use Rattle.kill.specs.Killing.{kill_scope}

-- A known table and 1 to 8 places.
pub record CanJoin (s ends ps : List ℕ) : Type 0 where
  pub known : Known s ends
  pub number : RightNumber ps

-- The places are those of live kills, with their scopes and the records that they take away.
pub record CanFire (s ends ps scopes : List ℕ) (gone : ℕ) : Type 0 where
  pub join : CanJoin s ends ps
  pub all_are_live : all_live join.known.term ps ≡ accept tt
  pub scopes_are : scopes ≡ map (kill_scope join.known.term) ps
  pub gone_are : gone ≡ gone_by_all join.known.term ps

-- What is left to be judged of live kills: 26, 21, or the successor.
unfoldable pub fire_term : Term → List ℕ → ℕ → Result Term
fire_term t ps room = do
  forbid 26 (first_clash t [] ps)
  forbid 21 (place_if (ltb room (16 * size (after_joint t ps))) 0)
  accept (after_joint t ps)
