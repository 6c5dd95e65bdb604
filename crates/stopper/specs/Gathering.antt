-- What gathering the scopes of a list of kills tells.
use Rattle.std.specs.Prelude.{◌≡◌, List, map, ℕ, length, take}
use Rattle.cows.specs.Basics.{refuse, accept}
use Rattle.cows.specs.Terms.{Term}
use Rattle.joint.specs.Joint.{all_live}
use Rattle.joint.specs.Singly.{gone_by_all}
use Rattle.kill.specs.Killing.{kill_scope}
use Rattle.std.specs.Prelude as rust
use Rattle.std.specs.Prelude.{Ok, Err}

-- All kills of the list are live, their scopes are at hand, and g records are taken away.
pub record AtHand (t : Term) (ps scopes : List ℕ) (g : ℕ) : Type 0 where
  pub all_are_live : all_live t ps ≡ accept tt
  pub scopes_are : take (length ps) scopes ≡ map (kill_scope t) ps
  pub gone_are : g ≡ gone_by_all t ps

-- What gathering gives: that, or the place of 11.
abbrev pub Gathers : Term → (ps scopes : List ℕ) → rust.Result ℕ ℕ → Type 0
Gathers t ps scopes (Ok g) = AtHand t ps scopes g
Gathers t ps scopes (Err a) = all_live t ps ≡ refuse 11 a
