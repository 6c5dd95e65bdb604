-- Live kills: as the definitions of specs/Joint see one (Stop), and as specs/Listed says it (LiveKill); kills that are apart from each other; a list of such.
use mathlib.Core.Path.{◌≡◌, ap, subst}
use mathlib.Core.Bool.{true, false}
use mathlib.Core.List.{List, [], ◌∷◌}
use Prim.Native.Nat.{ℕ}
use Rattle.cows.specs.Basics.{All}
use Rattle.cows.specs.Terms.{kill, Term, leaf, variable, label, bindable, uses, uses_basic}
use Rattle.cows.specs.Places.{way_to, enclosed}
use Rattle.cows.specs.Within.{Right, Within}
use Rattle.cows.specs.Allows.{StandsLive}
use Rattle.cows.proofs.Basics.{or_right}
use Rattle.cows.proofs.Scopes.{all_map}
use Rattle.cows.proofs.Stands.{right_at, scoped_at}
use Rattle.joint.specs.Joint.{label_of, label_at}
use Rattle.joint.specs.Listed.{LiveKill}

-- A live kill; two kills neither of whose delimitations encloses the other; a list of live kills, all apart from each other.
abbrev pub Stop : Term → ℕ → Type 0
Stop t a = StandsLive t a (leaf (kill (label_at t a)))

abbrev pub Apart : Term → ℕ → ℕ → Type 0
Apart t a b = (enclosed (label_at t a) (way_to t b) ≡ false) × (enclosed (label_at t b) (way_to t a) ≡ false)

abbrev pub Good : Term → List ℕ → Type 0
Good t [] = Unit {0}
Good t (a ∷ ps) = Stop t a × All (Apart t a) ps × Good t ps

pub good_stops : (t : Term) (ps : List ℕ) → Good t ps → All (Stop t) ps
good_stops t [] g = tt
good_stops t (a ∷ ps) g = (g.0, good_stops t ps g.2)

-- a kill stands inside the [k] of its label
pub stop-enclosed : (t : Term) (a : ℕ) → Within t → Stop t a → enclosed (label_at t a) (way_to t a) ≡ true
unfolding uses uses_basic
stop-enclosed t a w s =
    let k = label_at t a in
    (rw s.at.stands at (scoped_at bindable t a w.formed.closed)).0
    (or_right (variable k) (label k) (subst Right s.at.stands (right_at t a w.right)))

-- the same in the words of specs/Listed
pub live-label : (t : Term) (a : ℕ) (l : LiveKill t a) → label_at t a ≡ l.label
unfolding label_at label_of
live-label t a l = ap label_of l.kill.at.stands

pub live-stop : (t : Term) (a : ℕ) → LiveKill t a → Stop t a
live-stop t a l = rw (live-label t a l) l.kill

pub good_live : (t : Term) (ps : List ℕ) → Good t ps → All (LiveKill t) ps
good_live t ps g = all_map _ _ (λ a s. record { label = label_at t a; kill = s }) ps (good_stops t ps g)
