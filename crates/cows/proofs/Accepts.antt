-- A step on bytes against the rules: what demand 2 asks of an accepted move is what the definition of a step accepts, with one successor.
use mathlib.Core.Path.{◌≡◌, sym, ap, ◌∙◌}
use mathlib.Core.List.{List}
use Prim.Native.Nat.{ℕ}
use Rattle.cows.specs.Basics.{accept}
use Rattle.cows.specs.Terms.{Term}
use Rattle.cows.specs.Format.{AreBytes}
use Rattle.cows.specs.Tables.{judge}
use Rattle.cows.specs.Step.{read_move, judge_step}
use Rattle.cows.specs.Within.{Within}
use Rattle.cows.specs.Accepts.{Accepts}
use Rattle.cows.proofs.Basics.{same_accept}
use Rattle.cows.proofs.Tables.{judge-encode, judge-within, within-judge}
use Rattle.cows.proofs.Allows.{successor_allows, allows_successor}
use Rattle.cows.proofs.Step.{Accepted, judged_step, step_judged, accepted_step}
use Rattle.cows.proofs.Preserving.{step_within}

pub accepted_accepts : (table m : List ℕ) (room : ℕ) (s : Term) → AreBytes table → judge_step table m room ≡ accept s → Accepts table m room s
accepted_accepts table m room s h e =
    let (t, et, a) = judged_step table m room s e in
    let w = judge-within table t h et in
    record {
      term = t;
      within = w;
      table_of = judge-encode table t h et;
      move = a.move;
      reads = a.reads;
      allows = successor_allows t s a.move w a.moves;
      small = a.small;
      shallow = a.shallow;
      fits = a.fits;
    }

-- the step on the term
on_term : (table m : List ℕ) (room : ℕ) (s : Term) (r : Accepts table m room s) → Accepted r.term (read_move m) room s
on_term table m room s r = record {
  move = r.move;
  reads = r.reads;
  moves = allows_successor r.term s r.move r.within r.allows;
  small = r.small;
  shallow = r.shallow;
  fits = r.fits;
}

pub accepts_accepted : (table m : List ℕ) (room : ℕ) (s : Term) → Accepts table m room s → judge_step table m room ≡ accept s
accepts_accepted table m room s r =
    step_judged table m room r.term s (ap judge (sym r.table_of) ∙ within-judge r.term r.within) (on_term table m room s r)

pub accepts_one : (table m : List ℕ) (room : ℕ) (s u : Term) → Accepts table m room s → Accepts table m room u → s ≡ u
accepts_one table m room s u a b = same_accept (sym (accepts_accepted table m room s a) ∙ accepts_accepted table m room u b)

pub accepts_within : (table m : List ℕ) (room : ℕ) (s : Term) → Accepts table m room s → Within s
accepts_within table m room s r = step_within r.term s (read_move m) room r.within (accepted_step r.term s (read_move m) room (on_term table m room s r))
