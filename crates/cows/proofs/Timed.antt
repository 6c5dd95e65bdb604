-- A step refuses a time of 0 with 17 at place 0, and nothing else with 17; every other time goes on, whatever the waits hold, if the output is as long as
-- the table.
use mathlib.Core.Path.{◌≡◌, refl, sym, ap, subst, ◌∙◌}
use mathlib.Core.Option.{some}
use mathlib.Core.List.{List}
use Prim.Native.Nat.{ℕ, ◌≤◌}
use native.Mathlib.Omega.{arith}
use lib.ListN.{length}
use Rattle.cows.specs.Basics.{refuse, accept, ◌>>=◌, need}
use Rattle.cows.specs.Terms.{Term}
use Rattle.cows.specs.Format.{AreBytes}
use Rattle.cows.specs.Tables.{judge}
use Rattle.cows.specs.Moves.{Move, Elapse, elapse, successor}
use Rattle.cows.specs.Allows.{Elapsed}
use Rattle.cows.specs.Step.{read_move, proposed, step_term, judge_step}
use Rattle.cows.specs.Timed.{ProposesTime}
use Rattle.cows.proofs.Basics.{never}
use Rattle.cows.proofs.Format.{length-encode}
use Rattle.cows.proofs.Tables.{judge-encode, judge-within, within-judge}
use Rattle.cows.proofs.Step.{step_judged}
use Rattle.cows.proofs.Bounds.{OfRefusal, untold, judge_step-refusal}
use Rattle.cows.proofs.Recordwise.{of_size, of_depth, elapse-keeps, elapse_elapsed, no-time, some-time}

module _ (table m : List ℕ) (room : ℕ) where
  -- what 17 tells
  abbrev Told : ℕ → ℕ → Type 0
  Told n p = n ≡ 17 → ProposesTime table m 0 × (p ≡ 0)

  told_here : AreBytes table → (t : Term) → judge table ≡ accept t → (v : Move) → read_move m ≡ some v → v ≡ Elapse 0 → Told 17 0
  told_here h t et v ev is _ = (record { term = t; within = judge-within table t h et; table_of = judge-encode table t h et; reads = ev ∙ ap some is }, refl)

  pub refused_timeless : (p : ℕ) → AreBytes table → judge_step table m room ≡ refuse 17 p → ProposesTime table m 0 × (p ≡ 0)
  refused_timeless p h e =
      subst (OfRefusal Told) e
      (judge_step-refusal Told (λ n q l z. never (ap untold (sym z) ∙ l)) table m room (λ t et v ev. ((λ a b r i d is er ei f z. absurd (omega (arith, z))), told_here h t et v ev))) refl

  -- the table is that of the term
  judged : {d : ℕ} (x : ProposesTime table m d) → judge table ≡ accept x.term
  judged x = ap judge (sym x.table_of) ∙ within-judge x.term x.within

  pub timeless_refused : ProposesTime table m 0 → judge_step table m room ≡ refuse 17 0
  unfolding judge_step step_term proposed need successor ◌>>=◌
  timeless_refused x = rw (judged x, x.reads, no-time x.term 0 refl)

  pub time-passes : (d : ℕ) (x : ProposesTime table m d) → 1 ≤ d → length table ≤ room → (s : Term) × (judge_step table m room ≡ accept s) × Elapsed d x.term s
  unfolding successor
  time-passes d x h l =
      let t = x.term in (
        elapse d t,
        step_judged table m room t (elapse d t) (judged x) (record {
          move = Elapse d;
          reads = x.reads;
          moves = some-time t d (λ e. omega (arith, e));
          small = omega (arith, elapse-keeps of_size d t, x.within.small);
          shallow = omega (arith, elapse-keeps of_depth d t, x.within.shallow);
          fits = omega (arith, elapse-keeps of_size d t, length-encode t, ap length x.table_of);
        }),
        elapse_elapsed d t,
      )
