use native.Mathlib.Omega.{arith}
use mathlib.Core.Path.{sym, ◌∙◌}
use Rattle.records.proofs.Laws.{found_at, found_nothing}
use Rattle.tables.proofs.Judging.{whole_length, judge_record, judge_all}
use Rattle.tables.proofs.find_refusal.Goals as goal

pub returns-in-Some : goal.returns-in-Some
returns-in-Some c = record { reply = judge_record _ _ (whole_length _ c.requires.0) (found_at _ _ (sym c.in-Some.is ∙ c.find_wrong.ensures)); end = λ e. absurd (omega arith) }

pub returns : goal.returns
returns c = let x = c.requires in
    let m = c.find_misshape in
    record {
      reply = judge_all _ m.result (whole_length _ x.0) (found_nothing _ (sym c.in_default.is ∙ c.find_wrong.ensures)) m.ensures.0;
      end = λ e. m.ensures.1;
    }
