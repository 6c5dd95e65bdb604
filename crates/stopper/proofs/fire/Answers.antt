use borrow.Author.Rules.{rules}
use mathlib.Core.Path.{sym, ap, ◌∙◌}
use native.Mathlib.Omega.{arith}
use Rattle.records.proofs.Laws.{found_at}
use Rattle.player.specs.declared.Played.{Played}
use Rattle.stopper.proofs.Fires.{not_found, all_before, clash_inside, clash-told, gone_fits, short_told, settle_asks, fired_told}
use Rattle.stopper.proofs.fire.Goals as goal

pub first_overlap-requires : goal.first_overlap-requires
first_overlap-requires c = all_before c.requires

pub offset_bounds-kills-first : goal.offset_bounds-kills-first
offset_bounds-kills-first c = omega (arith, c.requires.join.number.few, clash_inside c.requires (found_at _ _ (sym c.in-Some.is ∙ c.first_overlap.ensures)))

pub bounds-kills-first : goal.bounds-kills-first
bounds-kills-first c = clash_inside c.requires (found_at _ _ (sym c.in-Some.is ∙ c.first_overlap.ensures))

pub returns-in-Some : goal.returns-in-Some
returns-in-Some c = clash-told c.requires (found_at _ _ (sym c.in-Some.is ∙ c.first_overlap.ensures)) c.from.ensures c.refused.ensures

pub overflow_sub-left : goal.overflow_sub-left
overflow_sub-left c = gone_fits c.requires (not_found _ _ c.in_default.not-Some c.first_overlap.ensures)

pub returns-then-out-left : goal.returns-then-out-left
returns-then-out-left c = short_told c.requires (not_found _ _ c.in_default.not-Some c.first_overlap.ensures) (search rules) c.refused-then-out-left.ensures

pub settle_at-requires : goal.settle_at-requires
settle_at-requires c =
    let w = settle_asks c.requires (not_found _ _ c.in_default.not-Some c.first_overlap.ensures) (search rules) in
    record { rewritable = w.0; aligned = w.1; scopes = w.2 }

pub overflow_cast-kills : goal.overflow_cast-kills
overflow_cast-kills c = omega (arith, c.requires.join.number.few)

pub returns : goal.returns
returns c = fired_told c.requires (not_found _ _ c.in_default.not-Some c.first_overlap.ensures) (search rules) c.settle_at.ensures (ap (λ (p : Played). p.reply) c.accepted.ensures) (ap (λ (p : Played). p.tally) c.accepted.ensures ∙ c.of_kills.ensures)
