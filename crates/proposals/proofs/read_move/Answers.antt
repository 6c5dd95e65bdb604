use mathlib.Core.Path.{refl, sym, ◌∙◌}
use native.Mathlib.Omega.{arith}
use borrow.Author.Tests.{not-true}
use Rattle.cows.specs.Step.{six_moves}
use Rattle.proposals.proofs.SixBytes.{wrong_move, right_so, right_length, no_kind, kind_read}
use Rattle.proposals.proofs.read_move.Goals as goal

pub returns-then-not-right_move : goal.returns-then-not-right_move
unfolding six_moves
returns-then-not-right_move c = wrong_move _ (sym c.right_move.ensures ∙ not-true _ c.if-not-right_move.true-raw)

pub bounds-m-0 : goal.bounds-m-0
unfolding six_moves
bounds-m-0 c = omega (arith, right_length _ (right_so _ c.right_move.ensures c.if-not-right_move.false-raw))

pub word_at-d-requires : goal.word_at-d-requires
unfolding six_moves
word_at-d-requires c = omega (arith, right_length _ (right_so _ c.right_move.ensures c.if-not-right_move.false-raw))

pub word_at-requires : goal.word_at-requires
unfolding six_moves
word_at-requires c = omega (arith, right_length _ (right_so _ c.right_move.ensures c.if-not-right_move.false-raw))

pub returns-in-0 : goal.returns-in-0
unfolding six_moves
returns-in-0 c = kind_read _ (right_so _ c.right_move.ensures c.if-not-right_move.false-raw) _ _ 0 (c.from-a.ensures ∙ c.word_at-d.ensures) refl c.in-0.is refl

pub returns-in-1 : goal.returns-in-1
unfolding six_moves
returns-in-1 c = kind_read _ (right_so _ c.right_move.ensures c.if-not-right_move.false-raw) _ _ 1 (c.from-a.ensures ∙ c.word_at-d.ensures)
    (c.from.ensures ∙ c.word_at.ensures) c.in-1.is refl

pub returns-in-2 : goal.returns-in-2
unfolding six_moves
returns-in-2 c = kind_read _ (right_so _ c.right_move.ensures c.if-not-right_move.false-raw) _ _ 2 (c.from-a.ensures ∙ c.word_at-d.ensures) refl c.in-2.is refl

pub returns-in-3 : goal.returns-in-3
unfolding six_moves
returns-in-3 c = kind_read _ (right_so _ c.right_move.ensures c.if-not-right_move.false-raw) _ _ 3 c.word_at-d.ensures refl c.in-3.is refl

pub returns-in-4 : goal.returns-in-4
unfolding six_moves
returns-in-4 c = kind_read _ (right_so _ c.right_move.ensures c.if-not-right_move.false-raw) _ _ 4 (c.from-a.ensures ∙ c.word_at-d.ensures) refl c.in-4.is refl

pub returns-in-5 : goal.returns-in-5
unfolding six_moves
returns-in-5 c = kind_read _ (right_so _ c.right_move.ensures c.if-not-right_move.false-raw) _ _ 5 (c.from-a.ensures ∙ c.word_at-d.ensures) refl c.in-5.is refl

pub returns-in_default : goal.returns-in_default
unfolding six_moves
returns-in_default c = let r = c.in_default.in_default-own.rest in
    no_kind _ (right_so _ c.right_move.ensures c.if-not-right_move.false-raw) (omega (arith, r.1, r.0.1, r.0.0.1, r.0.0.0.1, r.0.0.0.0.1, r.0.0.0.0.0.1))
