use native.Mathlib.Omega.{arith}
use Rattle.tables.proofs.Judging.{slice_bytes}
use Rattle.stepper.proofs.Stepping.{table_read}
use Rattle.player.proofs.Whole.{plays_no_table, plays_long, plays_cramped, plays_all, plays_clear}
use Rattle.player.proofs.Theorems.{promised}
use Rattle.player.proofs.play.Goals as goal

pub returns-then-checked-ne0 : goal.returns-then-checked-ne0
returns-then-checked-ne0 c = let b = slice_bytes c.args.table.now (λ i. omega (arith, c.shared_slice_known-1.given i)) in
    promised _ _ _ _ _ _ _ b (plays_no_table _ _ _ _ _ _ _ c.check_ends-checked.ensures c.if-checked-ne0.true c.refused.ensures)

pub returns-then-moves-gt-MAX_LIST_BYTES : goal.returns-then-moves-gt-MAX_LIST_BYTES
returns-then-moves-gt-MAX_LIST_BYTES c = let b = slice_bytes c.args.table.now (λ i. omega (arith, c.shared_slice_known-1.given i)) in
    promised _ _ _ _ _ _ _ b (plays_long _ _ _ _ _ (table_read _ _ _ b c.check_ends-checked.ensures c.if-checked-ne0.false) _ c.if-moves-gt-MAX_LIST_BYTES.true c.refused-then-moves-gt-MAX_LIST_BYTES.ensures)

pub returns-then-out-replies : goal.returns-then-out-replies
returns-then-out-replies c = let b = slice_bytes c.args.table.now (λ i. omega (arith, c.shared_slice_known-1.given i)) in
    promised _ _ _ _ _ _ _ b (plays_cramped _ _ _ _ _ (table_read _ _ _ b c.check_ends-checked.ensures c.if-checked-ne0.false) _ c.if-moves-gt-MAX_LIST_BYTES.false
    c.if-out-replies.true c.refused-then-out-replies.ensures)

pub play_known-requires : goal.play_known-requires
play_known-requires c = let b = slice_bytes c.args.table.now (λ i. omega (arith, c.shared_slice_known-1.given i)) in
    plays_clear _ _ _ _ _ (table_read _ _ _ b c.check_ends-checked.ensures c.if-checked-ne0.false) (omega arith) c.if-moves-gt-MAX_LIST_BYTES.false c.if-out-replies.false

pub returns : goal.returns
returns c = let b = slice_bytes c.args.table.now (λ i. omega (arith, c.shared_slice_known-1.given i)) in
    let q = table_read _ _ _ b c.check_ends-checked.ensures c.if-checked-ne0.false in
    promised _ _ _ _ _ _ _ b (plays_all _ _ _ _ _ q _ _ _ c.if-moves-gt-MAX_LIST_BYTES.false c.if-out-replies.false
    (c.play_known.ensures q.term q.table))
