use native.Mathlib.Omega.{arith}
use mathlib.Core.Path.{sym, ◌∙◌}
use borrow.Author.Tests.{not-false}
use Rattle.tables.proofs.Judging.{slice_bytes}
use Rattle.tables.proofs.Passing.{sound_readable, sound_passes}
use Rattle.tables.proofs.quick.scoped.Goals as goal

pub read_on-requires : goal.read_on-requires
read_on-requires c = let i = c.indexed_right.ensures in
    let b = slice_bytes c.args.s.now (λ k. omega (arith, c.type_inv.s k)) in
    sound_readable _ _ _ _ b c.requires.0 c.requires.1 (i.0 (not-false _ c.if-not-indexed_right.false-raw)) (λ e. i.1 (not-false _ c.if-not-indexed_right.false-raw))

pub returns : goal.returns
returns c e = let i = c.indexed_right.ensures in
    let b = slice_bytes c.args.s.now (λ k. omega (arith, c.type_inv.s k)) in
    sound_passes _ _ _ _ b c.requires.0 c.requires.1 (i.0 (not-false _ c.if-not-indexed_right.false-raw)) (λ z. i.1 (not-false _ c.if-not-indexed_right.false-raw)) _ c.read_on.ensures (sym c.is_ok.ensures.value ∙ e)
