-- What lowering at each place does is in proofs/Listing.
use borrow.Author.Rules.{rules}
use mathlib.Core.Path.{refl, ap, ◌∙◌}
use Prim.Native.Nat.{◌+◌, ◌*◌}
use native.Mathlib.Omega.{arith}
use Rattle.elapse.proofs.Listing.{lists_room, lowering_start, lowering_next, lowering_end, listed-inside}
use Rattle.elapse.proofs.waits.lower_listed.Goals as goal

pub loop-i-init : goal.loop-i-init
loop-i-init c = (lists_room _ _ _ c.requires.lists, refl, λ u rest e h. lowering_start _ u _ rest e)

pub word_at-requires : goal.word_at-requires
word_at-requires c = let v = c.loop-i.invariant in omega (arith, v.0)

pub word_at-requires-in-loop-i : goal.word_at-requires-in-loop-i
word_at-requires-in-loop-i c = omega (arith, listed-inside _ _ _ c.requires c.loop-i.i (omega arith), c.from.ensures, c.word_at.ensures, c.loop-i.invariant.1)

pub put_word-requires : goal.put_word-requires
put_word-requires c = omega (arith, listed-inside _ _ _ c.requires c.loop-i.i (omega arith), c.from.ensures, c.word_at.ensures, c.loop-i.invariant.1)

pub loop-i-preserved : goal.loop-i-preserved
loop-i-preserved c = let v = c.loop-i.invariant in
    let p = c.word_at.ensures in
    (v.0, search rules, λ u rest e h. lowering_next _ _ _ h _ _ _ c.loop-i.i (v.2 u rest e h) (omega arith) (ap (λ x. 16 * x + 14) (c.from.ensures ∙ p)) (search rules) c.put_word.ensures)

pub returns : goal.returns
returns c u rest e h = lowering_end _ _ _ h _ _ _ c.loop-i.i (c.loop-i.invariant.2 u rest e h) (omega arith)
