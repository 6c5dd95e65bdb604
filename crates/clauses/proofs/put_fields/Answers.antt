-- The numbers below i are written, one behind the other.
use mathlib.Core.Path.{◌≡◌, refl, ap, ◌∙◌}
use mathlib.Core.List.{flat_map}
use native.Mathlib.Omega.{arith}
use lib.ListN.{length, take}
use lib.Seq.{take-length}
use Rattle.records.specs.Rewrites.{put}
use Rattle.clauses.specs.Parts.{words}
use Rattle.clauses.proofs.Records.{words_more}
use Rattle.clauses.proofs.put_fields.Goals as goal

pub loop-i-init : goal.loop-i-init
unfolding put flat_map
loop-i-init c = refl

pub loop-i-preserved : goal.loop-i-preserved
loop-i-preserved c = words_more _ _ _ _ (omega (arith, c)) c.loop-i.invariant c.put_word.ensures

pub returns : goal.returns
returns c = let a = c.args in
    let n : length a.fields ≡ 8 = omega (arith, c.well_formed) in
    let m : c.loop-i.i ≡ length a.fields = omega arith in
    c.loop-i.invariant ∙ ap (λ ns. put a.out.now a.at (words ns)) (ap (λ i. take i a.fields) m ∙ take-length a.fields)
