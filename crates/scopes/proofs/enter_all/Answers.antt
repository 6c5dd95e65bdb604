use mathlib.Core.Path.{◌≡◌, refl, ap, ◌∙◌}
use native.Mathlib.Omega.{arith}
use lib.ListN.{length-set}
use Rattle.cows.specs.Terms.{size}
use Rattle.cows.proofs.Basics.{never}
use Rattle.scopes.specs.Scopes.{entered_of}
use Rattle.scopes.proofs.Slots.{keeps_as, growing_top, blank_growing, blank_keeps, store_growing}
use Rattle.scopes.proofs.Marks.{entered-none, entered_all}
use Rattle.records.proofs.StandsIn.{holds_size}
use Rattle.scopes.proofs.NextPlace.{enter_pass, enter-turn}
use Rattle.scopes.proofs.enter_all.Goals as goal

pub loop-d-init : goal.loop-d-init
loop-d-init c = (refl, refl, blank_growing _ _ c.requires, λ t h. keeps_as _ _ _ _ (entered-none t) (blank_keeps _ _ c.requires))

pub loop-d-preserved-then-s-d-ne-DELIMITATION : goal.loop-d-preserved-then-s-d-ne-DELIMITATION
loop-d-preserved-then-s-d-ne-DELIMITATION c = let v = c.loop-d.invariant in
    (v.0, v.1, v.2, λ t h. enter_pass _ _ _ c.loop-d.d (omega arith) c.if-s-d-ne-DELIMITATION.true t h (v.3 t h))

pub give_page-requires : goal.give_page-requires
give_page-requires c = let g = c.loop-d.invariant.2 in (g.paged.wide, growing_top _ _ _ g)

pub returns-in_default : goal.returns-in_default
returns-in_default c = let g = c.give_page.ensures _ refl c.loop-d.invariant.2 in
    record { paged = g.paged; keeps = never; all = λ z. absurd (omega (arith, g.full c.in_default.is)) }

pub slot_of-requires : goal.slot_of-requires
slot_of-requires c = (c.give_page.ensures _ refl c.loop-d.invariant.2).paged.wide

pub offset_bounds-marks-slot_of : goal.offset_bounds-marks-slot_of
offset_bounds-marks-slot_of c = omega (arith, (c.give_page.ensures _ refl c.loop-d.invariant.2).paged.inside c.word_at-a.result (omega arith))

pub bounds-marks-slot_of : goal.bounds-marks-slot_of
bounds-marks-slot_of c = omega (arith, (c.give_page.ensures _ refl c.loop-d.invariant.2).paged.inside c.word_at-a.result (omega arith))

pub loop-d-preserved : goal.loop-d-preserved
loop-d-preserved c = let v = c.loop-d.invariant in
    let g = c.give_page.ensures _ refl v.2 in
    let z = c.in-Some.is in (
      c.give_page.auto.pages ∙ v.0,
      length-set c.loop-d.marks _ _ ∙ v.1,
      rw c.slot_of.ensures (store_growing _ _ _ _ (omega arith) _ (g.grows _ z).0),
      λ t h. enter-turn _ _ _ c.loop-d.d (omega arith) c.if-s-d-ne-DELIMITATION.false _ _ c.word_at-a.ensures c.slot_of.ensures g.paged t h (g.grows _ z).1 (g.keeps _ z _ (v.3 t h)),
    )

pub returns : goal.returns
returns c = let v = c.loop-d.invariant in record {
  paged = v.2.paged;
  keeps = λ z t h. keeps_as _ _ _ _ (λ a. ap (λ i. entered_of t i a) (let e : c.loop-d.d ≡ size t = omega (arith, holds_size _ t h) in e) ∙ entered_all t a) (v.3 t h);
  all = λ z. refl;
}
