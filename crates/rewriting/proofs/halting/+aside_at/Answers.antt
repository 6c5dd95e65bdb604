-- Each call has fewer bytes left; what becomes of the two children is in proofs/Asides.
use borrow.Author.Rules.{rules}
use Rattle.records.specs.Rewrites.{gone}
use Rattle.records.proofs.Rewrites.{as_asks, as_gives}
use Rattle.rewriting.proofs.Aligned.{passes_placed}
use Rattle.rewriting.proofs.Asides.{aside_here, way_first_asks, halt_second_asks, way_first-both, way_first_one, halt-first_asks, way_second_asks, way_second_both}
use Rattle.rewriting.proofs.halting.+aside_at.Goals as goal

-- what halting asks, as its two clauses
by_clauses : {A B : Type 0} → A × B → record { rewritable : A; aligned : B }
by_clauses h = record { rewritable = h.0; aligned = h.1 }

pub nil_at-requires : goal.nil_at-requires
nil_at-requires t c = let r = c.requires in record { rewritable = as_asks _ gone _ (aside_here _) r.rewritable (λ t y. search rules); passes = passes_placed r.place_of.at r.rewritable (search rules) }

pub returns-then-a-at : goal.returns-then-a-at
returns-then-a-at t c = as_gives _ gone _ (aside_here _) c.nil_at.ensures (λ t y. search rules)

pub aside_at-next-requires : goal.aside_at-next-requires
aside_at-next-requires t c = let r = c.requires in (search rules, way_first_asks r.rewritable r.place_of (search rules) (search rules) (search rules) (search rules))

pub halt_at-requires : goal.halt_at-requires
halt_at-requires t c = let r = c.requires in
    by_clauses (halt_second_asks r.rewritable r.place_of (search rules) (search rules) c.aside_at-next.ensures (search rules) (search rules) (search rules))

pub returns-then-children-eq2 : goal.returns-then-children-eq2
returns-then-children-eq2 t c = let r = c.requires in
    way_first-both r.rewritable r.place_of (search rules) (search rules) c.aside_at-next.ensures (search rules) (search rules)
    c.copy_record.ensures c.halt_at.ensures

pub returns-then-a-end_at : goal.returns-then-a-end_at
returns-then-a-end_at t c = let r = c.requires in
    way_first_one r.rewritable r.place_of (search rules) (search rules) c.aside_at-next.ensures (search rules) (search rules)
    c.copy_record.ensures

pub halt_at-next-requires : goal.halt_at-next-requires
halt_at-next-requires t c = let r = c.requires in by_clauses (halt-first_asks r.rewritable r.place_of (search rules) (search rules) (search rules) (search rules))

pub aside_at-requires : goal.aside_at-requires
aside_at-requires t c = let r = c.requires in
    (search rules, way_second_asks r.rewritable r.place_of (search rules) (search rules) c.halt_at-next.ensures (search rules) (search rules))

pub returns : goal.returns
returns t c = let r = c.requires in
    way_second_both r.rewritable r.place_of (search rules) (search rules) c.halt_at-next.ensures (search rules)
    c.copy_record.ensures c.aside_at.ensures
