-- Each call has fewer bytes left; what halting does at each kind is in proofs/HaltSteps.
use borrow.Author.Rules.{rules}
use Rattle.cows.proofs.Rows.{children-some}
use Rattle.cows.specs.Moves.{halt}
use Rattle.records.specs.Rewrites.{unchanged, gone}
use Rattle.records.proofs.Rewrites.{as_asks, as_gives}
use Rattle.rewriting.proofs.Aligned.{passes_placed}
use Rattle.rewriting.proofs.Children.{first_child, second_child, two_children, one_child}
use Rattle.rewriting.proofs.HaltSteps.{Gone, Kept, Through, halt-gone, halt-kept, halt_step, gone_at, kept_at, through_at}
use Rattle.rewriting.proofs.halting.+halt_at.Goals as goal

pub nil_at-requires : goal.nil_at-requires
nil_at-requires t c = let r = c.requires in record { rewritable = as_asks halt gone Gone halt-gone r.rewritable (gone_at (search rules)); passes = passes_placed r.aligned r.rewritable (search rules) }

pub returns-then-kind-lt-PARALLEL : goal.returns-then-kind-lt-PARALLEL
returns-then-kind-lt-PARALLEL t c = as_gives halt gone Gone halt-gone (search rules) (gone_at (search rules))

pub copy_term-requires : goal.copy_term-requires
copy_term-requires t c = let r = c.requires in record { rewritable = as_asks halt unchanged Kept halt-kept r.rewritable (kept_at (search rules)); passes = passes_placed r.aligned r.rewritable (search rules) }

pub returns-then-kind-eq-PROTECTION : goal.returns-then-kind-eq-PROTECTION
returns-then-kind-eq-PROTECTION t c = as_gives halt unchanged Kept halt-kept (search rules) (kept_at (search rules))

pub halt_at-next-requires : goal.halt_at-next-requires
halt_at-next-requires t c = let r = c.requires in
    (search rules, first_child halt halt halt Through halt_step r.rewritable r.aligned (through_at (search rules) (search rules)) (children-some _ (search rules)) (search rules) (search rules))

pub halt_at-requires : goal.halt_at-requires
halt_at-requires t c = let r = c.requires in (
  search rules,
  second_child halt halt halt Through halt_step r.rewritable r.aligned (through_at (search rules) (search rules)) (children-some _ (search rules)) c.halt_at-next.ensures (search rules)
      (search rules) (search rules),
)

pub returns-then-children-eq2 : goal.returns-then-children-eq2
returns-then-children-eq2 t c = let r = c.requires in
    two_children halt halt halt Through halt_step r.rewritable r.aligned (through_at (search rules) (search rules)) (children-some _ (search rules)) c.halt_at-next.ensures (search rules)
    (search rules) c.copy_record.ensures c.halt_at.ensures

pub returns : goal.returns
returns t c = let r = c.requires in
    one_child halt halt halt Through halt_step r.rewritable r.aligned (through_at (search rules) (search rules)) (children-some _ (search rules)) c.halt_at-next.ensures (search rules) (search rules)
    c.copy_record.ensures
