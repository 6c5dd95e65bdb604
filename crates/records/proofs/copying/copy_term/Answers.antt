use borrow.Author.Rules.{rules}
use Rattle.records.proofs.Rewrites.{copy_asks, copy_gives}
use Rattle.records.proofs.copying.copy_term.Goals as goal

pub copy-requires : goal.copy-requires
copy-requires c = let r = c.requires in copy_asks r.rewritable r.passes

pub returns : goal.returns
returns c = copy_gives (search rules) (search rules)
