use borrow.Author.Rules.{rules}
use Rattle.cows.specs.Format.{encode, nodes, record16, layout, bytes2}
use Rattle.records.proofs.Rewrites.{nil_gives}
use mathlib.Core.List.{flat_map}
use Rattle.records.proofs.copying.nil_at.Goals as goal

pub returns : goal.returns
unfolding encode nodes flat_map record16 layout bytes2
returns c = nil_gives (search rules) c.put_nil.ensures
