use borrow.Author.Rules.{rules}
use Rattle.cows.specs.Format.{record16, layout, bytes2}
use Rattle.records.specs.Rewrites.{put}
use Rattle.unfold.proofs.put_parallel.Goals as goal

pub returns : goal.returns
unfolding put record16 layout bytes2
returns c = search rules
