use Rattle.std.proofs.Common.{rules}
use Rattle.chains.specs.Chains.{scope_here}
use Rattle.chains.proofs.chain_scopes.Goals as goal

pub returns : goal.returns
unfolding scope_here
returns c = let p = c.requires in record {
  chained = c.chain.ensures (scope_here c.args.s.now) (λ i l b e. search rules);
  wide = search rules;
  room = search rules;
  whole = p.whole;
}
