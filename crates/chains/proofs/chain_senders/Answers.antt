use mathlib.Core.Path.{◌≡◌, ◌∙◌}
use denote.Enum.Bare.{sameb}
use Rattle.std.proofs.Common.{rules}
use Rattle.roles.specs.declared.Role.TheVariants.{Sender}
use Rattle.roles.specs.contracts.Role.{the_type}
use Rattle.roles.specs.Roles.{role_at}
use Rattle.roles.proofs.Same.{same_is}
use Rattle.chains.specs.Chains.{sender_here}
use Rattle.chains.proofs.chain_senders.Goals as goal

pub returns : goal.returns
unfolding sender_here
returns c = let p = c.requires.0 in record {
  chained = c.chain.ensures (sender_here c.args.cast.now) (λ i l b e. let q : b ≡ sameb the_type (role_at c.args.cast.now i) Sender = search rules in q ∙ same_is (role_at c.args.cast.now i) Sender);
  wide = search rules;
  room = search rules;
  whole = p.whole;
}
