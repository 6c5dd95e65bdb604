use mathlib.Core.Path.{◌∙◌}
use native.Mathlib.Omega.{arith}
use Rattle.roles.specs.declared.Role.TheVariants.{Receiver, Sender}
use Rattle.lister.proofs.Writing.{room_surely, role_cut, alone_cut, cut_long}
use Rattle.lister.proofs.write_list.Goals as goal

pub returns-then-list-alone : goal.returns-then-list-alone
returns-then-list-alone c t h = c.write_counted.ensures t h

pub write_counted-requires : goal.write_counted-requires
write_counted-requires c = (c.requires, c.count_alone-alone.ensures.0 ∙ alone_cut c.requires, omega (arith, c.count_alone-alone.ensures.1, cut_long c.requires))

pub write_all-requires : goal.write_all-requires
write_all-requires c = (c.requires, λ t h. room_surely c.requires t h (c.count_alone-alone.ensures.0 ∙ alone_cut c.requires) (c.count-receivers.ensures.0 ∙ role_cut c.requires Receiver) (c.count-senders.ensures.0 ∙ role_cut c.requires Sender) (omega (arith, c.if-list-alone.false)))

pub returns : goal.returns
returns c t h = c.write_all.ensures t h
