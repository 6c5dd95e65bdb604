use mathlib.Core.Path.{◌≡◌, ◌∙◌}
use native.Mathlib.Omega.{arith}
use denote.Enum.Bare.{sameb}
use Rattle.std.proofs.Common.{rules, count_by, length}
use Rattle.roles.specs.contracts.Role.{the_type}
use Rattle.entries.proofs.Entries.{all_counted, places_within}
use Rattle.entries.proofs.count.Goals as goal

pub returns : goal.returns
returns c = let z = c.args in
    let counted : c.count.result ≡ count_by (λ r. sameb the_type r z.role) z.cast.now = search rules in
    let e = counted ∙ all_counted z.cast.now z.role in
    (e, omega (arith, e, places_within z.cast.now z.role (length z.cast.now)))
