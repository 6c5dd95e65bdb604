-- The list of open moves by the tests of specs/Criteria is the list of open moves.
use mathlib.Core.Path.{◌≡◌, ap, ◌∙◌}
use mathlib.Core.List.{map}
use Rattle.cows.specs.Terms.{Term, size}
use Rattle.cows.specs.Within.{Within}
use Rattle.cows.specs.Moves.{Communicate}
use Rattle.opening.specs.Opening.{up_from, open_moves}
use Rattle.opening.proofs.Lists.{each_ext}
use Rattle.opening.proofs.Parts.{filter_same, open_parts}
use Rattle.roles.specs.Roles.{firing, expiring}
use Rattle.criteria.specs.Criteria.{quick_moves}
use Rattle.criteria.proofs.Meetings.{meeting_open}
use Rattle.criteria.proofs.Solo.{kill_open, timeout_open}
use Rattle.criteria.proofs.Roles.{unfold_role_lem, extrude_role_lem}

pub quick_open : (t : Term) → Within t → open_moves t ≡ quick_moves t
unfolding quick_moves firing expiring
quick_open t w =
    let n = size t in
    open_parts t
    ∙ rw (
      filter_same _ _ n (λ a l. kill_open t w a),
      each_ext _ _ (λ a. ap (map (Communicate a)) (filter_same _ _ n (λ b l. meeting_open t w a b))) (up_from 0 n),
      filter_same _ _ n (λ a l. timeout_open t w a),
      filter_same _ _ n (λ a l. unfold_role_lem t w a),
      filter_same _ _ n (extrude_role_lem t w),
    )
