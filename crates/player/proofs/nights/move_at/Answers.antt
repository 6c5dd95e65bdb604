use native.Mathlib.Omega.{arith}
use Rattle.player.proofs.Playing.{part_move, moved, reply_fits, made}
use Rattle.player.proofs.nights.move_at.Goals as goal

pub overflow_mul-at : goal.overflow_mul-at
overflow_mul-at c = let o = c.requires in omega (arith, o.inside, o.short)

pub overflow_add-to : goal.overflow_add-to
overflow_add-to c = let o = c.requires in omega (arith, o.inside, o.short)

pub put_reply-requires : goal.put_reply-requires
put_reply-requires c = let (place, records) = reply_fits _ _ _ _ _ _ _ c.requires _ _ _ _ (moved (part_move c.args.moves.now c.args.i) c.move_on-next.ensures) (λ j. omega (arith, c.shared_slice_known-1.given j)) in
    (omega (arith, c.requires.inside, c.requires.slots_room), place, records)

pub returns : goal.returns
returns c = made _ _ _ _ _ _ _ c.requires _ _ _ _ (moved (part_move c.args.moves.now c.args.i) c.move_on-next.ensures) _ c.put_reply.ensures
