use mathlib.Core.Path.{refl, sym, ◌∙◌}
use Prim.Native.Nat.{◌*◌}
use native.Mathlib.Omega.{arith}
use Rattle.cows.proofs.Rows.{length_record16}
use Rattle.cows.specs.Terms.{nil}
use Rattle.cows.specs.Kinds.{basic}
use Rattle.records.specs.Rewrites.{put}
use Rattle.renaming.proofs.Bound.{closed-goes, closed_stays, bound-nil, bound-gone, bound-kept, room_nil, room_kept}
use Rattle.renaming.proofs.Mapped.{length_piece, record_same, length-map_record}
use Rattle.renaming.proofs.binding.put_bound.Goals as goal

pub put_nil-requires : goal.put_nil-requires
unfolding put
put_nil-requires c = room_nil _ _ _ _ _ _ c.if-i-b.true c.requires.1

pub returns-then-i-b : goal.returns-then-i-b
unfolding put
returns-then-i-b c = rw (bound-nil _ _ _ _ c.if-i-b.true) (c.put_nil.ensures, rw (length_record16 (basic nil)))

pub copy_record-requires : goal.copy_record-requires
unfolding put
copy_record-requires c = let p = c.requires in
    (omega arith, let l = room_kept _ _ _ _ _ _ p.0 c.if-i-b.false (closed-goes _ _ _ (sym c.closed.ensures ∙ c.if-closed.true)) p.1 in omega arith)

pub returns-then-closed : goal.returns-then-closed
unfolding put
returns-then-closed c = let z = sym c.closed.ensures ∙ c.if-closed.true in
    let a = c.args in
    let l = c.requires.0 in
    rw (bound-kept _ _ _ _ c.if-i-b.false (closed-goes _ _ _ z), ← closed_stays _ _ _ z, record_same a.s.now (16 * a.i) l (λ j. omega (arith, c.shared_slice_known-1.given j)))
    (c.copy_record.ensures, rw (length_piece _ _ l))

pub returns-then-removes : goal.returns-then-removes
unfolding put
returns-then-removes c = rw (bound-gone _ _ _ _ c.if-i-b.false (sym c.removes.ensures ∙ c.if-removes.true)) (refl, omega arith)

pub put_classed-requires : goal.put_classed-requires
unfolding put
put_classed-requires c = let p = c.requires in
    (p.0, room_kept _ _ _ _ _ _ p.0 c.if-i-b.false (sym c.removes.ensures ∙ c.if-removes.false) p.1)

pub returns : goal.returns
unfolding put
returns c = rw (bound-kept _ _ _ _ c.if-i-b.false (sym c.removes.ensures ∙ c.if-removes.false))
    (c.put_classed.ensures, rw (length-map_record _ _ _ c.requires.0))
