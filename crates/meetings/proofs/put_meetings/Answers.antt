-- The meetings of the receives before place a are listed.
use mathlib.Core.Path.{sym, ◌∙◌}
use Prim.Native.Nat.{◌+◌}
use native.Mathlib.Omega.{arith}
use Rattle.ways.proofs.KnownTables.{table_size, table_inside}
use Rattle.roles.specs.declared.Role.TheVariants as role
use Rattle.roles.proofs.Same.{by_test, is_role-eq}
use Rattle.meetings.specs.Meetings.{meetings_at, meetings_of}
use Rattle.meetings.proofs.Meets.{cast_receiver}
use Rattle.meetings.proofs.Listing.{listing_start, listing_on, listing-end}
use Rattle.meetings.proofs.Walks.{later_of, later_start, later_next, later_end, later_over, space_at}
use Rattle.meetings.proofs.put_meetings.Goals as goal
use Rattle.meetings.proofs.put_meetings.Goals.{then-eq, else-eq}

pub loop-a-init : goal.loop-a-init
loop-a-init c t h = rw (← later_start t) (listing_start _ _ _ (meetings_of t))

pub put_meetings_of-count-requires : goal.put_meetings_of-count-requires
put_meetings_of-count-requires c = let l = c.loop-a in (
  c.requires.0,
  record { placed = omega arith; receiver = is_role-eq _ _ (by_test _ role.Receiver c.eq.ensures c.if-eq.true) },
  space_at c.requires.0 c.requires.1 (omega arith) l.auto.out l.invariant,
)

pub loop-a-preserved : goal.loop-a-preserved
loop-a-preserved c t h = let l = c.loop-a in
    elim c.if-eq.branch [
      | then-eq w ↦ rw (w.out-is, w.count-is) (listing_on _ _ _ (meetings_of t) (later_of t l.a) (l.invariant t h) (meetings_at t l.a) (later_of t (l.a + 1)) (later_next t l.a (table_inside _ _ t h l.a (omega arith))) (w.put_meetings_of-count.ensures t h))
      | else-eq w ↦
          let i = table_inside _ _ t h l.a (omega arith) in
          let e = later_over t l.a i (sym (cast_receiver _ _ c.args.x.now.cast.now t h (c.requires.0.played.roles t h) l.a (omega arith)) ∙ by_test _ role.Receiver c.eq.ensures w.if-eq.false) in
          rw (w.out-is, w.count-is, ← e) (l.invariant t h)
    ]

pub returns : goal.returns
returns c t h = let l = c.loop-a in
    let x = listing-end _ _ _ (meetings_of t) (later_of t l.a) (l.invariant t h) (later_end t l.a (omega (arith, table_size _ _ t h))) in
    record { number = x.number; is = x.is }
