use native.Mathlib.Omega.{arith}
use mathlib.Core.Path.{◌≡◌}
use Prim.Native.Nat.{◌-◌, ◌/◌}
use Rattle.shapes.proofs.Passing.{pass_start, small_below, kind_turn, pass_done, accepted}
use Rattle.shapes.proofs.shape_of.Goals as goal

pub loop-i-init : goal.loop-i-init
loop-i-init c = pass_start c.args.s.now c.args.ends.now _ _ _ c.requires.few c.requires.end

pub number_of-term-requires : goal.number_of-term-requires
number_of-term-requires c = let o = c.loop-i in
    (omega arith, omega arith, small_below _ _ _ _ _ _ _ _ _ _ o.invariant (omega arith) c.from.result c.from.ensures (omega (arith, c.from.ensures, c.requires.known (o.i - 1) (omega arith))) c.if-next.false)

-- the record that is read, behind what is known
pub loop-i-preserved : goal.loop-i-preserved
loop-i-preserved c =
    let o = c.loop-i in
    let x = c.requires in
    let p = o.invariant in
    rw (c.from-m.ensures, c.from-u.ensures)
    (kind_turn _ _ _ _ _ _ _ _ _ _ p (omega arith) c.from.result c.from.ensures (omega (arith, c.from.ensures, x.known (o.i - 1) (omega arith))) c.if-next.false
    (omega (arith, o.auto.stack, x.below, p.low, p.few))
    (omega (arith, o.auto.marks, x.mark, p.mark.few))
    (omega (arith, o.auto.users, x.user, p.user.few))
    c.number_of-term.result c.number_of-term.ensures)

pub returns : goal.returns
returns c =
    let o = c.loop-i in
    let (one, low) = accepted o.have (o.term / 65536) c.if-have-term.false in
    let z : o.i ≡ 0 = omega arith in
    pass_done _ _ _ _ _ _ _ _ (rw (one, z) at o.invariant) low
