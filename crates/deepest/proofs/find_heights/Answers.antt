-- From place i on the depths are found.
use mathlib.Core.Path.{◌≡◌, subst}
use Prim.Native.Nat.{◌+◌, ◌-◌}
use native.Mathlib.Omega.{arith}
use Rattle.deepest.specs.Deepest.{Heights}
use Rattle.deepest.proofs.Heights.{known_standing, heights_start, heights_turn}
use Rattle.ways.proofs.KnownTables.{known_of}
use Rattle.deepest.proofs.find_heights.Goals as goal

pub loop-i-init : goal.loop-i-init
loop-i-init c = let x = c.args in heights_start x.table.bytes.now x.heights.now

pub height-requires : goal.height-requires
height-requires c = let l = c.loop-i in
    let q : l.i ≡ l.i - 1 + 1 = omega arith in
    (known_standing _ _ _ (known_of c.args.table.known) (omega arith), subst (Heights c.args.table.bytes.now l.heights) q l.invariant, omega (arith, l.auto.heights))

pub loop-i-preserved : goal.loop-i-preserved
loop-i-preserved c = let s = c.args.table.bytes.now in
    let l = c.loop-i in
    let q : l.i ≡ l.i - 1 + 1 = omega arith in
    heights_turn s l.heights (l.i - 1) _ (subst (Heights s l.heights) q l.invariant) (omega (arith, l.auto.heights)) c.height.ensures

pub returns : goal.returns
returns c = let l = c.loop-i in
    let q : l.i ≡ 0 = omega arith in
    subst (Heights c.args.table.bytes.now l.heights) q l.invariant
