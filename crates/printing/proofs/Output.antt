-- The output that play leaves holds the records that its reply counts.
use mathlib.Core.Path.{ap}
use mathlib.Core.List.{List, ◌++◌}
use Prim.Native.Nat.{ℕ, ◌-◌, ◌*◌, ◌≤◌}
use native.Mathlib.Omega.{arith}
use lib.ListN.{length, length-append, drop, replicate}
use Rattle.cows.specs.Basics.{Result, refuse, accept}
use Rattle.cows.specs.Terms.{size}
use Rattle.cows.specs.Format.{encode}
use Rattle.cows.specs.Run.{played_reply, played_output}
use Rattle.cows.specs.Run as meaning
use Rattle.cows.proofs.Format.{length-encode}
use Rattle.tables.specs.declared.Reply.{Reply}
use Rattle.player.specs.declared.Played.{Played}
use Rattle.player.specs.Nights.{PlayGives}

holds : (r : Result meaning.PlayEnd) (out : List ℕ) → 16 * (played_reply r).records ≤ length (played_output r out)
unfolding played_reply played_output
holds (refuse n p) out = let z : 16 * 0 ≤ length out = omega arith in z
holds (accept r) out =
    let t = r.last.table in
    let zeros : List ℕ = replicate (32768 - 16 * size t) 0 in
    let fits : 16 * size t ≤ length (encode t ++ zeros ++ drop 32768 out) = omega (arith, length-append (encode t ++ zeros) (drop 32768 out), length-append (encode t) zeros, length-encode t) in
    fits

pub last_fits : {r : Result meaning.PlayEnd} {out after slots after' : List ℕ} {p : Played} → PlayGives r out after slots after' p → 16 * p.reply.records ≤ length after
last_fits {r = r} {out = out} g = omega (arith, ap (λ (v : Reply). v.records) g.replied, ap length g.output, holds r out)
