-- The size and the depth of a clause's term are those read off the expression (specs/Extents), and neither is over 8 times the number of the script's records.
use mathlib.Core.Path.{◌≡◌, refl}
use mathlib.Core.List.{List}
use Prim.Native.Nat.{ℕ, ◌*◌, ◌≤◌}
use native.Mathlib.Omega.{arith}
use Rattle.cows.specs.Terms.{Term, size, depth}
use Rattle.orc.specs.Expressions.{sequential, symmetric, asymmetric, Orc, act, composed, records_in}
use Rattle.orc.specs.Clauses.{Translates, by_nothing, by_symmetric, by_call, by_sequential, by_asymmetric}
use Rattle.extents.specs.Extents.{out_size, out_depth}

pub size_translates : {e : Orc} {p o : ℕ} {t : Term} {ns : List ℕ} → Translates e p o t ns → size t ≡ out_size e
unfolding size out_size
size_translates by_nothing = refl
size_translates (by_symmetric f g) = omega (arith, size_translates f, size_translates g)
size_translates by_call = refl
size_translates (by_sequential v w f g) = omega (arith, size_translates f, size_translates g)
size_translates (by_asymmetric v w l g f) = omega (arith, size_translates g, size_translates f)

pub depth_translates : {e : Orc} {p o : ℕ} {t : Term} {ns : List ℕ} → Translates e p o t ns → depth t ≡ out_depth e
unfolding depth out_depth
depth_translates by_nothing = refl
depth_translates (by_symmetric f g) = omega (arith, depth_translates f, depth_translates g)
depth_translates by_call = refl
depth_translates (by_sequential v w f g) = omega (arith, depth_translates f, depth_translates g)
depth_translates (by_asymmetric v w l g f) = omega (arith, depth_translates g, depth_translates f)

pub size-bound : (e : Orc) → out_size e ≤ 8 * records_in e
unfolding out_size records_in
size-bound (act x) = omega arith
size-bound (composed (sequential x) f g) = omega (arith, size-bound f, size-bound g)
size-bound (composed symmetric f g) = omega (arith, size-bound f, size-bound g)
size-bound (composed (asymmetric x) f g) = omega (arith, size-bound f, size-bound g)

pub depth-bound : (e : Orc) → out_depth e ≤ 8 * records_in e
unfolding out_depth records_in
depth-bound (act x) = omega arith
depth-bound (composed (sequential x) f g) = omega (arith, depth-bound f, depth-bound g)
depth-bound (composed symmetric f g) = omega (arith, depth-bound f, depth-bound g)
depth-bound (composed (asymmetric x) f g) = omega (arith, depth-bound f, depth-bound g)
