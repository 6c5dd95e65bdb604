-- A whole script: the marks at its start, and what reading it says of its variables.
use mathlib.Core.Path.{◌≡◌, sym, ap}
use mathlib.Core.List.{List, []}
use Prim.Native.Nat.{ℕ}
use native.Mathlib.Omega.{arith}
use lib.ListN.{length, replicate}
use Rattle.cows.specs.Basics.{any, member}
use Rattle.cows.specs.Within.{nowhere}
use Rattle.cows.proofs.Basics.{never}
use Rattle.std.proofs.lemmas.List.{get_or-replicate}
use Rattle.records.specs.Answers.{found_of}
use Rattle.orc.specs.Expressions.{Orc}
use Rattle.orc.specs.Scripts.{misbound}
use Rattle.scripts.specs.Standing.{ScriptOf}
use Rattle.std.specs.Prelude.{Result, Ok, Err}
use Rattle.orc.proofs.Format.{records_pos}
use Rattle.scripts.proofs.Standing.{whole_at, at_fits}
use Rattle.std.specs.Result.{result_err}
use Rattle.bindings.specs.declared.Mark.{Mark}
use Rattle.bindings.specs.declared.Mark.TheVariants.{Unseen}
use Rattle.bindings.specs.Marks.{MarkedFor, Scannable, Scanned}

pub start : MarkedFor (replicate 16384 Unseen) nowhere []
unfolding member any
start = record { is = λ i l. get_or-replicate 16384 i Unseen Unseen l; bound = λ a h. never h }

pub whole_asks : {s : List ℕ} {marks : List Mark} → ((e : Orc) × ScriptOf s e) → length marks ≡ 16384 → Scannable s 0 marks
whole_asks (e, h) l =
    let y = whole_at e h.is in
    record { expression = e; stands = y; right = h.right; all = l; inside = omega (arith, at_fits e y, records_pos e) }

module _ {s : List ℕ} {marks after : List Mark} (m : MarkedFor marks nowhere []) where
  pub whole_told : (r : Result ℕ ℕ) → Scanned s 0 marks after r → (e : Orc) → ScriptOf s e → result_err r ≡ found_of (misbound nowhere [] 0 e)
  whole_told (Ok k) r e h = ap found_of (sym (r.to.2 e nowhere [] (whole_at e h.is) h.right m).0)
  whole_told (Err p) r e h = ap found_of (sym (r.to e nowhere [] (whole_at e h.is) h.right m))
