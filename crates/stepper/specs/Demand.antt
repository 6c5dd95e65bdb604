-- Demand 2, of what step returns and leaves: accepted exactly where document 01's rules say so, with the one table that they give.
use Rattle.std.specs.Prelude.{◌≡◌, ◌≢◌, ◌↔◌, List, ◌++◌, ℕ, ◌*◌, length, drop}
use Rattle.cows.specs.Terms.{Term, size}
use Rattle.cows.specs.Format.{encode}
use Rattle.cows.specs.Within.{Within}
use Rattle.cows.specs.Accepts.{Accepts}
use Rattle.tables.specs.declared.Reply.{Reply}

-- The answer is 0 exactly if the table is well formed, the rules allow the move on it, and the result keeps the limits and fits. Then there is one such
-- successor, it is within the limits, the reply has the number of its records, and the output begins with its table, every byte behind it as it was.
-- Else no record is replied, and no byte of the output has changed.
pub record Demand2 (table m out after : List ℕ) (r : Reply) : Type 0 where
  pub accepted : (r.answer ≡ 0) ↔ ((s : Term) × Accepts table m (length out) s)
  pub one : (s u : Term) → Accepts table m (length out) s → Accepts table m (length out) u → s ≡ u
  pub formed : (s : Term) → Accepts table m (length out) s → Within s
  pub replied : (s : Term) → Accepts table m (length out) s → r ≡ record { answer = 0; place = 0; records = size s }
  pub written : (s : Term) → Accepts table m (length out) s → after ≡ encode s ++ drop (16 * size s) out
  pub refused : r.answer ≢ 0 → (r.records ≡ 0) × (after ≡ out)
