-- A clock that is read again and again: what its readings give one after the other, for the theorem that time adds up (2026-05).
use Rattle.std.specs.Prelude.{ℕ, ◌+◌, List, [], ◌∷◌}
use Rattle.cows.specs.Basics.{Result, ◌>>=◌}
use Rattle.cows.specs.Terms.{Term}
use Rattle.cows.specs.Format.{encode}
use Rattle.ticks.specs.Ticks.{ticks_between, judge_ticks}

-- Time goes on from each reading to the next, on the table that was left; the last reading is read once more, and no tick has passed.
unfoldable pub tick_through : (table : List ℕ) → (earlier : ℕ) → List ℕ → (room : ℕ) → Result Term
tick_through table earlier [] room = judge_ticks table earlier earlier room
tick_through table earlier (later ∷ readings) room = do
  s ← judge_ticks table earlier later room
  tick_through (encode s) later readings room

-- the last reading; the ticks from each reading to the next, together
unfoldable pub last_reading : ℕ → List ℕ → ℕ
last_reading earlier [] = earlier
last_reading earlier (later ∷ readings) = last_reading later readings

unfoldable pub ticks_through : ℕ → List ℕ → ℕ
ticks_through earlier [] = 0
ticks_through earlier (later ∷ readings) = ticks_between earlier later + ticks_through later readings
