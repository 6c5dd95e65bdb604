-- What can happen now (request 2026-01): every accepted move but time, in the request's order, and the operation that lists them in a lent buffer.
use Rattle.std.specs.Prelude.{◌≡◌, ◌⊎◌, Bool, false, cond, not, ℕ, zero, suc, ◌+◌, ◌*◌, ◌<◌, ltb, length, drop}
use mathlib.Core.List.{List, [], ◌∷◌, ◌++◌, map, flat_map}
use Rattle.cows.specs.Basics.{place_if, Result, refuse, accept, ◌>>=◌, ◌>>◌, forbid}
use Rattle.cows.specs.Terms.{Term, size}
use Rattle.cows.specs.Format.{byte, word}
use Rattle.cows.specs.Tables.{judge}
use Rattle.cows.specs.Moves.{Move, Kill, Communicate, Timeout, Elapse, Unfold, Extrude, successor}
use Rattle.cows.specs.Step.{over_limits, Reply}
use Rattle.cows.specs.Papers.{killing, meeting, expiry, time, unfolding_at, float}

-- List tools. The k numbers from n on; the elements that pass a test, in their order; the lists that f gives, one behind the other.
unfoldable pub up_from : ℕ → ℕ → List ℕ
up_from n zero = []
up_from n (suc k) = n ∷ up_from (suc n) k

unfoldable pub filter : {A : Type 0} → (A → Bool) → List A → List A
filter f [] = []
filter f (x ∷ xs) = cond (f x) (x ∷ filter f xs) (filter f xs)

abbrev pub each : {A B : Type 0} → (A → List B) → List A → List B
each f xs = flat_map f xs

-- 2026-01: a move that would be 20 is not open; output length plays no part here.
unfoldable pub fine : Result Term → Bool
fine (refuse n p) = false
fine (accept s) = not (over_limits s)

-- A move is open if the rules give it a successor and that keeps the limits.
unfoldable pub is_open : Term → Move → Bool
is_open t m = fine (successor t m)

-- 2026-01: all moves but time, in this order: stops by a, meetings by a then b, expiries, unfoldings, floatings by a. (Here on the n places of a table.)
unfoldable pub candidates : ℕ → List Move
candidates n =
    let places = up_from 0 n in
    map Kill places
    ++ (each (λ a. map (Communicate a) places) places ++ (map Timeout places ++ (map Unfold places ++ map Extrude places)))

-- 2026-01: every open move at once. A place behind the table holds no record, so no move there is open.
unfoldable pub open_moves : Term → List Move
open_moves t = filter (is_open t) (candidates (size t))

-- 2026-01: each in the 6-byte form: kind, a zero byte, number a, number b.
unfoldable pub six_byte_form : Move → List ℕ
six_byte_form (Kill a) = killing a
six_byte_form (Communicate a b) = meeting a b
six_byte_form (Timeout a) = expiry a
six_byte_form (Elapse d) = time d
six_byte_form (Unfold a) = unfolding_at a
six_byte_form (Extrude a) = float a

unfoldable pub open_list : Term → List (List ℕ)
open_list t = map six_byte_form (open_moves t)

-- 2026-01: refused, the table's; then 22, list buffer too short, place their number. The buffer is lent with room for so many bytes.
unfoldable pub judge_open : (table : List ℕ) → (room : ℕ) → Result (List Move)
judge_open table room = do
  t ← judge table
  forbid 22 (place_if (ltb room (6 * length (open_moves t))) (length (open_moves t)))
  accept (open_moves t)

-- 2026-01: accepted, records is their number (it may pass 65,535).
unfoldable pub open_reply : Result (List Move) → Reply
open_reply (refuse n p) = record { answer = n; place = p; records = 0 }
open_reply (accept ms) = record { answer = 0; place = 0; records = length ms }

-- 2026-01: the list from the buffer's start, the bytes after it untouched; refused, the buffer untouched.
unfoldable pub open_buffer : Result (List Move) → List ℕ → List ℕ
open_buffer (refuse n p) buffer = buffer
open_buffer (accept ms) buffer = each six_byte_form ms ++ drop (6 * length ms) buffer

-- What the theorems say. x is one of a list; by their keys, each element is below all that follow it.
abbrev pub IsIn : {A : Type 0} → A → List A → Type 0
IsIn x [] = ⊥
IsIn x (y ∷ ys) = (x ≡ y) ⊎ IsIn x ys

abbrev pub Ascending : {A : Type 0} → (A → ℕ) → List A → Type 0
Ascending {A = A} key [] = Unit {0}
Ascending {A = A} key (x ∷ xs) = ((y : A) → IsIn y xs → key x < key y) × Ascending key xs

-- 2026-01, the order of moves in 6 bytes: by kind (stops 0, meetings 1, expiries 2, unfoldings 4, floatings 5), then by a, then by b.
unfoldable pub rank : List ℕ → ℕ
rank m = 65536 * (65536 * byte m 0 + word m 2) + word m 4

-- how many pass
abbrev pub count : {A : Type 0} → (A → Bool) → List A → ℕ
count f xs = length (filter f xs)

-- (for computed checks) to unfold this is to unfold every definition of this file
unfoldable pub open_opening : Unit {0}
unfolding up_from filter fine is_open candidates open_moves six_byte_form open_list judge_open open_reply open_buffer rank
open_opening = tt
