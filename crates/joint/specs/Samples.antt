-- Joint steps that are computed (2026-06): each refusal before those that come behind it, what is left, and the same by single firings in another order.
use Rattle.std.specs.Prelude.{Bool, true, false, ◌&&◌, List, [], ◌∷◌, ℕ, ◌+◌, T, eqb, length}
use Rattle.cows.specs.Basics.{every, same_list, Result, refuse, accept}
use Rattle.cows.specs.Terms.{kill, Term, leaf}
use Rattle.cows.specs.Format.{encode}
use Rattle.cows.specs.Load.{load}
use Rattle.cows.specs.Step.{Reply, reply_to}
use Rattle.cows.specs.Run.{reply_bytes}
use Rattle.cows.specs.Papers.{◌∣◌, 𝟘, po!, qo!, po?, new, ⟦◌⟧, rep, says, open_all}
use Rattle.joint.specs.Joint.{judge_joint, tally_for, open_joint}
use Rattle.joint.specs.Singly.{fire_singly, halted, open_singly}

-- A table, the places of stops, and room; the reply; what is left, the same stops in another order, and the load that they halt.
pub record Closing : Type 0 where
  pub begins : Term
  pub stops : List ℕ
  pub room : ℕ
  pub reply : Reply
  pub left : Term
  pub order : List ℕ
  pub halts : ℕ

abbrev leaves : Term → Result Term → Bool
leaves s (refuse n p) = false
leaves s (accept r) = same_list (encode s) (encode r)

-- accepted: this table, also by single firings; as many stops in the tally as are listed; and the load balances
abbrev ends_so : Closing → Result Term → Bool
ends_so c (refuse n p) = true
ends_so c (accept s) =
    leaves c.left (accept s) && leaves c.left (fire_singly 32768 c.begins c.order)
    && eqb (tally_for c.stops (accept s)).kills (length c.stops) && eqb (halted c.begins c.stops) c.halts && eqb (load c.begins) (load s + length c.stops + c.halts)

abbrev agrees : Closing → Result Term → Bool
agrees c x = same_list (reply_bytes (reply_to x ∷ [])) (reply_bytes (c.reply ∷ [])) && ends_so c x

abbrev right_closing : Closing → Bool
right_closing c = agrees c (judge_joint (encode c.begins) c.stops c.room)

-- kill(k), kill(l)
abbrev k : ℕ
k = 49152

abbrev l : ℕ
l = 49153

abbrev stop : ℕ → Term
stop d = leaf (kill d)

-- Two blocks, each with a stop, an observation and what is to be kept; and a block inside another.
abbrev blocks : Term
blocks = new k (stop k ∣ po? 5 ∣ ⟦ po! 6 ⟧) ∣ new l (qo! 7 ∣ stop l ∣ ⟦ stop l ⟧)

abbrev nested : Term
nested = new k (stop k ∣ new l (stop l ∣ po! 5))

abbrev closed : List ℕ → List ℕ → ℕ → Term → Closing
closed ps qs h s = record { begins = blocks; stops = ps; room = 32768; reply = says 0 0 15; left = s; order = qs; halts = h }

abbrev told : Term → List ℕ → (room answer place : ℕ) → Closing
told t ps room n p = record { begins = t; stops = ps; room = room; reply = says n p 0; left = 𝟘; order = []; halts = 0 }

pub closings : List Closing
closings =
    -- both blocks, in either order; the protected stop of the second instead
    closed (3 ∷ 13 ∷ []) (13 ∷ 3 ∷ []) 2 (new k (𝟘 ∣ 𝟘 ∣ ⟦ po! 6 ⟧) ∣ new l (𝟘 ∣ 𝟘 ∣ ⟦ stop l ⟧))
    ∷ closed (15 ∷ 3 ∷ []) (3 ∷ 15 ∷ []) 3 (new k (𝟘 ∣ 𝟘 ∣ ⟦ po! 6 ⟧) ∣ new l (𝟘 ∣ 𝟘 ∣ ⟦ 𝟘 ⟧))
    -- 25 before all else: none, and nine; then 11, of the first listed, past the end too; then 26
    ∷ told blocks [] 0 25 0
    ∷ told blocks (0 ∷ 0 ∷ 0 ∷ 0 ∷ 0 ∷ 0 ∷ 0 ∷ 0 ∷ 0 ∷ []) 0 25 0
    ∷ told blocks (3 ∷ 3 ∷ 99 ∷ 0 ∷ []) 0 11 99
    ∷ told (rep nested) (3 ∷ []) 0 11 3
    -- 26: listed twice, two stops of one [l], inside, and around, the first listed
    ∷ told blocks (3 ∷ 3 ∷ []) 0 26 3
    ∷ told blocks (3 ∷ 15 ∷ 13 ∷ []) 0 26 15
    ∷ told nested (2 ∷ 5 ∷ []) 0 26 2
    ∷ told nested (5 ∷ 2 ∷ []) 0 26 5
    -- 21, by a byte; the table's refusals first
    ∷ told blocks (3 ∷ 13 ∷ []) 239 21 0
    ∷ told (stop k) [] 0 6 0
    ∷ []

pub closings_right : T (every right_closing closings)
unfolding open_all open_joint open_singly closings
closings_right = tt
