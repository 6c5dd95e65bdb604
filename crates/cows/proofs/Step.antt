-- One step on bytes: a refusal has a number from 1 on and changes no output byte; an acceptance changes none behind the successor; and a turn of a
-- run is such a step.
use mathlib.Core.Path.{◌≡◌, refl, sym, ap, subst, ◌∙◌}
use mathlib.Core.Logic.{◌≢◌, ◌↔◌}
use mathlib.Core.Bool.{false}
use mathlib.Core.Option.{Option, some}
use mathlib.Core.List.{List, ◌++◌}
use Prim.Native.Nat.{ℕ, ◌+◌, ◌-◌, ◌*◌, ◌≤◌}
use native.Mathlib.Omega.{arith}
use lib.Dec.{ltb}
use lib.ListN.{length, get_or, drop, length-append, length-drop}
use lib.Seq.{get_or-append-add, get_or-drop}
use borrow.Author.Tests.{ltb-false, le-ltb}
use Rattle.cows.specs.Basics.{place_if, Result, refuse, accept, ◌>>=◌, ◌>>◌, forbid, need}
use Rattle.cows.specs.Terms.{Term, size, depth}
use Rattle.cows.specs.Format.{encode}
use Rattle.cows.specs.Tables.{judge}
use Rattle.cows.specs.Moves.{Move, successor}
use Rattle.cows.specs.Step.{read_move, proposed, over_limits, fitted, step_term, judge_step, reply_to, written, step_reply, step_output}
use Rattle.cows.proofs.Basics.{or_false, bind-accept, accept-bind, same_accept, need-accept, forbid-accept, place_if-none}
use Rattle.cows.proofs.Format.{length-encode}
use Rattle.cows.proofs.Bounds.{judge_step_from_one}

-- What a caller sees: the answer is 0 exactly if the step was accepted. A refusal leaves the output as it was.
step_refused : (r : Result Term) (out : List ℕ) → (reply_to r).answer ≢ 0 → written r out ≡ out
unfolding reply_to written
step_refused (refuse n p) out h = refl
step_refused (accept s) out h = absurd (h refl)

pub refusal_silent : (table m out : List ℕ) → (step_reply table m out).answer ≢ 0 → step_output table m out ≡ out
unfolding step_reply step_output
refusal_silent table m out h = step_refused (judge_step table m (length out)) out h

pub answer_accepts : (table m out : List ℕ) → ((step_reply table m out).answer ≡ 0) ↔ ((s : Term) × (judge_step table m (length out) ≡ accept s))
unfolding step_reply
answer_accepts table m out = (go (judge_step table m (length out)) (judge_step_from_one table m (length out)), λ p. rw p.1 (unfold reply_to in refl))
  where
    go : (r : Result Term) → ((n p : ℕ) → r ≡ refuse n p → 1 ≤ n) → (reply_to r).answer ≡ 0 → (s : Term) × (r ≡ accept s)
    go (refuse n p) h e = absurd (unfold reply_to in omega (arith, h n p refl))
    go (accept s) h e = (s, refl)

-- What an accepted step has passed: a move was read, the rules gave the successor, and it keeps the limits and fits.
pub record Accepted (t : Term) (m : Option Move) (room : ℕ) (s : Term) : Type 0 where
  pub move : Move
  pub reads : m ≡ some move
  pub moves : successor t move ≡ accept s
  pub small : size s ≤ 2048
  pub shallow : depth s ≤ 256
  pub fits : 16 * size s ≤ room

within_limits : (s : Term) → over_limits s ≡ false → (size s ≤ 2048) × (depth s ≤ 256)
unfolding over_limits
within_limits s e = let (h, k) = or_false (ltb 2048 (size s)) (ltb 256 (depth s)) e in (ltb-false 2048 (size s) h, ltb-false 256 (depth s) k)

pub step_accepted : (t s : Term) (m : Option Move) (room : ℕ) → step_term t m room ≡ accept s → Accepted t m room s
unfolding step_term proposed fitted
step_accepted t s m room e =
    let (r, er, e₁) = bind-accept (proposed m t) _ s e in
    let (move, em, es) = bind-accept (need 10 0 m) (successor t) r er in
    let (h, e₂) = forbid-accept 20 (place_if (over_limits r) 0) _ s e₁ in
    let (k, e₃) = forbid-accept 21 (place_if (ltb room (16 * size r)) 0) _ s e₂ in
    subst (Accepted t m room) (same_accept e₃)
    (ended move r (need-accept 10 0 m move em) es (within_limits r (place_if-none (over_limits r) 0 h)) (ltb-false room (16 * size r) (place_if-none (ltb room (16 * size r)) 0 k)))
  where
    ended : (move : Move) (r : Term) → m ≡ some move → successor t move ≡ accept r → (size r ≤ 2048) × (depth r ≤ 256) → 16 * size r ≤ room → Accepted t m room r
    ended move r em es l f = record { move = move; reads = em; moves = es; small = l.0; shallow = l.1; fits = f }

pub accepted_step : (t s : Term) (m : Option Move) (room : ℕ) → Accepted t m room s → step_term t m room ≡ accept s
unfolding step_term proposed fitted over_limits need ◌>>=◌ ◌>>◌ forbid place_if
accepted_step t s m room a = rw (a.reads, a.moves, le-ltb 2048 (size s) a.small, le-ltb 256 (depth s) a.shallow, le-ltb room (16 * size s) a.fits)

-- a step on a table is a step on its term
pub judged_step : (table m : List ℕ) (room : ℕ) (s : Term) → judge_step table m room ≡ accept s → (t : Term) × (judge table ≡ accept t) × Accepted t (read_move m) room s
unfolding judge_step
judged_step table m room s e =
    let (t, et, e₁) = bind-accept (judge table) _ s e in
    (t, et, step_accepted t s (read_move m) room e₁)

pub step_judged : (table m : List ℕ) (room : ℕ) (t s : Term) → judge table ≡ accept t → Accepted t (read_move m) room s → judge_step table m room ≡ accept s
unfolding judge_step
step_judged table m room t s e a = accept-bind (judge table) (λ t. step_term t (read_move m) room) t e ∙ accepted_step t s (read_move m) room a

-- No step changes a byte behind the records that it replies, nor the output's length.
written_behind : (s : Term) (out : List ℕ) (i : ℕ) → 16 * size s ≤ i → get_or (encode s ++ drop (16 * size s) out) i 0 ≡ get_or out i 0
written_behind s out i h =
    let e : length (encode s) + (i - 16 * size s) ≡ i = omega (arith, length-encode s) in
    let f : 16 * size s + (i - 16 * size s) ≡ i = omega arith in
    ap (λ n. get_or (encode s ++ drop (16 * size s) out) n 0) (sym e)
    ∙ (get_or-append-add (encode s) (drop (16 * size s) out) (i - 16 * size s) 0 ∙ (get_or-drop (16 * size s) out (i - 16 * size s) 0 ∙ ap (λ n. get_or out n 0) f))

pub output_behind : (table m out : List ℕ) (i : ℕ) → 16 * (step_reply table m out).records ≤ i → get_or (step_output table m out) i 0 ≡ get_or out i 0
unfolding step_reply step_output written reply_to
output_behind table m out i h = go (judge_step table m (length out)) h
  where
    go : (r : Result Term) → 16 * (reply_to r).records ≤ i → get_or (written r out) i 0 ≡ get_or out i 0
    go (refuse n p) h = refl
    go (accept s) h = written_behind s out i h

pub output_length : (table m out : List ℕ) → length (step_output table m out) ≡ length out
unfolding step_output written
output_length table m out = go (judge_step table m (length out)) refl
  where
    go : (r : Result Term) → judge_step table m (length out) ≡ r → length (written r out) ≡ length out
    go (refuse n p) e = refl
    go (accept s) e =
        let a = (judged_step table m (length out) s e).2 in
        length-append (encode s) (drop (16 * size s) out) ∙ omega (arith, length-encode s, length-drop (16 * size s) out, a.fits)
