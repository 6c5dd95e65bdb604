-- That every reply fits its number: places are below 2^16, records and loads at most 2,048; of open moves there are at most 4,202,496, below 2^24.
use mathlib.Core.Path.{◌≡◌, refl, sym, ap, subst}
use mathlib.Core.List.{List}
use Prim.Native.Nat.{ℕ, suc, ◌*◌, ◌<◌, ◌≤◌}
use native.Mathlib.Omega.{arith}
use lib.ListN.{length, get_or}
use Rattle.cows.specs.Basics.{Result, refuse, accept}
use Rattle.cows.specs.Terms.{Term, size}
use Rattle.cows.specs.Format.{AreBytes, byte, word}
use Rattle.cows.specs.Tables.{judge}
use Rattle.cows.specs.Load.{load}
use Rattle.cows.specs.Step.{read_move, judge_step, reply_to, step_reply}
use Rattle.cows.specs.Moves.{Move}
use Rattle.cows.specs.Run.{moves_of, PlayEnd, play_from, judge_play, played_reply, play}
use Rattle.cows.proofs.Basics.{lt_case, bind-accept, forbid-accept, same_accept}
use Rattle.cows.proofs.Tables.{judge-within}
use Rattle.cows.proofs.Bounds.{Below, below-judge, below-judge_step, below-judge_play}
use Rattle.cows.proofs.Preserving.{step_within}
use Rattle.cows.proofs.Theorems.{tables_within}
use Rattle.opening.specs.Opening.{open_moves, judge_open, open_reply}
use Rattle.opening.proofs.Theorems.{open_number, open_refused, open_listed, open_too_short}
use Rattle.ticks.specs.Ticks.{judge_ticks, ticks_reply}
use Rattle.ticks.proofs.Adding.{ticks_cases}
use Rattle.joint.specs.Joint.{judge_joint, joint_reply}
use Rattle.joint.proofs.Bounds.{PlacesBelow, below_joint}
use Rattle.joint.proofs.Theorems.{successor_formed}
use Rattle.orc.specs.Translation.{judge_orc, orc_reply}
use Rattle.orc.proofs.Bounds.{below_orc}
use Rattle.orc.proofs.Theorems.{accepted_output}
use Rattle.tables.specs.declared.Reply.{Reply}
use Rattle.tables.specs.Verdict.{refusal, check_reply}
use Rattle.stepper.specs.Replies.{reply_of}
use Rattle.player.specs.Loads.{load_reply}
use Rattle.player.proofs.Loading.{load-size}
use Rattle.export.specs.Packing.{Fits}

word_small : (b : List ℕ) (i : ℕ) → ((k : ℕ) → get_or b k 0 < 256) → word b i < 65536
unfolding word byte
word_small b i h = omega (arith, h i, h (suc i))

-- a reply f that is 0, 0 and a count of at most 2,048, or a refusal
fits : {A : Type 0} (f : Result A → Reply) (count : A → ℕ) → ((n p : ℕ) → f (refuse n p) ≡ refusal n p) → ((a : A) → f (accept a) ≡ record { answer = 0; place = 0; records = count a })
    → (x : Result A) → Below 65536 x → ((a : A) → x ≡ accept a → count a ≤ 2048) → Fits (f x)
fits f count e k (refuse n p) h l = subst Fits (sym (e n p)) (record { place = omega (arith, h.1); records = omega arith })
fits f count e k (accept a) h l = subst Fits (sym (k a)) (record { place = omega arith; records = omega (arith, l a refl) })

-- the last table of a play is within the limits
last_small : (table moves : List ℕ) (room slots : ℕ) (r : PlayEnd) → AreBytes table → judge_play table moves room slots ≡ accept r → size r.last.table ≤ 2048
unfolding judge_play play_from
last_small table moves room slots r k e =
    let (t, et, e₁) = bind-accept (judge table) _ r e in
    let (_, e₂) = forbid-accept 19 _ _ r e₁ in
    let (_, e₃) = forbid-accept 21 _ _ r e₂ in
    omega (arith, (tables_within t (moves_of moves) (judge-within table t k et)).small, ap (λ (q : PlayEnd). size q.last.table) (same_accept e₃))

pub check_fits : (b : List ℕ) → AreBytes b → Fits (check_reply (judge b))
check_fits b k = fits check_reply size (λ n p. refl) (λ t. refl) (judge b) (below-judge 65536 (omega arith) b) (λ t e. (judge-within b t k e).small)

pub load_fits : (b : List ℕ) → AreBytes b → Fits (load_reply (judge b))
load_fits b k = fits load_reply load (λ n p. refl) (λ t. refl) (judge b) (below-judge 65536 (omega arith) b) (λ t e. omega (arith, load-size t, (judge-within b t k e).small))

pub step_fits : (table m out : List ℕ) → AreBytes table → ((k : ℕ) → get_or m k 0 < 256) → Fits (reply_of (step_reply table m out))
unfolding step_reply judge_step reply_to
step_fits table m out k h =
    fits (λ x. reply_of (reply_to x)) size (λ n p. refl) (λ s. refl) (judge_step table m (length out))
    (below-judge_step 65536 (omega arith) table m (length out) (word_small m 2 h) (word_small m 4 h) (λ t e. judge-within table t k e))
    (λ s e. let (t, et, es) = bind-accept (judge table) _ s e in
    (step_within t s (read_move m) (length out) (judge-within table t k et) es).small)

pub ticks_fits : (table : List ℕ) (earlier later : ℕ) (out : List ℕ) → AreBytes table → Fits (reply_of (ticks_reply table earlier later out))
unfolding ticks_reply judge_ticks reply_to
ticks_fits table earlier later out k =
    ticks_cases table _ (length out) (λ x. Fits (reply_of (reply_to x))) k
    (λ n p e. record { place = omega (arith, (rw e at (below-judge 65536 (omega arith) table)).1); records = omega arith })
    refused refused refused
    (λ s w. record { place = omega arith; records = omega (arith, w.small) })
  where
    refused : {n : ℕ} → Fits (refusal n 0)
    refused = record { place = omega arith; records = omega arith }

pub joint_fits : (table kills out : List ℕ) → AreBytes table → PlacesBelow 65536 kills → Fits (reply_of (joint_reply table kills out))
unfolding joint_reply reply_to
joint_fits table kills out k h =
    fits (λ x. reply_of (reply_to x)) size (λ n p. refl) (λ s. refl) (judge_joint table kills (length out)) (below_joint 65536 (omega arith) table kills (length out) h)
    (λ s e. (successor_formed table kills (length out) s k e).small)

pub play_fits : (table moves out slots : List ℕ) → AreBytes table → Fits (reply_of (played_reply (play table moves out slots)))
unfolding play played_reply
play_fits table moves out slots k =
    fits (λ x. reply_of (played_reply x)) (λ r. size r.last.table) (λ n p. refl) (λ r. refl) (judge_play table moves (length out) (length slots))
    (below-judge_play 65536 (omega arith) table moves (length out) (length slots))
    (λ r e. last_small table moves (length out) (length slots) r k e)

pub open_fits : (table : List ℕ) (room : ℕ) → AreBytes table → Fits (reply_of (open_reply (judge_open table room)))
unfolding open_reply
open_fits table room k = go (judge table) refl
  where
    shown : (x : Result (List Move)) → judge_open table room ≡ x → Fits (reply_of (open_reply x)) → Fits (reply_of (open_reply (judge_open table room)))
    shown x e = subst (λ y. Fits (reply_of (open_reply y))) (sym e)

    go : (x : Result Term) → judge table ≡ x → Fits (reply_of (open_reply (judge_open table room)))
    go (refuse n p) e = shown (refuse n p) (open_refused table room n p e) (record { place = omega (arith, (rw e at (below-judge 65536 (omega arith) table)).1); records = omega arith })
    go (accept t) e =
        let few = open_number t (judge-within table t k e) in
        lt_case _ room (6 * length (open_moves t))
        (λ l. shown (refuse 22 (length (open_moves t))) (open_too_short table room t e l) (record { place = omega arith; records = omega arith }))
        (λ l. shown (accept (open_moves t)) (open_listed table room t e l) (record { place = omega arith; records = omega arith }))

pub orc_fits : (script : List ℕ) (p o : ℕ) (out : List ℕ) → AreBytes script → Fits (reply_of (orc_reply script p o out))
unfolding orc_reply reply_to
orc_fits script p o out k =
    fits (λ x. reply_of (reply_to x)) size (λ n q. refl) (λ t. refl) (judge_orc script p o (length out)) (below_orc 65536 (omega arith) script p o (length out))
    (λ t e. (accepted_output script p o (length out) t k e).2.small)
