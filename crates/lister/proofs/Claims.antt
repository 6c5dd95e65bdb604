-- The request's claims hold of whatever meets the equations of open (`Opened`); `open` promises both.
use mathlib.Core.Path.{◌≡◌, refl, ap, ◌∙◌}
use mathlib.Core.Logic.{◌≢◌}
use mathlib.Core.List.{List, [], ◌∷◌, ◌++◌, map, flat_map, append_assoc}
use Prim.Native.Nat.{ℕ, ◌*◌}
use native.Mathlib.Omega.{arith}
use lib.ListN.{length, drop}
use lib.Seq.{take_at, drop_at}
use Rattle.cows.specs.Basics.{Result, refuse, accept}
use Rattle.cows.specs.Cut.{pieces}
use Rattle.cows.specs.Terms.{Term}
use Rattle.cows.specs.Format.{AreBytes}
use Rattle.cows.specs.Tables.{judge}
use Rattle.cows.specs.Moves.{Move}
use Rattle.cows.proofs.Basics.{lt_case}
use Rattle.cows.proofs.Bounds.{below-judge}
use Rattle.cows.proofs.Tables.{judge-within}
use Rattle.opening.specs.Opening.{six_byte_form, open_moves, open_list, judge_open, open_reply, open_buffer}
use Rattle.opening.proofs.SixBytes.{length_six}
use Rattle.opening.proofs.Theorems.{open_judged, open_once, open_order, open_refused, open_listed, open_too_short}
use Rattle.tables.specs.declared.Reply.{Reply}
use Rattle.stepper.specs.Replies.{reply_of}
use Rattle.lister.specs.Listing.{Opened}
use Rattle.lister.specs.Claims.{moves_in, Claims}

-- what is read off the buffer is what was written
read_off : (ms : List Move) (rest : List ℕ) → pieces 6 (length ms) (flat_map six_byte_form ms ++ rest) ≡ map six_byte_form ms
unfolding pieces flat_map
read_off [] rest = refl
read_off (m ∷ ms) rest =
    let e = append_assoc (six_byte_form m) (flat_map six_byte_form ms) rest in
    rw (e, take_at (six_byte_form m) (flat_map six_byte_form ms ++ rest) 6 (length_six m), drop_at (six_byte_form m) (flat_map six_byte_form ms ++ rest) 6 (length_six m)) (ap (λ l. six_byte_form m ∷ l) (read_off ms rest))

module _ (table list after : List ℕ) (r : Reply) (bytes : AreBytes table) (o : Opened table list after r) where
  -- an accepted table, and its list
  record Found : Type 0 where
    pub term : Term
    pub judged : judge table ≡ accept term
    pub moves : moves_in after r ≡ open_list term

  reply_is : (x : Result (List Move)) → judge_open table (length list) ≡ x → r ≡ reply_of (open_reply x)
  reply_is x e = o.replies ∙ rw e

  found : r.answer ≡ 0 → Found
  unfolding open_reply open_buffer open_list
  found z = go (judge table) refl
    where
      go : (x : Result Term) → judge table ≡ x → Found
      go (refuse n p) e =
          let q = ap (λ (y : Reply). y.answer) (reply_is (refuse n p) (open_refused table (length list) n p e)) in
          let k = rw e at (below-judge 2049 (omega arith) table) in
          absurd (omega (arith, k.0))
      go (accept t) e =
          lt_case Found (length list) (6 * length (open_moves t))
          (λ l. let q = ap (λ (y : Reply). y.answer) (reply_is (refuse 22 _) (open_too_short table (length list) t e l)) in absurd (omega arith))
          (λ l.
          let j = open_listed table (length list) t e l in
          let n : r.records ≡ length (open_moves t) = ap (λ (y : Reply). y.records) (reply_is (accept (open_moves t)) j) in
          let b : after ≡ open_buffer (accept (open_moves t)) list = o.output ∙ rw j in
          record { term = t; judged = e; moves = rw (n, b) (read_off (open_moves t) (drop (6 * length (open_moves t)) list)) })

  untouched : r.answer ≢ 0 → (r.records ≡ 0) × (after ≡ list)
  unfolding open_reply open_buffer
  untouched z = go (judge_open table (length list)) refl
    where
      go : (x : Result (List Move)) → judge_open table (length list) ≡ x → (r.records ≡ 0) × (after ≡ list)
      go (refuse n p) e = (ap (λ (y : Reply). y.records) (reply_is (refuse n p) e), o.output ∙ rw e)
      go (accept ms) e = absurd (z (ap (λ (y : Reply). y.answer) (reply_is (accept ms) e)))

  pub claims : Claims table list after r
  claims = record {
    accepted = λ z m b. let f = found z in rw f.moves (open_judged table m f.term f.judged b);
    once = λ z m i. let f = found z in rw f.moves (open_once f.term m (judge-within table f.term bytes f.judged) (rw f.moves at i));
    ordered = λ z. let f = found z in rw f.moves (open_order f.term (judge-within table f.term bytes f.judged));
    refused = untouched;
  }
