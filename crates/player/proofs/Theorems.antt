-- Demand 3 as one theorem about the whole list, and the theorems that document 01 asks of lists of any length. What they speak of is in specs/Demand
-- and in specs/Run and specs/Load of crate cows; `Plays` is what play promises.
use mathlib.Core.Path.{◌≡◌, ap, ◌∙◌}
use mathlib.Core.Bool.{or-true}
use mathlib.Core.List.{List}
use Prim.Native.Nat.{ℕ, ◌+◌, ◌*◌, ◌/◌, ◌≤◌}
use lib.Dec.{ltb}
use lib.ListN.{length}
use borrow.Author.Tests.{lt-ltb, le-ltb}
use Rattle.cows.specs.Basics.{place_if, refuse, accept, ◌>>◌, forbid}
use Rattle.cows.specs.Terms.{Term}
use Rattle.cows.specs.Format.{AreBytes}
use Rattle.cows.specs.Tables.{judge}
use Rattle.cows.specs.Within.{Within}
use Rattle.cows.specs.Load.{load}
use Rattle.cows.specs.Run.{start, run, moves_of, play_from, played_reply, played_tally, played_output, played_replies}
use Rattle.cows.proofs.Tables.{judge-within, within-judge}
use Rattle.cows.proofs.Lists.{length-replies}
use Rattle.cows.proofs.Theorems.{list_bound, tables_within}
use Rattle.cows.proofs.Cut.{length_cut}
use Rattle.tables.specs.declared.Reply.{Reply}
use Rattle.tally.specs.declared.Tally.{Tally}
use Rattle.player.specs.declared.Played.{Played}
use Rattle.player.specs.Nights.{PlayGives, Plays}
use Rattle.player.proofs.Whole.{play_judged}
use Rattle.player.specs.Demand.{book, Refused, Followed, Demand3}

whole_is : (p : Played) {r : Reply} {c : Tally} → p.reply ≡ r → p.tally ≡ c → p ≡ record { reply = r; tally = c }
whole_is p {r} e f = ap (λ (x : Reply). record { reply = x; tally = p.tally }) e ∙ ap (λ (x : Tally). record { reply = r; tally = x }) f

module _ (table moves out after slots after' : List ℕ) (p : Played) (t : Term) (formed : judge table ≡ accept t) (plays : Plays table moves out after slots after' p) where
  refused : (n : ℕ) → PlayGives (refuse n 0) out after slots after' p → Refused n out after slots after' p
  unfolding played_reply played_tally played_output played_replies
  refused n g = record { reply = whole_is p g.replied g.tallied; output = g.output; slots_are = g.slots_are }

  followed : PlayGives (accept (play_from t (moves_of moves))) out after slots after' p → Within t → Followed t moves out after slots after' p
  unfolding play_from played_reply played_tally played_output played_replies book
  followed g w =
      let n = length-replies (start t) (moves_of moves) ∙ length_cut 6 moves in
      record {
        reply = g.replied;
        replied = g.slots_are ∙ rw n;
        last = g.output;
        tallied = g.tallied;
        formed = within-judge (book t moves).table (tables_within t (moves_of moves) w);
        bound = rw g.tallied (list_bound t (moves_of moves));
      }

  -- Demand 3: of every well-formed table, every list, any buffers, and whatever play returns and leaves on them.
  pub demand_3 : AreBytes table → Demand3 t moves out after slots after' p
  unfolding forbid place_if ◌>>◌
  demand_3 b = record {
    too_long = λ h. refused 19 (rw (play_judged table moves out slots t formed, lt-ltb 60000 (length moves) h) at plays);
    short_output = λ h k. refused 21 (rw (play_judged table moves out slots t formed, le-ltb 60000 (length moves) h, lt-ltb (length out) 32768 k) at plays);
    short_slots = λ h k. refused 21 (rw (play_judged table moves out slots t formed, le-ltb 60000 (length moves) h, lt-ltb (length slots) (6 * (length moves / 6)) k, or-true (ltb (length out) 32768)) at plays);
    else_played = λ h k l.
        followed (rw (play_judged table moves out slots t formed, le-ltb 60000 (length moves) h, le-ltb (length out) 32768 k, le-ltb (length slots) (6 * (length moves / 6)) l) at plays) (judge-within table t b formed);
  }

-- What play promises, of a table of bytes: the equation, and demand 3 with it.
pub promised : (table moves out after slots after' : List ℕ) (p : Played) → AreBytes table → Plays table moves out after slots after' p
    → Plays table moves out after slots after' p × ((t : Term) → judge table ≡ accept t → Demand3 t moves out after slots after' p)
promised table moves out after slots after' p b plays = (plays, λ t formed. demand_3 table moves out after slots after' p t formed plays b)

-- The inequality over the night book, for lists of any length.
pub any_list : (t : Term) (ms : List (List ℕ)) → let r = run (start t) ms in
    2 * r.tally.communications + r.tally.kills + r.tally.timeouts + load r.table ≤ load t + r.tally.copied
any_list t ms = list_bound t ms
