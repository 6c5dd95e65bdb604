-- Play as a whole (specs/Nights): the table copied in, the last table and the replies written, and the refusals of the whole.
use mathlib.Core.Path.{◌≡◌, refl, sym, ap, subst, ◌∙◌}
use mathlib.Core.Logic.{◌≢◌}
use mathlib.Core.Bool.{Bool, true, false, cond, ◌||◌}
use mathlib.Core.List.{List, ◌++◌}
use Prim.Native.Nat.{ℕ, ◌+◌, ◌*◌, ◌-◌, ◌/◌, ◌≤◌, ◌<◌}
use native.Mathlib.Omega.{arith}
use lib.Dec.{ltb}
use lib.ListN.{length, take, drop, replicate, length-append, length-replicate}
use lib.Seq.{take_all, take_at, take-take, take-append-le, drop_at, drop-drop, drop-append-add, length-take-le}
use borrow.Author.Tests.{ltb-false, lt-ltb, le-ltb}
use Rattle.cows.specs.Basics.{place_if, Result, refuse, accept, ◌>>=◌, ◌>>◌, forbid}
use Rattle.cows.specs.Terms.{Term}
use Rattle.cows.specs.Tables.{judge}
use Rattle.cows.specs.Run.{start, moves_of, play_from, judge_play, played_reply, played_tally, played_output, played_replies}
use Rattle.cows.specs.Run as meaning
use Rattle.cows.proofs.Basics.{or_false, accept-bind}
use Rattle.cows.proofs.Lists.{length-replies}
use Rattle.cows.proofs.Cut.{length_cut}
use Rattle.records.specs.Rewrites.{put}
use Rattle.records.proofs.Put.{length-put}
use Rattle.ways.specs.Known.{Table}
use Rattle.ways.proofs.KnownTables.{table_size}
use Rattle.tables.specs.declared.Reply.{Reply}
use Rattle.tables.specs.Verdict.{check_reply, Checked}
use Rattle.stepper.proofs.Stepping.{Read, read_known}
use Rattle.player.specs.declared.turns.Kept.{Kept}
use Rattle.player.specs.declared.nights.Moved.{Moved}
use Rattle.player.specs.declared.Played.{Played}
use Rattle.player.specs.Turns.{held, KeepsRun}
use Rattle.player.specs.Nights.{CanPlay, NightOver, Clear, refused_with, PlayGives, Plays, PlaysTerm}
use Rattle.std.specs.Prelude as rust
use Rattle.player.proofs.Turning.{unlisted}
use Rattle.player.proofs.Writing.{put_eq}

-- before the first move: the table copied to the output, whose first 32,768 bytes are the first of two buffers, is kept there
abbrev pub zeros : List ℕ
zeros = replicate 32768 0

module _ (table ends moves out slots whole : List ℕ) (o : Clear table ends moves out slots) (e : whole ≡ put out 0 (take (length table) (drop 0 table))) where
  zeros_long : length zeros ≡ 32768
  zeros_long = length-replicate {A = ℕ} 32768 0

  whole_is : whole ≡ table ++ drop (0 + length table) out
  whole_is = e ∙ (ap (put out 0) (take_all (length table) table (omega arith)) ∙ put_eq out table (omega (arith, o.known.few, o.known.whole, o.out_room)))

  whole_long : length whole ≡ length out
  whole_long = ap length e ∙ length-put out 0 (take (length table) (drop 0 table))

  pub room_whole : 32768 ≤ length whole
  room_whole = omega (arith, whole_long, o.out_room)

  pub part_whole : length (take 32768 whole) ≡ 32768
  part_whole = length-take-le 32768 whole room_whole

  held_is : table ≡ held (length table / 16) (take 32768 whole)
  held_is =
      sym (take-take (16 * (length table / 16)) 32768 whole (omega (arith, o.known.few))
      ∙ (ap (take (16 * (length table / 16))) whole_is ∙ take_at table (drop (0 + length table) out) (16 * (length table / 16)) o.known.whole))

  abbrev first : Kept
  first = record { second = false; records = length table / 16; waits = rust.None }

  pub keeps-first : (t : Term) → Table table ends t → KeepsRun (start t) (take 32768 whole) zeros ends first
  unfolding start
  keeps-first t h = record {
    table = subst (λ s. Table s ends t) held_is h;
    count = table_size table ends t h;
    lists = unlisted _;
    first_room = part_whole;
    second_room = zeros_long;
    ends_room = o.ends_room;
  }

  pub opens : CanPlay moves (length moves / 6) first (take 32768 whole) zeros ends slots
  opens = record { term = o.known.term; keeps = keeps-first o.known.term o.known.table; all = refl; short = o.short; slots_room = o.slots_room }

  -- behind the first buffer the output is as it was
  behind_whole : drop 32768 whole ≡ drop 32768 out
  behind_whole =
      let n = length table in
      let m : n + (32768 - n) ≡ 32768 = omega (arith, o.known.few, o.known.whole) in
      let z : 0 + n + (32768 - n) ≡ 32768 = omega (arith, m) in
      ap (λ k. drop k whole) (sym m) ∙ (ap (drop (n + (32768 - n))) whole_is ∙ (drop-append-add table (drop (0 + n) out) (32768 - n) ∙ (drop-drop (32768 - n) (0 + n) out ∙ ap (λ k. drop k out) z)))

  -- what is written then is what play gives: `after` is left of the night's buffers x and y
  module _ (t : Term) (h : Table table ends t) (x y ends' slots' : List ℕ) (r : Moved) (v : NightOver t moves x y ends' slots slots' r) where
    pub last_fits : (16 * r.kept.records ≤ length y) × (r.kept.records ≤ 2048) × (32768 ≤ length (x ++ drop 32768 whole))
    last_fits =
        let n : r.kept.records ≤ 2048 = omega (arith, v.keeps.count, v.keeps.table.within.small) in
        (omega (arith, n, v.keeps.second_room), n, omega (arith, v.keeps.first_room, length-append x (drop 32768 whole)))

    held_last : (b : Bool) → take (16 * r.kept.records) (cond b y (x ++ drop 32768 whole)) ≡ held r.kept.records (cond b y x)
    held_last true = refl
    held_last false = take-append-le (16 * r.kept.records) x (drop 32768 whole) (omega (arith, last_fits, v.keeps.first_room))

    behind_last : drop 32768 (x ++ drop 32768 whole) ≡ drop 32768 out
    behind_last = drop_at x (drop 32768 whole) 32768 v.keeps.first_room ∙ behind_whole

    pub plays_term : {after : List ℕ}
        → after ≡ take (16 * r.kept.records) (cond r.kept.second y (x ++ drop 32768 whole)) ++ replicate (32768 - 16 * r.kept.records) 0 ++ drop 32768 (x ++ drop 32768 whole)
        → PlaysTerm t moves out after slots slots' (record { reply = record { answer = 0; place = 0; records = r.kept.records }; tally = r.tally })
    unfolding play_from played_reply played_tally played_output played_replies
    plays_term g =
        let n = length-replies (start t) (moves_of moves) ∙ length_cut 6 moves in
        record {
          replied = ap (λ (c : ℕ). record { answer = 0; place = 0; records = c }) v.keeps.count;
          tallied = v.tallied;
          output = g ∙ rw (held_last r.kept.second, behind_last, v.keeps.table.holds.is, v.keeps.count);
          slots_are = v.replied ∙ rw n;
        }

-- refused whole: the table, the list, the buffers
gives_refused : (n p : ℕ) (out slots : List ℕ) (r : Played) → r ≡ refused_with n p → PlayGives (refuse n p) out out slots slots r
unfolding played_reply played_tally played_output played_replies
gives_refused n p out slots r e = record { replied = ap (λ (x : Played). x.reply) e; tallied = ap (λ (x : Played). x.tally) e; output = refl; slots_are = refl }

pub plays_no_table : (s ends moves out slots : List ℕ) (c : Reply) (r : Played) → Checked s ends c → c.answer ≢ 0 → r ≡ refused_with c.answer c.place → Plays s moves out out slots slots r
unfolding meaning.play judge_play ◌>>=◌
plays_no_table s ends moves out slots c r h z e = go (judge s) refl
  where
    go : (x : Result Term) → judge s ≡ x → Plays s moves out out slots slots r
    go (refuse n p) j = rw j (gives_refused n p out slots r (e ∙ ap (λ (v : Reply). refused_with v.answer v.place) (h.reply ∙ ap check_reply j)))
    go (accept t) j = absurd (z (ap (λ (v : Reply). v.answer) (h.reply ∙ ap check_reply j)))

-- the list and the buffers, on a well-formed table
abbrev pub cramped : (moves out slots : List ℕ) → Bool
cramped moves out slots = ltb (length out) 32768 || ltb (length slots) (6 * (length moves / 6))

pub play_judged : (s moves out slots : List ℕ) (t : Term) → judge s ≡ accept t → meaning.play s moves out slots
    ≡ (forbid 19 (place_if (ltb 60000 (length moves)) 0) >> (forbid 21 (place_if (cramped moves out slots) 0) >> accept (play_from t (moves_of moves))))
unfolding meaning.play judge_play
play_judged s moves out slots t e = accept-bind (judge s) _ t e

pub plays_clear : (s ends moves out slots : List ℕ) → Read s ends → 2049 < length ends → length moves ≤ 60000 → cramped moves out slots ≡ false → Clear s ends moves out slots
plays_clear s ends moves out slots q room h c =
    let (a, b) = or_false (ltb (length out) 32768) _ c in
    record { known = read_known s ends q; ends_room = room; short = h; out_room = ltb-false (length out) 32768 a; slots_room = ltb-false (length slots) (6 * (length moves / 6)) b }

module _ (s ends moves out slots : List ℕ) (q : Read s ends) (r : Played) where
  pub plays_long : 60000 < length moves → r ≡ refused_with 19 0 → Plays s moves out out slots slots r
  unfolding forbid place_if ◌>>◌
  plays_long h e = rw (play_judged s moves out slots q.term q.judged, lt-ltb 60000 (length moves) h) (gives_refused 19 0 out slots r e)

  pub plays_cramped : length moves ≤ 60000 → cramped moves out slots ≡ true → r ≡ refused_with 21 0 → Plays s moves out out slots slots r
  unfolding forbid place_if ◌>>◌
  plays_cramped h c e = rw (play_judged s moves out slots q.term q.judged, le-ltb 60000 (length moves) h, c) (gives_refused 21 0 out slots r e)

  pub plays_all : (after after' : List ℕ) → length moves ≤ 60000 → cramped moves out slots ≡ false → PlaysTerm q.term moves out after slots after' r → Plays s moves out after slots after' r
  unfolding forbid place_if ◌>>◌
  plays_all after after' h c g = rw (play_judged s moves out slots q.term q.judged, le-ltb 60000 (length moves) h, c) g
