-- A list of moves (specs/Nights): the state before the first move, one move more, and the end.
use mathlib.Core.Path.{◌≡◌, refl, sym, ap, subst, ◌∙◌}
use mathlib.Core.List.{List, [], ◌∷◌, ◌++◌, flat_map}
use mathlib.Core.Option.{Option}
use Prim.Native.Nat.{ℕ, ◌+◌, ◌*◌, ◌-◌, ◌/◌, ◌≤◌, ◌<◌}
use native.Mathlib.Omega.{arith}
use native.Mathlib.Numerals.{add-one}
use lib.ListN.{length, get_or, take, drop, length-append, length-drop}
use lib.Seq.{sets-eq, get_or-take, get_or-drop, take_at, drop_at, drop-drop}
use Rattle.cows.specs.Basics.{Result, refuse, accept}
use Rattle.cows.specs.Terms.{Term, size}
use Rattle.cows.specs.Format.{bytes2, byte, word}
use Rattle.cows.specs.Within.{Within}
use Rattle.cows.specs.Moves.{Move}
use Rattle.cows.specs.Step.{read_move, step_term}
use Rattle.cows.specs.Run.{no_tally, RunState, start, run, judgement, turn, kept, replies, reply_bytes, reply6}
use Rattle.cows.specs.Cut.{cut, pieces}
use Rattle.cows.proofs.Lists.{run_more, replies_more, bytes_more, length-replies, length-bytes}
use Rattle.cows.proofs.Bounds.{Below, read_small, below_step}
use Rattle.cows.proofs.Cut.{length-pieces, pieces_more}
use Rattle.records.specs.Rewrites.{put}
use Rattle.tables.specs.declared.Reply as code
use Rattle.tally.specs.declared.Tally.{Tally}
use Rattle.tally.specs.Counted.{tally_of, Small}
use Rattle.tally.proofs.Counting.{zeros_small, sum_small}
use Rattle.player.specs.declared.turns.Kept.{Kept}
use Rattle.player.specs.declared.turns.Next.{Next}
use Rattle.player.specs.Turns.{KeepsRun, GoesOn}
use Rattle.player.specs.Nights.{six_bytes, book_at, replies_at, bytes_at, move_at, CanMove, Made, Recorded, CanPlay, Playing, NightOver}
use Rattle.player.proofs.Turning.{kept_records}

pub part_move : (l : List ℕ) (i : ℕ) → read_move (take (6 * i + 6 - 6 * i) (drop (6 * i) l)) ≡ move_at l i
part_move l i = let e : 6 * i + 6 - 6 * i ≡ 6 = omega arith in rw e

pub moved : {m v : Option Move} {x y ends x' y' ends' : List ℕ} {k : Kept} {r : Next} → m ≡ v → GoesOn m k x y ends x' y' ends' r → GoesOn v k x y ends x' y' ends' r
moved {x = x} {y = y} {ends = ends} {x' = x'} {y' = y'} {ends' = ends'} {k = k} {r = r} e g = subst (λ m. GoesOn m k x y ends x' y' ends' r) e g

-- the book with one move more
book-next : (t : Term) (l : List ℕ) (i : ℕ) → book_at t l (i + 1) ≡ turn (book_at t l i) (move_at l i)
unfolding book_at
book-next t l i = rw (add-one i, pieces_more 6 i l) (run_more (start t) (pieces 6 i l) (bytes_at l i))

replies-next : (t : Term) (l : List ℕ) (i : ℕ) → replies_at t l (i + 1) ≡ replies_at t l i ++ (kept (book_at t l i) (judgement (book_at t l i) (move_at l i)) ∷ [])
unfolding book_at replies_at
replies-next t l i = rw (add-one i, pieces_more 6 i l) (replies_more (start t) (pieces 6 i l) (bytes_at l i))

-- their bytes: six a move
bytes_long : (t : Term) (l : List ℕ) (i : ℕ) → length (reply_bytes (replies_at t l i)) ≡ 6 * i
unfolding replies_at
bytes_long t l i = length-bytes (replies (start t) (pieces 6 i l)) ∙ ap (λ n. 6 * n) (length-replies (start t) (pieces 6 i l) ∙ length-pieces 6 i l)

six_long : (a p n : ℕ) → length (six_bytes a p n) ≡ 6
unfolding bytes2
six_long a p n = refl

-- six bytes written behind what is there already
put_next : (front slots six : List ℕ) (i : ℕ) → length front ≡ 6 * i → length six ≡ 6 → 6 * i + 6 ≤ length slots
    → put (front ++ drop (6 * i) slots) (6 * i) six ≡ (front ++ six) ++ drop (6 * (i + 1)) slots
unfolding put
put_next front slots six i f s h =
    let d = front ++ drop (6 * i) slots in
    let l : length d ≡ length slots = length-append front (drop (6 * i) slots) ∙ omega (arith, length-drop (6 * i) slots, f) in
    let e : 6 * i + length six ≡ 6 * i + 6 = omega (arith, s) in
    let k : 6 * i + 6 ≡ 6 * (i + 1) = omega arith in
    sets-eq six d (6 * i) (omega (arith, l, s))
    ∙ rw (take_at front (drop (6 * i) slots) (6 * i) f, e, ← drop-drop 6 (6 * i) d, drop_at front (drop (6 * i) slots) (6 * i) f, drop-drop 6 (6 * i) slots, k)

-- the numbers that a reply has fit into two bytes
module _ (l : List ℕ) (small : (k : ℕ) → get_or l k 0 < 256) (i : ℕ) where
  byte_small : (k : ℕ) → k < 6 → get_or (bytes_at l i) k 0 < 256
  byte_small k h = rw (get_or-take 6 (drop (6 * i) l) k 0 h, get_or-drop (6 * i) l k 0) (small (6 * i + k))

  place_small : (q : RunState) → Within q.table → (kept q (judgement q (move_at l i))).place < 65536
  unfolding kept judgement word byte
  place_small q h =
      go (step_term q.table (move_at l i) 32768)
      (below_step 65536 q.table h.right (omega (arith, h.small)) (omega arith) (move_at l i) 32768
      (read_small 65536 (bytes_at l i) (omega (arith, byte_small 2 (omega arith), byte_small 3 (omega arith))) (omega (arith, byte_small 4 (omega arith), byte_small 5 (omega arith)))))
    where
      go : (x : Result Term) → Below 65536 x → (kept q x).place < 65536
      go (refuse n p) b = b.1
      go (accept s) b = omega arith

-- a move of the list (`move_at`): what its parts ask, and what it gives
module _ (moves : List ℕ) (i : ℕ) (k : Kept) (x y ends slots : List ℕ) (o : CanMove moves i k x y ends slots) where
  module _ (x' y' ends' : List ℕ) (r : Next) (g : GoesOn (move_at moves i) k x y ends x' y' ends' r) where
    pub reply_fits : ((j : ℕ) → get_or moves j 0 < 256) → (r.reply.place < 65536) × (r.reply.records < 65536)
    reply_fits small =
        let q = o.going.run in
        let h = o.going.keeps in
        let e = g.replies q h in
        let a : r.reply.place < 65536 = subst (λ v. v < 65536) (sym (ap (λ (v : code.Reply). v.place) e)) (place_small moves small i q h.table.within) in
        let b : r.reply.records ≡ size (turn q (move_at moves i)).table = ap (λ (v : code.Reply). v.records) e ∙ kept_records q (move_at moves i) in
        (a, omega (arith, b, (g.keeps q h).table.within.small))

    pub made : (slots' : List ℕ) → slots' ≡ put slots (6 * i) (six_bytes r.reply.answer r.reply.place r.reply.records) → Made moves i k x y ends slots x' y' ends' slots'
        (record { kept = r.kept; tally = r.counts })
    made slots' e = record {
      keeps = g.keeps;
      replies = λ q h. e ∙ ap (λ (v : code.Reply). put slots (6 * i) (six_bytes v.answer v.place v.records)) (g.replies q h);
      counted = g.counted;
      few = g.few;
    }

-- before the first move
module _ (moves : List ℕ) (n : ℕ) (first : Kept) (x₀ y₀ ends₀ slots : List ℕ) (o : CanPlay moves n first x₀ y₀ ends₀ slots) where
  pub opening : (c : Tally) → c ≡ tally_of no_tally → Playing moves first x₀ y₀ ends₀ slots 0 first x₀ y₀ ends₀ slots c
  unfolding book_at replies_at pieces run replies start flat_map
  opening c e = record {
    inside = omega arith;
    keeps = λ t h. h;
    replies_are = λ t h. refl;
    tallied = λ t h. e;
    small = subst (λ x. Small x 0) (sym e) (zeros_small 0);
    same_first = refl;
    same_second = refl;
    same_ends = refl;
    same_slots = refl;
  }

  module _ (i : ℕ) (k : Kept) (x y ends replied : List ℕ) (c : Tally) (p : Playing moves first x₀ y₀ ends₀ slots i k x y ends replied c) where
    -- one move more
    module _ (more : i < n) where
      pub playing_ready : CanMove moves i k x y ends replied
      playing_ready = record {
        going = record { run = book_at o.term moves i; keeps = p.keeps o.term o.keeps };
        inside = omega (arith, o.all);
        short = o.short;
        slots_room = omega (arith, o.slots_room, p.same_slots);
      }

      pub playing_next : (x' y' ends' replied' : List ℕ) (c' : Tally) (k' : Kept) → Recorded moves i k x y ends replied c x' y' ends' replied' c' k'
          → length x' ≡ length x → length y' ≡ length y → length ends' ≡ length ends → length replied' ≡ length replied → Playing moves first x₀ y₀ ends₀ slots (i + 1) k' x' y' ends' replied' c'
      playing_next x' y' ends' replied' c' k' g lx ly le lr = record {
        inside = omega (arith, o.all);
        keeps = λ t h. rw (book-next t moves i) (g.made.keeps (book_at t moves i) (p.keeps t h));
        replies_are = λ t h.
            let b = kept (book_at t moves i) (judgement (book_at t moves i) (move_at moves i)) in
            let front = reply_bytes (replies_at t moves i) in
            let all : reply_bytes (replies_at t moves (i + 1)) ≡ front ++ reply6 b = ap reply_bytes (replies-next t moves i) ∙ bytes_more (replies_at t moves i) b in
            let room : 6 * i + 6 ≤ length slots = omega (arith, o.slots_room, o.all) in
            g.made.replies (book_at t moves i) (p.keeps t h)
            ∙ (rw (p.replies_are t h, all) (put_next front slots (reply6 b) i (bytes_long t moves i) (six_long b.answer b.place b.records) room));
        tallied = λ t h. g.added ∙ (rw (p.tallied t h, book-next t moves i) (g.made.counted (book_at t moves i) (p.keeps t h)));
        small = subst (λ d. Small d (i + 1)) (sym g.added) (sum_small c g.counts i p.small g.made.few);
        same_first = lx ∙ p.same_first;
        same_second = ly ∙ p.same_second;
        same_ends = le ∙ p.same_ends;
        same_slots = lr ∙ p.same_slots;
      }

    -- after the last
    pub playing_ends : n ≤ i → (t : Term) → KeepsRun (start t) x₀ y₀ ends₀ first → NightOver t moves x y ends slots replied (record { kept = k; tally = c })
    unfolding cut book_at replies_at
    playing_ends over t h =
        let e : i ≡ length moves / 6 = omega (arith, o.all, p.inside) in
        record {
          keeps = subst (λ j. KeepsRun (book_at t moves j) x y ends k) e (p.keeps t h);
          replied = subst (λ j. replied ≡ reply_bytes (replies_at t moves j) ++ drop (6 * j) slots) e (p.replies_are t h);
          tallied = subst (λ j. c ≡ tally_of (book_at t moves j).tally) e (p.tallied t h);
        }
