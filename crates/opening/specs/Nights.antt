-- Lists of open moves (request 2026-01) that are computed: those of the nights on paper, N1 to N12 (01, Nights on paper), and a case for each rule of the
-- request that they do not pin.
use Rattle.std.specs.Prelude.{not, Bool, ◌&&◌, ℕ, zero, suc, ◌+◌, ◌*◌, T, length, replicate}
use mathlib.Core.List.{List, [], ◌∷◌, ◌++◌}
use Rattle.cows.specs.Basics.{any, every, same_list, Result}
use Rattle.cows.specs.Terms.{receive, Term, under}
use Rattle.cows.specs.Format.{encode}
use Rattle.cows.specs.Moves.{Move, Unfold, Extrude}
use Rattle.cows.specs.Step.{Reply}
use Rattle.cows.specs.Run.{reply_bytes}
use Rattle.cows.specs.Papers.{n, v, x, k, ◌∣◌, ◌⊕◌, 𝟘, po!, qo!, po?, stop, wait_for, new, ⟦◌⟧, rep, killing, meeting, expiry, unfolding_at, float, says, open_all}
use Rattle.opening.specs.Opening.{each, is_open, judge_open, open_reply, open_buffer, open_opening}

-- A table and a lent buffer; the reply, and the buffer as it then is.
pub record Case : Type 0 where
  pub table : List ℕ
  pub buffer : List ℕ
  pub reply : Reply
  pub after : List ℕ

abbrev agrees : Case → Result (List Move) → Bool
agrees c r = same_list (reply_bytes (open_reply r ∷ [])) (reply_bytes (c.reply ∷ [])) && same_list (open_buffer r c.buffer) c.after

abbrev pub right_case : Case → Bool
right_case c = agrees c (judge_open c.table (length c.buffer))

-- a buffer of so many 9s; moves one behind the other
abbrev nines : ℕ → List ℕ
nines m = replicate m 9

abbrev joined : List (List ℕ) → List ℕ
joined ms = each (λ m. m) ms

-- these moves are open, and there is room for them and so many bytes more, which stay; the buffer is too short for so many moves, and stays
abbrev listed : ℕ → Term → List (List ℕ) → Case
listed more t ms = record { table = encode t; buffer = nines (6 * length ms + more); reply = says 0 0 (length ms); after = joined ms ++ nines more }

abbrev too_short : ℕ → Term → ℕ → Case
too_short room t moves = record { table = encode t; buffer = nines room; reply = says 22 moves 0; after = nines room }

-- q·o?⟨w⟩
abbrev qo? : ℕ → Term
qo? w = under (receive 3 2 (w ∷ [])) 𝟘

abbrev N7 : Term
N7 = new k stop ∣ po? v ∣ po! v

-- a move of each kind and two meetings: what the list has first stands last, and the meeting with the smaller a has the greater b
abbrev all_kinds : Term
all_kinds = new n 𝟘 ∣ rep 𝟘 ∣ wait_for 0 𝟘 ∣ qo! v ∣ po? v ∣ qo? v ∣ po! v ∣ new k stop

pub cases : List Case
cases =
    -- N1 to N12
    listed 1 (new x (po! v ∣ po? x)) (meeting 3 2 ∷ [])
    ∷ listed 1 (new x (po! v ∣ po? x ∣ po? v)) (meeting 6 2 ∷ [])
    ∷ listed 1 (new x (po! v ∣ po? x ∣ rep (po? v))) (unfolding_at 6 ∷ [])
    ∷ listed 1 (new k (stop ∣ ⟦ po! v ⟧ ∣ qo! v)) (killing 2 ∷ [])
    ∷ listed 1 (new k ⟦ stop ∣ po! v ⟧) (killing 3 ∷ [])
    ∷ listed 1 (new k (stop ∣ po? v) ∣ po! v) (killing 3 ∷ [])
    ∷ listed 1 N7 (killing 2 ∷ meeting 4 6 ∷ [])
    ∷ listed 1 (new x (po? x) ∣ po! v) (float 1 ∷ [])
    ∷ listed 1 (wait_for 4 𝟘) []
    ∷ listed 1 (new x (po! v ∣ po? x ∣ new k (stop ∣ po? v))) (killing 8 ∷ [])
    ∷ listed 1 (rep (new 3 (po! 3))) (unfolding_at 0 ∷ [])
    ∷ listed 1 (new x (new n (po? x ∣ po! n))) (float 1 ∷ [])
    -- the order: by kind, wherever they stand; meetings by a, then by b
    ∷ listed 1 all_kinds (killing 20 ∷ meeting 12 18 ∷ meeting 15 10 ∷ expiry 7 ∷ unfolding_at 4 ∷ float 1 ∷ [])
    ∷ listed 1 (po? v ∣ po! v ∣ po? v ∣ po! v) (meeting 1 4 ∷ meeting 1 8 ∷ meeting 6 4 ∷ meeting 6 8 ∷ [])
    -- each arm of a choice counts, a wait of more than 0 does not
    ∷ listed 1 ((po? v ⊕ wait_for 0 𝟘 ⊕ wait_for 1 𝟘) ∣ po! v) (meeting 2 9 ∷ expiry 5 ∷ [])
    -- bytes behind the list are untouched; 6 bytes a move are enough
    ∷ listed 8 N7 (killing 2 ∷ meeting 4 6 ∷ [])
    ∷ listed 0 N7 (killing 2 ∷ meeting 4 6 ∷ [])
    ∷ listed 0 𝟘 []
    -- 22: a byte too few, or no buffer; the place is the number of moves
    ∷ too_short 11 N7 2
    ∷ too_short 0 all_kinds 6
    -- the table's refusals, with their places, come before 22
    ∷ record { table = []; buffer = nines 2; reply = says 1 0 0; after = nines 2 }
    ∷ record { table = encode (po! v ∣ po? v ∣ stop); buffer = []; reply = says 6 5 0; after = [] }
    ∷ []

pub cases_right : T (every right_case cases)
unfolding cases open_all open_opening
cases_right = tt

-- A move that would be 20 is not open: if it leaves a table of depth 256 or of 2,048 records it is, with one record more it is not.
pub record Proposal : Type 0 where
  pub table : Term
  pub move : Move

abbrev may_open : Proposal → Bool
may_open p = is_open p.table p.move

-- a replication inside so many protections, at depth m + 2; a full tree of parallels
abbrev deep : ℕ → Term
deep zero = rep 𝟘
deep (suc m) = ⟦ deep m ⟧

abbrev tree : ℕ → Term
tree zero = 𝟘
tree (suc m) = let t = tree m in t ∣ t

pub at_limits : List Proposal
at_limits =
    record { table = deep 253; move = Unfold 253 }
    ∷ record { table = new n 𝟘 ∣ deep 252; move = Extrude 1 }
    ∷ record { table = rep (tree 9); move = Unfold 0 }
    ∷ []

pub past_limits : List Proposal
past_limits =
    record { table = deep 254; move = Unfold 254 }
    ∷ record { table = new n 𝟘 ∣ deep 253; move = Extrude 1 }
    ∷ record { table = rep ⟦ tree 9 ⟧; move = Unfold 0 }
    ∷ []

pub limits_right : T (every may_open at_limits && not (any may_open past_limits))
unfolding at_limits past_limits open_all open_opening
limits_right = tt
