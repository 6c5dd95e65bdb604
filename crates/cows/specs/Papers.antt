-- The nights on paper, N1 to N12 (01, Nights on paper): one list, and one check of it.
use Rattle.std.specs.Prelude.{Bool, true, ◌&&◌, T}
use mathlib.Core.List.{List, [], ◌∷◌, ◌++◌}
use Prim.Native.Nat.{ℕ}
use Rattle.cows.specs.Basics.{every, same_list, Result, refuse, accept, open_basics}
use Rattle.cows.specs.Terms.{nil, kill, invoke, receive, wait, protection, delimitation, replication, choice, parallel, Term, leaf, under, both, open_terms}
use Rattle.cows.specs.Kinds.{open_kinds}
use Rattle.cows.specs.Places.{open_places}
use Rattle.cows.specs.Cut.{open_cut}
use Rattle.cows.specs.Format.{bytes2, encode, open_format}
use Rattle.cows.specs.Tables.{open_tables}
use Rattle.cows.specs.Active.{open_active}
use Rattle.cows.specs.Moves.{open_six_moves}
use Rattle.cows.specs.Step.{Reply, open_step}
use Rattle.cows.specs.Load.{load, open_load}
use Rattle.cows.specs.Run.{RunState, PlayEnd, judge_play, played_reply, reply_bytes, open_run}

-- The notation of the calculus. Values p o q n v are 1 2 3 4 5, the variable x is 32768, the label k is 49152.
abbrev pub n : ℕ
n = 4

abbrev pub v : ℕ
v = 5

abbrev pub x : ℕ
x = 32768

abbrev pub k : ℕ
k = 49152

infixr 25 ◌∣◌
infixr 24 ◌⊕◌
-- s | t and s + t
abbrev pub ◌∣◌ : Term → Term → Term
s ∣ t = both parallel s t

abbrev pub ◌⊕◌ : Term → Term → Term
s ⊕ t = both choice s t

-- 0, p·o!⟨w⟩, q·o!⟨w⟩, p·o?⟨w⟩.t
abbrev pub 𝟘 : Term
𝟘 = leaf nil

abbrev pub po! : ℕ → Term
po! w = leaf (invoke 1 2 (w ∷ []))

abbrev pub qo! : ℕ → Term
qo! w = leaf (invoke 3 2 (w ∷ []))

abbrev pub po?then : ℕ → Term → Term
po?then w t = under (receive 1 2 (w ∷ [])) t

abbrev pub po? : ℕ → Term
po? w = po?then w 𝟘

-- kill(k), ⊖i.t, [d]t, ⟦t⟧, *t
abbrev pub stop : Term
stop = leaf (kill k)

abbrev pub wait_for : ℕ → Term → Term
wait_for i t = under (wait i) t

abbrev pub new : ℕ → Term → Term
new d t = under (delimitation d) t

abbrev pub ⟦◌⟧ : Term → Term
⟦◌⟧ t = under protection t

abbrev pub rep : Term → Term
rep t = under replication t

-- the six bytes of each move
abbrev pub move_bytes : ℕ → ℕ → ℕ → List ℕ
move_bytes kind a b = kind ∷ 0 ∷ bytes2 a ++ bytes2 b

abbrev pub killing : ℕ → List ℕ
killing a = move_bytes 0 a 0

abbrev pub meeting : ℕ → ℕ → List ℕ
meeting a b = move_bytes 1 a b

abbrev pub expiry : ℕ → List ℕ
expiry a = move_bytes 2 a 0

abbrev pub time : ℕ → List ℕ
time d = move_bytes 3 d 0

abbrev pub unfolding_at : ℕ → List ℕ
unfolding_at a = move_bytes 4 a 0

abbrev pub float : ℕ → List ℕ
float a = move_bytes 5 a 0

-- answer, place, records then kept
abbrev pub says : ℕ → ℕ → ℕ → Reply
says a p r = record { answer = a; place = p; records = r }

-- A night: the start table, play's own reply, its moves, the reply to each, the table that is left, and the total:
-- meetings, stops, expiries, load left.
pub record Night : Type 0 where
  pub begins : Term
  pub own : Reply
  pub moves : List (List ℕ)
  pub replies : List Reply
  pub ends : Term
  pub total : List ℕ

abbrev totals : RunState → List ℕ
totals r = r.tally.communications ∷ r.tally.kills ∷ r.tally.timeouts ∷ load r.table ∷ []

-- play of the start table, read from its bytes, replies so; if it is not refused whole, its moves have these replies, and it ends
-- at this table with this total
abbrev ends_so : Night → Result PlayEnd → Bool
ends_so c (refuse a p) = true
ends_so c (accept r) =
    same_list (reply_bytes r.answers) (reply_bytes c.replies)
    && same_list (encode r.last.table) (encode c.ends)
    && same_list (totals r.last) c.total

abbrev agrees : Night → Result PlayEnd → Bool
agrees c r = same_list (reply_bytes (played_reply r ∷ [])) (reply_bytes (c.own ∷ [])) && ends_so c r

abbrev joined : List (List ℕ) → List ℕ
joined [] = []
joined (m ∷ ms) = m ++ joined ms

abbrev pub right_night : Night → Bool
right_night c = agrees c (judge_play (encode c.begins) (joined c.moves) 32768 60000)

-- (for computed checks) to unfold this is to unfold every definition that a night is played by
unfoldable pub open_all : Unit {0}
unfolding open_basics open_terms open_kinds open_places open_cut open_format open_tables open_active open_six_moves open_step open_load open_run
open_all = tt

abbrev N8 : Term
N8 = new x (po? x) ∣ po! v

abbrev N10 : Term
N10 = new x (po! v ∣ po? x ∣ new k (stop ∣ po? v))

pub papers : List Night
papers =
    -- N1
    record { begins = new x (po! v ∣ po? x); own = says 0 0 3; moves = meeting 3 2 ∷ []; replies = says 0 0 3 ∷ []; ends = 𝟘 ∣ 𝟘; total = 1 ∷ 0 ∷ 0 ∷ 0 ∷ [] }
    -- N2
    ∷ record { begins = new x (po! v ∣ po? x ∣ po? v); own = says 0 0 7; moves = meeting 4 2 ∷ meeting 6 2 ∷ []; replies = says 15 6 8 ∷ says 0 0 7 ∷ []; ends = new x (𝟘 ∣ po? x ∣ 𝟘); total = 1 ∷ 0 ∷ 0 ∷ 1 ∷ [] }
    -- N3
    ∷ record { begins = new x (po! v ∣ po? x ∣ rep (po? v)); own = says 0 0 9; moves = meeting 4 2 ∷ meeting 7 2 ∷ []; replies = says 15 7 9 ∷ says 11 7 9 ∷ []; ends = new x (po! v ∣ po? x ∣ rep (po? v)); total = 0 ∷ 0 ∷ 0 ∷ 3 ∷ [] }
    -- N4
    ∷ record { begins = new k (stop ∣ ⟦ po! v ⟧ ∣ qo! v); own = says 0 0 7; moves = killing 2 ∷ []; replies = says 0 0 7 ∷ []; ends = new k (𝟘 ∣ ⟦ po! v ⟧ ∣ 𝟘); total = 0 ∷ 1 ∷ 0 ∷ 1 ∷ [] }
    -- N5
    ∷ record { begins = new k ⟦ stop ∣ po! v ⟧; own = says 0 0 5; moves = killing 3 ∷ []; replies = says 0 0 5 ∷ []; ends = new k ⟦ 𝟘 ∣ 𝟘 ⟧; total = 0 ∷ 1 ∷ 0 ∷ 0 ∷ [] }
    -- N6
    ∷ record { begins = new k (stop ∣ po? v) ∣ po! v; own = says 0 0 7; moves = meeting 4 6 ∷ []; replies = says 14 1 7 ∷ []; ends = new k (stop ∣ po? v) ∣ po! v; total = 0 ∷ 0 ∷ 0 ∷ 3 ∷ [] }
    -- N7
    ∷ record { begins = new k stop ∣ po? v ∣ po! v; own = says 0 0 6; moves = meeting 4 6 ∷ []; replies = says 0 0 6 ∷ []; ends = new k stop ∣ 𝟘 ∣ 𝟘; total = 1 ∷ 0 ∷ 0 ∷ 1 ∷ [] }
    -- N8
    ∷ record { begins = N8; own = says 0 0 3; moves = meeting 2 4 ∷ float 1 ∷ meeting 2 4 ∷ []; replies = says 13 2 5 ∷ says 0 0 5 ∷ says 0 0 3 ∷ []; ends = 𝟘 ∣ 𝟘; total = 1 ∷ 0 ∷ 0 ∷ 0 ∷ [] }
    -- N9, as 2026-04 has it: time 5 leaves 0, and time goes on at 0
    ∷ record { begins = wait_for 4 𝟘; own = says 0 0 1; moves = expiry 0 ∷ time 5 ∷ time 1 ∷ expiry 0 ∷ []; replies = says 16 0 2 ∷ says 0 0 2 ∷ says 0 0 2 ∷ says 0 0 1 ∷ []; ends = 𝟘; total = 0 ∷ 0 ∷ 1 ∷ 0 ∷ [] }
    -- N10
    ∷ record { begins = N10; own = says 0 0 11; moves = meeting 4 2 ∷ meeting 9 2 ∷ []; replies = says 15 9 11 ∷ says 14 6 11 ∷ []; ends = N10; total = 0 ∷ 0 ∷ 0 ∷ 4 ∷ [] }
    -- N11
    ∷ record { begins = rep (new 3 (po! 3)); own = says 0 0 6; moves = unfolding_at 0 ∷ []; replies = says 0 0 6 ∷ []; ends = new 4 (po! 4) ∣ rep (new 3 (po! 3)); total = 0 ∷ 0 ∷ 0 ∷ 2 ∷ [] }
    -- N12
    ∷ record { begins = new x (new n (po? x ∣ po! n)); own = says 0 0 4; moves = meeting 3 5 ∷ float 1 ∷ meeting 3 5 ∷ []; replies = says 13 3 6 ∷ says 0 0 6 ∷ says 0 0 4 ∷ []; ends = new n (𝟘 ∣ 𝟘); total = 1 ∷ 0 ∷ 0 ∷ 0 ∷ [] }
    ∷ []

-- The definitions play all twelve as the paper does.
pub papers_right : T (every right_night papers)
unfolding papers open_all
papers_right = tt
