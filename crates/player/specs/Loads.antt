-- Load by the bytes of a table: how many of its records are kills, invokes, receives and waits.
use Rattle.std.specs.Prelude.{ℕ, zero, suc, ◌+◌, ◌*◌, ◌-◌, List, get_or}
use Rattle.cows.specs.Basics.{Result, refuse, accept}
use Rattle.cows.specs.Terms.{Term}
use Rattle.cows.specs.Kinds.{weight_of}
use Rattle.cows.specs.Load.{load}
use Rattle.tables.specs.declared.Reply.{Reply}
use Rattle.tables.specs.Verdict.{refusal}

-- the load of n records from place i on; of the records at the places i to j - 1
unfoldable pub load_from : List ℕ → ℕ → ℕ → ℕ
load_from s i zero = 0
load_from s i (suc n) = weight_of (get_or s (16 * i) 0) + load_from s (suc i) n

unfoldable pub load_between : List ℕ → ℕ → ℕ → ℕ
load_between s i j = load_from s i (j - i)

-- the reply to a judgement of a table: 0, 0 and its load, or the refusal, its place and 0
abbrev pub load_reply : Result Term → Reply
load_reply (refuse n p) = refusal n p
load_reply (accept t) = record { answer = 0; place = 0; records = load t }
