-- How the term of a clause is written: the records before, between and behind those of its parts.
use Rattle.std.specs.Prelude.{List, [], ◌∷◌, ℕ}
use mathlib.Core.List.{flat_map}
use Rattle.cows.specs.Terms.{Basic, nil, kill, invoke, receive, delimitation, replication, parallel}
use Rattle.cows.specs.Kinds.{Node, basic, prefix, join}
use Rattle.cows.specs.Format.{bytes2}
use Rattle.orc.specs.Expressions.{Act, nothing, call}

-- the bytes of 16-bit numbers, one behind the other
abbrev pub words : List ℕ → List ℕ
words ns = flat_map bytes2 ns

-- 0, and the message S!⟨w, p·o⟩
unfoldable pub sends : (p o : ℕ) → Act → Basic
sends p o nothing = nil
sends p o (call s q w) = invoke s q (w ∷ p ∷ o ∷ [])

-- [q, r](f | *[x] q·r?⟨x⟩.g)
abbrev pub sequence_head : (q r : ℕ) → List Node
sequence_head q r = prefix (delimitation q) ∷ prefix (delimitation r) ∷ join parallel ∷ []

abbrev pub sequence_middle : (q r x : ℕ) → List Node
sequence_middle q r x = prefix replication ∷ prefix (delimitation x) ∷ prefix (receive q r (x ∷ [])) ∷ []

-- [q, r, x](g | [k](f | q·r?⟨x⟩.kill(k)))
abbrev pub where_head : (q r x : ℕ) → List Node
where_head q r x = prefix (delimitation q) ∷ prefix (delimitation r) ∷ prefix (delimitation x) ∷ join parallel ∷ []

abbrev pub where_middle : ℕ → List Node
where_middle k = prefix (delimitation k) ∷ join parallel ∷ []

abbrev pub where_tail : (q r x k : ℕ) → List Node
where_tail q r x k = prefix (receive q r (x ∷ [])) ∷ basic (kill k) ∷ []
