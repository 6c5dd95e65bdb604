-- The translation of an Orc expression into a table: 002's clauses (Orc: auxiliary function for the encoding), the choice of the atoms that they introduce, refusals
-- 20 and 21, the reply and every output byte (2026-03).
use Rattle.std.specs.Prelude.{List, [], ◌∷◌, ◌++◌, map, ℕ, length, get_or, drop}
use Rattle.cows.specs.Limits.{first_label}
use Rattle.cows.specs.Basics.{Result, ◌>>=◌}
use Rattle.cows.specs.Terms.{nil, kill, invoke, receive, delimitation, replication, parallel, Term, leaf, under, both}
use Rattle.cows.specs.Moves.{Substitution, renaming}
use Rattle.cows.specs.Step.{fitted, Reply, reply_to, written}
use Rattle.orc.specs.Expressions.{nothing, call, sequential, symmetric, asymmetric, Orc, act, composed, occurring}
use Rattle.orc.specs.Scripts.{judge_script}

-- What a clause makes of its parts' translations; q·r is the endpoint that it introduces.
-- [q, r](s | *[x] q·r?⟨x⟩.t)
abbrev pub sequenced : (q r x : ℕ) → Term → Term → Term
sequenced q r x s t =
    under (delimitation q) (under (delimitation r)
    (both parallel s (under replication (under (delimitation x) (under (receive q r (x ∷ [])) t)))))

-- [q, r, x](s | [k](t | q·r?⟨x⟩.kill(k)))
abbrev pub pruned : (q r x k : ℕ) → Term → Term → Term
pruned q r x k s t =
    under (delimitation q) (under (delimitation r) (under (delimitation x)
    (both parallel s (under (delimitation k) (both parallel t (under (receive q r (x ∷ [])) (leaf (kill k))))))))

-- What the clauses introduce, in the output's record order, a partner before its operation: for each new atom one of its set, the first value or the first label.
unfoldable pub introduced : Orc → List ℕ
introduced (act x) = []
introduced (composed symmetric f g) = introduced f ++ introduced g
introduced (composed (sequential x) f g) = 1 ∷ 1 ∷ (introduced f ++ introduced g)
introduced (composed (asymmetric x) g f) = 1 ∷ 1 ∷ (introduced g ++ (first_label ∷ introduced f))

abbrev pub news : Orc → ℕ
news e = length (introduced e)

-- The clauses, in 002's order: the term of an expression with the result endpoint p·o, the new atoms being ns in their order.
unfoldable pub translate : (ns : List ℕ) → (p o : ℕ) → Orc → Term
translate ns p o (act nothing) = leaf nil
translate ns p o (composed symmetric f g) = both parallel (translate ns p o f) (translate (drop (news f) ns) p o g)
translate ns p o (act (call s q w)) = leaf (invoke s q (w ∷ p ∷ o ∷ []))
translate ns p o (composed (sequential x) f g) =
    let q = get_or ns 0 0 in let r = get_or ns 1 0 in let ms = drop 2 ns in
    sequenced q r x (translate ms q r f) (translate (drop (news f) ms) p o g)
translate ns p o (composed (asymmetric x) g f) =
    let q = get_or ns 0 0 in let r = get_or ns 1 0 in let ms = drop 2 ns in let ls = drop (news g) ms in
    pruned q r x (get_or ls 0 0) (translate ms p o g) (translate (drop 1 ls) q r f)

-- The choice: each is the smallest of its set that is not taken, as in unfolding, and is then taken. Taken from the start are the input's atoms and the result endpoint.
abbrev pub seconds : Substitution → List ℕ
seconds σ = map (λ z. z.1) σ

unfoldable pub chosen : List ℕ → List ℕ → List ℕ
chosen taken ds = seconds (renaming taken ds)

abbrev pub taken_by : (p o : ℕ) → Orc → List ℕ
taken_by p o e = p ∷ o ∷ occurring e

unfoldable pub translation : (p o : ℕ) → Orc → Term
translation p o e = translate (chosen (taken_by p o e) (introduced e)) p o e

-- Refusals 30 to 32, then 20 and 21 of the output.
unfoldable pub judge_orc : (script : List ℕ) → (p o room : ℕ) → Result Term
judge_orc b p o room = do
  e ← judge_script b p o
  fitted room (translation p o e)

-- the reply; the output as it then is
unfoldable pub orc_reply : (script : List ℕ) → (p o : ℕ) → (out : List ℕ) → Reply
orc_reply b p o out = reply_to (judge_orc b p o (length out))

unfoldable pub orc_output : (script : List ℕ) → (p o : ℕ) → (out : List ℕ) → List ℕ
orc_output b p o out = written (judge_orc b p o (length out)) out

-- (for computed checks) to unfold this is to unfold every definition of this file
unfoldable pub open_translation : Unit {0}
unfolding introduced translate chosen translation judge_orc orc_reply orc_output
open_translation = tt
