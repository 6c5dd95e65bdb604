-- Scripts that are computed (2026-03): what each clause makes, the order in which atoms are chosen, and each refusal with its place.
use Rattle.std.specs.Prelude.{Bool, ◌&&◌, List, [], ◌∷◌, ◌++◌, ℕ, zero, suc, ◌*◌, T, replicate}
use Rattle.cows.specs.Basics.{every, same_list, Result, refuse, accept}
use Rattle.cows.specs.Terms.{kill, invoke, receive, Term, leaf, under, size}
use Rattle.cows.specs.Format.{encode}
use Rattle.cows.specs.Step.{Reply, reply_to}
use Rattle.cows.specs.Run.{reply_bytes}
use Rattle.cows.specs.Papers.{x, ◌∣◌, 𝟘, new, rep, says, open_all}
use Rattle.orc.specs.Expressions.{nothing, call, sequential, symmetric, asymmetric, Orc, act, composed, open_expressions}
use Rattle.orc.specs.Scripts.{script, open_scripts}
use Rattle.orc.specs.Translation.{judge_orc, open_translation}

infixr 27 ◌>◌>◌
infixr 26 ◌∥◌
infixr 26 ◌⟨◌∈◌
-- Expressions nearly as 002 writes them (g ⟨ x ∈ f is g where x :∈ f), with the variables x and y and the site S at 7·8.
abbrev y : ℕ
y = 32769

abbrev S : ℕ → Orc
S w = act (call 7 8 w)

abbrev none : Orc
none = act nothing

abbrev ◌>◌>◌ : Orc → ℕ → Orc → Orc
f > a > g = composed (sequential a) f g

abbrev ◌∥◌ : Orc → Orc → Orc
f ∥ g = composed symmetric f g

abbrev ◌⟨◌∈◌ : Orc → ℕ → Orc → Orc
g ⟨ a ∈ f = composed (asymmetric a) g f

-- the message to S, a receive of one variable, and a kill
abbrev S! : (w q r : ℕ) → Term
S! w q r = leaf (invoke 7 8 (w ∷ q ∷ r ∷ []))

abbrev take : (q r a : ℕ) → Term → Term
take q r a t = under (receive q r (a ∷ [])) t

abbrev end : ℕ → Term
end k = leaf (kill k)

-- An expression and its table, with the result endpoint 1·2.
pub record Sample : Type 0 where
  pub of : Orc
  pub is : Term

abbrev made : Result Term → List ℕ
made (refuse n p) = n ∷ p ∷ []
made (accept t) = encode t

abbrev right_sample : Sample → Bool
right_sample s = same_list (made (judge_orc (script s.of) 1 2 (16 * size s.is))) (encode s.is)

abbrev sample : Orc → Term → Sample
sample e t = record { of = e; is = t }

pub samples : List Sample
samples =
    -- the clauses
    sample none 𝟘
    ∷ sample (S 5) (S! 5 1 2)
    ∷ sample (S 5 ∥ none) (S! 5 1 2 ∣ 𝟘)
    ∷ sample (S 5 > x > S x) (new 3 (new 4 (S! 5 3 4 ∣ rep (new x (take 3 4 x (S! x 1 2))))))
    ∷ sample (S x ⟨ x ∈ (S 5 ∥ S 6)) (new 3 (new 4 (new x (S! x 1 2 ∣ new 49152 ((S! 5 3 4 ∣ S! 6 3 4) ∣ take 3 4 x (end 49152))))))
    -- atoms of the input and of the result endpoint are passed over, as parameters and as sites; x keeps its atom
    ∷ sample (act (call 3 5 6) > y > S 4)
    (new 9 (new 10 (leaf (invoke 3 5 (6 ∷ 9 ∷ 10 ∷ [])) ∣ rep (new y (take 9 10 y (S! 4 1 2))))))
    -- values and labels in record order: the label of a where behind those of its left part, before those of its right part
    ∷ sample ((none ⟨ x ∈ none) ⟨ y ∈ none)
    (new 3 (new 4 (new y (new 5 (new 6 (new x (𝟘 ∣ new 49152 (𝟘 ∣ take 5 6 x (end 49152))))) ∣ new 49153 (𝟘 ∣ take 3 4 y (end 49153))))))
    ∷ sample (none ⟨ y ∈ (none ⟨ x ∈ none))
    (new 3 (new 4 (new y (𝟘 ∣ new 49152 (new 5 (new 6 (new x (𝟘 ∣ new 49153 (𝟘 ∣ take 5 6 x (end 49153))))) ∣ take 3 4 y (end 49152))))))
    -- where the results of the parts go: of a sequence's left part and a where's right part to the new endpoint
    ∷ sample ((S 5 > x > S 6) ∥ (S 5 > y > S 6))
    (new 3 (new 4 (S! 5 3 4 ∣ rep (new x (take 3 4 x (S! 6 1 2))))) ∣ new 9 (new 10 (S! 5 9 10 ∣ rep (new y (take 9 10 y (S! 6 1 2))))))
    ∷ []

-- A script, a result endpoint, and room; the reply.
pub record Question : Type 0 where
  pub bytes : List ℕ
  pub partner : ℕ
  pub operation : ℕ
  pub room : ℕ
  pub reply : Reply

abbrev right_question : Question → Bool
right_question a = same_list (reply_bytes (reply_to (judge_orc a.bytes a.partner a.operation a.room) ∷ [])) (reply_bytes (a.reply ∷ []))

abbrev asked : List ℕ → (p o room answer place records : ℕ) → Question
asked b p o room n q r = record { bytes = b; partner = p; operation = o; room = room; reply = says n q r }

-- a parallel that is so deep on its left or on its right; parallels alone
abbrev left_deep : ℕ → Orc
left_deep zero = none
left_deep (suc m) = left_deep m ∥ none

abbrev right_deep : ℕ → Orc
right_deep zero = none
right_deep (suc m) = none ∥ right_deep m

abbrev bare : ℕ → List ℕ
bare zero = []
bare (suc m) = 3 ∷ 0 ∷ 0 ∷ 0 ∷ 0 ∷ 0 ∷ 0 ∷ 0 ∷ bare m

pub replies : List Question
replies =
    -- 30: the length and the result endpoint, before a malformed record; then all records, also those behind the end
    asked [] 1 2 99 30 0 0
    ∷ asked (replicate 9 0) 1 2 99 30 0 0
    ∷ asked (replicate (513 * 8) 0) 1 2 99 30 0 0
    ∷ asked (script none) 0 2 99 30 0 0
    ∷ asked (script none) 1 32768 99 30 0 0
    ∷ asked (script none ++ (5 ∷ replicate 7 0)) 1 0 99 30 0 0
    ∷ asked (script none ++ (5 ∷ replicate 7 0)) 1 2 99 30 1 0
    ∷ asked (script (S 49152)) 1 2 99 30 0 0
    ∷ asked (script (none ∥ (none > 5 > none))) 1 2 99 30 2 0
    -- 31: the first one over, their number, and the depth where it comes first
    ∷ asked (script none ++ script none) 1 2 99 31 1 0
    ∷ asked (replicate (512 * 8) 0) 1 2 99 31 1 0
    ∷ asked (bare 3) 1 2 99 31 3 0
    ∷ asked (bare 70) 1 2 99 31 64 0
    ∷ asked (script (left_deep 63)) 1 2 9999 0 0 127
    ∷ asked (script (left_deep 64)) 1 2 9999 31 64 0
    ∷ asked (script (right_deep 64)) 1 2 9999 31 127 0
    ∷ asked (script (right_deep 64) ++ script none) 1 2 9999 31 127 0
    -- 32: unbound, in the wrong part, bound again where the first reaches and where it does not; the lowest of both
    ∷ asked (script (none ∥ S x)) 1 2 99 32 2 0
    ∷ asked (script (S x > x > none)) 1 2 99 32 1 0
    ∷ asked (script (none ⟨ x ∈ S x)) 1 2 99 32 2 0
    ∷ asked (script (none > x > (none > x > none))) 1 2 99 32 2 0
    ∷ asked (script ((none > x > none) ∥ (none ⟨ x ∈ none))) 1 2 99 32 4 0
    ∷ asked (script ((none > x > none) ∥ ((none ⟨ x ∈ none) ∥ S y))) 1 2 99 32 5 0
    -- 21, and just enough
    ∷ asked (script (S 5 > x > S x)) 1 2 127 21 0 0
    ∷ asked (script (S 5 > x > S x)) 1 2 128 0 0 8
    ∷ []

-- (for computed checks) to unfold this is to unfold every definition of this crate
unfoldable open_orc : Unit {0}
unfolding open_expressions open_scripts open_translation
open_orc = tt

pub samples_right : T (every right_sample samples && every right_question replies)
unfolding samples replies open_all open_orc
samples_right = tt
