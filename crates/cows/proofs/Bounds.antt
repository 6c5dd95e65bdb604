-- One walk over the refusals of a table, of a step on it and of a play on it: what holds of 12 with the number of what differs, of 17 with 0 where the time is
-- 0, and of every other refusal with each place below a bound that the records and the numbers of the move are below, holds of each of them. So a refusal has a
-- number from 1 on, and its place is below any such bound of 7 or more; 12 comes from matching alone, and 17 from a time of 0.
use mathlib.Core.Path.{◌≡◌, refl, ap, subst}
use mathlib.Core.Bool.{Bool, true, not, ◌||◌}
use mathlib.Core.Option.{Option, none, some}
use mathlib.Core.List.{List, map}
use Prim.Native.Nat.{ℕ, zero, suc, ◌+◌, ◌≤◌, ◌<◌}
use native.Mathlib.Omega.{arith}
use lib.Dec.{ltb, eqb}
use lib.ListN.{length, get_elem?, length-map}
use borrow.Author.Tests.{eqb-true}
use Rattle.cows.specs.Basics.{place_if, Result, refuse, accept, ◌>>=◌, ◌>>◌, forbid, need}
use Rattle.cows.specs.Terms.{Term, Action, size, invokes, prefixed, receives, receive_of}
use Rattle.cows.specs.Kinds.{kind}
use Rattle.cows.specs.Places.{Spot, spot_at, sub, first}
use Rattle.cows.specs.Format.{byte, word, read_node, right_record, records, decode}
use Rattle.cows.specs.Tables.{end_of, wrong_end, children, misshapen, judge_term, judge}
use Rattle.cows.specs.Within.{Within, Right}
use Rattle.cows.specs.Active.{wanted}
use Rattle.cows.specs.Moves.{Mismatch, Matching, binds, differs, fit, mismatch_number, matched, Move, Kill, Communicate, Timeout, Elapse, Unfold, Extrude, kill_at, communicate_at, timeout_at, elapse_by, unfold_at, extrude_at, successor}
use Rattle.cows.specs.Step.{right_move, six_moves, read_move, proposed, fitted, step_term, judge_step}
use Rattle.cows.specs.Run.{judge_play}
use Rattle.cows.proofs.Basics.{never, same_some, only-some, place_if-none, place_if-some, first_from-below, need-accept}
use Rattle.cows.proofs.Format.{length-nodes, nodes-decode}
use Rattle.cows.proofs.Tables.{right_length}
use Rattle.cows.proofs.Cut.{length_cut, failing_below}
use Rattle.cows.proofs.Ends.{end_bounds}
use Rattle.cows.proofs.Stands.{right_at, looks, prefixed_is, wanted_is}
use Rattle.cows.proofs.Unlike.{number_small}

-- P of the number and the place of a refusal; a number from 1 on whose cause is not told here: all but 12 and 17
abbrev pub OfRefusal : {A : Type 0} → (ℕ → ℕ → Type 0) → Result A → Type 0
OfRefusal P (refuse n p) = P n p
OfRefusal P (accept a) = Unit {0}

abbrev pub untold : ℕ → Bool
untold n = not (eqb n 0 || eqb n 12 || eqb n 17)

untold_from_one : (n : ℕ) → untold n ≡ true → 1 ≤ n
untold_from_one zero e = never e
untold_from_one (suc n) e = omega arith

-- a refusal has a number from 1 on, and its place is below b
abbrev pub Below : {A : Type 0} → ℕ → Result A → Type 0
Below b r = OfRefusal (λ n p. (1 ≤ n) × (p < b)) r

-- the places of the tests
pub place_below : (c : Bool) (a b : ℕ) → a < b → (p : ℕ) → place_if c a ≡ some p → p < b
place_below c a b h p e = omega (arith, (place_if-some c a p e).1)

pub shape_below : (n : ℕ) (o : Option ℕ) → ((e : ℕ) → o ≡ some e → e ≤ n) → (p : ℕ) → wrong_end n o ≡ some p → p ≤ n
unfolding wrong_end
shape_below n none l p h = omega (arith, same_some h)
shape_below n (some e) l p h = omega (arith, place_below (ltb e n) e (suc n) (omega (arith, l e refl)) p h)

-- the numbers of a move are below b; those of a move that is read are the bytes'
abbrev pub NumbersBelow : ℕ → Move → Type 0
NumbersBelow b (Kill a) = a < b
NumbersBelow b (Communicate a c) = (a < b) × (c < b)
NumbersBelow b (Timeout a) = a < b
NumbersBelow b (Elapse d) = d < b
NumbersBelow b (Unfold a) = a < b
NumbersBelow b (Extrude a) = a < b

pub read_small : (b : ℕ) (m : List ℕ) → word m 2 < b → word m 4 < b → (v : Move) → read_move m ≡ some v → NumbersBelow b v
unfolding six_moves read_move
read_small b m h k v e = pick (byte m 0) (only-some (right_move m) _ v e).1
  where
    pick : (i : ℕ) → get_elem? (six_moves (word m 2) (word m 4)) i ≡ some v → NumbersBelow b v
    pick zero e = subst (NumbersBelow b) (same_some e) h
    pick (suc zero) e = subst (NumbersBelow b) (same_some e) (h, k)
    pick (suc (suc zero)) e = subst (NumbersBelow b) (same_some e) h
    pick (suc (suc (suc zero))) e = subst (NumbersBelow b) (same_some e) h
    pick (suc (suc (suc (suc zero)))) e = subst (NumbersBelow b) (same_some e) h
    pick (suc (suc (suc (suc (suc zero))))) e = subst (NumbersBelow b) (same_some e) h
    pick (suc (suc (suc (suc (suc (suc i)))))) e = absurd (let z : ◌≡◌ {A = ℕ} 0 1 = cc in omega arith)

-- there is such a b for every move
bound_of : (n : ℕ) (v : Move) → (b : ℕ) × (n ≤ b) × NumbersBelow b v
bound_of n (Kill a) = (suc (n + a), omega arith, omega arith)
bound_of n (Communicate a c) = (suc (n + a + c), omega arith, (omega arith, omega arith))
bound_of n (Timeout a) = (suc (n + a), omega arith, omega arith)
bound_of n (Elapse d) = (suc (n + d), omega arith, omega arith)
bound_of n (Unfold a) = (suc (n + a), omega arith, omega arith)
bound_of n (Extrude a) = (suc (n + a), omega arith, omega arith)

-- what holds of 12 where a live receive and a live invoke differ
abbrev pub OfMismatch : (ℕ → Type 0) → Term → Move → Type 0
OfMismatch P t v =
    (a c : ℕ) (r m : Action) (d : Mismatch) → v ≡ Communicate a c → wanted (prefixed receives) t a ≡ accept r → wanted invokes t c ≡ accept m
    → fit r m ≡ differs d → P (mismatch_number d)

-- what holds of 12 and of 17 where the move has their cause
abbrev pub OfCauses : (ℕ → ℕ → Type 0) → Term → Move → Type 0
OfCauses P t v = OfMismatch (P 12) t v × (v ≡ Elapse 0 → P 17 0)

-- what holds of the refusals of one judgement and of those behind it holds of both
pub of_bind : (P : ℕ → ℕ → Type 0) {A B : Type 0} (m : Result A) (k : A → Result B) → OfRefusal P m → ((a : A) → m ≡ accept a → OfRefusal P (k a)) → OfRefusal P (m >>= k)
unfolding ◌>>=◌
of_bind P (refuse n p) k h f = h
of_bind P (accept a) k h f = f a refl

pub of_forbid : (P : ℕ → ℕ → Type 0) {B : Type 0} (n : ℕ) (o : Option ℕ) (k : Result B) → ((p : ℕ) → o ≡ some p → P n p) → (o ≡ none → OfRefusal P k) → OfRefusal P (forbid n o >> k)
unfolding forbid ◌>>◌
of_forbid P n none k h f = f refl
of_forbid P n (some p) k h f = h p refl

module _ (b : ℕ) (P : ℕ → ℕ → Type 0) (others : (n p : ℕ) → untold n ≡ true → p < b → P n p) where
  refusal-forbid : {B : Type 0} (n : ℕ) (o : Option ℕ) (k : Result B) → untold n ≡ true → ((p : ℕ) → o ≡ some p → p < b) → (o ≡ none → OfRefusal P k) → OfRefusal P (forbid n o >> k)
  refusal-forbid n o k l h = of_forbid P n o k (λ p e. others n p l (h p e))

  refusal-need : {A : Type 0} (n p : ℕ) (o : Option A) → untold n ≡ true → p < b → OfRefusal P (need n p o)
  unfolding need
  refusal-need n p none l h = others n p l h
  refusal-need n p (some a) l h = tt

  -- 4 to 7, and the refusals of a move
  module _ (t : Term) (room : size t ≤ b) where
    first_below : (f : ℕ → Spot → Bool) (p : ℕ) → first f t ≡ some p → p < b
    unfolding first
    first_below f p e = omega (arith, first_from-below (λ n. f n (spot_at t n)) 0 (size t) p e)

    refusal_term : OfRefusal P (judge_term t)
    unfolding judge_term
    refusal_term =
        refusal-forbid 4 _ _ refl (first_below _)
        (λ _. refusal-forbid 5 _ _ refl (first_below _) (λ _. refusal-forbid 6 _ _ refl (first_below _) (λ _. refusal-forbid 7 _ _ refl (first_below _) (λ _. tt))))

    refusal-wanted : {A : Type 0} (kind : Term → Option A) (a : ℕ) → a < b → OfRefusal P (wanted kind t a)
    unfolding wanted
    refusal-wanted kind a l = refusal-need 11 a _ refl l

    refusal-matched : (x : Matching) → ((d : Mismatch) → x ≡ differs d → P 12 (mismatch_number d)) → OfRefusal P (matched x)
    unfolding matched
    refusal-matched (binds σ) h = tt
    refusal-matched (differs d) h = h d refl

    refusal-successor : (v : Move) → NumbersBelow b v → OfCauses P t v → OfRefusal P (successor t v)
    unfolding successor kill_at communicate_at timeout_at elapse_by unfold_at extrude_at
    refusal-successor (Kill a) l h = of_bind P (wanted _ t a) _ (refusal-wanted _ a l) (λ k _. tt)
    refusal-successor (Communicate a c) l h =
        of_bind P (wanted _ t a) _ (refusal-wanted _ a l.0)
        (λ r er. of_bind P (wanted _ t c) _ (refusal-wanted _ c l.1)
        (λ m em. of_bind P (matched (fit r m)) _ (refusal-matched (fit r m) (λ d e. h.0 a c r m d refl er em e))
        (λ σ _. refusal-forbid 13 _ _ refl (place_below _ a b l.0)
        (λ _. refusal-forbid 14 _ _ refl (first_below _) (λ _. refusal-forbid 15 _ _ refl (first_below _) (λ _. tt))))))
    refusal-successor (Timeout a) l h = of_bind P (wanted _ t a) _ (refusal-wanted _ a l) (λ i _. refusal-forbid 16 _ _ refl (place_below _ a b l) (λ _. tt))
    refusal-successor (Elapse d) l h = of_forbid P 17 _ _ (λ p e. let (z, q) = place_if-some (eqb d 0) 0 p e in subst (P 17) q (h.1 (ap Elapse (eqb-true d 0 z)))) (λ _. tt)
    refusal-successor (Unfold a) l h = of_bind P (wanted _ t a) _ (refusal-wanted _ a l) (λ r _. tt)
    refusal-successor (Extrude a) l h = of_bind P (wanted _ t a) _ (refusal-wanted _ a l) (λ d _. refusal-forbid 18 _ _ refl (place_below _ a b l) (λ _. tt))

    refusal_step : 0 < b → (m : Option Move) (out : ℕ) → ((v : Move) → m ≡ some v → NumbersBelow b v × OfCauses P t v) → OfRefusal P (step_term t m out)
    unfolding step_term proposed fitted
    refusal_step z m out h =
        of_bind P (proposed m t) _
        (of_bind P (need 10 0 m) _ (refusal-need 10 0 m refl z) (λ v e. let (l, u) = h v (need-accept 10 0 m v e) in refusal-successor v l u))
        (λ s _. refusal-forbid 20 _ _ refl (place_below _ 0 b z) (λ _. refusal-forbid 21 _ _ refl (place_below _ 0 b z) (λ _. tt)))

  -- on bytes
  module _ (limits : 2049 ≤ b) where
    refusal-judge : (s : List ℕ) → OfRefusal P (judge s)
    unfolding judge misshapen
    refusal-judge s =
        refusal-forbid 1 _ _ refl (place_below _ 0 b (omega arith))
        (λ e₁. let (l, z) = right_length s (place_if-none _ 0 e₁) in
        let r : length (records s) ≤ 2048 = omega (arith, length_cut 16 s) in
        let n : length (map read_node (records s)) ≤ 2048 = omega (arith, length-map (records s) read_node) in
        refusal-forbid 2 _ _ refl (λ p e. omega (arith, failing_below right_record 0 (records s) p e))
        (λ e₂. refusal-forbid 3 _ _ refl (λ p e. omega (arith, shape_below _ (end_of children 1 0 (map read_node (records s))) (λ k q. omega (arith, end_bounds children 1 0 (map read_node (records s)) k q)) p e))
        (λ e₃. refusal_term (decode (map read_node (records s))) (omega (arith, length-nodes (decode (map read_node (records s))), ap length (nodes-decode (map read_node (records s)) e₃))))))

    refusal-judge_play : (table moves : List ℕ) (room slots : ℕ) → OfRefusal P (judge_play table moves room slots)
    unfolding judge_play
    refusal-judge_play table moves room slots =
        of_bind P (judge table) _ (refusal-judge table)
        (λ t _. refusal-forbid 19 _ _ refl (place_below _ 0 b (omega arith)) (λ _. refusal-forbid 21 _ _ refl (place_below _ 0 b (omega arith)) (λ _. tt)))

-- Places below b. Those of 12 are 0 to 6, that of 17 is 0.
module _ (b : ℕ) where
  untold_below : (n p : ℕ) → untold n ≡ true → p < b → (1 ≤ n) × (p < b)
  untold_below n p e l = (untold_from_one n e, l)

  mismatch_below : (t : Term) → Right t → 7 ≤ b → (v : Move) → OfMismatch (λ p. (1 ≤ 12) × (p < b)) t v
  mismatch_below t h z v a c r m d _ er _ e =
      (omega arith, omega (arith, number_small r m d e, (subst Right (prefixed_is receives receive_of (λ u. (looks u).receiving) (sub t a) r (wanted_is (prefixed receives) t a r er)) (right_at t a h)).0.2.0))

  pub below_step : (t : Term) → Right t → size t ≤ b → 7 ≤ b → (m : Option Move) (out : ℕ) → ((v : Move) → m ≡ some v → NumbersBelow b v) → Below b (step_term t m out)
  below_step t h room z m out l = refusal_step b _ untold_below t room (omega arith) m out (λ v e. (l v e, (mismatch_below t h z v, λ _. (omega arith, omega arith))))

  module _ (limits : 2049 ≤ b) where
    pub below-judge : (s : List ℕ) → Below b (judge s)
    below-judge s = refusal-judge b _ untold_below limits s

    pub below-judge_step : (table m : List ℕ) (room : ℕ) → word m 2 < b → word m 4 < b → ((t : Term) → judge table ≡ accept t → Within t) → Below b (judge_step table m room)
    unfolding judge_step
    below-judge_step table m room h k within =
        of_bind _ (judge table) _ (below-judge table)
        (λ t e. below_step t (within t e).right (omega (arith, (within t e).small)) (omega arith) (read_move m) room (read_small b m h k))

    pub below-judge_play : (table moves : List ℕ) (room slots : ℕ) → Below b (judge_play table moves room slots)
    below-judge_play table moves room slots = refusal-judge_play b _ untold_below limits table moves room slots

-- Any places: what holds of every other refusal, and of 12 and 17 where the move has their cause, holds of a step's refusal, on a term and on bytes.
module _ (P : ℕ → ℕ → Type 0) (others : (n p : ℕ) → untold n ≡ true → P n p) where
  pub step_refusal : (t : Term) (m : Option Move) (room : ℕ) → ((v : Move) → m ≡ some v → OfCauses P t v) → OfRefusal P (step_term t m room)
  step_refusal t none room h = refusal_step (suc (size t)) P (λ n p e _. others n p e) t (omega arith) (omega arith) none room (λ v k. absurd (let z : ◌≡◌ {A = ℕ} 0 1 = cc in omega arith))
  step_refusal t (some v) room h =
      let (b, l, s) = bound_of (suc (size t)) v in
      refusal_step b P (λ n p e _. others n p e) t (omega (arith, l)) (omega (arith, l)) (some v) room (λ w k. (subst (NumbersBelow b) (same_some k) s, h w k))

  pub judge_step-refusal : (table m : List ℕ) (room : ℕ) → ((t : Term) → judge table ≡ accept t → (v : Move) → read_move m ≡ some v → OfCauses P t v) → OfRefusal P (judge_step table m room)
  unfolding judge_step
  judge_step-refusal table m room h =
      of_bind P (judge table) _ (refusal-judge 2049 P (λ n p e _. others n p e) (omega arith) table) (λ t e. step_refusal t (read_move m) room (h t e))

-- The number alone: of a step on a term, and on bytes.
pub step_from_one : (t : Term) (m : Option Move) (room n p : ℕ) → step_term t m room ≡ refuse n p → 1 ≤ n
step_from_one t m room n p e = subst (OfRefusal (λ n p. 1 ≤ n)) e (step_refusal (λ n p. 1 ≤ n) (λ n p. untold_from_one n) t m room (λ v _. ((λ a c r i d _ _ _ _. omega arith), λ _. omega arith)))

pub judge_step_from_one : (table m : List ℕ) (room n p : ℕ) → judge_step table m room ≡ refuse n p → 1 ≤ n
judge_step_from_one table m room n p e =
    subst (OfRefusal (λ n p. 1 ≤ n)) e (judge_step-refusal (λ n p. 1 ≤ n) (λ n p. untold_from_one n) table m room (λ t _ v _. ((λ a c r i d _ _ _ _. omega arith), λ _. omega arith)))
