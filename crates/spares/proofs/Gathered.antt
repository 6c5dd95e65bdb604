-- The atoms of a script's calls, gathered-atoms one record after the other: those below 4,096 that its translation may not take.
use mathlib.Core.Path.{◌≡◌, refl, ap, sym, subst, ◌∙◌}
use mathlib.Core.Logic.{◌≢◌}
use mathlib.Core.Bool.{Bool, false, ◌||◌, or_comm}
use mathlib.Core.List.{List, [], ◌∷◌, ◌++◌, map, map-append, flat_map, append-nil}
use Prim.Native.Nat.{ℕ, zero, suc, ◌+◌, ◌*◌, ◌/◌, ◌<◌}
use native.Mathlib.Omega.{arith}
use native.Mathlib.Numerals.{add-one}
use lib.Dec.{eqb}
use lib.ListN.{length, get_or, take, drop}
use borrow.Author.Tests.{ne_eqb}
use Rattle.cows.specs.Basics.{any, member}
use Rattle.cows.specs.Terms.{optional}
use Rattle.cows.specs.Cut.{pieces, cut}
use Rattle.cows.specs.Format.{byte, word}
use Rattle.cows.proofs.Basics.{member_append}
use Rattle.cows.proofs.Cut.{flat_map_append, pieces_more}
use Rattle.cows.proofs.Sets.{variable-range}
use Rattle.records.proofs.Pieces.{word_cut, first-cut}
use Rattle.orc.specs.Expressions.{Composition, sequential, symmetric, asymmetric, Orc, act, composed, bound, act_uses, occurring, RightComposition, RightOrc}
use Rattle.orc.specs.Scripts.{OrcNode, orc_nodes, read_orc_node, nodes_of}
use Rattle.orc.specs.Translation.{taken_by}
use Rattle.orc.proofs.Format.{nodes-script}
use Rattle.scripts.specs.Standing.{ScriptOf}
use Rattle.spares.specs.Spares.{Holding, HeldToo, call_atoms, HeldIn}

-- The marks go by the members of the list, in any order.
module _ {used : List Bool} where
  same_held : (xs ys : List ℕ) → ((a : ℕ) → a < 4096 → member a xs ≡ member a ys) → Holding used xs → Holding used ys
  same_held xs ys e h = record { all = h.all; is = λ a l. h.is a l ∙ e a l }

  turned_held : (xs ys : List ℕ) → Holding used (xs ++ ys) → Holding used (ys ++ xs)
  turned_held xs ys = same_held (xs ++ ys) (ys ++ xs) (λ a l. member_append a xs ys ∙ (or_comm (member a xs) (member a ys) ∙ sym (member_append a ys xs)))

-- The atoms of a record, by its kind.
plain_atoms : (b : List ℕ) (k : ℕ) → byte b 0 ≡ k → k ≢ 1 → call_atoms (read_orc_node b) ≡ []
unfolding call_atoms read_orc_node act_uses
plain_atoms b zero e n = rw e
plain_atoms b (suc zero) e n = absurd (n refl)
plain_atoms b (suc (suc zero)) e n = rw e
plain_atoms b (suc (suc (suc zero))) e n = rw e
plain_atoms b (suc (suc (suc (suc zero)))) e n = rw e
plain_atoms b (suc (suc (suc (suc (suc k))))) e n = rw e

module _ (s : List ℕ) (i : ℕ) where
  abbrev record_at : OrcNode
  record_at = read_orc_node (take 8 (drop (8 * i) s))

  call-atoms : get_or s (8 * i) 0 ≡ 1 → call_atoms record_at ≡ word s (8 * i + 4) ∷ word s (8 * i + 6) ∷ word s (8 * i + 2) ∷ []
  unfolding call_atoms read_orc_node act_uses
  call-atoms e =
      rw (first-cut 8 s (8 * i) (omega arith), e, word_cut 8 s (8 * i) 4 (omega arith), word_cut 8 s (8 * i) 6 (omega arith), word_cut 8 s (8 * i) 2 (omega arith))

  -- a call's three atoms are marked, one after the other; another record has none
  pub held-call : {used u v after : List Bool} {a b c : ℕ} → get_or s (8 * i) 0 ≡ 1 → a ≡ word s (8 * i + 2) → b ≡ word s (8 * i + 6) → c ≡ word s (8 * i + 4)
      → HeldToo used a u → HeldToo u b v → HeldToo v c after → HeldIn used record_at after
  held-call k x y z f g h = record {
    all = h.all;
    few = omega arith;
    marks = λ atoms m. rw (call-atoms k, ← x, ← y, ← z) (h.marks _ (g.marks _ (f.marks atoms m)));
  }

  pub held_plain : {used : List Bool} → length used ≡ 4096 → get_or s (8 * i) 0 ≢ 1 → HeldIn used record_at used
  held_plain l n = record {
    all = l;
    few = omega arith;
    marks = λ atoms m. rw (plain_atoms _ _ (first-cut 8 s (8 * i) (omega arith)) n) m;
  }

-- The atoms of the first i records, and of one more.
abbrev pub gathered-atoms : List ℕ → ℕ → List ℕ
gathered-atoms s i = flat_map call_atoms (map read_orc_node (pieces 8 i s))

gathered_more : (s : List ℕ) (i : ℕ) → gathered-atoms s (i + 1) ≡ gathered-atoms s i ++ call_atoms (record_at s i)
unfolding flat_map
gathered_more s i =
    rw (add-one i, pieces_more 8 i s, map-append read_orc_node (pieces 8 i s) (take 8 (drop (8 * i) s) ∷ []))
    (flat_map_append call_atoms (map read_orc_node (pieces 8 i s)) (record_at s i ∷ []) ∙ ap (λ l. gathered-atoms s i ++ l) (append-nil (call_atoms (record_at s i))))

module _ (s : List ℕ) (p o : ℕ) where
  pub held_start : {used u after : List Bool} → Holding used [] → HeldToo used p u → HeldToo u o after → Holding after (p ∷ o ∷ gathered-atoms s 0)
  unfolding flat_map pieces
  held_start h k l = turned_held (o ∷ []) (p ∷ []) (l.marks _ (k.marks [] h))

  pub held-turn : {used after : List Bool} (i : ℕ) → Holding used (p ∷ o ∷ gathered-atoms s i) → HeldIn used (record_at s i) after → Holding after (p ∷ o ∷ gathered-atoms s (i + 1))
  held-turn {after = after} i h k =
      subst (λ l. Holding after (p ∷ o ∷ l)) (sym (gathered_more s i)) (turned_held (call_atoms (record_at s i)) (p ∷ o ∷ gathered-atoms s i) (k.marks _ h))

-- A variable that is bound lies above the marks, so the atoms of the calls are all that an expression has below.
unbound : (a : ℕ) → a < 4096 → (c : Composition) → RightComposition c → member a (optional (bound c)) ≡ false
unfolding bound optional member any
unbound a l (sequential x) h = rw (ne_eqb a x (λ e. omega (arith, variable-range x h)))
unbound a l symmetric h = refl
unbound a l (asymmetric x) h = rw (ne_eqb a x (λ e. omega (arith, variable-range x h)))

calls_only : (a : ℕ) → a < 4096 → (e : Orc) → RightOrc e → member a (flat_map call_atoms (orc_nodes e)) ≡ member a (occurring e)
unfolding orc_nodes occurring flat_map call_atoms
calls_only a l (act x) h = ap (member a) (append-nil (act_uses x))
calls_only a l (composed c f g) h =
    ap (member a) (flat_map_append call_atoms (orc_nodes f) (orc_nodes g))
    ∙ (member_append a (flat_map call_atoms (orc_nodes f)) (flat_map call_atoms (orc_nodes g))
    ∙ rw (calls_only a l f h.1, calls_only a l g h.2)
    (sym (member_append a (optional (bound c)) (occurring f ++ occurring g) ∙ rw (unbound a l c h.0, member_append a (occurring f) (occurring g)))))

module _ (s : List ℕ) (e : Orc) (h : ScriptOf s e) where
  all_gathered : gathered-atoms s (length s / 8) ≡ flat_map call_atoms (orc_nodes e)
  unfolding cut
  all_gathered = ap (flat_map call_atoms) (ap nodes_of h.is ∙ nodes-script e)

  pub held-taken : {used : List Bool} (p o : ℕ) → Holding used (p ∷ o ∷ gathered-atoms s (length s / 8)) → Holding used (taken_by p o e)
  unfolding member any
  held-taken p o k =
      same_held _ _ (λ a l. ap (λ b. eqb a p || (eqb a o || b)) (ap (member a) all_gathered ∙ calls_only a l e h.right)) k
