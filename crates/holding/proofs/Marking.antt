-- The marks of labels (specs/Holding): the walk that marks the ready kills of a table, and what the marks say of a delimitation.
use mathlib.Core.Path.{◌≡◌, refl, sym, ap, ◌∙◌}
use mathlib.Core.Logic.{◌≢◌}
use mathlib.Core.Bool.{Bool, true, false, not}
use mathlib.Core.List.{List}
use mathlib.Core.Option.{none, some}
use Prim.Native.Nat.{ℕ, ◌+◌, ◌*◌, ◌-◌, ◌/◌, ◌≤◌, ◌<◌}
use native.Mathlib.Omega.{arith}
use lib.Dec.{eqb}
use lib.ListN.{length, get_or}
use borrow.Author.Tests.{eqb-true, eq-eqb}
use Rattle.cows.specs.Basics.{found_with, found}
use Rattle.cows.specs.Terms.{nil, kill, invoke, receive, wait, protection, delimitation, replication, Term, leaf, under, both, size, label, kills, prefixed, delimits}
use Rattle.cows.specs.Kinds.{root, kind_of, ready_kind}
use Rattle.cows.specs.Places.{sub, first}
use Rattle.cows.specs.Format.{word, record16}
use Rattle.cows.specs.Active.{ready}
use Rattle.cows.specs.Moves.{ready_kill}
use Rattle.cows.specs.Within.{Right}
use Rattle.cows.proofs.Basics.{clash, bool_case, not_so, none_found}
use Rattle.cows.proofs.Fields.{kind-kill, kind-delimitation, first-kill, first-delimitation}
use Rattle.cows.proofs.Sets.{in_labels, label-range}
use Rattle.records.specs.Holds.{Holds}
use Rattle.records.proofs.StandsIn.{holds_kind, holds_word}
use Rattle.ways.specs.Known.{Table}
use Rattle.holding.specs.Holding.{mark_of, Marks, Unmarked, killed, KillsMarked, holds_at, Outside}
use Rattle.ways.proofs.KnownTables.{table_inside}
use Rattle.ways.proofs.Seeking.{Seeking, seeking_start, seeking_end}
use Rattle.holding.proofs.Passing.{past_of, past_seeking}
use Rattle.holding.proofs.HeldBack.{is_kill, kill-label, kills_labelled}

-- a kill and a delimitation by their kinds
kills-none : (s : Term) → kind_of s ≢ 1 → kills s ≡ none
unfolding kind_of root kills
kills-none (leaf nil) e = refl
kills-none (leaf (kill k)) e = absurd (e refl)
kills-none (leaf (invoke p o ws)) e = refl
kills-none (under u t) e = refl
kills-none (both j l r) e = refl

delimits-none : (s : Term) → kind_of s ≢ 8 → prefixed delimits s ≡ none
unfolding kind_of root prefixed delimits
delimits-none (leaf x) e = refl
delimits-none (under (receive p o ws) t) e = refl
delimits-none (under (wait n) t) e = refl
delimits-none (under protection t) e = refl
delimits-none (under (delimitation d) t) e = absurd (e refl)
delimits-none (under replication t) e = refl
delimits-none (both j l r) e = refl

pub kill_at_lem : (s : List ℕ) (t : Term) (i : ℕ) → Holds s t → i < size t → get_or s (16 * i) 0 ≡ 1 → (w : ℕ) → w ≡ word s (16 * i + 2) → sub t i ≡ leaf (kill w)
kill_at_lem s t i h l e w at =
    let (k, q) = kind-kill (sub t i) (sym (holds_kind s t i h l) ∙ e) in
    q ∙ ap (λ d. leaf (kill d)) (sym (at ∙ (holds_word s t i 2 h l (omega arith) ∙ (ap (λ r. word (record16 (root r)) 2) q ∙ first-kill k))))

-- the record is a kill of k
abbrev pub killing : ℕ → Term → Bool
killing k s = found_with (eqb k) (kills s)

-- The walk is at place i. Of a label that is not marked no ready kill stands before it; of one that is marked there is a ready kill.
pub record Marking (marks : List ℕ) (t : Term) (i : ℕ) : Type 0 where
  pub walk : Seeking ready_kind (λ s. false) t i
  pub ahead : (k : ℕ) → label k ≡ true → mark_of marks (k - 49152) ≡ 0 → Seeking ready_kind (killing k) t i
  pub marked : (k : ℕ) → label k ≡ true → mark_of marks (k - 49152) ≢ 0 → found (first (ready_kill k) t) ≡ true

module _ (marks : List ℕ) (t : Term) where
  pub marking_start : Unmarked marks → Marking marks t 0
  marking_start b = record {
    walk = seeking_start _ _ t;
    ahead = λ k e z. seeking_start _ _ t;
    marked = λ k e z. absurd (z (b (k - 49152)));
  }

  pub marking_end : (i : ℕ) → Marking marks t i → size t ≤ i → KillsMarked marks t
  unfolding ready_kill ready
  marking_end i h l k e =
      bool_case (not (eqb (mark_of marks (k - 49152)) 0) ≡ found (first (ready_kill k) t)) (eqb (mark_of marks (k - 49152)) 0)
      (λ z. rw z (sym (none_found _ (seeking_end _ _ t i (h.ahead k e (eqb-true _ _ z)) l))))
      (λ z. rw z (sym (h.marked k e (λ y. clash (eq-eqb _ _ y) z))))

module _ (s ends : List ℕ) (t : Term) (h : Table s ends t) (i : ℕ) (l : i < length s / 16) (j : ℕ) (past : j ≡ past_of s ends i) where
  placed : i < size t
  placed = table_inside s ends t h i l

  step : (test : Term → Bool) → Seeking ready_kind test t i → test (sub t i) ≡ false → Seeking ready_kind test t j
  step test k miss = past_seeking s ends t h i l j past test k (λ p. refl) miss

  -- past a record that is no kill
  pub marking_step : (marks : List ℕ) → get_or s (16 * i) 0 ≢ 1 → Marking marks t i → Marking marks t j
  unfolding found_with
  marking_step marks e m = record {
    walk = step _ m.walk refl;
    ahead = λ k p z. step _ (m.ahead k p z) (rw (kills-none (sub t i) (λ q. e (holds_kind s t i h.holds placed ∙ q))));
    marked = m.marked;
  }

  -- a kill, and its label
  module _ (e : get_or s (16 * i) 0 ≡ 1) (w : ℕ) (at : w ≡ word s (16 * i + 2)) where
    here : sub t i ≡ leaf (kill w)
    here = kill_at_lem s t i h.holds placed e w at

    pub kill-range : (49152 ≤ w) × (w < 65536)
    kill-range = label-range w (kill-label t h.within.right w i here)

    module _ (marks marks' : List ℕ) (set : Marks marks (w - 49152) marks') where
      other_mark : (k : ℕ) → label k ≡ true → eqb k w ≡ false → mark_of marks' (k - 49152) ≡ mark_of marks (k - 49152)
      other_mark k p n = set.others (k - 49152) (λ z. clash (eq-eqb k w (omega (arith, label-range k p, kill-range))) n)

      pub marking_kill : Marking marks t i → Marking marks' t j
      unfolding found_with kills ready
      marking_kill m =
          record {
            walk = step _ m.walk refl;
            ahead = λ k q z. bool_case (Seeking ready_kind (killing k) t j) (eqb k w)
                (λ y. absurd (omega (arith, set.here, ap (λ d. mark_of marks' (d - 49152)) (eqb-true k w y))))
                (λ n. step _ (m.ahead k q (sym (other_mark k q n) ∙ z)) (ap (killing k) here ∙ n));
            marked = λ k q z. bool_case (found (first (ready_kill k) t) ≡ true) (eqb k w)
                (λ y. is_kill k t i placed (m.walk.active placed) (here ∙ ap (λ d. leaf (kill d)) (sym (eqb-true k w y))))
                (λ n. m.marked k q (λ y. z (other_mark k q n ∙ y)));
          }

-- what the marks say of the record at place n
module _ (s : List ℕ) (t : Term) (h : Holds s t) (n : ℕ) (l : n < size t) where
  pub holds_other : get_or s (16 * n) 0 ≢ 8 → holds_at t n ≡ false
  unfolding found_with
  holds_other e = ap (found_with (killed t)) (delimits-none (sub t n) (λ q. e (holds_kind s t n h l ∙ q)))

  module _ (e : get_or s (16 * n) 0 ≡ 8) (k : ℕ) (at : k ≡ word s (16 * n + 2)) where
    delimited : prefixed delimits (sub t n) ≡ some k
    unfolding prefixed delimits
    delimited =
        let (x, q) = kind-delimitation (sub t n) (sym (holds_kind s t n h l) ∙ e) in
        let y : k ≡ x = at ∙ (holds_word s t n 2 h l (omega arith) ∙ (ap (λ r. word (record16 (root r)) 2) q ∙ first-delimitation x _)) in
        ap (prefixed delimits) q ∙ ap some (sym y)

    holds_killed : holds_at t n ≡ killed t k
    unfolding found_with
    holds_killed = ap (found_with (killed t)) delimited

    pub holds_no-label : k < 49152 → holds_at t n ≡ false
    holds_no-label u = holds_killed ∙ not_so (λ f. omega (arith, label-range k (kills_labelled t h.right k f)))

    pub holds_marked : (marks : List ℕ) → KillsMarked marks t → 49152 ≤ k → k < 65536 → not (eqb (mark_of marks (k - 49152)) 0) ≡ holds_at t n
    holds_marked marks m u v = m k (in_labels k u v).2 ∙ sym holds_killed

-- a ready kill is of a label, and of a marked one
module _ (t : Term) (r : Right t) where
  pub unlabelled_outside : (a : ℕ) → Outside label t a → Outside (killed t) t a
  unlabelled_outside a o k f = o k (kills_labelled t r k f)

  pub unmarked_outside : (marks : List ℕ) → KillsMarked marks t → Unmarked marks → (a : ℕ) → Outside (killed t) t a
  unmarked_outside marks m z a k f = clash (m k (kills_labelled t r k f) ∙ f) (ap (λ x. not (eqb x 0)) (z (k - 49152)))
