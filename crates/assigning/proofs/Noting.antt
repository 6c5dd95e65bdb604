-- The walk over the ready records (specs/Assigning, noted): at place i the roles are those that the ready records before it give.
use mathlib.Core.Path.{◌≡◌, refl, sym, ap, subst, ◌∙◌}
use mathlib.Core.Logic.{◌≢◌}
use mathlib.Core.Bool.{Bool, true, false, cond, ◌&&◌, ◌||◌}
use mathlib.Core.List.{List}
use mathlib.Core.Option.{Option, none, some}
use Prim.Native.Nat.{ℕ, zero, suc, ◌+◌, ◌-◌, ◌/◌, ◌≤◌, ◌<◌}
use native.Mathlib.Omega.{arith}
use native.Mathlib.Nat.{zero-add}
use lib.Dec.{ltb, eqb}
use lib.ListN.{length, set}
use lib.Seq.{get_or-set_same, get_or-set_other}
use borrow.Author.Tests.{lt-ltb, le-ltb, eqb-true, eq-eqb}
use Rattle.cows.specs.Basics.{found_with, found, first_from, place_if, or_else}
use Rattle.cows.specs.Terms.{nil, kill, invoke, receive, wait, protection, delimitation, replication, Term, leaf, under, both, size, kills, prefixed, receives, delimits, delimits_at}
use Rattle.cows.specs.Kinds.{ready_kind, root, kind_of}
use Rattle.cows.specs.Places.{spot_at, way_to, sub, first}
use Rattle.cows.specs.Within.{Within}
use Rattle.cows.specs.Active.{ready}
use Rattle.cows.specs.Moves.{ready_kill}
use Rattle.cows.proofs.Basics.{clash, eq_case, lt_case, or_right, or_none, and_none, not_so, holds_some, first_from_append, from_next, none-first_from}
use Rattle.cows.proofs.Reach.{enclosed_reaches}
use Rattle.ways.specs.Known.{Table}
use Rattle.ways.proofs.KnownTables.{table_size, table_inside}
use Rattle.ways.proofs.Once.{one_delimitation}
use Rattle.ways.proofs.Seeking.{seeking_start}
use Rattle.holding.proofs.Passing.{past_of}
use Rattle.holding.proofs.HeldBack.{kill-enclosed}
use Rattle.roles.specs.declared.Role.{Role}
use Rattle.roles.specs.declared.Role.TheVariants.{Idle, Rival, Holder}
use Rattle.roles.specs.Roles.{holding, rivalling, behind_of, ready_role, role_if, role_at, Unassigned}
use Rattle.chains.proofs.Chaining.{some_of, none_of}
use Rattle.assigning.specs.Assigning.{noted}
use Rattle.assigning.proofs.Turns.{Strides, Turn, turn_past}

-- the delimitation of the label of a kill: there is one, and behind_of finds it
module _ (t : Term) (w : Within t) (i k : ℕ) (l : i < size t) (e : sub t i ≡ leaf (kill k)) where
  pub kill_scope_lem : (q : ℕ) × (behind_of t k ≡ suc q) × (q < size t) × (delimits_at k (sub t q) ≡ true)
  unfolding behind_of
  kill_scope_lem = go (behind_of t k) refl
    where
      go : (b : ℕ) → behind_of t k ≡ b → (q : ℕ) × (b ≡ suc q) × (q < size t) × (delimits_at k (sub t q) ≡ true)
      go zero z = let (q, m, d, f) = enclosed_reaches t k i l (kill-enclosed t w k i e) in clash d (none_of (λ n. delimits_at k (sub t n)) (size t) 0 z q (omega arith) (omega arith))
      go (suc q) z = let f = some_of (λ n. delimits_at k (sub t n)) (size t) 0 q z in (q, refl, f.inside, f.passes)

-- a ready kill of k stands among the first i places; such a kill holds back at place n; the role at place n by the first i places
killed : Term → ℕ → ℕ → Bool
killed t i k = found (first_from (λ m. ready_kill k m (spot_at t m)) 0 i)

holding_by : Term → ℕ → ℕ → Bool
holding_by t i n = found_with (killed t i) (prefixed delimits (sub t n))

pub ready_by : Term → ℕ → ℕ → Role
ready_by t i n = cond (holding_by t i n) Holder (role_if (ltb n i && rivalling t n) Rival)

found_first : (p : Option ℕ) (b : Bool) (i : ℕ) → found (or_else p (or_else (place_if b i) none)) ≡ (found p || b)
unfolding found or_else place_if
found_first none true i = refl
found_first none false i = refl
found_first (some p) b i = refl

-- from place i to place j, where no place between is ready
module _ (t : Term) (i j : ℕ) (h : Turn ready_kind t i j) where
  unready : (m : ℕ) → i < m → m < j → ready (way_to t m) ≡ false
  unfolding ready
  unready = h.shut

  kill-next : (k : ℕ) → killed t j k ≡ (killed t i k || ready_kill k i (spot_at t i))
  unfolding killed ready_kill way_to
  kill-next k =
      let f : ℕ → Bool = λ m. ready_kill k m (spot_at t m) in
      let z : i + (j - i) ≡ j = omega (arith, h.on) in
      let none_more : first_from f (i + 1) (j - (i + 1)) ≡ none = none-first_from f (i + 1) (j - (i + 1)) (λ m x. rw (unready (i + 1 + m) (omega arith) (omega arith))) in
      ap (λ n. found (first_from f 0 n)) (sym z)
      ∙ (ap found (first_from_append f 0 i (j - i) ∙ ap (or_else (first_from f 0 i)) (rw zero-add (from_next f i j h.on ∙ ap (or_else (place_if (f i) i)) none_more)))
      ∙ found_first (first_from f 0 i) (f i) i)

  -- neither a kill that counts nor a rival: the role stays
  module _ (n : ℕ) (no : (k : ℕ) → prefixed delimits (sub t n) ≡ some k → ready_kill k i (spot_at t i) ≡ false) (none_here : n ≡ i → found (prefixed receives (sub t i)) ≡ false) where
    holding_same : holding_by t i n ≡ holding_by t j n
    unfolding holding_by found_with
    holding_same = go (prefixed delimits (sub t n)) refl
      where
        go : (o : Option ℕ) → prefixed delimits (sub t n) ≡ o → found_with (killed t i) o ≡ found_with (killed t j) o
        go none e = refl
        go (some k) e = sym (kill-next k ∙ rw (no k e) (or_none (killed t i k)))

    rival_same : (ltb n i && rivalling t n) ≡ (ltb n j && rivalling t n)
    unfolding rivalling
    rival_same =
        lt_case ((ltb n i && rivalling t n) ≡ (ltb n j && rivalling t n)) n i
        (λ a. rw (lt-ltb n i a, lt-ltb n j (omega (arith, h.on))))
        (λ a. lt_case ((ltb n i && rivalling t n) ≡ (ltb n j && rivalling t n)) n j
        (λ b. rw (le-ltb n i a, lt-ltb n j b) (sym (lt_case (rivalling t n ≡ false) i n (λ c. rw (unready n c b)) (λ c. let z : n ≡ i = omega arith in rw (z, none_here z) (and_none (ready (way_to t i)))))))
        (λ b. rw (le-ltb n i a, le-ltb n j b)))

    same_role : ready_by t i n ≡ ready_by t j n
    unfolding ready_by
    same_role = rw (holding_same, rival_same)

-- The walk is at place i.
pub record Noting (t : Term) (i : ℕ) (cast : List Role) : Type 0 where
  pub walk : Strides ready_kind t i
  pub roles : (n : ℕ) → n < size t → role_at cast n ≡ ready_by t i n

pub noting_start : (t : Term) (cast : List Role) → Unassigned cast → Noting t 0 cast
unfolding ready_by holding_by killed first_from found found_with
noting_start t cast b = record { walk = seeking_start _ _ t; roles = λ n l. b n ∙ go n (prefixed delimits (sub t n)) }
  where
    go : (n : ℕ) (o : Option ℕ) → Idle ≡ cond (found_with (killed t 0) o) Holder (role_if (ltb n 0 && rivalling t n) Rival)
    go n none = rw (le-ltb n 0 (omega arith))
    go n (some k) = rw (le-ltb n 0 (omega arith))

pub noting_end : (t : Term) (i : ℕ) (cast : List Role) → Noting t i cast → size t ≤ i → (n : ℕ) → n < size t → role_at cast n ≡ ready_role t n
unfolding ready_by holding_by killed ready_role holding first
noting_end t i cast h l n m = let z : i ≡ size t = omega (arith, h.walk.few) in h.roles n m ∙ rw (z, lt-ltb n (size t) m)

module _ (t : Term) (w : Within t) (i j : ℕ) (l : i < size t) (h : Turn ready_kind t i j) (cast : List Role) (room : size t ≤ length cast) (g : Noting t i cast) where
  kill_here : (k : ℕ) (s : Term) → sub t i ≡ s → ready_kill k i (spot_at t i) ≡ found_with (eqb k) (kills s)
  unfolding ready_kill ready sub way_to
  kill_here k s e = rw (g.walk.active l, e)

  -- a record that says nothing
  silent : (s : Term) → sub t i ≡ s → kills s ≡ none → prefixed receives s ≡ none → (n : ℕ) → n < size t → role_at cast n ≡ ready_by t j n
  unfolding found_with found
  silent s e x y n m = g.roles n m ∙ same_role t i j h n (λ k d. kill_here k s e ∙ rw x) (λ z. rw (e, y))

  kill-noted : (k : ℕ) → sub t i ≡ leaf (kill k) → (n : ℕ) → n < size t → role_at (set cast (behind_of t k - 1) Holder) n ≡ ready_by t j n
  unfolding found_with found kills prefixed ready_by holding_by
  kill-noted k e n m =
      let (q, b, in_table, d) = kill_scope_lem t w i k l e in
      let p : behind_of t k - 1 ≡ q = omega arith in
      rw p (eq_case (role_at (set cast q Holder) n ≡ ready_by t j n) n q
      (λ z.
      let (x, y, c) = holds_some (eqb k) (prefixed delimits (sub t q)) d in
      let so : killed t j x ≡ true = kill-next t i j h x ∙ or_right (killed t i x) _ (kill_here x _ e ∙ eq-eqb x k (sym (eqb-true k x c))) in
      rw (z, y, so) (get_or-set_same cast q Holder Idle (omega arith)))
      (λ z. get_or-set_other cast q n Holder Idle z ∙ (g.roles n m ∙ same_role t i j h n
      (λ x y. kill_here x _ e ∙ not_so (λ c. z (one_delimitation t w.formed k n q m in_table (ap (found_with (eqb k)) y ∙ eq-eqb k x (sym (eqb-true x k c))) d)))
      (λ y. rw e))))

  receive-noted : (p o : ℕ) (ws : List ℕ) (c : Term) → sub t i ≡ under (receive p o ws) c → (n : ℕ) → n < size t → role_at (set cast i Rival) n ≡ ready_by t j n
  unfolding found_with found kills prefixed receives delimits ready_by holding_by rivalling ready
  receive-noted p o ws c e n m =
      eq_case (role_at (set cast i Rival) n ≡ ready_by t j n) n i
      (λ z. rw (z, e, lt-ltb i j h.on, g.walk.active l) (get_or-set_same cast i Rival Idle (omega arith)))
      (λ z. get_or-set_other cast i n Rival Idle z ∙ (g.roles n m ∙ same_role t i j h n (λ x y. kill_here x _ e) (λ y. absurd (z y))))

  pub noting_turn : Noting t j (noted t i (root (sub t i)) cast)
  unfolding noted root kills prefixed receives
  noting_turn = record { walk = h.walk; roles = go (sub t i) refl }
    where
      go : (s : Term) → sub t i ≡ s → (n : ℕ) → n < size t → role_at (noted t i (root s) cast) n ≡ ready_by t j n
      go (leaf nil) e = silent _ e refl refl
      go (leaf (kill k)) e = kill-noted k e
      go (leaf (invoke p o ws)) e = silent _ e refl refl
      go (under (receive p o ws) c) e = receive-noted p o ws c e
      go (under (wait k) c) e = silent _ e refl refl
      go (under protection c) e = silent _ e refl refl
      go (under (delimitation d) c) e = silent _ e refl refl
      go (under replication c) e = silent _ e refl refl
      go (both k a b) e = silent _ e refl refl

-- a record that is neither a kill nor a receive says nothing
pub noted_other : (t : Term) (i : ℕ) (cast : List Role) (c : Term) → kind_of c ≢ 1 → kind_of c ≢ 3 → cast ≡ noted t i (root c) cast
unfolding noted kind_of root
noted_other t i cast (leaf nil) a b = refl
noted_other t i cast (leaf (kill k)) a b = absurd (a refl)
noted_other t i cast (leaf (invoke p o ws)) a b = refl
noted_other t i cast (under (receive p o ws) c) a b = absurd (b refl)
noted_other t i cast (under (wait n) c) a b = refl
noted_other t i cast (under protection c) a b = refl
noted_other t i cast (under (delimitation d) c) a b = refl
noted_other t i cast (under replication c) a b = refl
noted_other t i cast (both j c d) a b = refl

-- A turn on a table, where the code has noted the record and has the next place.
pub noting_past : (s ends : List ℕ) (t : Term) → Table s ends t → (i : ℕ) → i < length s / 16 → (cast : List Role) → length s / 16 ≤ length cast → Noting t i cast
    → (j : ℕ) → j ≡ past_of s ends i → (then : List Role) → then ≡ noted t i (root (sub t i)) cast → Noting t j then
noting_past s ends t h i l cast room g j at then is =
    subst (Noting t j) (sym is)
    (noting_turn t h.within i j (table_inside s ends t h i l) (turn_past s ends t h i l g.walk j at) cast (omega (arith, table_size s ends t h)) g)
