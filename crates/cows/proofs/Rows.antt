-- Laws of specs/Kinds: the byte that tells a record's kind, the children that its place in a term gives it, and what keeps the kind. A law on every kind is
-- proved row by row (kind-cases).
use mathlib.Core.Path.{◌≡◌, refl}
use mathlib.Core.Bool.{Bool, true, false, ◌&&◌}
use mathlib.Core.List.{List}
use Prim.Native.Nat.{ℕ, zero, suc, ◌≤◌, ◌<◌}
use native.Mathlib.Omega.{arith}
use lib.Dec.{leb}
use lib.ListN.{length}
use borrow.Author.Tests.{lt-leb}
use Rattle.cows.specs.Terms.{Basic, nil, kill, invoke, Prefix, receive, wait, protection, delimitation, replication, Join, choice, parallel, Term, leaf, under, both, below}
use Rattle.cows.specs.Kinds.{Node, basic, prefix, join, root, kind, kind_of, children_of, live_kind, ready_kind, guard_kind, floats_over, open_kinds}
use Rattle.cows.specs.Places.{Frame, inside, left_of, right_of, passed, plug}
use Rattle.cows.specs.Format.{bytes2, byte, layout, write_fields, record16}
use Rattle.cows.specs.Moves.{map_basic, map_prefix, map_node, lower}
use Rattle.cows.proofs.Basics.{never, and_none}

-- the unknown kinds, from 10 on
abbrev pub unknown : ℕ → ℕ
unknown n = suc (suc (suc (suc (suc (suc (suc (suc (suc (suc n)))))))))

-- What holds of the ten kinds and of every unknown one holds of all.
pub kind-cases : (P : ℕ → Type 0) → P 0 × P 1 × P 2 × P 3 × P 4 × P 5 × P 6 × P 7 × P 8 × P 9 → ((n : ℕ) → P (unknown n)) → (k : ℕ) → P k
kind-cases P rows rest zero = rows.0
kind-cases P rows rest (suc zero) = rows.1
kind-cases P rows rest (suc (suc zero)) = rows.2
kind-cases P rows rest (suc (suc (suc zero))) = rows.3
kind-cases P rows rest (suc (suc (suc (suc zero)))) = rows.4
kind-cases P rows rest (suc (suc (suc (suc (suc zero))))) = rows.5
kind-cases P rows rest (suc (suc (suc (suc (suc (suc zero)))))) = rows.6
kind-cases P rows rest (suc (suc (suc (suc (suc (suc (suc zero))))))) = rows.7
kind-cases P rows rest (suc (suc (suc (suc (suc (suc (suc (suc zero)))))))) = rows.8
kind-cases P rows rest (suc (suc (suc (suc (suc (suc (suc (suc (suc zero))))))))) = rows.9
kind-cases P rows rest (suc (suc (suc (suc (suc (suc (suc (suc (suc (suc n)))))))))) = rest n

-- A range of kinds, as code tests it, is a column of the table; no unknown kind is in either.
module _ (low top : ℕ) (P : ℕ → Bool) where
  abbrev In : ℕ → Type 0
  In k = (leb low k && leb k top) ≡ P k

  pub kind-range : top < 10 → In 0 × In 1 × In 2 × In 3 × In 4 × In 5 × In 6 × In 7 × In 8 × In 9 → ((n : ℕ) → P (unknown n) ≡ false) → (k : ℕ) → In k
  kind-range h rows none = kind-cases In rows (λ n. rw (lt-leb (unknown n) top (omega arith), none n) (and_none (leb low (unknown n))))

-- What holds whatever is written in the fields holds of a record: so of its first byte, and of its length.
by_fields : (P : List ℕ → Type 0) (write : ℕ → ℕ → List ℕ → ℕ → List ℕ) → ((a b : ℕ) (ws : List ℕ) (i : ℕ) → P (write a b ws i)) → (n : Node) → P (write_fields n write)
by_fields P write h (basic nil) = h _ _ _ _
by_fields P write h (basic (kill k)) = h _ _ _ _
by_fields P write h (basic (invoke p o ws)) = h _ _ _ _
by_fields P write h (prefix (receive p o ws)) = h _ _ _ _
by_fields P write h (prefix (wait n)) = h _ _ _ _
by_fields P write h (prefix protection) = h _ _ _ _
by_fields P write h (prefix (delimitation d)) = h _ _ _ _
by_fields P write h (prefix replication) = h _ _ _ _
by_fields P write h (join j) = h _ _ _ _

pub record_kind : (n : Node) → byte (record16 n) 0 ≡ kind n
unfolding byte record16 layout
record_kind n = by_fields (λ r. byte r 0 ≡ kind n) (layout (kind n)) (λ a b ws i. refl) n

pub length_record16 : (n : Node) → length (record16 n) ≡ 16
unfolding record16 layout bytes2
length_record16 n = by_fields (λ r. length r ≡ 16) (layout (kind n)) (λ a b ws i. refl) n

-- the kind of what a frame makes is that of the record passed
pub plug-kind : (f : Frame) (s : Term) → kind_of (plug f s) ≡ kind (passed f)
unfolding passed plug kind_of root
plug-kind (inside u) s = refl
plug-kind (left_of j t) s = refl
plug-kind (right_of j t) s = refl

-- the row's children are those that a term has
pub children-leaf : (x : Basic) → children_of (kind (basic x)) ≡ 0
unfolding open_kinds
children-leaf nil = refl
children-leaf (kill k) = refl
children-leaf (invoke p o ws) = refl

pub children-under : (u : Prefix) → children_of (kind (prefix u)) ≡ 1
unfolding open_kinds
children-under (receive p o ws) = refl
children-under (wait n) = refl
children-under protection = refl
children-under (delimitation d) = refl
children-under replication = refl

pub children-both : (j : Join) → children_of (kind (join j)) ≡ 2
unfolding open_kinds
children-both choice = refl
children-both parallel = refl

abbrev pub arity : Term → ℕ
arity (leaf x) = 0
arity (under u t) = 1
arity (both j s t) = 2

pub children_of_lem : (t : Term) → children_of (kind_of t) ≡ arity t
unfolding kind_of root
children_of_lem (leaf x) = children-leaf x
children_of_lem (under u t) = children-under u
children_of_lem (both j s t) = children-both j

pub children_few : (k : ℕ) → children_of k ≤ 2
unfolding open_kinds
children_few =
    kind-cases (λ k. children_of k ≤ 2)
    (omega arith, omega arith, omega arith, omega arith, omega arith, omega arith, omega arith, omega arith, omega arith, omega arith) (λ n. omega arith)

-- from 3 on every kind has a child
pub children-some : (k : ℕ) → 3 ≤ k → 1 ≤ children_of k
unfolding open_kinds
children-some =
    kind-cases (λ k. 3 ≤ k → 1 ≤ children_of k)
    (λ h. omega arith, λ h. omega arith, λ h. omega arith, λ h. omega arith, λ h. omega arith, λ h. omega arith, λ h. omega arith, λ h. omega arith, λ h. omega arith, λ h. omega arith)
    (λ n h. omega arith)

-- what the way to a live record may pass, that to a ready one may
pub live-ready-kind : (k : ℕ) → live_kind k ≡ true → ready_kind k ≡ true
unfolding open_kinds
live-ready-kind =
    kind-cases (λ k. live_kind k ≡ true → ready_kind k ≡ true)
    (λ e. e, λ e. e, λ e. e, λ e. e, λ e. e, λ e. e, λ e. e, λ e. e, λ e. e, λ e. refl) (λ n e. e)

-- what a delimitation may float over is no guard
pub floats_guard : (k : ℕ) → floats_over k ≡ true → guard_kind k ≡ false
unfolding open_kinds
floats_guard =
    kind-cases (λ k. floats_over k ≡ true → guard_kind k ≡ false)
    (never, λ e. refl, λ e. refl, never, never, never, λ e. refl, λ e. refl, λ e. refl, λ e. refl) (λ n e. refl)

-- a term by the number of its children
pub no_child : (t : Term) → children_of (kind_of t) ≡ 0 → (x : Basic) × (t ≡ leaf x)
no_child (leaf x) e = (x, refl)
no_child (under u t) e = absurd (omega (arith, children_of_lem (under u t)))
no_child (both j s t) e = absurd (omega (arith, children_of_lem (both j s t)))

pub one_child : (t : Term) → children_of (kind_of t) ≡ 1 → (u : Prefix) × (t ≡ under u (below t))
unfolding below
one_child (leaf x) e = absurd (omega (arith, children_of_lem (leaf x)))
one_child (under u t) e = (u, refl)
one_child (both j s t) e = absurd (omega (arith, children_of_lem (both j s t)))

-- atoms that change and intervals that fall leave the kind
pub mapped-kind : (f : ℕ → ℕ) (n : Node) → kind (map_node f n) ≡ kind n
unfolding map_node map_basic map_prefix
mapped-kind f (basic nil) = refl
mapped-kind f (basic (kill k)) = refl
mapped-kind f (basic (invoke p o ws)) = refl
mapped-kind f (prefix (receive p o ws)) = refl
mapped-kind f (prefix (wait n)) = refl
mapped-kind f (prefix protection) = refl
mapped-kind f (prefix (delimitation d)) = refl
mapped-kind f (prefix replication) = refl
mapped-kind f (join j) = refl

pub lowered_kind : (d : ℕ) (u : Prefix) → kind (prefix (lower d u)) ≡ kind (prefix u)
unfolding lower
lowered_kind d (receive p o ws) = refl
lowered_kind d (wait n) = refl
lowered_kind d protection = refl
lowered_kind d (delimitation a) = refl
lowered_kind d replication = refl
