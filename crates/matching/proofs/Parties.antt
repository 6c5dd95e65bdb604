-- The endpoint and the tuple of a receive and of an invoke, by the bytes of its record.
use mathlib.Core.Path.{◌≡◌, ap, subst, ◌∙◌}
use mathlib.Core.List.{List}
use Prim.Native.Nat.{ℕ, ◌+◌, ◌*◌, ◌≤◌, ◌<◌}
use native.Mathlib.Omega.{arith}
use lib.ListN.{length, get_or}
use Rattle.cows.specs.Terms.{Term, leaf, under, Action, size, receive_of, invoke_of, below}
use Rattle.cows.specs.Kinds.{root, kind_of}
use Rattle.cows.specs.Places.{sub}
use Rattle.cows.specs.Format.{byte, word, layout, record16}
use Rattle.cows.specs.Within.{Right}
use Rattle.cows.proofs.Fields.{kind-receive, kind-invoke, byte_at, layout-first, layout_second, layout-slot}
use Rattle.cows.proofs.Stands.{right_at}
use Rattle.records.specs.Holds.{Holds}
use Rattle.records.proofs.StandsIn.{holds_word}
use Rattle.matching.specs.Matching.{ActionAt}

module _ (s : List ℕ) (t : Term) (j : ℕ) (h : Holds s t) (l : j < size t) where
  layout_ends : (q : Action) (k : ℕ) → record16 (root (sub t j)) ≡ layout k q.partner q.operation q.tuple 0 → length q.tuple ≤ 4 → ActionAt s j q
  unfolding byte layout
  layout_ends q k e f =
      record {
        partner = field 2 (omega arith) ∙ layout-first k q.partner q.operation 0 q.tuple;
        operation = field 4 (omega arith) ∙ layout_second k q.partner q.operation 0 q.tuple;
        few = f;
        count = ap (λ b. byte b (16 * j + 1)) h.is ∙ (byte_at t j 1 l (omega arith) ∙ ap (λ b. byte b 1) e);
        slot0 = field 6 (omega arith) ∙ slot 0 (omega arith);
        slot1 = field 8 (omega arith) ∙ slot 1 (omega arith);
        slot2 = field 10 (omega arith) ∙ slot 2 (omega arith);
        slot3 = field 12 (omega arith) ∙ slot 3 (omega arith);
      }
    where
      field : (i : ℕ) → i < 15 → word s (16 * j + i) ≡ word (layout k q.partner q.operation q.tuple 0) i
      field i x = holds_word s t j i h l x ∙ ap (λ b. word b i) e

      slot : (m : ℕ) → m < 4 → word (layout k q.partner q.operation q.tuple 0) (6 + 2 * m) ≡ get_or q.tuple m 0
      slot m x = layout-slot k q.partner q.operation 0 q.tuple m x

  pub receive_ends : (q : Action) (c : Term) → sub t j ≡ under (receive_of q) c → ActionAt s j q
  unfolding record16 root
  receive_ends q c e = layout_ends q 3 (ap (λ x. record16 (root x)) e) (subst Right e (right_at t j h.right)).0.2.0

  pub invoke_ends : (q : Action) → sub t j ≡ leaf (invoke_of q) → ActionAt s j q
  unfolding record16 root
  invoke_ends q e = layout_ends q 2 (ap (λ x. record16 (root x)) e) (subst Right e (right_at t j h.right)).2.0

  -- by the record's kind
  pub receive_here : kind_of (sub t j) ≡ 3 → (q : Action) × (sub t j ≡ under (receive_of q) (below (sub t j))) × ActionAt s j q
  receive_here e = let (p, o, ws, z) = kind-receive (sub t j) e in (record { partner = p; operation = o; tuple = ws }, z, receive_ends _ (below (sub t j)) z)

  pub invoke_here : kind_of (sub t j) ≡ 2 → (q : Action) × (sub t j ≡ leaf (invoke_of q)) × ActionAt s j q
  invoke_here e = let (p, o, ws, z) = kind-invoke (sub t j) e in (record { partner = p; operation = o; tuple = ws }, z, invoke_ends _ z)
