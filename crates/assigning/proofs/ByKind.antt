-- What a record says of the roles (specs/Assigning, noted; roles, specs/Roles, live_role), by the bytes of its kind and its fields.
use mathlib.Core.Path.{◌≡◌, refl, sym, ap, subst, ◌∙◌}
use mathlib.Core.Logic.{◌≢◌}
use mathlib.Core.Bool.{Bool, false, cond, ◌&&◌}
use mathlib.Core.List.{List}
use Prim.Native.Nat.{ℕ, ◌+◌, ◌*◌, ◌-◌, ◌/◌, ◌≤◌, ◌<◌}
use native.Mathlib.Omega.{arith}
use lib.Dec.{ltb, leb, eqb}
use lib.ListN.{length, get_or, set}
use Rattle.cows.specs.Terms.{nil, kill, invoke, receive, wait, protection, delimitation, replication, Term, leaf, under, both, size, label, below}
use Rattle.cows.specs.Kinds.{root, kind_of}
use Rattle.cows.specs.Places.{sub}
use Rattle.cows.specs.Format.{word, record16}
use Rattle.cows.specs.Within.{Right, Within}
use Rattle.cows.proofs.Fields.{kind_is, kind-receive, kind-wait, kind-delimitation, first-delimitation, interval-wait}
use Rattle.cows.proofs.Sets.{value-range, variable-range, label-range, set_case}
use Rattle.cows.proofs.Stands.{right_at}
use Rattle.cows.proofs.Basics.{not_so}
use Rattle.records.specs.Atoms.{closed_at}
use Rattle.records.specs.Holds.{Holds}
use Rattle.records.proofs.StandsIn.{holds_size, holds_kind, holds_word}
use Rattle.matching.proofs.Parties.{invoke_here}
use Rattle.matching.proofs.Matches.{closed_ends}
use Rattle.holding.proofs.Marking.{kill_at_lem}
use Rattle.roles.specs.declared.Role.{Role}
use Rattle.roles.specs.declared.Role.TheVariants.{Idle, Kill, Timeout, Unfold, Extrude, Sender, Receiver, Rival, Holder}
use Rattle.roles.specs.Roles.{unheld, behind_of, ready_role, live_role, role_if}
use Rattle.assigning.specs.Assigning.{noted}
use Rattle.assigning.proofs.Noting.{kill_scope_lem, noted_other}

module _ (s : List ℕ) (t : Term) (h : Holds s t) (i : ℕ) (l : i < length s / 16) where
  inside : i < size t
  inside = omega (arith, holds_size s t h)

  of_kind : (k : ℕ) → get_or s (16 * i) 0 ≡ k → kind_of (sub t i) ≡ k
  of_kind k e = sym (holds_kind s t i h inside) ∙ e

  other_kind : (k : ℕ) → get_or s (16 * i) 0 ≢ k → kind_of (sub t i) ≢ k
  other_kind k e q = e (holds_kind s t i h inside ∙ q)

  field : (k : ℕ) → k < 15 → {c : Term} → sub t i ≡ c → word s (16 * i + k) ≡ word (record16 (root c)) k
  field k m e = holds_word s t i k h inside m ∙ ap (λ c. word (record16 (root c)) k) e

  -- a kill of k, whose delimitation ends before place b
  module _ (e : get_or s (16 * i) 0 ≡ 1) where
    module _ (k : ℕ) (at : k ≡ word s (16 * i + 2)) (b : ℕ) (behind : b ≡ behind_of t k) where
      pub kill-behind : Within t → (1 ≤ b) × (b ≤ length s / 16)
      kill-behind w = let (q, m, n, d) = kill_scope_lem t w i k inside (kill_at_lem s t i h inside e k at) in (omega arith, omega (arith, holds_size s t h))

      pub noted-kill : (cast : List Role) → set cast (b - 1) Holder ≡ noted t i (root (sub t i)) cast
      unfolding noted root
      noted-kill cast = rw (kill_at_lem s t i h inside e k at, behind)

  pub noted-receive : get_or s (16 * i) 0 ≡ 3 → (cast : List Role) → set cast i Rival ≡ noted t i (root (sub t i)) cast
  unfolding noted root
  noted-receive e cast = let (p, o, ws, q) = kind-receive (sub t i) (of_kind 3 e) in rw q

  pub noted-none : get_or s (16 * i) 0 ≢ 1 → get_or s (16 * i) 0 ≢ 3 → (cast : List Role) → cast ≡ noted t i (root (sub t i)) cast
  noted-none a b cast = noted_other t i cast (sub t i) (other_kind 1 a) (other_kind 3 b)

  -- the role of the record if it is live
  abbrev pub IsRole : Role → Type 0
  IsRole r = r ≡ live_role t i (root (sub t i))

  by_node : {c : Term} {r : Role} → sub t i ≡ c → r ≡ live_role t i (root c) → IsRole r
  by_node q e = e ∙ ap (λ c. live_role t i (root c)) (sym q)

  pub live-receive : get_or s (16 * i) 0 ≡ 3 → (free : Bool) → free ≡ unheld t i → IsRole (cond free Receiver Rival)
  unfolding live_role root
  live-receive e free f = let (p, o, ws, q) = kind-receive (sub t i) (of_kind 3 e) in by_node q (rw f)

  pub live-invoke : get_or s (16 * i) 0 ≡ 2 → (free closed : Bool) → free ≡ unheld t i → closed ≡ closed_at s (16 * i) → IsRole (role_if (free && closed) Sender)
  unfolding live_role root
  live-invoke e free closed f c = let (m, q, k) = invoke_here s t i h inside (of_kind 2 e) in by_node q (rw (f, c, closed_ends s i m k))

  -- a delimitation of d
  module _ (e : get_or s (16 * i) 0 ≡ 8) (d : ℕ) (at : d ≡ word s (16 * i + 2)) where
    delimitation_at : sub t i ≡ under (delimitation d) (below (sub t i))
    delimitation_at =
        let (c, q) = kind-delimitation (sub t i) (of_kind 8 e) in
        q ∙ ap (λ n. under (delimitation n) (below (sub t i))) (sym (at ∙ (field 2 (omega arith) q ∙ first-delimitation c (below (sub t i)))))

    pub live-label : 49152 ≤ d → (old : Role) → old ≡ ready_role t i → IsRole old
    unfolding live_role root
    live-label m old o =
        set_case (IsRole old) d (subst Right delimitation_at (right_at t i h.right)).0
        (λ v. absurd (omega (arith, value-range d v)))
        (λ v. absurd (omega (arith, variable-range d v)))
        (λ v. by_node delimitation_at (rw v o))

    pub live_scope : d < 49152 → IsRole (role_if (ltb 0 i) Extrude)
    unfolding live_role root
    live_scope m = let no : label d ≡ false = not_so (λ v. omega (arith, label-range d v)) in by_node delimitation_at (rw no)

  pub live-wait : get_or s (16 * i) 0 ≡ 4 → (n : ℕ) → n ≡ word s (16 * i + 14) → IsRole (role_if (eqb n 0) Timeout)
  unfolding live_role root
  live-wait e n at = let (m, q) = kind-wait (sub t i) (of_kind 4 e) in by_node q (rw (at ∙ (field 14 (omega arith) q ∙ interval-wait m (below (sub t i)))))

  pub live-kill : get_or s (16 * i) 0 ≡ 1 → IsRole Kill
  unfolding live_role root
  live-kill e = by_node (kill_at_lem s t i h inside e _ refl) refl

  pub live-replication : get_or s (16 * i) 0 ≡ 9 → (n : ℕ) → n ≡ size (sub t i) → IsRole (role_if (leb (length s / 16 + n) 2048) Unfold)
  unfolding live_role root
  live-replication e n is = by_node (kind_is 9 (sub t i) (of_kind 9 e)) (rw (holds_size s t h, is))

  -- a nil, a protection, a choice and a parallel have none
  pub live-none : (k : ℕ) → get_or s (16 * i) 0 ≡ k → k ≢ 3 → k ≢ 2 → k ≢ 8 → k ≢ 4 → k ≢ 1 → k ≢ 9 → IsRole Idle
  unfolding live_role kind_of root
  live-none k e a b c d f g = go (sub t i) (of_kind k e)
    where
      go : (u : Term) → kind_of u ≡ k → Idle ≡ live_role t i (root u)
      go (leaf nil) q = refl
      go (leaf (kill n)) q = absurd (f (sym q))
      go (leaf (invoke p o ws)) q = absurd (b (sym q))
      go (under (receive p o ws) u) q = absurd (a (sym q))
      go (under (wait n) u) q = absurd (d (sym q))
      go (under protection u) q = refl
      go (under (delimitation n) u) q = absurd (c (sym q))
      go (under replication u) q = absurd (g (sym q))
      go (both j u v) q = refl
