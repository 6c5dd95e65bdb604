-- The walk over the live records: before place i every place has its role, from i on the one that the ready records give.
use mathlib.Core.Path.{◌≡◌, refl, sym, subst, ◌∙◌}
use mathlib.Core.Bool.{Bool, true, false, cond}
use mathlib.Core.List.{List}
use Prim.Native.Nat.{ℕ, ◌+◌, ◌*◌, ◌/◌, ◌≤◌, ◌<◌, max}
use native.Mathlib.Omega.{arith}
use native.Mathlib.Numerals.{add-one}
use lib.Dec.{ltb, leb}
use lib.ListN.{length, get_or, set}
use lib.Seq.{get_or-set_same, get_or-set_other}
use borrow.Author.Tests.{lt-ltb, le-ltb}
use Rattle.cows.specs.Terms.{Term, size}
use Rattle.cows.specs.Kinds.{live_kind, root}
use Rattle.cows.specs.Places.{way_to, sub}
use Rattle.cows.specs.Within.{Within}
use Rattle.cows.specs.Active.{live}
use Rattle.cows.proofs.Basics.{eq_case, lt_case}
use Rattle.ways.specs.Known.{Table}
use Rattle.ways.proofs.KnownTables.{table_size, table_ended, table_inside}
use Rattle.ways.proofs.Seeking.{seeking_start}
use Rattle.roles.specs.declared.Role.{Role}
use Rattle.roles.specs.declared.Role.TheVariants.{Idle, Rival, Holder}
use Rattle.roles.specs.Roles.{is_role, role_at, unheld, holding, held_until, furthest, rivalling, ready_role, live_role, role_of}
use Rattle.assigning.proofs.Holding.{Held, held_past, unheld_walk, held_at, held_through, held_over}
use Rattle.assigning.proofs.Turns.{Strides, Turn, turn_through, turn_over}

-- after the ready records, the role says that a place holds back
holder_is : (t : Term) (i : ℕ) → is_role (ready_role t i) Holder ≡ holding t i
unfolding ready_role
holder_is t i = go (holding t i) (rivalling t i)
  where
    go : (a b : Bool) → is_role (cond a Holder (cond b Rival Idle)) Holder ≡ a
    go true b = refl
    go false true = refl
    go false false = refl

-- The walk is at place i, and knows `held`.
pub record Living (t : Term) (i held : ℕ) (cast : List Role) : Type 0 where
  pub walk : Strides live_kind t i
  pub reach : Held t i held
  pub roles : (n : ℕ) → n < size t → role_at cast n ≡ cond (ltb n i) (role_of t n) (ready_role t n)

pub living_start : (t : Term) (cast : List Role) → ((n : ℕ) → n < size t → role_at cast n ≡ ready_role t n) → Living t 0 0 cast
unfolding held_until furthest
living_start t cast h = record {
  walk = seeking_start _ _ t;
  reach = record { low = omega arith; high = omega arith };
  roles = λ n l. rw (le-ltb n 0 (omega arith)) (h n l);
}

pub living_end : (t : Term) (i held : ℕ) (cast : List Role) → Living t i held cast → size t ≤ i → (n : ℕ) → n < size t → role_at cast n ≡ role_of t n
living_end t i held cast h l n m = h.roles n m ∙ rw (lt-ltb n i (omega arith))

module _ (t : Term) (i held : ℕ) (cast : List Role) (g : Living t i held cast) (l : i < size t) where
  here : live (way_to t i) ≡ true
  unfolding live
  here = g.walk.active l

  living_old : role_at cast i ≡ ready_role t i
  living_old = g.roles i l ∙ rw (le-ltb i i (omega arith))

  living_free : Within t → leb held i ≡ unheld t i
  living_free w = sym (unheld_walk t w i l here ∙ held_at t i held g.reach)

  -- what is known behind the record at place i, which ends there
  living_past : (end : ℕ) → end ≡ i + size (sub t i) → cond (is_role (role_at cast i) Holder) (max held end) held ≡ held_past t i held
  living_past end e = rw (e, living_old, holder_is t i)

  module _ (j : ℕ) (h : Turn live_kind t i j) (room : size t ≤ length cast) (r : Role) (is : r ≡ live_role t i (root (sub t i))) where
    -- what is passed over is not live
    same_role : (n : ℕ) → (n ≡ i → ⊥) → cond (ltb n i) (role_of t n) (ready_role t n) ≡ cond (ltb n j) (role_of t n) (ready_role t n)
    unfolding role_of live
    same_role n z =
        lt_case (cond (ltb n i) (role_of t n) (ready_role t n) ≡ cond (ltb n j) (role_of t n) (ready_role t n)) n i
        (λ a. rw (lt-ltb n i a, lt-ltb n j (omega (arith, h.on))))
        (λ a. lt_case (cond (ltb n i) (role_of t n) (ready_role t n) ≡ cond (ltb n j) (role_of t n) (ready_role t n)) n j
        (λ b. rw (le-ltb n i a, lt-ltb n j b, h.shut n (lt_case (i < n) i n (λ c. c) (λ c. absurd (z (omega arith)))) b))
        (λ b. rw (le-ltb n i a, le-ltb n j b)))

    living_turn : (further : ℕ) → Held t j further → Living t j further (set cast i r)
    unfolding role_of
    living_turn further k = record {
      walk = h.walk;
      reach = k;
      roles = λ n m.
          eq_case (role_at (set cast i r) n ≡ cond (ltb n j) (role_of t n) (ready_role t n)) n i
          (λ z. rw (z, lt-ltb i j h.on, here) (get_or-set_same cast i r Idle (omega arith) ∙ is))
          (λ z. get_or-set_other cast i n r Idle z ∙ (g.roles n m ∙ same_role n z));
    }

-- A turn on a table, by the kind that the code has tested, where the code has found the role r and knows `further`.
module _ (s ends : List ℕ) (t : Term) (h : Table s ends t) (i : ℕ) (l : i < length s / 16) (held : ℕ) (cast : List Role) (room : length s / 16 ≤ length cast) (g : Living t i held cast)
    (r : Role) (is : leb held i ≡ unheld t i → role_at cast i ≡ ready_role t i → r ≡ live_role t i (root (sub t i))) (end : ℕ) (at : end ≡ get_or ends i 0) (further : ℕ) (knows : further ≡ cond (is_role (role_at cast i) Holder) (max held end) held)
    {b : Bool} (kind : b ≡ live_kind (get_or s (16 * i) 0)) where
  inside : i < size t
  inside = table_inside s ends t h i l

  past : further ≡ held_past t i held
  past = knows ∙ living_past t i held cast g inside end (at ∙ table_ended s ends t h i inside)

  turned : (j : ℕ) → Turn live_kind t i j → Held t j (held_past t i held) → Living t j further (set cast i r)
  turned j u k =
      living_turn t i held cast g inside j u (omega (arith, table_size s ends t h)) r (is (living_free t i held cast g inside h.within) (living_old t i held cast g inside))
      further (subst (Held t j) (sym past) k)

  pub living_through : b ≡ true → Living t (i + 1) further (set cast i r)
  living_through e = turned (i + 1) (turn_through s ends t h i l live_kind g.walk kind e) (rw (add-one i) (held_through t i held g.reach))

  pub living_over : b ≡ false → Living t end further (set cast i r)
  living_over e =
      turned end (turn_over s ends t h i l live_kind g.walk kind e end at)
      (rw (at, table_ended s ends t h i inside) (held_over t i held g.reach inside))
