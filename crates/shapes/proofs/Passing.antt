-- The pass over a table: what is known from place i on, a turn, and the end of the pass.
use mathlib.Core.Path.{◌≡◌, refl, sym, ap, subst, ◌∙◌}
use mathlib.Core.Bool.{false, not, ◌&&◌, ◌||◌}
use mathlib.Core.List.{List}
use Prim.Native.Nat.{ℕ, suc, ◌+◌, ◌*◌, ◌-◌, ◌/◌, ◌%◌, ◌≤◌, ◌<◌}
use native.Mathlib.Omega.{arith}
use lib.Bits.{bit_and}
use lib.Dec.{leb, ltb, eqb}
use lib.ListN.{length, get_or, set}
use mir.Val.{bool_byte}
use borrow.Author.Tests.{ltb-false, eqb-true, not-false}
use Rattle.cows.specs.Kinds.{children_of}
use Rattle.cows.proofs.Basics.{or_false}
use Rattle.records.specs.Ends.{pick_end, EndsFrom}
use Rattle.records.proofs.StandsIn.{whole_stands}
use Rattle.records.proofs.Shapes.{ends_start}
use Rattle.shapes.specs.Shaped.{pick_height, Masks, Shaped}
use Rattle.shapes.proofs.Picking.{of_kind, masked, masked_small}
use Rattle.shapes.proofs.Stacks.{Entry, Stacked, stack_turn, stacked_first, stacked_second}
use Rattle.shapes.proofs.Backwards.{ListedFrom, ends_turn, one_kind, back_none, back_turn, back_all}

-- From place i on: k terms on the stack, the first of which has the number v; the ends; m delimitations and u users. `end` and `high` are here for `omega`.
pub record Passed (s ends stack marks users : List ℕ) (k v m u i : ℕ) : Type 0 where
  pub few : k + i ≤ length s / 16
  pub low : k ≤ 256
  pub end : v % 65536 ≤ 2048
  pub high : v / 65536 ≤ 2048
  pub stacked : Stacked s stack k (v % 65536) (v / 65536) i
  pub known : EndsFrom s ends i
  pub mark : ListedFrom s 8 8 marks i m
  pub user : ListedFrom s 1 3 users i u

pub pass_start : (s ends stack marks users : List ℕ) → length s / 16 ≤ 2048 → length s / 16 + 1 < length ends
    → Passed s (set (set ends (length s / 16 + 1) (length s / 16 + 1)) (length s / 16) (length s / 16 + 1)) stack marks users 0 0 0 0 (length s / 16)
unfolding Stacked
pass_start s ends stack marks users few room =
    record {
      few = omega arith;
      low = omega arith;
      end = omega arith;
      high = omega arith;
      stacked = refl;
      known = ends_start s ends few room;
      mark = back_none s 8 8 marks;
      user = back_none s 1 3 users;
    }

-- The record at place j has c children; w is its number, and n one more than the terms that are then on the stack.
module _ (s ends stack marks users : List ℕ) (k v m u j : ℕ) (p : Passed s ends stack marks users k v m u (suc j)) (c n : ℕ) (kind : c ≡ children_of (get_or s (16 * j) 0)) (two : c ≤ 2)
    (count : n + c ≡ k + 2) (lo : 2 ≤ n) (hi : n ≤ 257) where
  abbrev a : ℕ
  a = pick_end c (j + 1) (v % 65536) (get_or stack k 0 % 65536)

  abbrev b : ℕ
  b = pick_height c (v / 65536) (get_or stack k 0 / 65536)

  -- the number of the second child, if there is one, is small
  pub second_small : 1 < c → get_or stack k 0 < 268435456
  second_small l = let x = stacked_second s stack k (v % 65536) (v / 65536) (suc j) p.stacked (omega arith) in omega (arith, x.small, x.inside, p.known.few)

  pub pass_turn : k + 1 < length stack → m < length marks → u < length users
      → (w : ℕ) → w ≡ a + 65536 * b
      → Passed s (set ends j (w % 65536)) (set stack (k + 1) v) (set marks m j) (set users u j) (n - 1) w
      (m + bool_byte (eqb (get_or s (16 * j) 0) 8)) (u + bool_byte (leb 1 (get_or s (16 * j) 0) && leb (get_or s (16 * j) 0) 3)) j
  pass_turn roomy more most w is =
      record {
        few = omega (arith, p.few);
        low = omega arith;
        end = omega (arith, top.inside, p.known.few, parts);
        high = omega (arith, top.small, top.inside, p.known.few, parts);
        stacked = rw (parts.0, parts.1) turned;
        known = ends_turn s ends j (w % 65536) p.known (omega (arith, p.few)) (parts.0 ∙ top.end);
        mark = back_turn s 8 8 marks j m more _ (one_kind (get_or s (16 * j) 0) 8) p.mark;
        user = back_turn s 1 3 users j u most _ refl p.user;
      }
    where
      turned : Stacked s (set stack (k + 1) v) (n - 1) a b j
      turned =
          let x : v ≡ v % 65536 + 65536 * (v / 65536) = omega arith in
          let y : k + 1 ≡ suc k = omega arith in
          let z : j + 1 ≡ suc j = omega arith in
          subst (λ q. Stacked s (set stack (k + 1) q) (n - 1) a b j) (sym x)
          (rw (y, z) (stack_turn s stack k (v % 65536) (v / 65536) j c n p.stacked (omega (arith, p.few)) kind two count lo (omega arith) (omega (arith, p.end))))

      top : Entry s j a b
      top = stacked_first s (set stack (k + 1) v) (n - 1) a b j turned (omega arith)

      parts : (w % 65536 ≡ a) × (w / 65536 ≡ b)
      parts = let l = top.inside in let f = p.known.few in (omega (arith, is, l, f), omega (arith, is, l, f))

-- the test: there are terms enough, and room for them
pub in_room : (n : ℕ) → (ltb n 2 || ltb 257 n) ≡ false → (2 ≤ n) × (n ≤ 257)
in_room n e = let (lo, hi) = or_false (ltb n 2) (ltb 257 n) e in (ltb-false n 2 lo, ltb-false 257 n hi)

-- The record at place i - 1 is of kind w: what its mask leaves of the number below is small, and a turn by the number that is picked.
module _ (s ends stack marks users : List ℕ) (k v m u i : ℕ) (p : Passed s ends stack marks users k v m u i) (some : 0 < i) (w : ℕ) (here : w ≡ get_or s (16 * (i - 1)) 0) (known : w < 10)
    (room : (ltb (k + (of_kind w).more) 2 || ltb 257 (k + (of_kind w).more)) ≡ false) where
  behind : Passed s ends stack marks users k v m u (suc (i - 1))
  behind = let z : i ≡ suc (i - 1) = omega arith in rw z at p

  pub small_below : bit_and (get_or stack k 0) (of_kind w).second < 268435456
  small_below =
      let (count, masks) = masked w known in
      let (lo, hi) = in_room (k + (of_kind w).more) room in
      masked_small _ (children_of w) _ _ _ masks
      (second_small s ends stack marks users k v m u (i - 1) behind (children_of w) (k + (of_kind w).more) (ap children_of here) masks.0 (omega arith) lo hi)

  pub kind_turn : k + 1 < length stack → m < length marks → u < length users → (x : ℕ)
      → ((c : ℕ) → Masks c (of_kind w).behind (of_kind w).first (of_kind w).second
      → x ≡ pick_end c (i - 1 + 1) (v % 65536) (get_or stack k 0 % 65536) + 65536 * pick_height c (v / 65536) (get_or stack k 0 / 65536))
      → Passed s (set ends (i - 1) (x % 65536)) (set stack (k + 1) v) (set marks m (i - 1)) (set users u (i - 1)) (k + (of_kind w).more - 1) x
      (m + bool_byte (eqb (get_or s (16 * (i - 1)) 0) 8)) (u + bool_byte (leb 1 (get_or s (16 * (i - 1)) 0) && leb (get_or s (16 * (i - 1)) 0) 3)) (i - 1)
  kind_turn roomy more most x is =
      let (count, masks) = masked w known in
      let (lo, hi) = in_room (k + (of_kind w).more) room in
      pass_turn s ends stack marks users k v m u (i - 1) behind (children_of w) (k + (of_kind w).more) (ap children_of here) masks.0 (omega arith) lo hi roomy more most x (is (children_of w) masks)

pub pass_done : (s ends stack marks users : List ℕ) (v m u : ℕ) → Passed s ends stack marks users 1 v m u 0 → v / 65536 ≤ 256 → Shaped s ends marks users (v / 65536) m u
unfolding Stacked
pass_done s ends stack marks users v m u p low =
    let (top, last) = p.stacked in
    record {
      whole = sym top.end ∙ last;
      end = p.known;
      height = λ t x. top.height t (whole_stands t x.is);
      low = λ t x. omega (arith, top.height t (whole_stands t x.is));
      mark = back_all s 8 8 marks m p.mark;
      user = back_all s 1 3 users u p.user;
    }

-- the test at the end: one term is left, and it is not too high
pub accepted : (k h : ℕ) → (not (eqb k 1) || ltb 256 h) ≡ false → (k ≡ 1) × (h ≤ 256)
accepted k h e =
    let (one, low) = or_false (not (eqb k 1)) (ltb 256 h) e in
    (eqb-true k 1 (not-false (eqb k 1) one), ltb-false 256 h low)
