-- Laws of the directory: at the start it keeps 0 for each atom; to give out a page changes no number; a store changes that of one atom.
use mathlib.Core.Path.{◌≡◌, refl, sym, ap, ◌∙◌}
use mathlib.Core.Logic.{◌≢◌}
use mathlib.Core.Bool.{Bool, true, false}
use Rattle.std.specs.Prelude.{Some, None}
use mathlib.Core.List.{List, [], ◌∷◌}
use Prim.Native.Nat.{ℕ, zero, suc, ◌+◌, ◌/◌, ◌%◌, ◌≤◌, ◌<◌}
use native.Mathlib.Omega.{arith}
use lib.Dec.{ltb}
use lib.ListN.{length, get_or, set, replicate, length-set, length-replicate}
use lib.Seq.{get_or-set_same, get_or-set_other}
use borrow.Author.Tests.{lt-ltb}
use Rattle.cows.specs.Basics.{one_if}
use Rattle.cows.proofs.Basics.{eq_case, get_d_zeros}
use Rattle.scopes.specs.Scopes.{directory_slot, Paged, Keeps, given, GrowingDirectory, BlankDirectory, PageGiven}

-- the same numbers under another name
pub keeps_as : (pages marks : List ℕ) (f g : ℕ → ℕ) → ((a : ℕ) → f a ≡ g a) → Keeps pages marks f → Keeps pages marks g
keeps_as pages marks f g e k = record { kept = λ a l. k.kept a l ∙ e a; empty = λ a l h. sym (e a) ∙ k.empty a l h }

-- the number of pages given out
given-none : (ps : List ℕ) → ((i : ℕ) → get_or ps i 0 ≡ 0) → given ps ≡ 0
unfolding given
given-none [] h = refl
given-none (p ∷ ps) h = rw (h 0, given-none ps (λ i. h (suc i)))

given_most : (ps : List ℕ) → given ps ≤ length ps
unfolding given
given_most [] = omega arith
given_most (p ∷ ps) = go (ltb 0 p) (given_most ps)
  where
    go : (b : Bool) → given ps ≤ length ps → one_if b + given ps ≤ suc (length ps)
    go true h = omega arith
    go false h = omega arith

given_more : (ps : List ℕ) (p v : ℕ) → p < length ps → get_or ps p 0 ≡ 0 → 0 < v → given (set ps p v) ≡ suc (given ps)
unfolding given
given_more [] p v l e h = absurd (omega arith)
given_more (x ∷ ps) zero v l e h = rw (lt-ltb 0 v h, e) (omega arith)
given_more (x ∷ ps) (suc p) v l e h = rw (given_more ps p v (omega arith) e h) (omega arith)

pub growing_top : (pages marks : List ℕ) (top : ℕ) → GrowingDirectory pages marks top → top ≤ 65792
growing_top pages marks top g = omega (arith, g.count, given_most pages, g.paged.wide)

-- A page p that is not given out yet, and room for it.
module _ (pages marks : List ℕ) (top p : ℕ) (g : GrowingDirectory pages marks top) (l : p < 256) (e : get_or pages p 0 ≡ 0) where
  pub given-fewer : given pages < 256
  given-fewer = omega (arith, given_more pages p 1 (omega (arith, g.paged.wide)) e (omega arith), given_most (set pages p 1), length-set pages p 1, g.paged.wide)

  page_top : get_or (set pages p top) p 0 ≡ top
  page_top = get_or-set_same pages p top 0 (omega (arith, g.paged.wide))

  slot-new : (a : ℕ) → a / 256 ≡ p → directory_slot (set pages p top) a ≡ top + a % 256
  slot-new a h = rw (h, page_top)

  slot_old : (a : ℕ) → a / 256 ≢ p → directory_slot (set pages p top) a ≡ directory_slot pages a
  slot_old a h = rw (get_or-set_other pages p (a / 256) top 0 h)

  give_apart : (a b : ℕ) → a < 65536 → b < 65536 → 0 < get_or (set pages p top) (a / 256) 0 → directory_slot (set pages p top) a ≡ directory_slot (set pages p top) b → a ≡ b
  give_apart a b i j h k =
      eq_case (a ≡ b) (a / 256) p
      (λ x. eq_case (a ≡ b) (b / 256) p (λ y. omega (arith, slot-new a x, slot-new b y)) (λ y. absurd (omega (arith, slot-new a x, slot_old b y, g.below b j))))
      (λ x. eq_case (a ≡ b) (b / 256) p (λ y. absurd (omega (arith, slot_old a x, slot-new b y, g.below a i)))
      (λ y. g.paged.apart a b i j (rw (get_or-set_other pages p (a / 256) top 0 x) at h) (sym (slot_old a x) ∙ (k ∙ slot_old b y))))

  give_below : (a : ℕ) → a < 65536 → directory_slot (set pages p top) a < top + 256
  give_below a i =
      eq_case (directory_slot (set pages p top) a < top + 256) (a / 256) p (λ x. omega (arith, slot-new a x)) (λ x. omega (arith, slot_old a x, g.below a i))

  pub give : top + 256 ≤ length marks → GrowingDirectory (set pages p top) marks (top + 256)
  give r = record {
    paged = record {
      wide = length-set pages p top ∙ g.paged.wide;
      inside = λ a i. omega (arith, give_below a i);
      apart = give_apart;
    };
    fits = r;
    count = omega (arith, given_more pages p top (omega (arith, g.paged.wide)) e (omega (arith, g.count)), g.count);
    below = give_below;
    fresh = λ i h. g.fresh i (omega arith);
  }

  pub give_keeps : (f : ℕ → ℕ) → Keeps pages marks f → Keeps (set pages p top) marks f
  give_keeps f k = record {
    kept = λ a i. eq_case (get_or marks (directory_slot (set pages p top) a) 0 ≡ f a) (a / 256) p
        (λ x. ap (λ n. get_or marks n 0) (slot-new a x) ∙ (g.fresh (top + a % 256) (omega arith) ∙ sym (k.empty a i (ap (λ n. get_or pages n 0) x ∙ e))))
        (λ x. ap (λ n. get_or marks n 0) (slot_old a x) ∙ k.kept a i);
    empty = λ a i h. eq_case (f a ≡ 0) (a / 256) p
        (λ x. k.empty a i (ap (λ n. get_or pages n 0) x ∙ e)) (λ x. k.empty a i (rw (get_or-set_other pages p (a / 256) top 0 x) at h));
  }

-- what the answer of give_page says
Some_is : {x y : ℕ} → Some x ≡ Some y → x ≡ y
Some_is e = cc

None_not : {x : ℕ} → Some x ≡ None → ⊥
None_not e = cc

-- What it means to give out the page p of the atom a: it is there, there is no room for it, or it is new.
module _ (pages marks : List ℕ) (a top p : ℕ) (l : a < 65536) (is : p ≡ a / 256) (g : GrowingDirectory pages marks top) where
  pub page_there : get_or pages p 0 ≢ 0 → PageGiven pages pages marks a (Some top)
  page_there h = record { grows = λ x e. rw (← Some_is e) (g, rw (← is) (omega arith)); keeps = λ x e f k. k; full = λ e. absurd (None_not e); paged = g.paged }

  pub page_full : get_or pages p 0 ≡ 0 → length marks < top + 256 → PageGiven pages pages marks a None
  page_full e h = record {
    grows = λ x e'. absurd (None_not (sym e'));
    keeps = λ x e' f k. k;
    full = λ z. omega (arith, g.count, given-fewer pages marks top p g (omega arith) e);
    paged = g.paged;
  }

  pub page_new : get_or pages p 0 ≡ 0 → top + 256 ≤ length marks → PageGiven pages (set pages p top) marks a (Some (top + 256))
  page_new e h =
      let n = give pages marks top p g (omega arith) e h in record {
        grows = λ x e'. rw (← Some_is e') (n, rw (← is) (omega (arith, page_top pages marks top p g (omega arith) e, g.count)));
        keeps = λ x e'. give_keeps pages marks top p g (omega arith) e;
        full = λ z. absurd (None_not z);
        paged = n.paged;
      }

-- A store, wherever; a store at the slot of the atom a.
pub store_paged : (pages marks : List ℕ) (i v : ℕ) → Paged pages marks → Paged pages (set marks i v)
store_paged pages marks i v p = record { wide = p.wide; inside = λ b l. rw (length-set marks i v) (p.inside b l); apart = p.apart }

module _ (pages marks : List ℕ) (a v : ℕ) (l : a < 65536) where
  pub store_growing : (top : ℕ) → GrowingDirectory pages marks top → GrowingDirectory pages (set marks (directory_slot pages a) v) top
  store_growing top g = record {
    paged = store_paged pages marks (directory_slot pages a) v g.paged;
    fits = rw (length-set marks (directory_slot pages a) v) g.fits;
    count = g.count;
    below = g.below;
    fresh = λ i h. get_or-set_other marks (directory_slot pages a) i v 0 (λ e. omega (arith, g.below a l)) ∙ g.fresh i h;
  }

  pub store_keeps : (f f' : ℕ → ℕ) → Paged pages marks → 0 < get_or pages (a / 256) 0 → f' a ≡ v → ((b : ℕ) → b ≢ a → f' b ≡ f b)
      → Keeps pages marks f → Keeps pages (set marks (directory_slot pages a) v) f'
  store_keeps f f' p h same other k = record {
    kept = λ b i. eq_case (get_or (set marks (directory_slot pages a) v) (directory_slot pages b) 0 ≡ f' b) b a
        (λ e. rw e (get_or-set_same marks (directory_slot pages a) v 0 (p.inside a l) ∙ sym same))
        (λ e. get_or-set_other marks (directory_slot pages a) (directory_slot pages b) v 0 (λ z. e (sym (p.apart a b l i h (sym z)))) ∙ (k.kept b i ∙ sym (other b e)));
    empty = λ b i z. other b (λ e. omega (arith, ap (λ n. get_or pages (n / 256) 0) e)) ∙ k.empty b i z;
  }

-- The start.
module _ (pages marks : List ℕ) (b : BlankDirectory pages marks) where
  pub blank_growing : GrowingDirectory pages marks 256
  blank_growing = record {
    paged = record {
      wide = b.wide;
      inside = λ a i. omega (arith, b.none (a / 256), b.room);
      apart = λ a c i j h. absurd (omega (arith, b.none (a / 256)));
    };
    fits = b.room;
    count = omega (arith, given-none pages b.none);
    below = λ a i. omega (arith, b.none (a / 256));
    fresh = λ i h. b.fresh i;
  }

  pub blank_keeps : Keeps pages marks (λ a. 0)
  blank_keeps = record { kept = λ a i. b.fresh (directory_slot pages a); empty = λ a i h. refl }

pub blank_new : (n : ℕ) → 256 ≤ n → BlankDirectory (replicate 256 0) (replicate n 0)
blank_new n l = record { wide = length-replicate {A = ℕ} 256 0; room = rw (length-replicate {A = ℕ} n 0) l; none = get_d_zeros 256; fresh = get_d_zeros n }
