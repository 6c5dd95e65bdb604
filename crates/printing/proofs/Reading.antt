-- Bytes read into a buffer, one read behind the other: what is known of them, and what is read at the end.
use Rattle.std.proofs.Common.{◌≡◌, ℕ, ◌+◌, ◌-◌, ◌≤◌, List, ◌++◌, arith, length, take, slice_range, sym, ap, subst, ◌∙◌, length-take-le, le_refl, drop_at}
use Rattle.std.specs.declared.option.Option.{Option}
use Rattle.std.specs.Io.KnownBytes.{Consumes}
use Rattle.std.proofs.KnownBytes.{Consumes-trans}
use Rattle.std.proofs.lemmas.Slice.{take-put_mid_below}
use borrow.Rule.Slice.PartMut.{put_mid, post_of}
use lib.Seq.{take-add, take-append-le}

-- the first b of a list are its first a and the ones from a to b
joined : (a b : ℕ) (old new : List ℕ) → a ≤ b → take a new ≡ take a old → take a old ++ slice_range new a b ≡ take b new
joined a b old new h same =
    let whole : a + (b - a) ≡ b = omega arith in
    ap (λ l. l ++ slice_range new a b) (sym same) ∙ sym (take-add a (b - a) new) ∙ ap (λ n. take n new) whole

-- what is read into the rest of a buffer stands there
part : (a k n : ℕ) (xs ys : List ℕ) → a ≤ length xs → n ≤ length ys → slice_range (put_mid a k xs ys) a (a + n) ≡ take n ys
part a k n xs ys within fits =
    let same : (a + n) - a ≡ n = omega arith in
    let after = post_of a k xs in
    ap (take ((a + n) - a)) (drop_at (take a xs) (ys ++ after) a (length-take-le a xs within)) ∙ ap (λ m. take m (ys ++ after)) same ∙ take-append-le n ys after fits

-- one read more: n bytes behind the first a
pub more : (from mid end : Option (List ℕ)) (a k n : ℕ) (xs ys : List ℕ) → a ≤ length xs → n ≤ length ys → Consumes from mid (take a xs) → Consumes mid end (take n ys)
    → Consumes from end (take (a + n) (put_mid a k xs ys))
more from mid end a k n xs ys within fits before read =
    let new = put_mid a k xs ys in
    let e = ap (λ l. take a xs ++ l) (sym (part a k n xs ys within fits)) ∙ joined a (a + n) xs new (omega arith) (take-put_mid_below _ _ _ _ _ (le_refl _) within) in
    subst (Consumes from end) e (Consumes-trans from mid end _ _ before read)
