-- Records written one behind the other, and the record of a call by the fields that its script has.
use mathlib.Core.Path.{◌≡◌, refl, ap, ◌∙◌, sym}
use mathlib.Core.Logic.{◌≢◌}
use mathlib.Core.List.{List, [], ◌∷◌, ◌++◌, flat_map, append-nil}
use Prim.Native.Nat.{ℕ, ◌+◌, ◌*◌, ◌<◌}
use native.Mathlib.Omega.{arith}
use lib.ListN.{length, get_or, take, replicate}
use lib.Seq.{length-take-le}
use Rattle.cows.specs.Kinds.{Node, basic}
use Rattle.cows.specs.Format.{bytes2, word, layout, record16, bytes}
use Rattle.std.proofs.lemmas.List.{take_more}
use Rattle.cows.proofs.Cut.{flat_map_append, length_write}
use Rattle.cows.proofs.Rows.{length_record16}
use Rattle.records.specs.Rewrites.{put}
use Rattle.records.proofs.Put.{and_then}
use Rattle.orc.specs.Expressions.{Act, nothing, call, act}
use Rattle.scripts.specs.Standing.{ScriptAt}
use Rattle.scripts.proofs.Standing.{orc_kind, at_kind, at_call}
use Rattle.clauses.specs.Parts.{words, sends}

-- 16-bit numbers written one behind the other, and one more
length_words : (ns : List ℕ) → length (words ns) ≡ 2 * length ns
unfolding bytes2
length_words = length_write 2 bytes2 (λ n. refl)

pub words_more : (d : List ℕ) (j : ℕ) (ns : List ℕ) (i : ℕ) {e e' : List ℕ} → i < length ns → e ≡ put d j (words (take i ns)) → e' ≡ put e (j + 2 * i) (bytes2 (get_or ns i 0))
    → e' ≡ put d j (words (take (i + 1) ns))
unfolding flat_map
words_more d j ns i l p q =
    and_then d j (j + 2 * i) (words (take i ns)) (bytes2 (get_or ns i 0)) (omega (arith, length_words (take i ns), length-take-le i ns (omega arith))) p q
    ∙ ap (put d j) (sym (ap words (take_more ns i 0 l) ∙ (flat_map_append bytes2 (take i ns) (get_or ns i 0 ∷ []) ∙ ap (λ b. words (take i ns) ++ b) (append-nil (bytes2 (get_or ns i 0))))))

module _ (d : List ℕ) (i : ℕ) {e : List ℕ} (n : Node) (p : e ≡ put d i (record16 n)) where
  -- the last record of a run, and one before others
  pub record_last : e ≡ put d i (bytes (n ∷ []))
  unfolding flat_map
  record_last = p ∙ ap (put d i) (sym (append-nil (record16 n)))

  pub record_then : (j : ℕ) (ns : List Node) {e' : List ℕ} → j ≡ i + 16 → e' ≡ put e j (bytes ns) → e' ≡ put d i (bytes (n ∷ ns))
  unfolding flat_map
  record_then j ns h q = and_then d i j (record16 n) (bytes ns) (omega (arith, length_record16 n)) p q

-- The record at place i of the script s is a call, or it is not.
module _ (s d : List ℕ) (i at p o : ℕ) {e : List ℕ} where
  pub call-put : get_or s (8 * i) 0 ≡ 1
      → e ≡ put d at (words (770 ∷ word s (8 * i + 4) ∷ word s (8 * i + 6) ∷ word s (8 * i + 2) ∷ p ∷ o ∷ 0 ∷ 0 ∷ []))
      → (x : Act) → ScriptAt s i (act x) → e ≡ put d at (record16 (basic (sends p o x)))
  unfolding orc_kind sends record16 layout bytes2 flat_map
  call-put k h nothing a = absurd (omega (arith, at_kind (act nothing) a))
  call-put k h (call t q w) a =
      let (x, y, z) = at_call t q w a in
      h ∙ rw (x, y, z)

  pub nothing_put : get_or s (8 * i) 0 ≢ 1 → e ≡ put d at (words (replicate 8 0))
      → (x : Act) → ScriptAt s i (act x) → e ≡ put d at (record16 (basic (sends p o x)))
  unfolding orc_kind sends record16 layout bytes2 flat_map
  nothing_put k h nothing a = h
  nothing_put k h (call t q w) a = absurd (k (at_kind (act (call t q w)) a))
