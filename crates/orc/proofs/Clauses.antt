-- The translation keeps 002's clauses with the atoms that 2026-03 asks for, and no other term does (specs/Translation, specs/Clauses).
use mathlib.Core.Path.{◌≡◌, refl, sym, ap, subst, ◌∙◌}
use mathlib.Core.Bool.{true}
use mathlib.Core.List.{List, [], ◌∷◌, ◌++◌, append_assoc, append-nil}
use Prim.Native.Nat.{ℕ, suc, ◌+◌, ◌*◌, ◌≤◌, ◌<◌}
use native.Mathlib.Omega.{arith}
use lib.ListN.{length, length-append}
use lib.Seq.{drop_at}
use Rattle.cows.specs.Basics.{every}
use Rattle.cows.specs.Terms.{Term, value, variable, datum, atom, label, optional}
use Rattle.cows.specs.Moves.{Substitution, renaming}
use Rattle.cows.specs.Allows.{SameSet, Renames, finished, renames}
use Rattle.cows.proofs.Basics.{true_and, every_append}
use Rattle.cows.proofs.Renaming.{renaming-renames, renames_unique}
use Rattle.orc.specs.Expressions.{nothing, call, sequential, symmetric, asymmetric, Orc, act, composed, records_in, bound, act_uses, occurring}
use Rattle.orc.specs.Translation.{introduced, news, translate, seconds, chosen, taken_by, translation}
use Rattle.orc.specs.Clauses.{Translates, by_nothing, by_symmetric, by_call, by_sequential, by_asymmetric, Fresh}

-- the atoms ns are of the sets ds, each of its own
abbrev pub AreOf : List ℕ → List ℕ → Type 0
AreOf [] [] = Unit {0}
AreOf [] (n ∷ ns) = ⊥
AreOf (d ∷ ds) [] = ⊥
AreOf (d ∷ ds) (n ∷ ns) = SameSet n d × AreOf ds ns

-- those of two lists of sets are two lists
pub record Parted (ds es ns : List ℕ) : Type 0 where
  pub before : List ℕ
  pub behind : List ℕ
  pub is : ns ≡ before ++ behind
  pub first : AreOf ds before
  pub second : AreOf es behind
  pub many : length before ≡ length ds

pub parted : (ds es ns : List ℕ) → AreOf (ds ++ es) ns → Parted ds es ns
parted [] es ns h = record { before = []; behind = ns; is = refl; first = tt; second = h; many = refl }
parted (d ∷ ds) es [] h = absurd h
parted (d ∷ ds) es (n ∷ ns) h =
    let p = parted ds es ns h.1 in
    record { before = n ∷ p.before; behind = p.behind; is = ap (λ l. n ∷ l) p.is; first = (h.0, p.first); second = p.second; many = ap suc p.many }

-- and those of two lists with one between them
pub record PartedAt (ds : List ℕ) (d : ℕ) (es ns : List ℕ) : Type 0 where
  pub before : List ℕ
  pub at : ℕ
  pub behind : List ℕ
  pub is : ns ≡ before ++ (at ∷ behind)
  pub first : AreOf ds before
  pub set : SameSet at d
  pub second : AreOf es behind
  pub many : length before ≡ length ds

parted_at : (ds : List ℕ) (d : ℕ) (es ns : List ℕ) → AreOf (ds ++ (d ∷ es)) ns → PartedAt ds d es ns
parted_at ds d es ns h = go (parted ds (d ∷ es) ns h)
  where
    with_first : (ms ls : List ℕ) → ns ≡ ms ++ ls → AreOf ds ms → AreOf (d ∷ es) ls → length ms ≡ length ds → PartedAt ds d es ns
    with_first ms [] e a b l = absurd b
    with_first ms (k ∷ ls) e a b l = record { before = ms; at = k; behind = ls; is = e; first = a; set = b.0; second = b.1; many = l }

    go : Parted ds (d ∷ es) ns → PartedAt ds d es ns
    go z = with_first z.before z.behind z.is z.first z.second z.many

-- atoms of the set of the first value, and of the first label
pub of_values : (n : ℕ) → SameSet n 1 → value n ≡ true
unfolding value
of_values n h = h.values

pub of_labels : (n : ℕ) → SameSet n 49152 → label n ≡ true
unfolding label
of_labels n h = h.labels

-- With atoms of the sets that are introduced, whatever follows them, the translation is by the clauses ..
pub translate_clauses : (e : Orc) (p o : ℕ) (ns rest : List ℕ) → AreOf (introduced e) ns → Translates e p o (translate (ns ++ rest) p o e) ns
unfolding introduced translate
translate_clauses (act nothing) p o [] rest h = by_nothing
translate_clauses (act nothing) p o (n ∷ ns) rest h = absurd h
translate_clauses (act (call s q w)) p o [] rest h = by_call
translate_clauses (act (call s q w)) p o (n ∷ ns) rest h = absurd h
translate_clauses (composed symmetric f g) p o ns rest h =
    let z = parted (introduced f) (introduced g) ns h in
    rw (z.is, append_assoc z.before z.behind rest, drop_at z.before (z.behind ++ rest) (news f) z.many)
    (by_symmetric (translate_clauses f p o z.before (z.behind ++ rest) z.first) (translate_clauses g p o z.behind rest z.second))
translate_clauses (composed (sequential x) f g) p o [] rest h = absurd h
translate_clauses (composed (sequential x) f g) p o (q ∷ []) rest h = absurd h.1
translate_clauses (composed (sequential x) f g) p o (q ∷ r ∷ ns) rest h =
    let z = parted (introduced f) (introduced g) ns h.1.1 in
    rw (z.is, append_assoc z.before z.behind rest, drop_at z.before (z.behind ++ rest) (news f) z.many)
    (by_sequential (of_values q h.0) (of_values r h.1.0) (translate_clauses f q r z.before (z.behind ++ rest) z.first) (translate_clauses g p o z.behind rest z.second))
translate_clauses (composed (asymmetric x) g f) p o [] rest h = absurd h
translate_clauses (composed (asymmetric x) g f) p o (q ∷ []) rest h = absurd h.1
translate_clauses (composed (asymmetric x) g f) p o (q ∷ r ∷ ns) rest h =
    let z = parted_at (introduced g) 49152 (introduced f) ns h.1.1 in
    rw (z.is, append_assoc z.before (z.at ∷ z.behind) rest, drop_at z.before (z.at ∷ (z.behind ++ rest)) (news g) z.many)
    (by_asymmetric (of_values q h.0) (of_values r h.1.0) (of_labels z.at z.set) (translate_clauses g p o z.before (z.at ∷ (z.behind ++ rest)) z.first)
    (translate_clauses f q r z.behind rest z.second))

-- .. and what is by the clauses is the translation.
pub translates_length : {e : Orc} {p o : ℕ} {t : Term} {ns : List ℕ} → Translates e p o t ns → length ns ≡ news e
unfolding introduced
translates_length by_nothing = refl
translates_length (by_symmetric {f = f} {g = g} {ms = ms} {ns = ns} h k) = length-append ms ns ∙ omega (arith, length-append (introduced f) (introduced g), translates_length h, translates_length k)
translates_length by_call = refl
translates_length (by_sequential {f = f} {g = g} {ms = ms} {ns = ns} v w h k) = omega (arith, length-append ms ns, length-append (introduced f) (introduced g), translates_length h, translates_length k)
translates_length (by_asymmetric {k = l} {f = f} {g = g} {ms = ms} {ns = ns} v w u h k) =
    omega (arith, length-append ms (l ∷ ns), length-append (introduced g) (49152 ∷ introduced f), translates_length h, translates_length k)

pub translates_translate : {e : Orc} {p o : ℕ} {t : Term} {ns : List ℕ} → Translates e p o t ns → (rest : List ℕ) → translate (ns ++ rest) p o e ≡ t
unfolding translate
translates_translate by_nothing rest = refl
translates_translate (by_symmetric {f = f} {ms = ms} {ns = ns} h k) rest =
    rw (append_assoc ms ns rest, drop_at ms (ns ++ rest) (news f) (translates_length h), translates_translate h (ns ++ rest), translates_translate k rest)
translates_translate by_call rest = refl
translates_translate (by_sequential {f = f} {ms = ms} {ns = ns} v w h k) rest =
    rw (append_assoc ms ns rest, drop_at ms (ns ++ rest) (news f) (translates_length h), translates_translate h (ns ++ rest), translates_translate k rest)
translates_translate (by_asymmetric {k = l} {g = g} {ms = ms} {ns = ns} v w u h k) rest =
    rw (append_assoc ms (l ∷ ns) rest, drop_at ms (l ∷ (ns ++ rest)) (news g) (translates_length h), translates_translate h (l ∷ (ns ++ rest)), translates_translate k rest)

-- The choice: each of its own set, and fresh.
pub renames_of : {taken ds : List ℕ} {σ : Substitution} → Renames taken ds σ → AreOf ds (seconds σ)
renames_of finished = tt
renames_of (renames h k) = (h.set, renames_of k)

pub renames-fresh : {taken ds : List ℕ} {σ : Substitution} → Renames taken ds σ → Fresh taken (seconds σ)
renames-fresh finished = tt
renames-fresh (renames h k) = (h.free, renames-fresh k)

-- There are atoms enough: an expression holds few, and the clauses introduce few.
few_atoms : (e : Orc) → length (occurring e) ≤ 3 * records_in e
unfolding occurring records_in act_uses optional bound
few_atoms (act nothing) = omega arith
few_atoms (act (call s q w)) = omega arith
few_atoms (composed (sequential x) f g) = omega (arith, length-append (occurring f) (occurring g), few_atoms f, few_atoms g)
few_atoms (composed symmetric f g) = omega (arith, length-append (occurring f) (occurring g), few_atoms f, few_atoms g)
few_atoms (composed (asymmetric x) g f) = omega (arith, length-append (occurring g) (occurring f), few_atoms g, few_atoms f)

few_new : (e : Orc) → news e ≤ 3 * records_in e
unfolding introduced records_in
few_new (act x) = omega arith
few_new (composed symmetric f g) = omega (arith, length-append (introduced f) (introduced g), few_new f, few_new g)
few_new (composed (sequential x) f g) = omega (arith, length-append (introduced f) (introduced g), few_new f, few_new g)
few_new (composed (asymmetric x) g f) = omega (arith, length-append (introduced g) (49152 ∷ introduced f), few_new g, few_new f)

pub enough : (p o : ℕ) (e : Orc) → records_in e ≤ 512 → length (taken_by p o e) + news e < 16383
enough p o e h = omega (arith, few_atoms e, few_new e)

introduced-atoms : (e : Orc) → every atom (introduced e) ≡ true
unfolding introduced every atom datum value variable label
introduced-atoms (act x) = refl
introduced-atoms (composed symmetric f g) = every_append atom (introduced f) (introduced g) ∙ true_and (introduced-atoms f) (introduced-atoms g)
introduced-atoms (composed (sequential x) f g) = every_append atom (introduced f) (introduced g) ∙ true_and (introduced-atoms f) (introduced-atoms g)
introduced-atoms (composed (asymmetric x) g f) = every_append atom (introduced g) (49152 ∷ introduced f) ∙ true_and (introduced-atoms g) (introduced-atoms f)

module _ (p o : ℕ) (e : Orc) (few : records_in e ≤ 512) where
  pub translation-renames : Renames (taken_by p o e) (introduced e) (renaming (taken_by p o e) (introduced e))
  translation-renames = renaming-renames (taken_by p o e) (introduced e) (introduced-atoms e) (enough p o e few)

  pub translation_clauses : Translates e p o (translation p o e) (seconds (renaming (taken_by p o e) (introduced e)))
  unfolding translation chosen
  translation_clauses =
      let ns = seconds (renaming (taken_by p o e) (introduced e)) in
      subst (λ l. Translates e p o (translate l p o e) ns) (append-nil ns) (translate_clauses e p o ns [] (renames_of translation-renames))

  -- the clauses' term with the smallest atoms is the translation, and no other
  pub one_translation : (t : Term) (σ : Substitution) → Renames (taken_by p o e) (introduced e) σ → Translates e p o t (seconds σ) → t ≡ translation p o e
  unfolding translation chosen
  one_translation t σ r c =
      sym (translates_translate c []) ∙ (ap (λ l. translate l p o e) (append-nil (seconds σ)) ∙ ap (λ τ. translate (seconds τ) p o e) (renames_unique r translation-renames))
