-- Unfolding keeps a term well formed: the copy of the body delimits new atoms only, and is right and scoped as the body is.
use mathlib.Core.Path.{◌≡◌, refl, sym, ap, subst, ◌∙◌}
use mathlib.Core.Bool.{Bool, true, false}
use mathlib.Core.List.{List}
use Prim.Native.Nat.{ℕ, zero, suc, ◌+◌, ◌≤◌, ◌<◌}
use native.Mathlib.Omega.{arith}
use lib.Dec.{eqb}
use lib.ListN.{length}
use borrow.Author.Tests.{eqb-true, eq-eqb}
use Rattle.cows.specs.Basics.{member, found_with}
use Rattle.cows.specs.Terms.{replication, parallel, Term, under, both, value, variable, datum, size, delimits, delimits_atom, below, binders, atoms}
use Rattle.cows.specs.Kinds.{open_kinds}
use Rattle.cows.specs.Places.{inside, plug, Way, fill, way_to, sub, enclosed}
use Rattle.cows.specs.Within.{Right, Guarded, Scoped, counts, restricted, nowhere, Formed}
use Rattle.cows.specs.Moves.{map_atoms, image, renaming, copy, after_unfold, fresh_copy}
use Rattle.cows.specs.Allows.{SameSet}
use Rattle.cows.proofs.Basics.{never, and_true, true_and, or_right, not_so, same_test}
use Rattle.cows.proofs.Places.{fill_spot, fill_ind}
use Rattle.cows.proofs.Renaming.{image_other, image_free, image_alike, image_inj}
use Rattle.cows.proofs.Scopes.{guarded_fill, used_fill, right_fill, Rule, Used, local, Need, Weakens, And, inside-refl, used_mono, used_both, used_scoped, scoped_used, member-counts, counts-member, restricted_mono, counts-plug, counts-fill, counts-enclosed}
use Rattle.cows.proofs.Parts.{Sound}
use Rattle.cows.proofs.Mapping.{Carries, Fits, guarded_mapped, used_mapped, counts-mapped, counts_source, right_mapped}
use Rattle.cows.proofs.Atoms.{In, used_atoms, in_refl, counts-atoms, few_binders, few_atoms, binders_right, size-fill, in_plug, in_fill}

-- A renaming of the atoms that the body delimits, to atoms of their sets that are not taken, and no two to the same.
pub record Renews (taken : List ℕ) (body : Term) (ρ : ℕ → ℕ) : Type 0 where
  pub sets : (a : ℕ) → SameSet (ρ a) a
  pub apart : (a b : ℕ) → member a taken ≡ true → member b taken ≡ true → eqb (ρ a) (ρ b) ≡ true → eqb a b ≡ true
  pub keeps : (a : ℕ) → counts a body ≡ 0 → ρ a ≡ a
  pub renews : (a : ℕ) → 1 ≤ counts a body → member (ρ a) taken ≡ false

counts_zero : (a : ℕ) (t : Term) → counts a t ≡ 0 → member a (binders t) ≡ false
counts_zero a t e = not_so (λ m. omega (arith, member-counts a t m))

-- the atoms that a copy takes are such a renaming, where there are enough of them
pub renaming_renews : (taken : List ℕ) (body : Term) → Right body → length taken + length (binders body) < 16383 → Renews taken body (image (renaming taken (binders body)))
renaming_renews taken body r few =
    record {
      sets = image_alike taken (binders body) (binders_right body r) few;
      apart = image_inj taken (binders body);
      keeps = λ a e. image_other taken (binders body) a (counts_zero a body e);
      renews = λ a h. image_free taken (binders body) a (counts-member a body h);
    }

-- The copy of a body whose atoms are all taken: it is right as the body is, delimits no atom twice, and none that is taken.
module _ (taken : List ℕ) (body : Term) (ρ : ℕ → ℕ) (new : Renews taken body ρ) (known : In (atoms body) taken) where
  abbrev Known : ℕ → Type 0
  Known a = member a taken ≡ true

  pub right_copy : Right body → Right (map_atoms ρ body)
  unfolding datum
  right_copy h = right_mapped ρ Known fits nowhere body (used_atoms _ nowhere body known) h
    where
      fits : Fits ρ Known
      fits =
          record {
            values = λ a h. (new.sets a).values ∙ h;
            variables = λ a h. or_right (value (ρ a)) (variable (ρ a)) ((new.sets a).variables ∙ h);
            labels = λ a h. (new.sets a).labels ∙ h;
            back = λ a h. sym (new.sets a).variables ∙ h;
            apart = λ a b m n v. new.apart a b m n;
          }

  eqb_known : (a b : ℕ) → Known a → Known b → eqb (ρ a) (ρ b) ≡ eqb a b
  eqb_known a b m n = same_test (new.apart a b m n) (λ e. eq-eqb (ρ a) (ρ b) (ap ρ (eqb-true a b e)))

  known_delimited : (a : ℕ) → 1 ≤ counts a body → Known a
  known_delimited a h = known a (counts-atoms a body h)

  counts-copy : (a b : ℕ) → 1 ≤ counts a body → b ≡ ρ a → counts b (map_atoms ρ body) ≡ counts a body
  counts-copy a b h e = counts-mapped ρ a b body (λ d l. rw e (eqb_known a d (known_delimited a h) (known_delimited d l)))

  pub copy_once : ((a : ℕ) → counts a body ≤ 1) → (b : ℕ) → counts b (map_atoms ρ body) ≤ 1
  copy_once once b = go (counts b (map_atoms ρ body)) refl
    where
      go : (n : ℕ) → counts b (map_atoms ρ body) ≡ n → counts b (map_atoms ρ body) ≤ 1
      go zero e = omega arith
      go (suc n) e = let (a, h, i) = counts_source ρ b body (omega arith) in omega (arith, counts-copy a b h i, once a)

  pub copy-new : (b : ℕ) → Known b → counts b (map_atoms ρ body) ≡ 0
  copy-new b m = go (counts b (map_atoms ρ body)) refl
    where
      go : (n : ℕ) → counts b (map_atoms ρ body) ≡ n → n ≡ 0
      go zero e = refl
      go (suc n) e =
          let (a, h, i) = counts_source ρ b body (omega arith) in
          never (sym (new.renews a h) ∙ (ap (λ c. member c taken) (sym i) ∙ m))

-- the replication of a body at the end of a way, and after the unfolding
abbrev pub replicated : Way → Term → Term
replicated w body = fill w (under replication body)

abbrev pub unfolded : Way → Term → (ℕ → ℕ) → Term
unfolded w body ρ = fill w (both parallel (map_atoms ρ body) (under replication body))

module _ (w : Way) (body : Term) (ρ : ℕ → ℕ) (new : Renews (atoms (replicated w body)) body ρ) (right : Right (replicated w body)) (formed : Formed (replicated w body)) where
  -- the atoms of the table
  abbrev known : List ℕ
  known = atoms (replicated w body)

  known_body : In (atoms body) known
  known_body = in_plug (inside replication) body _ (unfold plug in in_fill w (under replication body) _ (in_refl _))

  right_unfolded : Right (unfolded w body ρ)
  right_unfolded =
      let (h, up) = right_fill w (under replication body) right in
      up _ (right_copy known body ρ new known_body h.1, h)

  guarded_unfolded : Guarded (unfolded w body ρ)
  unfolding open_kinds
  guarded_unfolded = guarded_fill w (under replication body) _ never (λ h. (tt, guarded_mapped ρ body h, h)) formed.guarded

  counts-body : (a : ℕ) → counts a body ≤ counts a (replicated w body)
  counts-body a = omega (arith, counts-fill w (under replication body) a)

  counts_unfolded : (a : ℕ) → counts a (unfolded w body ρ) ≡ counts a (replicated w body) + counts a (map_atoms ρ body)
  counts_unfolded a =
      fill_ind (λ s r. counts a r ≡ counts a s + counts a (map_atoms ρ body)) (λ f s r. counts-plug f s r a (counts a (map_atoms ρ body)))
      w (under replication body) _ (omega arith)

  unique_unfolded : (a : ℕ) → counts a (unfolded w body ρ) ≤ 1
  unique_unfolded a = go (counts a (replicated w body)) refl
    where
      go : (n : ℕ) → counts a (replicated w body) ≡ n → counts a (unfolded w body ρ) ≤ 1
      go zero e = omega (arith, counts_unfolded a, copy_once known body ρ new known_body (λ d. omega (arith, counts-body d, formed.unique d)) a)
      go (suc n) e = omega (arith, counts_unfolded a, formed.unique a, copy-new known body ρ new known_body a (counts-atoms a (replicated w body) (omega arith)))

  -- scopes
  scoped_unfolded : (K L : ℕ → Bool) → ((a : ℕ) → member a known ≡ true → L a ≡ true → K a ≡ true) → ((a : ℕ) → member a known ≡ true → L (ρ a) ≡ true → K a ≡ true)
      → Scoped K nowhere (replicated w body) → Scoped L nowhere (unfolded w body ρ)
  unfolding delimits_atom delimits found_with
  scoped_unfolded K L k l h =
      used_scoped L nowhere (unfolded w body ρ)
      (used_fill P (Need L) weakens w (under replication body) _ here
      (used_both (Need K) (λ a F. member a known ≡ true) nowhere (replicated w body) (scoped_used K nowhere (replicated w body) h) (used_atoms _ nowhere (replicated w body) (in_refl _))))
    where
      P : Rule
      P = And (Need K) (λ a F. member a known ≡ true)

      weakens : Weakens P (Need L)
      weakens a E F i (h, m) q = i a (h (k a m q))

      -- what is delimited around the replication is not renamed
      around : Carries ρ (λ a. Unit {0}) (λ a. enclosed a w) (λ a. enclosed a w)
      around a u e = subst (λ b. enclosed b w ≡ true) (sym (new.keeps a (omega (arith, counts-enclosed w (under replication body) a e, formed.unique a)))) e

      here : Used P (λ a. enclosed a w) (under replication body) → Used (Need L) (λ a. enclosed a w) (both parallel (map_atoms ρ body) (under replication body))
      here h = (
        used_mapped ρ (λ a. Unit {0}) P (Need L) (λ a E F c p q. c a tt (p.0 (l a p.1 q))) (λ a. enclosed a w) (λ a. enclosed a w) around body h.1,
        used_mono P (Need L) weakens (λ a. enclosed a w) (λ a. enclosed a w) (inside-refl _) (under replication body) h,
      )

  local_renamed : (a : ℕ) → local (ρ a) ≡ true → local a ≡ true
  local_renamed a h = rw ((new.sets a).variables, (new.sets a).labels) at h

  restricted_known : (a : ℕ) → member a known ≡ true → restricted (unfolded w body ρ) a ≡ true → restricted (replicated w body) a ≡ true
  restricted_known a m = restricted_mono (unfolded w body ρ) (replicated w body) a (omega (arith, counts_unfolded a, copy-new known body ρ new known_body a m))

  restricted_renamed : (a : ℕ) → member a known ≡ true → restricted (unfolded w body ρ) (ρ a) ≡ true → restricted (replicated w body) a ≡ true
  restricted_renamed a m h = go (counts a body) refl
    where
      go : (n : ℕ) → counts a body ≡ n → restricted (replicated w body) a ≡ true
      go zero e = restricted_known a m (subst (λ b. restricted (unfolded w body ρ) b ≡ true) (new.keeps a e) h)
      go (suc n) e = true_and (sym (new.sets a).values ∙ (and_true (value (ρ a)) _ h).0) (counts-member a (replicated w body) (omega (arith, counts-body a)))

  formed_unfolded : Formed (unfolded w body ρ)
  formed_unfolded =
      record {
        guarded = guarded_unfolded;
        closed = scoped_unfolded local local (λ a m h. h) (λ a m. local_renamed a) formed.closed;
        unique = unique_unfolded;
        private = scoped_unfolded (restricted (replicated w body)) (restricted (unfolded w body ρ)) restricted_known restricted_renamed formed.private;
      }

-- the copy in a table t
copied : Term → Way → Term → Term
copied t w body = fill w (both parallel (copy t body) (under replication body))

copied_sound : (t : Term) (w : Way) (body : Term) → replicated w body ≡ t → size t ≤ 2048 → Sound t → Sound (copied t w body)
unfolding copied fresh_copy size
copied_sound t w body e = subst (λ q. size q ≤ 2048 → Sound q → Sound (copied q w body)) e sound
  where
    sound : size (replicated w body) ≤ 2048 → Sound (replicated w body) → Sound (copied (replicated w body) w body)
    sound small (r, f) =
        let b : Right body = (right_fill w (under replication body) r).0.1 in
        let new = renaming_renews (atoms (replicated w body)) body b (omega (arith, few_atoms (replicated w body) r, few_binders body, size-fill w (under replication body))) in
        (right_unfolded w body _ new r f, formed_unfolded w body _ new r f)

pub sound_after_unfold : (t : Term) (n : ℕ) → sub t n ≡ under replication (below (sub t n)) → size t ≤ 2048 → Sound t → Sound (after_unfold t n)
unfolding after_unfold copied
sound_after_unfold t n e small h =
    subst (λ s. Sound (fill (way_to t n) (both parallel (copy t (below (sub t n))) s))) (sym e)
    (copied_sound t (way_to t n) (below (sub t n)) (ap (fill (way_to t n)) (sym e) ∙ fill_spot t n) small h)
