-- A copy of a body (specs/Names, Body): what is made of its records, with the names that were chosen, is the copy; and where bodies come from.
use mathlib.Core.Path.{◌≡◌, refl, ap, ap₂, subst, ◌∙◌, sym}
use mathlib.Core.List.{List, [], ◌++◌, append-nil, map-id}
use Prim.Native.Nat.{ℕ, ◌+◌, ◌-◌, ◌*◌, ◌/◌, ◌<◌}
use native.Mathlib.Omega.{arith}
use lib.ListN.{length, take, drop}
use Rattle.cows.specs.Basics.{member, any}
use Rattle.cows.specs.Terms.{Basic, nil, kill, invoke, Prefix, receive, wait, protection, delimitation, replication, Term, leaf, under, both, size, binders, atoms}
use Rattle.cows.specs.Places.{sub, way_to}
use Rattle.cows.specs.Format.{encode}
use Rattle.cows.specs.Within.{Within, counts}
use Rattle.cows.specs.Moves.{map_basic, map_prefix, map_atoms, image, renaming, copy, fresh_copy}
use Rattle.cows.proofs.Places.{spot_fits, fill_spot}
use Rattle.cows.proofs.Format.{length-encode, encode_injective}
use Rattle.cows.proofs.Stands.{right_at}
use Rattle.cows.proofs.Scopes.{counts-fill}
use Rattle.cows.proofs.Atoms.{In, in_refl, in_fill, few_atoms}
use Rattle.cows.proofs.Basics.{get_d_zeros}
use Rattle.records.specs.Holds.{Holds}
use Rattle.records.proofs.Put.{has_take}
use Rattle.records.proofs.StandsIn.{holds_stands}
use Rattle.renaming.specs.Mapped.{across, slot_of, mapped, named}
use Rattle.renaming.specs.Names.{delimited, Marks, Marking, Marked, Chosen, Body, Blank}
use Rattle.renaming.proofs.Mapped.{mapped_as}
use Rattle.renaming.proofs.Occurring.{atoms_right}
use Rattle.renaming.proofs.Choosing.{part_binders}

-- The records of a body with the names chosen are the records of its copy.
pub marked_copied : (s : List ℕ) (from to : ℕ) (names : List ℕ) (body : Term) (taken : List ℕ) → Marking s from to names body taken → (names' : List ℕ) → Chosen taken body names'
    → mapped (named names') s from (to - from) ≡ encode (fresh_copy taken body)
unfolding fresh_copy
marked_copied s from to names body taken m names' c =
    let z : to - from ≡ size body = omega (arith, m.end) in
    rw z (mapped_as (image (renaming taken (binders body))) names' s from body c.none (λ a k. c.new a (m.among a k)) m.stands)

-- A body that delimits no atom is its own copy.
basic_same : (x : Basic) → map_basic (λ a. a) x ≡ x
unfolding map_basic
basic_same nil = refl
basic_same (kill k) = refl
basic_same (invoke p o ws) = ap (invoke p o) (map-id ws)

prefix_same : (u : Prefix) → map_prefix (λ a. a) u ≡ u
unfolding map_prefix
prefix_same (receive p o ws) = ap (receive p o) (map-id ws)
prefix_same (wait n) = refl
prefix_same protection = refl
prefix_same (delimitation d) = refl
prefix_same replication = refl

map_same : (t : Term) → map_atoms (λ a. a) t ≡ t
unfolding map_atoms
map_same (leaf x) = ap leaf (basic_same x)
map_same (under u t) = ap₂ under (prefix_same u) (map_same t)
map_same (both j s t) = ap₂ (both j) (map_same s) (map_same t)

own_copy : (taken : List ℕ) (body : Term) → binders body ≡ [] → fresh_copy taken body ≡ body
unfolding fresh_copy renaming image
own_copy taken body e = rw e (map_same body)

-- names just cleared mark nothing
pub blank_marks : (n : ℕ) (names : List ℕ) → Blank n names → Marks names []
unfolding member any
blank_marks n names b = record { room = b.room; entry = λ a. rw b.clear (get_d_zeros (length names) (slot_of a)) }

-- The part of a table that is to be copied is a body whose atoms are marked with the table's.
module _ (s : List ℕ) (from to : ℕ) (b : Body s from to) where
  body_term : (t : Term) → Holds s t → b.term ≡ t
  body_term t h = let k = b.holds in encode_injective b.term t k.right h.right (sym k.is ∙ h.is)

  pub body-length : length s / 16 ≡ size b.term
  body-length = omega (arith, ap length b.holds.is ∙ length-encode b.term)

  body_marking : (names : List ℕ) → 28 * (length s / 16) + 8 < length names → Marks names (atoms b.term) → Marking s from to names (sub b.term from) (atoms b.term)
  body_marking names l m = let t = b.term in record {
    stands = holds_stands s t from b.holds b.inside;
    right = right_at t from b.holds.right;
    unique = λ a. omega (arith, counts-fill (way_to t from) (sub t from) a, ap (counts a) (fill_spot t from), b.unique a);
    end = b.end;
    marks = m;
    known = atoms_right t b.holds.right;
    among = in_fill (way_to t from) (sub t from) (atoms t) (subst (λ r. In (atoms r) (atoms t)) (sym (fill_spot t from)) (in_refl (atoms t)));
    few = omega (arith, few_atoms t b.holds.right, spot_fits t from b.inside, body-length);
  }

  pub body-itself : across delimited s from (to - from) ≡ [] → (t : Term) → Holds s t → take (16 * (to - from)) (drop (16 * from) s) ≡ encode (copy t (sub t from))
  body-itself e t h =
      subst (λ r. take (16 * (to - from)) (drop (16 * from) s) ≡ encode (copy r (sub r from))) (body_term t h)
      (let body = sub b.term from in
      let k = holds_stands s b.term from b.holds b.inside in
      let n : 16 * (to - from) ≡ length (encode body) = omega (arith, b.end, length-encode body) in
      rw (n, own_copy (atoms b.term) body (sym (part_binders s from to body k b.end) ∙ e)) (has_take (encode body) k))

  -- the names, cleared and then those of the table's atoms
  module _ (names₀ names : List ℕ) (blank : Blank (length s / 16) names₀) (kept : length names ≡ length names₀) (marked : (t : Term) (taken : List ℕ) → Holds s t → Marks names₀ taken → Marks names (atoms t ++ taken)) where
    marking : Marking s from to names (sub b.term from) (atoms b.term)
    marking = body_marking names (omega (arith, blank.enough)) (rw append-nil at (marked b.term [] b.holds (blank_marks _ names₀ blank)))

    pub body_marked : Marked s from to names
    body_marked = record { body = sub b.term from; taken = atoms b.term; marking = marking; fits = b.fits }

    pub body_copied : (names' : List ℕ) → ((body : Term) (taken : List ℕ) → Marking s from to names body taken → Chosen taken body names') → (t : Term) → Holds s t
        → mapped (named names') s from (to - from) ≡ encode (copy t (sub t from))
    body_copied names' c t h =
        subst (λ r. mapped (named names') s from (to - from) ≡ encode (copy r (sub r from))) (body_term t h)
        (marked_copied s from to names _ _ marking names' (c _ _ marking))

-- The part at a place of a term within the limits is such a body.
pub within-body : (s : List ℕ) (t : Term) (n : ℕ) → Holds s t → Within t → n < size t → Body s n (n + size (sub t n))
within-body s t n h w l = record {
  term = t;
  holds = h;
  unique = w.formed.unique;
  small = w.small;
  inside = l;
  end = refl;
  ordered = omega arith;
  fits = omega (arith, spot_fits t n l, ap length h.is ∙ length-encode t);
}
