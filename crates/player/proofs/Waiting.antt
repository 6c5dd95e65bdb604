-- A floating over the record right above changes no place of a live wait: a list of them stays right.
use mathlib.Core.Path.{◌≡◌, refl, sym, ap, ◌∙◌}
use mathlib.Core.List.{[], ◌∷◌}
use Prim.Native.Nat.{ℕ, suc, ◌+◌}
use native.Mathlib.Omega.{arith}
use lib.ListN.{length, length-append}
use Rattle.cows.specs.Basics.{found}
use Rattle.cows.specs.Terms.{delimitation, Term, under, size, waits}
use Rattle.cows.specs.Kinds.{open_kinds}
use Rattle.cows.specs.Places.{Frame, inside, left_of, right_of, plug, Way, fill, way_to, sub}
use Rattle.cows.specs.Records.{opens, ahead}
use Rattle.cows.specs.Moves.{Extrude}
use Rattle.cows.specs.Allows.{Parent, on_left, on_right, protected, delimited, Allows, by_extrude}
use Rattle.cows.proofs.Places.{size_pos, fill_spot}
use Rattle.cows.proofs.Format.{length-nodes}
use Rattle.cows.proofs.Ways.{length-ahead}
use Rattle.ways.specs.Ways.{parent_of}
use Rattle.elapse.specs.Waits.{wait_at, waits_from, wait_places}

-- Two terms of one size with their live waits at the same places.
record Alike (s t : Term) : Type 0 where
  large : size s ≡ size t
  waits : (p : ℕ) → waits_from p s ≡ waits_from p t

-- in the same surroundings they are alike
alike_plug : (f : Frame) (s t : Term) → Alike s t → Alike (plug f s) (plug f t)
unfolding plug size waits_from
alike_plug (inside u) s t h = record { large = rw h.large; waits = λ p. rw (h.waits (suc p)) }
alike_plug (left_of j r) s t h = record { large = rw h.large; waits = λ p. rw (h.waits (suc p), h.large) }
alike_plug (right_of j r) s t h = record { large = rw h.large; waits = λ p. rw (h.waits (suc p + size r)) }

alike_fill : (w : Way) (s t : Term) → Alike s t → Alike (fill w s) (fill w t)
unfolding fill
alike_fill [] s t h = h
alike_fill (f ∷ w) s t h = alike_fill w (plug f s) (plug f t) (alike_plug f s t h)

-- a delimitation, and its parent right above it, changed places
alike_over : (d : ℕ) (s : Term) (f : Frame) (w : Way) → Parent f → length (ahead (f ∷ w)) ≡ length (ahead w) + 1 → Alike (under (delimitation d) (plug f s)) (plug f (under (delimitation d) s))
unfolding plug size waits_from wait_at waits found open_kinds ahead opens
alike_over d s (left_of j t) w on_left e = record { large = omega arith; waits = λ p. let z : suc p + suc (size s) ≡ suc (suc p) + size s = omega arith in rw z }
alike_over d s (right_of j t) w on_right e = absurd (omega (arith, length-append (ahead w) (opens (right_of j t)), length-nodes t, size_pos t))
alike_over d s (inside u) w protected e = record { large = refl; waits = λ p. refl }
alike_over d s (inside u) w delimited e = record { large = refl; waits = λ p. refl }

pub waits_floated : (t r : Term) (a : ℕ) → Allows t (Extrude a) r → a ≡ parent_of (way_to t a) + 1 → wait_places t ≡ wait_places r
unfolding wait_places parent_of fill
waits_floated t r a (by_extrude b d s f w l h q p) e =
    let was : t ≡ fill w (plug f (under (delimitation d) s)) = sym (fill_spot t a) ∙ (ap (λ y. fill y (sub t a)) q ∙ ap (fill (f ∷ w)) l.at.stands) in
    let above : length (ahead (f ∷ w)) ≡ length (ahead w) + 1 = sym (ap (λ y. length (ahead y)) q) ∙ (length-ahead t a l.at.placed ∙ (e ∙ ap (λ y. parent_of y + 1) q)) in
    ap (waits_from 0) was ∙ sym ((alike_fill w _ _ (alike_over d s f w p above)).waits 0)
