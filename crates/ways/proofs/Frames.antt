-- A frame on a way by the record that stands there: what its kind and its atom say of choices and of scopes.
use mathlib.Core.Path.{◌≡◌, refl, sym, ap, ◌∙◌}
use mathlib.Core.Bool.{◌&&◌}
use mathlib.Core.List.{List}
use Prim.Native.Nat.{ℕ, ◌+◌, ◌*◌, ◌<◌}
use native.Mathlib.Omega.{arith}
use lib.Dec.{eqb}
use lib.ListN.{get_or}
use borrow.Author.Tests.{eq-eqb, eqb-true}
use Rattle.cows.specs.Basics.{found_with}
use Rattle.cows.specs.Terms.{nil, kill, invoke, receive, wait, protection, delimitation, replication, choice, parallel, Term, leaf, under, both, size, prefixed, delimits, delimits_atom, delimits_at}
use Rattle.cows.specs.Kinds.{root, kind_of}
use Rattle.cows.specs.Places.{Frame, inside, left_of, right_of, plug, sub, frame_delimits, frame_chooses}
use Rattle.cows.specs.Format.{word, record16}
use Rattle.cows.proofs.Basics.{same_test}
use Rattle.cows.proofs.Fields.{first-delimitation}
use Rattle.records.specs.Holds.{Holds}
use Rattle.records.proofs.StandsIn.{holds_kind, holds_word}

pub frame_choice : (f : Frame) (s : Term) → frame_chooses f ≡ eqb (kind_of (plug f s)) 5
unfolding frame_chooses plug kind_of root
frame_choice (inside (receive p o ws)) s = refl
frame_choice (inside (wait n)) s = refl
frame_choice (inside protection) s = refl
frame_choice (inside (delimitation d)) s = refl
frame_choice (inside replication) s = refl
frame_choice (left_of choice t) s = refl
frame_choice (left_of parallel t) s = refl
frame_choice (right_of choice t) s = refl
frame_choice (right_of parallel t) s = refl

pub frame_delimits_lem : (d : ℕ) (f : Frame) (s : Term) → frame_delimits d f ≡ delimits_at d (plug f s)
unfolding frame_delimits plug delimits_atom prefixed found_with
frame_delimits_lem d (inside u) s = refl
frame_delimits_lem d (left_of j t) s = refl
frame_delimits_lem d (right_of j t) s = refl

-- a record is a delimitation of an atom by its kind and its first atom
pub eqb_flip : (a b : ℕ) → eqb a b ≡ eqb b a
eqb_flip a b = same_test (λ e. eq-eqb b a (sym (eqb-true a b e))) (λ e. eq-eqb a b (sym (eqb-true b a e)))

delimits_record : (s : Term) (d : ℕ) → (eqb (kind_of s) 8 && eqb (word (record16 (root s)) 2) d) ≡ delimits_at d s
unfolding kind_of root prefixed delimits found_with
delimits_record (leaf nil) d = refl
delimits_record (leaf (kill k)) d = refl
delimits_record (leaf (invoke p o ws)) d = refl
delimits_record (under (receive p o ws) t) d = refl
delimits_record (under (wait n) t) d = refl
delimits_record (under protection t) d = refl
delimits_record (under (delimitation c) t) d = ap (λ i. eqb i d) (first-delimitation c t) ∙ eqb_flip c d
delimits_record (under replication t) d = refl
delimits_record (both choice l r) d = refl
delimits_record (both parallel l r) d = refl

pub delimits-bytes : (s : List ℕ) (t : Term) (p d : ℕ) → Holds s t → p < size t → (eqb (get_or s (16 * p) 0) 8 && eqb (word s (16 * p + 2)) d) ≡ delimits_at d (sub t p)
delimits-bytes s t p d h l = rw (holds_kind s t p h l, holds_word s t p 2 h l (omega arith)) (delimits_record (sub t p) d)
