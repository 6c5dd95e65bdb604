-- A list of moves that is written or counted piece by piece (specs/Meetings, Lists), and that of a receive, place by place along its chain.
use mathlib.Core.Path.{◌≡◌, refl, sym, ap, ◌∙◌}
use mathlib.Core.Bool.{Bool, true, false}
use mathlib.Core.List.{List, [], ◌∷◌, ◌++◌, flat_map, append_assoc, append-nil}
use Prim.Native.Nat.{ℕ, ◌+◌, ◌*◌}
use native.Mathlib.Omega.{arith}
use lib.ListN.{length, length-append}
use Rattle.cows.specs.Papers.{meeting}
use Rattle.cows.specs.Moves.{Move, Communicate}
use Rattle.cows.proofs.Cut.{flat_map_append, length_write}
use Rattle.records.specs.Rewrites.{put}
use Rattle.records.proofs.Put.{length-put, and_then}
use Rattle.meetings.specs.Meetings.{Lists}
use Rattle.opening.specs.Opening.{each, six_byte_form}
use Rattle.opening.proofs.SixBytes.{length_six}

-- Nothing is listed; one list behind another; one move, written or counted.
pub lists_none : (writes : Bool) (out : List ℕ) (m : ℕ) → Lists writes out m [] out m
unfolding flat_map put
lists_none true out m = record { number = omega arith; is = refl }
lists_none false out m = record { number = omega arith; is = refl }

pub lists_then : (writes : Bool) (out : List ℕ) (m : ℕ) (ms ns : List Move) {e e' : List ℕ} {c c' : ℕ} → Lists writes out m ms e c → Lists writes e c ns e' c' → Lists writes out m (ms ++ ns) e' c'
unfolding put
lists_then true out m ms ns h k = record {
  number = omega (arith, h.number, k.number, length-append ms ns);
  is = rw (flat_map_append six_byte_form ms ns) (and_then out (6 * m) _ (each six_byte_form ms) (each six_byte_form ns) (omega (arith, h.number, length_write 6 six_byte_form length_six ms)) h.is k.is);
}
lists_then false out m ms ns h k = record { number = omega (arith, h.number, k.number, length-append ms ns); is = k.is ∙ h.is }

pub lists_written : (out : List ℕ) (m a b : ℕ) {e : List ℕ} → e ≡ put out (6 * m) (meeting a b) → Lists true out m (Communicate a b ∷ []) e (m + 1)
unfolding flat_map six_byte_form
lists_written out m a b h = record { number = omega arith; is = rw (append-nil (meeting a b)) h }

pub lists_counted : (out : List ℕ) (m a b : ℕ) → Lists false out m (Communicate a b ∷ []) out (m + 1)
unfolding put
lists_counted out m a b = record { number = omega arith; is = refl }

pub lists_length : (writes : Bool) (out : List ℕ) (m : ℕ) (ms : List Move) {e : List ℕ} {c : ℕ} → Lists writes out m ms e c → length e ≡ length out
lists_length writes out m ms h = ap length h.is ∙ length-put out (6 * m) _

-- Of the moves `all`, those but for the rest are listed.
pub record Listing (writes : Bool) (out : List ℕ) (m : ℕ) (all rest : List Move) (after : List ℕ) (count : ℕ) : Type 0 where
  pub done : List Move
  pub so : Lists writes out m done after count
  pub split : all ≡ done ++ rest

module _ (writes : Bool) (out : List ℕ) (m : ℕ) (all : List Move) where
  pub listing_start : Listing writes out m all all out m
  listing_start = record { done = []; so = lists_none writes out m; split = refl }

  module _ (rest : List Move) {e : List ℕ} {c : ℕ} (h : Listing writes out m all rest e c) where
    -- some of the rest
    pub listing_on : (now later : List Move) {e' : List ℕ} {c' : ℕ} → rest ≡ now ++ later → Lists writes e c now e' c' → Listing writes out m all later e' c'
    listing_on now later z k = record {
      done = h.done ++ now;
      so = lists_then writes out m h.done now h.so k;
      split = h.split ∙ (rw z (sym (append_assoc h.done now later)));
    }

    pub listing_number : c + length rest ≡ m + length all
    listing_number = omega (arith, h.so.number, ap length h.split, length-append h.done rest)

    pub listing-end : rest ≡ [] → Lists writes out m all e c
    listing-end z = let q : all ≡ h.done = h.split ∙ (rw z (append-nil h.done)) in rw q h.so
