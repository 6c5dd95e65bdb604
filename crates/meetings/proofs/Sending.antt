-- The places behind the delimitations of what is sent (specs/Meetings, Sent), number by number.
use mathlib.Core.Path.{◌≡◌, sym, ap, ◌∙◌}
use mathlib.Core.Bool.{false}
use mathlib.Core.List.{List}
use Prim.Native.Nat.{ℕ, ◌+◌, ◌*◌, ◌/◌, ◌%◌, ◌<◌}
use native.Mathlib.Omega.{arith}
use lib.ListN.{length, get_or, set}
use lib.Seq.{get_or-set_same, get_or-set_other}
use Rattle.cows.specs.Terms.{Term, size}
use Rattle.cows.specs.Format.{word}
use Rattle.cows.proofs.Basics.{clash, lt_case}
use Rattle.roles.specs.Roles.{behind_of, sending}
use Rattle.meetings.specs.Meetings.{Sent}
use Rattle.meetings.specs.Reaching.{SentTo}

module _ (s : List ℕ) (t : Term) where
  -- one number more, the i-th of place b
  pub sent_more : (sent : List ℕ) (b i j k : ℕ) {sent' : List ℕ} → i < 4 → j ≡ 4 * b + i → k ≡ j + 1 → sent' ≡ set sent j (behind_of t (word s (16 * b + (6 + 2 * i)))) → j < length sent
      → SentTo s t sent j → SentTo s t sent' k
  sent_more sent b i j k f x y e l h n m z =
      ap (λ r. get_or r n 0) e
      ∙ lt_case (get_or (set sent j (behind_of t (word s (16 * b + (6 + 2 * i))))) n 0 ≡ behind_of t (word s (16 * (n / 4) + (6 + 2 * (n % 4))))) n j
      (λ u. get_or-set_other sent j n _ 0 (λ q. omega arith) ∙ h n u z)
      (λ u.
      let q : n ≡ j = omega arith in
      let v : 16 * b + (6 + 2 * i) ≡ 16 * (n / 4) + (6 + 2 * (n % 4)) = omega arith in
      rw (← v, q) (get_or-set_same sent j _ 0 l))

  -- a place of which nothing is told
  pub sent_over : (sent : List ℕ) (b : ℕ) → sending t b ≡ false → SentTo s t sent (4 * b) → SentTo s t sent (4 * (b + 1))
  sent_over sent b e h j k z =
      lt_case (get_or sent j 0 ≡ behind_of t (word s (16 * (j / 4) + (6 + 2 * (j % 4))))) j (4 * b) (λ m. h j m z) (λ m. let q : j / 4 ≡ b = omega arith in clash (ap (sending t) (sym q) ∙ z) e)

  pub sent_all : (sent : List ℕ) → SentTo s t sent (4 * size t) → Sent s t sent
  sent_all sent h b i l k z =
      let q : (4 * b + i) / 4 ≡ b = omega arith in
      let r : (4 * b + i) % 4 ≡ i = omega arith in
      rw (q, r) at (h (4 * b + i) (omega arith) (ap (sending t) q ∙ z))
