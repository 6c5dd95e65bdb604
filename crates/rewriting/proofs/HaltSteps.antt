-- Halting at each kind of record.
use mathlib.Core.Path.{◌≡◌, refl, sym, subst}
use mathlib.Core.Logic.{◌≢◌}
use mathlib.Core.List.{List}
use Prim.Native.Nat.{ℕ, ◌≤◌, ◌<◌}
use native.Mathlib.Omega.{arith}
use lib.ListN.{get_or}
use Rattle.cows.specs.Terms.{nil, kill, invoke, receive, wait, protection, delimitation, replication, choice, parallel, Term, leaf, under, both}
use Rattle.cows.specs.Kinds.{root, kind_of, open_kinds}
use Rattle.cows.specs.Format.{record16}
use Rattle.cows.specs.Moves.{halt_under, halt_both, halt}
use Rattle.cows.proofs.Fields.{kind_is}
use Rattle.records.specs.Rewrites.{StandsIn, unchanged, gone}
use Rattle.records.proofs.StandsIn.{encode-under, encode-both, stands_kind}
use Rattle.records.proofs.Rewrites.{Step}

-- the kinds of which halting makes nil, which it keeps whole, and which it goes through
abbrev pub Gone : Term → Type 0
Gone t = kind_of t < 6

abbrev pub Kept : Term → Type 0
Kept t = kind_of t ≡ 7

abbrev pub Through : Term → Type 0
Through t = (6 ≤ kind_of t) × (kind_of t ≢ 7)

pub halt-gone : (t : Term) → Gone t → halt t ≡ gone t
unfolding halt halt_under halt_both open_kinds
halt-gone (leaf x) h = refl
halt-gone (under (receive p o ws) t) h = refl
halt-gone (under (wait n) t) h = refl
halt-gone (under protection t) h = absurd (omega arith)
halt-gone (under (delimitation d) t) h = absurd (omega arith)
halt-gone (under replication t) h = absurd (omega arith)
halt-gone (both choice l r) h = refl
halt-gone (both parallel l r) h = absurd (omega arith)

pub halt-kept : (t : Term) → Kept t → halt t ≡ unchanged t
unfolding halt halt_under
halt-kept t h = subst (λ r. halt r ≡ r) (sym (kind_is 7 t h)) refl

pub halt_step : (t : Term) → Through t → Step halt halt halt (record16 (root t)) t
unfolding halt halt_under halt_both open_kinds
halt_step (leaf nil) h = absurd (omega arith)
halt_step (leaf (kill k)) h = absurd (omega arith)
halt_step (leaf (invoke p o ws)) h = absurd (omega arith)
halt_step (under (receive p o ws) t) h = absurd (omega arith)
halt_step (under (wait n) t) h = absurd (omega arith)
halt_step (under protection t) h = absurd (omega arith)
halt_step (under (delimitation d) t) h = encode-under (delimitation d) (halt t)
halt_step (under replication t) h = encode-under replication (halt t)
halt_step (both choice l r) h = absurd (omega arith)
halt_step (both parallel l r) h = encode-both parallel (halt l) (halt r)

-- the kind, read at a byte, is that of the term there
module _ {s : List ℕ} {i : ℕ} where
  pub gone_at : get_or s i 0 < 6 → (t : Term) → StandsIn s i t → Gone t
  gone_at h t x = omega (arith, stands_kind t x)

  pub kept_at : get_or s i 0 ≡ 7 → (t : Term) → StandsIn s i t → Kept t
  kept_at h t x = omega (arith, stands_kind t x)

  pub through_at : 6 ≤ get_or s i 0 → get_or s i 0 ≢ 7 → (t : Term) → StandsIn s i t → Through t
  through_at h h₇ t x = omega (arith, stands_kind t x)
