-- Laws of plans (specs/Plans): what a refused and what an allowed move answer, and the successor that is written.
use mathlib.Core.Path.{◌≡◌, refl, sym, ap, ◌∙◌}
use mathlib.Core.Bool.{Bool, true, false, ◌&&◌}
use mathlib.Core.List.{List}
use mathlib.Core.Option.{Option, none, some}
use Prim.Native.Nat.{ℕ, ◌≤◌}
use lib.Dec.{ltb, eqb}
use borrow.Author.Tests.{le-ltb, eq-eqb}
use Rattle.cows.specs.Basics.{only, place_if, Result, refuse, accept, ◌>>=◌, ◌>>◌, forbid, need}
use Rattle.cows.specs.Terms.{Term, size, depth}
use Rattle.cows.specs.Kinds.{kind_of}
use Rattle.cows.specs.Places.{way_to, sub}
use Rattle.cows.specs.Format.{encode}
use Rattle.cows.specs.Active.{live, wanted}
use Rattle.cows.specs.Step.{over_limits}
use Rattle.cows.proofs.Basics.{clash, same_accept}
use Rattle.records.specs.Rewrites.{put}
use Rattle.ways.specs.Ways.{live_there}
use Rattle.ways.proofs.KnownTables.{one_table}
use Rattle.plans.specs.declared.Plan.{Plan}
use Rattle.plans.specs.declared.Refusal.{Refusal}
use Rattle.plans.specs.declared.Refusal.TheVariants.{Unread, Absent, Differs, Apart, Held, Looser, Unripe, Timeless, Stuck, Large}
use Rattle.plans.specs.Plans.{refusal_of, limited, Allowed, Refused, Asks, Gives}

-- no refusal is accepted
pub never_accepts : {A : Type 0} (r : Refusal) (x : A) → ◌≡◌ {A = Result A} (refusal_of r) (accept x) → ⊥
never_accepts Unread x e = absurd cc
never_accepts (Absent p) x e = absurd cc
never_accepts (Differs p) x e = absurd cc
never_accepts (Apart p) x e = absurd cc
never_accepts (Held p) x e = absurd cc
never_accepts (Looser p) x e = absurd cc
never_accepts (Unripe p) x e = absurd cc
never_accepts Timeless x e = absurd cc
never_accepts (Stuck p) x e = absurd cc
never_accepts (Large p) x e = absurd cc

-- a refused move
limited_refusal : (r : Refusal) → refusal_of r ≡ limited (refusal_of r)
unfolding limited ◌>>=◌
limited_refusal Unread = refl
limited_refusal (Absent p) = refl
limited_refusal (Differs p) = refl
limited_refusal (Apart p) = refl
limited_refusal (Held p) = refl
limited_refusal (Looser p) = refl
limited_refusal (Unripe p) = refl
limited_refusal Timeless = refl
limited_refusal (Stuck p) = refl
limited_refusal (Large p) = refl

pub planned_refused : {m : Result Term} {place : ℕ} (r : Refusal) → m ≡ refusal_of r → Refused m place r
planned_refused r e = record { judged = limited_refusal r ∙ ap limited (sym e); place_is = λ s k. absurd (never_accepts r s (sym e ∙ k)) }

-- an allowed move: its successor keeps the limits, and has as many records as the plan says
pub within_limits : (s : Term) → size s ≤ 2048 → depth s ≤ 256 → over_limits s ≡ false
unfolding over_limits
within_limits s h k = rw (le-ltb 2048 (size s) h, le-ltb 256 (depth s) k)

module _ {m : Result Term} (s : Term) (k : m ≡ accept s) where
  pub planned_allowed : {place : ℕ} (p : Plan) → over_limits s ≡ false → p.records ≡ size s → p.from ≡ place → Allowed m place p
  unfolding limited ◌>>=◌ ◌>>◌ forbid place_if
  planned_allowed p o e f = record { judged = rw (k, o, e); place_is = f }

  -- 20: a move whose successor is over the limits
  pub planned_large : {place : ℕ} → over_limits s ≡ true → Refused m place (Large place)
  unfolding limited ◌>>=◌ ◌>>◌ forbid place_if
  planned_large o = record { judged = rw (k, o); place_is = λ _ _. refl }

-- 11: no live record of the kind
pub absent : {A : Type 0} (look : Term → Option A) (kind : ℕ) → ((s : Term) (x : A) → look s ≡ some x → kind_of s ≡ kind)
    → (t : Term) (a : ℕ) → live_there t a kind ≡ false → wanted look t a ≡ refuse 11 a
unfolding wanted need only
absent look kind is t a h = go (ltb a (size t) && live (way_to t a)) (look (sub t a)) refl h
  where
    go : (b : Bool) (o : Option _) → look (sub t a) ≡ o → (b && eqb (kind_of (sub t a)) kind) ≡ false → need 11 a (only b o) ≡ refuse 11 a
    go true none e h = refl
    go true (some x) e h = clash (eq-eqb (kind_of (sub t a)) kind (is (sub t a) x e)) h
    go false o e h = refl

-- the successor of the table's one term
pub gives : {m : Term → Result Term} {place : Term → ℕ} {s ends : List ℕ} {from : ℕ} {out after : List ℕ} (q : Asks m place s ends from out) → after ≡ put out 0 (encode q.successor) → Gives m s ends out after
gives {m} {s = s} {ends = ends} {out = out} q e t r h k =
    e ∙ ap (λ x. put out 0 (encode x)) (same_accept (sym q.accepted ∙ (ap m (one_table s ends q.known.term t q.known.table h) ∙ k)))
