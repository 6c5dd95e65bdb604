-- From a plan and what writing gives to the reply and the output of a step (specs/Replies): the same for every move m with the place of its plan.
use mathlib.Core.Path.{◌≡◌, refl, sym, ap, subst, ◌∙◌}
use mathlib.Core.Logic.{◌≢◌}
use mathlib.Core.Bool.{false}
use mathlib.Core.List.{List, ◌++◌}
use Prim.Native.Nat.{ℕ, ◌+◌, ◌*◌, ◌≤◌}
use native.Mathlib.Omega.{arith}
use lib.Dec.{ltb}
use lib.ListN.{length, drop}
use lib.Seq.{sets-eq}
use borrow.Author.Tests.{le-ltb}
use Rattle.cows.specs.Basics.{place_if, Result, refuse, accept, ◌>>=◌, ◌>>◌, forbid}
use Rattle.cows.specs.Terms.{Term, size}
use Rattle.cows.specs.Format.{encode}
use Rattle.cows.specs.Step.{over_limits, fitted, reply_to, written}
use Rattle.cows.proofs.Basics.{bool_case, bind-accept, forbid-accept, place_if-none, same_accept}
use Rattle.cows.proofs.Format.{length-encode}
use Rattle.records.specs.Rewrites.{put}
use Rattle.ways.specs.Known.{Table, Known}
use Rattle.std.specs.Prelude as rust
use Rattle.std.specs.Prelude.{Ok, Err}
use Rattle.plans.specs.declared.Refusal.{Refusal}
use Rattle.plans.specs.declared.Refusal.TheVariants.{Unread, Absent, Differs, Apart, Held, Looser, Unripe, Timeless, Stuck, Large}
use Rattle.plans.specs.declared.Plan.{Plan}
use Rattle.plans.proofs.Mapped.{MappedErr, mapped_err}
use Rattle.plans.specs.Plans.{refusal_of, limited, Allowed, Planned, Asks}
use Rattle.tables.specs.declared.Reply.{Reply}
use Rattle.stepper.specs.Replies.{reply_of, reply_in, records_of, Fitting, Answers}

-- the reply to a move's judgement is the reply to its result
pub reply_fitted : (room : ℕ) (m : Result Term) → reply_in room (limited m) ≡ reply_of (reply_to (m >>= fitted room))
unfolding limited fitted reply_to ◌>>=◌ ◌>>◌ forbid place_if
reply_fitted room (refuse n p) = refl
reply_fitted room (accept s) =
    bool_case _ (over_limits s) (λ e. rw e)
    (λ e. rw e (bool_case _ (ltb room (16 * size s)) (λ f. rw f) (λ f. rw f)))

-- no refusal is 0
fitting_refused : (room : ℕ) (why : Refusal) → Fitting (Err why) room (Err (reply_of (reply_to (refusal_of why))))
unfolding reply_to
fitting_refused room Unread = (refl, λ z. omega arith)
fitting_refused room (Absent p) = (refl, λ z. omega arith)
fitting_refused room (Differs p) = (refl, λ z. omega arith)
fitting_refused room (Apart p) = (refl, λ z. omega arith)
fitting_refused room (Held p) = (refl, λ z. omega arith)
fitting_refused room (Looser p) = (refl, λ z. omega arith)
fitting_refused room (Unripe p) = (refl, λ z. omega arith)
fitting_refused room Timeless = (refl, λ z. omega arith)
fitting_refused room (Stuck p) = (refl, λ z. omega arith)
fitting_refused room (Large p) = (refl, λ z. omega arith)

pub fitting_not : (judged : rust.Result Plan Refusal) (room : ℕ) {m : rust.Result Plan Reply} {r : Reply} → MappedErr (λ e y. y ≡ reply_of (reply_to (refusal_of e))) m judged → m ≡ Err r → Fitting judged room (Err r)
fitting_not judged room {m} {r} k e =
    let (why, x, y) = mapped_err _ m judged k e in
    subst (λ j. Fitting j room (Err r)) (sym x) (subst (λ z. Fitting (Err why) room (Err z)) (sym y) (fitting_refused room why))

-- a successor that the limits allow and that fits
pub record Fits (m : Result Term) (room : ℕ) : Type 0 where
  pub successor : Term
  pub accepted : m ≡ accept successor
  pub small : over_limits successor ≡ false
  pub fits : 16 * size successor ≤ room

limited_fits : (m : Result Term) (room n : ℕ) → limited m ≡ accept n → 16 * n ≤ room → Fits m room
unfolding limited
limited_fits m room n e h =
    let (s, es, e₁) = bind-accept m _ n e in
    let (o, e₂) = forbid-accept 20 (place_if (over_limits s) 0) _ n e₁ in
    let z : size s ≡ n = same_accept e₂ in
    record { successor = s; accepted = es; small = place_if-none (over_limits s) 0 o; fits = omega arith }

fits_fitted : (m : Result Term) (room : ℕ) (f : Fits m room) → (m >>= fitted room) ≡ accept f.successor
unfolding fitted ◌>>=◌ ◌>>◌ forbid place_if
fits_fitted m room f = rw (f.accepted, f.small, le-ltb room (16 * size f.successor) f.fits)

-- a successor written where there is room for it
pub put-encode : (out : List ℕ) (s : Term) → 16 * size s ≤ length out → put out 0 (encode s) ≡ encode s ++ drop (16 * size s) out
unfolding put
put-encode out s h =
    let e = length-encode s in
    sets-eq (encode s) out 0 (omega arith) ∙ ap (λ n. encode s ++ drop n out) (let z : 0 + length (encode s) ≡ 16 * size s = omega arith in z)

-- an allowed move, whose successor is written
module _ {m : Result Term} {place : ℕ} {plan : Plan} (allowed : Allowed m place plan) (room : ℕ) (fits : 16 * plan.records ≤ room) where
  plan_fits : Fits m room
  plan_fits = limited_fits m room plan.records (sym allowed.judged) fits

  pub reply_allowed : record { answer = 0; place = 0; records = plan.records } ≡ reply_of (reply_to (m >>= fitted room))
  reply_allowed = sym (rw (le-ltb room (16 * plan.records) fits) refl) ∙ (ap (reply_in room) allowed.judged ∙ reply_fitted room m)

-- an allowed move, whose successor is written
module _ {m : Result Term} {place : ℕ} {plan : Plan} (allowed : Allowed m place plan) (out : List ℕ) (fits : 16 * plan.records ≤ length out) where
  pub moved_written : {r : Reply} (after : List ℕ) → r ≡ record { answer = 0; place = 0; records = plan.records } → ((s : Term) → m ≡ accept s → after ≡ put out 0 (encode s)) → Answers (m >>= fitted (length out)) out after r
  unfolding written
  moved_written after e gives =
      let f = plan_fits allowed (length out) fits in
      record { replies = e ∙ reply_allowed allowed (length out) fits; output = gives f.successor f.accepted ∙ (put-encode out f.successor f.fits ∙ (rw (fits_fitted m (length out) f))) }

-- a refused move, which writes nothing
module _ (m : Result Term) (place : ℕ) (judged : rust.Result Plan Refusal) (planned : Planned m place judged) where
  same_judged : records_of judged ≡ limited m
  same_judged = go judged planned
    where
      go : (j : rust.Result Plan Refusal) → Planned m place j → records_of j ≡ limited m
      go (Ok p) h = h.judged
      go (Err r) h = h.judged

  pub reply_planned : {r : Reply} (room : ℕ) → r ≡ reply_in room (records_of judged) → r ≡ reply_of (reply_to (m >>= fitted room))
  reply_planned room e = e ∙ (ap (reply_in room) same_judged ∙ reply_fitted room m)

  pub moved_refused : {r : Reply} (out : List ℕ) → Fitting judged (length out) (Err r) → Answers (m >>= fitted (length out)) out out r
  unfolding reply_to written
  moved_refused out (e, z) = let x = reply_planned (length out) e in record { replies = x; output = go (m >>= fitted (length out)) (λ i. z (ap (λ q. q.answer) x ∙ i)) }
    where
      go : (x : Result Term) → (reply_to x).answer ≢ 0 → out ≡ written x out
      go (refuse n p) h = refl
      go (accept s) h = absurd (h refl)

-- what writing asks, by the plan for the table's one term
module _ {m : Term → Result Term} {place : Term → ℕ} {s ends : List ℕ} {judged : rust.Result Plan Refusal} (k : Known s ends) (planned : (t : Term) → Table s ends t → Planned (m t) (place t) judged) where
  pub asks : (out : List ℕ) (plan : Plan) → Fitting judged (length out) (Ok plan) → Asks m place s ends plan.from out
  asks out plan (e, z) =
      let p : Allowed (m k.term) (place k.term) plan = subst (Planned (m k.term) (place k.term)) e (planned k.term k.table) in
      let f = plan_fits p (length out) z in
      record { known = k; successor = f.successor; accepted = f.accepted; place_is = p.place_is; room = f.fits }
