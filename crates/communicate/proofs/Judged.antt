-- Communicate (specs/Moves, communicate_at) as it is judged (specs/Judging): the parties, each refusal in its order, and the plan of a meeting that is allowed.
use mathlib.Core.Path.{◌≡◌, refl, sym, ap, ◌∙◌}
use mathlib.Core.Bool.{true, false}
use mathlib.Core.Option.{none, some}
use mathlib.Core.List.{List}
use Prim.Native.Nat.{ℕ, ◌+◌, ◌-◌, ◌/◌, ◌<◌}
use native.Mathlib.Omega.{arith}
use lib.ListN.{length, get_or}
use Rattle.cows.specs.Basics.{every, place_if, refuse, accept, ◌>>=◌, ◌>>◌, forbid}
use Rattle.cows.specs.Terms.{Term, leaf, under, Action, size, prefixed, receives, invokes, below, receive_of, invoke_of}
use Rattle.cows.specs.Kinds.{root, kind_of}
use Rattle.cows.specs.Places.{way_to, sub, first}
use Rattle.cows.specs.Format.{byte, layout, record16}
use Rattle.cows.specs.Active.{wanted}
use Rattle.cows.specs.Moves.{Substitution, Matching, binds, differs, closed_action, fit, mismatch_number, matched, in_scope, held_back, tighter, silence, continue, bind, communicate_at}
use Rattle.cows.proofs.Meeting.{fit_fits}
use Rattle.cows.proofs.Stands.{looks, invokes_is, prefixed_is, live-wanted}
use Rattle.ways.specs.Known.{Table}
use Rattle.ways.specs.Ways.{start_of, live_there, LiveAt}
use Rattle.ways.proofs.KnownTables.{table_size, table_ended}
use Rattle.matching.specs.declared.Difference.{Difference}
use Rattle.std.specs.Prelude as rust
use Rattle.std.specs.Prelude.{Ok, Err}
use Rattle.matching.specs.Matching.{difference_of, mismatch_of, fit_of, ActionAt}
use Rattle.matching.proofs.Matches.{mismatch_same}
use Rattle.matching.proofs.Parties.{receive_here, invoke_here}
use Rattle.plans.proofs.Mapped.{MappedErr, mapped_err}
use Rattle.plans.specs.declared.Refusal.{Refusal}
use Rattle.plans.specs.declared.Refusal.TheVariants.{Differs}
use Rattle.plans.specs.Plans.{refusal_of, Allowed}
use Rattle.plans.specs.Cutting.{Span}
use Rattle.plans.proofs.Planning.{within_limits, planned_allowed, absent}
use Rattle.plans.proofs.Continuing.{span}
use Rattle.scoping.specs.Scopes as scopes
use Rattle.communicate.specs.Judging.{BothLive, Meetable}
use Rattle.communicate.proofs.Left.{Matched, left, accepted_met}

kind_of_receive : (s : Term) (q : Action) → prefixed receives s ≡ some q → kind_of s ≡ 3
unfolding kind_of root record16 layout byte
kind_of_receive s q e = ap kind_of (prefixed_is receives receive_of (λ u. (looks u).receiving) s q e)

kind_of_invoke : (s : Term) (m : Action) → invokes s ≡ some m → kind_of s ≡ 2
unfolding kind_of root record16 layout byte
kind_of_invoke s m e = ap kind_of (invokes_is s m e)

pub no-receive : (t : Term) (a b : ℕ) → live_there t a 3 ≡ false → communicate_at t a b ≡ refuse 11 a
unfolding communicate_at ◌>>=◌
no-receive t a b h = rw (absent (prefixed receives) 3 kind_of_receive t a h)

-- The receive.
module _ {s : List ℕ} {t : Term} {a : ℕ} (h : LiveAt s t a 3) where
  pub receiving : (q : Action) × (sub t a ≡ under (receive_of q) (below (sub t a))) × ActionAt s a q
  receiving = receive_here s t a h.holds h.inside h.kind_is

  receive-wanted : wanted (prefixed receives) t a ≡ accept receiving.0
  unfolding prefixed receives
  receive-wanted = live-wanted (prefixed receives) t a _ _ refl (record { at = record { placed = h.inside; stands = receiving.1 }; live = h.live })

  pub no-invoke : (b : ℕ) → live_there t b 2 ≡ false → communicate_at t a b ≡ refuse 11 b
  unfolding communicate_at ◌>>=◌
  no-invoke b e = rw (receive-wanted, absent invokes 2 kind_of_invoke t b e)

-- The receive q at place a and the invoke m at place b.
module _ {s ends : List ℕ} {t : Term} {a b : ℕ} (z : Table s ends t) (h : BothLive s a b t) where
  abbrev receive : (q : Action) × (sub t a ≡ under (receive_of q) (below (sub t a))) × ActionAt s a q
  receive = receiving h.receive

  pub invoke : (m : Action) × (sub t b ≡ leaf (invoke_of m)) × ActionAt s b m
  invoke = invoke_here s t b h.invoke.holds h.invoke.inside h.invoke.kind_is

  abbrev pub q : Action
  q = receive.0

  abbrev pub m : Action
  m = invoke.0

  invoke-wanted : wanted invokes t b ≡ accept m
  unfolding invokes
  invoke-wanted = live-wanted invokes t b m _ refl (record { at = record { placed = h.invoke.inside; stands = invoke.1 }; live = h.invoke.live })

  pub receives_here : prefixed receives (sub t a) ≡ some q
  unfolding prefixed receives
  receives_here = ap (prefixed receives) receive.1

  pub ends_b : ActionAt s b m
  ends_b = invoke.2

  pub parties_fit : {r : rust.Result ℕ Difference} → ((q m : Action) → ActionAt s a q → ActionAt s b m → r ≡ fit_of (fit q m)) → r ≡ fit_of (fit q m)
  parties_fit f = f q m receive.2 ends_b

  pub differ : (d : Difference) → Err d ≡ fit_of (fit q m) → communicate_at t a b ≡ refuse 12 (mismatch_number (mismatch_of d))
  unfolding communicate_at ◌>>=◌ matched
  differ d e = rw (receive-wanted h.receive, invoke-wanted, go (fit q m) e)
    where
      go : (x : Matching) → Err d ≡ fit_of x → matched x ≡ refuse 12 (mismatch_number (mismatch_of d))
      go (binds σ) y = absurd (let c : ◌≡◌ {A = ℕ} 0 1 = cc in omega arith)
      go (differs x) y = let c : difference_of x ≡ d = cc in ap (λ i. refuse 12 (mismatch_number i)) (sym (mismatch_same x) ∙ ap mismatch_of c)

  -- a difference is told as the refusal 12
  pub told_apart : {f : rust.Result ℕ Difference} {r : rust.Result ℕ Refusal} {v : Refusal} → ((q m : Action) → ActionAt s a q → ActionAt s b m → f ≡ fit_of (fit q m))
      → MappedErr (λ d w. w ≡ Differs (mismatch_number (mismatch_of d))) r f → r ≡ Err v → communicate_at t a b ≡ refusal_of v
  told_apart {f} {r} e k y =
      let (d, x, w) = mapped_err _ r f k y in
      differ d (sym x ∙ parties_fit e) ∙ ap refusal_of (sym w)

  -- They fit, and bind l variables.
  module _ {l : ℕ} (e : Ok l ≡ fit_of (fit q m)) where
    pub pairs : (σ : Substitution) × (fit q m ≡ binds σ) × (l ≡ length σ)
    pairs = go (fit q m) refl e
      where
        go : (x : Matching) → fit q m ≡ x → Ok l ≡ fit_of x → (σ : Substitution) × (fit q m ≡ binds σ) × (l ≡ length σ)
        go (binds σ) y c = (σ, y, let d : l ≡ length σ = cc in d)
        go (differs x) y c = absurd (let d : ◌≡◌ {A = ℕ} 0 1 = cc in omega arith)

    abbrev pub σ : Substitution
    σ = pairs.0

    pub meets : scopes.MatchedParties a b t σ
    meets = record {
      receive = q;
      invoke = m;
      receives = receive.1;
      invokes = invoke.1;
      fits = pairs.1;
    }

    pub closed : closed_action m ≡ true
    unfolding closed_action
    closed = rw (fit_fits q m σ pairs.1).closed

    pub apart : every (in_scope t a b) σ ≡ false → communicate_at t a b ≡ refuse 13 a
    unfolding communicate_at ◌>>=◌ ◌>>◌ matched forbid place_if
    apart y = rw (receive-wanted h.receive, invoke-wanted, pairs.1, y)

    -- Their scopes are in order.
    module _ (y : every (in_scope t a b) σ ≡ true) where
      pub held : (p : ℕ) → first (held_back a b) t ≡ some p → communicate_at t a b ≡ refuse 14 p
      unfolding communicate_at ◌>>=◌ ◌>>◌ matched forbid place_if
      held p x = rw (receive-wanted h.receive, invoke-wanted, pairs.1, y, x)

      module _ (x : first (held_back a b) t ≡ none) where
        pub looser : (p : ℕ) → first (tighter m l) t ≡ some p → communicate_at t a b ≡ refuse 15 p
        unfolding communicate_at ◌>>=◌ ◌>>◌ matched forbid place_if
        looser p v = rw (receive-wanted h.receive, invoke-wanted, pairs.1, y, x, ← pairs.2, v)

        met : first (tighter m l) t ≡ none → communicate_at t a b ≡ accept (bind σ (continue (silence t b) a))
        unfolding communicate_at ◌>>=◌ ◌>>◌ matched forbid place_if
        met v = rw (receive-wanted h.receive, invoke-wanted, pairs.1, y, x, ← pairs.2, v)

        pub may_meet : first (tighter m l) t ≡ none → Meetable t a b l
        may_meet v =
            let p : Matched t a b q m σ =
            record { receiver = h.receive.inside; receives = receive.1; sender = h.invoke.inside; invokes = invoke.1; fits = pairs.1; scopes = y } in
            record { after = bind σ (continue (silence t b) a); accepted = met v; count = omega (arith, (left t a b q m σ z.within p).count, pairs.2) }

-- The plan of a meeting that is allowed.
module _ {s ends : List ℕ} {t : Term} {a from : ℕ} (z : Table s ends t) (h : LiveAt s t a 3) (f : from ≡ start_of a (way_to t a)) where
  pub receive_span : Span ends (length s / 16) a from
  receive_span = let r = receiving h in span s ends t z a (receive_of r.0) h.inside r.1 from f

  module _ {b l : ℕ} (m : Meetable t a b l) where
    pub records_left : length s / 16 - (get_or ends from 0 - from) + (get_or ends a 0 - a - 1) ≡ size m.after + l
    records_left =
        let w = table_size s ends t z in
        let i : from < size t = omega (arith, receive_span) in
        omega (arith, m.count, ap (λ c. size (sub t c)) f, table_ended s ends t z a h.inside, table_ended s ends t z from i, receive_span)

    pub meeting_planned : (j : ℕ) → j ≡ length s / 16 - (get_or ends from 0 - from) + (get_or ends a 0 - a - 1)
        → Allowed (communicate_at t a b) (start_of a (way_to t a)) (record { records = j - l; from = from })
    meeting_planned j d =
        let w = (accepted_met t m.after a b z.within m.accepted).leaves in
        planned_allowed m.after m.accepted _ (within_limits m.after w.small w.shallow) (omega (arith, records_left)) f
