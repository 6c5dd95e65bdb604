-- Timeout (specs/Moves, timeout_at) as it is judged and written.
use mathlib.Core.Path.{◌≡◌, refl, sym, ap, ◌∙◌}
use mathlib.Core.Logic.{◌≢◌}
use mathlib.Core.Bool.{false}
use mathlib.Core.Option.{some}
use mathlib.Core.List.{List}
use Prim.Native.Nat.{ℕ, ◌+◌, ◌*◌, ◌-◌, ◌/◌, ◌<◌}
use native.Mathlib.Omega.{arith}
use lib.ListN.{length, get_or}
use borrow.Author.Tests.{ne_eqb}
use Rattle.cows.specs.Basics.{place_if, refuse, accept, ◌>>=◌, ◌>>◌, forbid}
use Rattle.cows.specs.Terms.{wait, Term, under, size, prefixed, waits, below}
use Rattle.cows.specs.Kinds.{root, kind_of}
use Rattle.cows.specs.Places.{way_to, sub}
use Rattle.cows.specs.Format.{byte, word, layout, record16, encode}
use Rattle.cows.specs.Active.{wanted}
use Rattle.cows.specs.Moves.{continue, timeout_at}
use Rattle.cows.proofs.Basics.{bind-accept, forbid-accept, same_accept}
use Rattle.cows.proofs.Fields.{kind-wait, interval-wait}
use Rattle.cows.proofs.Stands.{looks, prefixed_is, wanted_is, wanted-live, live-wanted}
use Rattle.records.proofs.StandsIn.{holds_word}
use Rattle.ways.specs.Known.{Table}
use Rattle.ways.specs.Ways.{start_of, live_there, LiveAt}
use Rattle.plans.specs.Plans.{Allowed, Asks}
use Rattle.plans.specs.Cutting.{Span, Room, cut_of}
use Rattle.plans.proofs.Planning.{planned_allowed, absent}
use Rattle.plans.proofs.Continuing.{continue_limits, span, left-size, cut_room, cut-bytes}

kind_of_wait : (s : Term) (n : ℕ) → prefixed waits s ≡ some n → kind_of s ≡ 4
unfolding kind_of root record16 layout byte
kind_of_wait s n e = ap kind_of (prefixed_is waits wait (λ u. (looks u).waiting) s n e)

pub no-wait : (t : Term) (a : ℕ) → live_there t a 4 ≡ false → timeout_at t a ≡ refuse 11 a
unfolding timeout_at ◌>>=◌
no-wait t a h = rw (absent (prefixed waits) 4 kind_of_wait t a h)

-- a live wait, its interval, and the move on it
module _ (s : List ℕ) (t : Term) (a : ℕ) (h : LiveAt s t a 4) where
  wait_at_lem : (n : ℕ) × (sub t a ≡ under (wait n) (below (sub t a)))
  wait_at_lem = kind-wait (sub t a) h.kind_is

  interval : word s (16 * a + 14) ≡ wait_at_lem.0
  interval =
      holds_word s t a 14 h.holds h.inside (omega arith)
      ∙ (ap (λ x. word (record16 (root x)) 14) wait_at_lem.1 ∙ interval-wait wait_at_lem.0 (below (sub t a)))

  wait-wanted : wanted (prefixed waits) t a ≡ accept wait_at_lem.0
  unfolding prefixed waits
  wait-wanted =
      live-wanted (prefixed waits) t a wait_at_lem.0 (under (wait wait_at_lem.0) (below (sub t a))) refl
      (record { at = record { placed = h.inside; stands = wait_at_lem.1 }; live = h.live })

  pub unripe : word s (16 * a + 14) ≢ 0 → timeout_at t a ≡ refuse 16 a
  unfolding timeout_at ◌>>=◌ ◌>>◌ forbid place_if
  unripe e = rw (wait-wanted, ne_eqb wait_at_lem.0 0 (λ z. e (interval ∙ z)))

  pub ripe : word s (16 * a + 14) ≡ 0 → timeout_at t a ≡ accept (continue t a)
  unfolding timeout_at ◌>>=◌ ◌>>◌ forbid place_if
  ripe e = rw (wait-wanted, sym interval ∙ e)

  -- what is cut out when it fires
  module _ (ends : List ℕ) (z : Table s ends t) (from : ℕ) (f : from ≡ start_of a (way_to t a)) where
    pub ripe_span : Span ends (length s / 16) a from
    ripe_span = span s ends t z a (wait wait_at_lem.0) h.inside wait_at_lem.1 from f

    pub ripe_planned : (n : ℕ) → word s (16 * a + 14) ≡ 0 → n ≡ length s / 16 - (get_or ends from 0 - from) + (get_or ends a 0 - a - 1)
        → Allowed (timeout_at t a) (start_of a (way_to t a)) (record { records = n; from = from })
    ripe_planned n e k =
        let u = wait wait_at_lem.0 in
        planned_allowed (continue t a) (ripe e) _ (continue_limits t a u h.inside wait_at_lem.1 z.within)
        (k ∙ sym (left-size s ends t z a u h.inside wait_at_lem.1 from f)) f

-- what an allowed move had
pub allowed_wait : (t : Term) (a : ℕ) (r : Term) → timeout_at t a ≡ accept r → (i : ℕ) × (a < size t) × (sub t a ≡ under (wait i) (below (sub t a))) × (r ≡ continue t a)
unfolding timeout_at
allowed_wait t a r e =
    let (i, w, k) = bind-accept (wanted (prefixed waits) t a) _ r e in
    let (f, g) = forbid-accept 16 _ _ r k in
    let v = prefixed_is waits wait (λ u. (looks u).waiting) (sub t a) i (wanted_is (prefixed waits) t a i w) in
    (i, (wanted-live (prefixed waits) t a i (sub t a) (λ z. refl) w).at.placed, v, same_accept (sym g))

-- so what writing asks is what cutting asks, and what is cut out is the successor
module _ (s ends : List ℕ) (a from : ℕ) (out : List ℕ) (q : Asks (λ t. timeout_at t a) (λ t. start_of a (way_to t a)) s ends from out) where
  pub asks_cut : Span ends (length s / 16) a from × Room s ends a from out
  asks_cut =
      let t = q.known.term in
      let (i, l, e, r) = allowed_wait t a q.successor q.accepted in
      (span s ends t q.known.table a (wait i) l e from q.place_is, cut_room s ends t q.known.table a (wait i) l e from q.place_is out (omega (arith, q.room, ap size r)))

  pub gives_cut : cut_of s ends a from ≡ encode q.successor
  gives_cut =
      let t = q.known.term in
      let (i, l, e, r) = allowed_wait t a q.successor q.accepted in
      cut-bytes s ends t q.known.table a (wait i) l e from q.place_is ∙ ap encode (sym r)
