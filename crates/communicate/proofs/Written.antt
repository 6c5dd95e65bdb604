-- A communication (crate cows, specs/Moves: communicate_at) as it is written: the numbers of its three parts, the room that they take, and the successor that they are.
use mathlib.Core.Path.{◌≡◌, sym, ap, ap₂, ◌∙◌}
use mathlib.Core.List.{List, ◌++◌}
use Prim.Native.Nat.{ℕ, suc, ◌+◌, ◌*◌, ◌-◌, ◌/◌, ◌≤◌, ◌<◌}
use native.Mathlib.Omega.{arith}
use native.Mathlib.Numerals.{add-one}
use lib.ListN.{length, get_or, take, drop, length-append, length-drop}
use lib.Seq.{take_all}
use Rattle.cows.specs.Terms.{Term, size, invoke_of, receive_of}
use Rattle.cows.specs.Kinds.{Node}
use Rattle.cows.specs.Places.{way_to, sub}
use Rattle.cows.specs.Format.{nodes, bytes, encode}
use Rattle.cows.specs.Moves.{silence, communicate_at}
use Rattle.cows.proofs.Format.{length-nodes, length-encode}
use Rattle.cows.proofs.Silence.{silence-size}
use Rattle.cows.specs.Records.{bound_nodes}
use Rattle.records.specs.declared.Binding.{Binding}
use Rattle.std.specs.Prelude as rust
use Rattle.records.specs.Rewrites.{put}
use Rattle.records.proofs.Put.{and_then}
use Rattle.ways.specs.Ways.{start_of}
use Rattle.ways.proofs.KnownTables.{table_size, table_ended}
use Rattle.renaming.specs.Bound.{bound_records, Unchanged}
use Rattle.plans.specs.Plans.{Asks}
use Rattle.plans.specs.Cutting.{Span}
use Rattle.plans.proofs.Continuing.{span}
use Rattle.communicate.specs.Outermost.{slots_taken, Outermost}
use Rattle.communicate.proofs.Left.{Met, accepted_met}
use Rattle.communicate.proofs.Replacing.{met_records, part_bound}
use Rattle.communicate.proofs.Outside.{outside-unchanged}

-- The bytes ahead of the choice, those of the continuation and those behind the choice, each of them bound, fit the output, and are the table of r.
pub record Parts (front body back out : List ℕ) (r : Term) : Type 0 where
  pub front_fits : length front ≤ length out
  pub body_fits : length front + length body ≤ length out
  pub back_fits : length front + length body + length back ≤ length out
  pub table : encode r ≡ front ++ (body ++ back)

-- written one behind the other
pub joined : {front body back out : List ℕ} {r : Term} → Parts front body back out r → {d₁ d₂ d₃ : List ℕ} {j k : ℕ} → d₁ ≡ put out 0 front → j ≡ 0 + length front → d₂ ≡ put d₁ j body → k ≡ j + length body → d₃ ≡ put d₂ k back
    → d₃ ≡ put out 0 (encode r)
joined {front} {body} {back} {out} p {d₁} {d₂} {d₃} {j} {k} x l y m z = rw p.table (and_then out 0 j front (body ++ back) l x (and_then d₁ j k body back m y z))

module _ {s ends : List ℕ} (a b : ℕ) {from : ℕ} {out : List ℕ} (q : Asks (λ t. communicate_at t a b) (λ t. start_of a (way_to t a)) s ends from out) where
  abbrev t : Term
  t = q.known.term

  met : Met t a b q.successor
  met = accepted_met t q.successor a b q.known.table.within q.accepted

  -- where the parties and the choice stand in the table
  pub asks_span : Span ends (length s / 16) a from × (length s ≡ 16 * (length s / 16)) × (b < length s / 16)
  asks_span = (
    span s ends t q.known.table a (receive_of met.receive) met.matched.receiver met.matched.receives from q.place_is,
    q.known.whole,
    omega (arith, met.matched.sender, table_size s ends t q.known.table),
  )

  abbrev c : ℕ
  c = start_of a (way_to t a)

  abbrev N : List Node
  N = nodes (silence t b)

  bound_part : (i n : ℕ) → i + n ≤ size t → met_records s a b i n ≡ bytes (bound_nodes met.pairs (take n (drop i N)))
  bound_part = part_bound s t a b met.receive met.invoke met.pairs q.known.table.within met.matched q.known.table.holds

  whole : length s / 16 ≡ size t
  whole = table_size s ends t q.known.table

  front_part : met_records s a b 0 from ≡ bytes (bound_nodes met.pairs (take c N))
  front_part = bound_part 0 from (omega (arith, asks_span, whole)) ∙ ap (λ x. bytes (bound_nodes met.pairs (take x N))) q.place_is

  module _ {end rest : ℕ} (f : end ≡ get_or ends a 0) (g : rest ≡ get_or ends from 0) where
    body_part : met_records s a b (a + 1) (end - (a + 1)) ≡ bytes (bound_nodes met.pairs (take (size (sub t a) - 1) (drop (suc a) N)))
    body_part =
        let e = table_ended s ends t q.known.table a met.matched.receiver in
        let z : end - (a + 1) ≡ size (sub t a) - 1 = omega arith in
        rw (z, add-one a) (bound_part (suc a) (size (sub t a) - 1) (omega (arith, asks_span, whole)))

    back_part : met_records s a b rest (length s / 16 - rest) ≡ bytes (bound_nodes met.pairs (drop (c + size (sub t c)) N))
    back_part =
        let n = silence-size t b (invoke_of met.invoke) met.matched.invokes in
        let e = table_ended s ends t q.known.table from (omega (arith, asks_span, whole)) in
        bound_part rest (length s / 16 - rest) (omega (arith, asks_span, whole))
        ∙ (ap (λ x. bytes (bound_nodes met.pairs x)) (take_all (length s / 16 - rest) (drop rest N) (omega (arith, whole, length-drop rest N, length-nodes (silence t b))))
        ∙ ap (λ x. bytes (bound_nodes met.pairs (drop x N))) (g ∙ (e ∙ ap (λ x. x + size (sub t x)) q.place_is)))

    met_parts : Parts (met_records s a b 0 from) (met_records s a b (a + 1) (end - (a + 1))) (met_records s a b rest (length s / 16 - rest)) out q.successor
    met_parts =
        let x = met_records s a b 0 from in
        let y = met_records s a b (a + 1) (end - (a + 1)) in
        let z = met_records s a b rest (length s / 16 - rest) in
        let e : encode q.successor ≡ x ++ (y ++ z) = met.leaves.table ∙ sym (ap₂ ◌++◌ front_part (ap₂ ◌++◌ body_part back_part)) in
        let l : length x + length y + length z ≤ length out = omega (arith, ap length e, length-append x (y ++ z), length-append y z, length-encode q.successor, q.room) in
        record { front_fits = omega arith; body_fits = omega arith; back_fits = l; table = e }

    -- by what the code finds the slots to take
    pub asks_parts : {ts : List (rust.Option Binding)} → ts ≡ slots_taken s a b
        → Parts (bound_records ts b s 0 (from - 0)) (bound_records ts b s (a + 1) (end - (a + 1))) (bound_records ts b s rest (length s / 16 - rest)) out q.successor
    asks_parts e = let z : from - 0 ≡ from = omega arith in rw (z, e) met_parts

  -- what changes stands from place low on, where the outermost delimitation that goes stands, to its end
  pub asks_unchanged : {ts : List (rust.Option Binding)} → ts ≡ slots_taken s a b → {low high : ℕ} → Outermost t b ts low → high ≡ get_or ends low 0 → Unchanged ts b s low high
  asks_unchanged e {low} o f = rw e (outside-unchanged q.known.table a b met.receive met.invoke met.pairs met.matched low (rw e at o) f)

  pub low_inside : {low : ℕ} {ts : List (rust.Option Binding)} → Outermost t b ts low → low < length s / 16
  low_inside o = omega (arith, o.over.inside, whole)
