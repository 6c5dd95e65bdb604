-- Kill (specs/Moves, kill_at) as it is judged and written.
use mathlib.Core.Path.{◌≡◌, refl, sym, ap, ◌∙◌}
use mathlib.Core.Bool.{false}
use mathlib.Core.Option.{some}
use mathlib.Core.List.{List, ◌++◌}
use Prim.Native.Nat.{ℕ, ◌+◌, ◌*◌, ◌-◌, ◌/◌, ◌≤◌, ◌<◌}
use native.Mathlib.Omega.{arith}
use lib.ListN.{length, take, drop, length-drop}
use lib.Seq.{take_all, length-take-le}
use Rattle.cows.specs.Basics.{refuse, accept, ◌>>=◌}
use Rattle.cows.specs.Terms.{kill, Term, leaf, size, kills}
use Rattle.cows.specs.Kinds.{root, kind_of}
use Rattle.cows.specs.Places.{way_to, sub}
use Rattle.cows.specs.Format.{byte, word, layout, record16, encode}
use Rattle.cows.specs.Active.{wanted}
use Rattle.cows.specs.Allows.{StandsLive}
use Rattle.cows.specs.Moves.{after_kill, kill_at}
use Rattle.cows.proofs.Basics.{bind-accept, same_accept}
use Rattle.cows.proofs.Sets.{label-range}
use Rattle.cows.proofs.Places.{spot_fits}
use Rattle.cows.proofs.Format.{length-encode}
use Rattle.cows.proofs.Fields.{kind-kill, first-kill}
use Rattle.cows.proofs.Stands.{kills_is, wanted-live, live-wanted}
use Rattle.records.specs.Atoms.{class_of}
use Rattle.records.specs.Answers.{found_of}
use Rattle.records.specs.Rewrites.{put, StandsIn, Rewritable, Done, Rewrites}
use Rattle.records.specs.declared.Label as labels
use Rattle.records.specs.declared.Atom.TheVariants.{Label}
use Rattle.std.specs.Prelude.{Some, None}
use Rattle.std.specs.Prelude as rust
use Rattle.records.proofs.Atoms as classes
use Rattle.records.proofs.Put.{and_then}
use Rattle.records.proofs.StandsIn.{holds_word, holds_stands}
use Rattle.records.proofs.Rewrites.{ready}
use Rattle.rewriting.specs.Halting.{halt_aside, place_in, PlaceOf}
use Rattle.rewriting.proofs.Aligned.{place_of}
use Rattle.ways.specs.Known.{Table}
use Rattle.kill.specs.Losses.{left}
use Rattle.ways.specs.Ways.{scope_of, live_there, LiveAt}
use Rattle.ways.proofs.KnownTables.{table_size}
use Rattle.plans.specs.Plans.{Allowed, Asks}
use Rattle.kill.specs.Killing.{kill_scope}
use Rattle.plans.proofs.Planning.{planned_allowed, absent}
use Rattle.kill.proofs.Left.{is-label, has_scope, scope_place, body_placed, left_is, kill-size, kill_limits, kill-bytes}

kind_of_kill : (s : Term) (k : ℕ) → kills s ≡ some k → kind_of s ≡ 1
unfolding kind_of root record16 layout byte
kind_of_kill s k e = ap kind_of (kills_is s k e)

pub no-kill : (t : Term) (a : ℕ) → live_there t a 1 ≡ false → kill_at t a ≡ refuse 11 a
unfolding kill_at ◌>>=◌
no-kill t a h = rw (absent kills 1 kind_of_kill t a h)

-- a live kill, its label, and the move on it
module _ (s : List ℕ) (t : Term) (a : ℕ) (h : LiveAt s t a 1) where
  kill_at_lem : (k : ℕ) × (sub t a ≡ leaf (kill k))
  kill_at_lem = kind-kill (sub t a) h.kind_is

  abbrev k : ℕ
  k = kill_at_lem.0

  kill-live : StandsLive t a (leaf (kill k))
  kill-live = record { at = record { placed = h.inside; stands = kill_at_lem.1 }; live = h.live }

  label-word : word s (16 * a + 2) ≡ k
  label-word =
      holds_word s t a 2 h.holds h.inside (omega arith)
      ∙ (ap (λ x. word (record16 (root x)) 2) kill_at_lem.1 ∙ first-kill k)

  -- no other atom is killed
  pub label_there : (ends : List ℕ) → Table s ends t → word s (16 * a + 2) < 49152 → ⊥
  label_there ends z x = omega (arith, label-word, label-range k (is-label t z.within a k kill-live))

  fires : kill_at t a ≡ accept (after_kill k t a)
  unfolding kill_at ◌>>=◌ kills
  fires = rw (live-wanted kills t a k (leaf (kill k)) refl kill-live)

  -- the scope that is found
  module _ (ends : List ℕ) (z : Table s ends t) (l : labels.Label) (c : class_of (word s (16 * a + 2)) ≡ Label l)
      (f : rust.Option ℕ) (e : f ≡ found_of (scope_of l.0 (way_to t a))) where
    found_scope : f ≡ found_of (scope_of k (way_to t a))
    found_scope = e ∙ ap (λ d. found_of (scope_of d (way_to t a))) ((classes.is-label _ l c).0 ∙ label-word)

    pub scope_there : f ≡ None → ⊥
    scope_there x =
        let y : f ≡ Some (has_scope t z.within a k kill-live).0 = found_scope ∙ ap found_of (has_scope t z.within a k kill-live).1 in
        let w : ◌≡◌ {A = ℕ} 0 1 = cc in
        omega arith

    -- at this place
    module _ (from : ℕ) (at : f ≡ Some from) where
      scope_is : scope_of k (way_to t a) ≡ some from
      scope_is =
          let (p, x) = has_scope t z.within a k kill-live in
          let y : Some p ≡ Some from = sym (found_scope ∙ ap found_of x) ∙ at in
          let w : p ≡ from = cc in
          x ∙ ap some w

      pub body-inside : from + 1 < length s / 16
      body-inside = omega (arith, body_placed t z.within a k kill-live from scope_is, table_size s ends t z)

      pub few_gone : (gone : ℕ) → gone + left a (from + 1) (sub t (from + 1)) ≡ size (sub t (from + 1)) → gone ≤ length s / 16
      few_gone gone g = omega (arith, table_size s ends t z, spot_fits t (from + 1) (body_placed t z.within a k kill-live from scope_is).0)

      pub kill_planned : (gone : ℕ) → gone + left a (from + 1) (sub t (from + 1)) ≡ size (sub t (from + 1))
          → Allowed (kill_at t a) (kill_scope t a) (record { records = length s / 16 - gone; from = from })
      kill_planned gone g =
          let x : length s / 16 - gone ≡ size (after_kill k t a) = omega (arith, table_size s ends t z, kill-size t z.within a k kill-live from scope_is) in
          planned_allowed (after_kill k t a) fires _
          (kill_limits t z.within a k kill-live from scope_is (omega (arith, table_size s ends t z))) x (sym (scope_place t z.within a k kill-live from scope_is))

-- what an allowed move had, and what writing it asks
module _ (s ends : List ℕ) (a from : ℕ) (out : List ℕ) (q : Asks (λ t. kill_at t a) (λ t. kill_scope t a) s ends from out) where
  abbrev t : Term
  t = q.known.term

  abbrev h : Table s ends t
  h = q.known.table

  record Fired : Type 0 where
    label : ℕ
    kill : StandsLive t a (leaf (kill label))
    scope : scope_of label (way_to t a) ≡ some from
    gives : q.successor ≡ after_kill label t a

  fired : Fired
  unfolding kill_at
  fired =
      let (k, w, e) = bind-accept (wanted kills t a) _ q.successor q.accepted in
      let l = wanted-live kills t a k (leaf (kill k)) (kills_is (sub t a) k) w in
      let (p, x) = has_scope t h.within a k l in
      record {
        label = k;
        kill = l;
        scope = x ∙ ap some (sym (q.place_is ∙ scope_place t h.within a k l p x));
        gives = sym (same_accept e);
      }

  fired_placed : (from + 1 < length s / 16) × (from + 1 ≤ a) × (a < from + 1 + size (sub t (from + 1)))
  fired_placed = let f = fired in omega (arith, body_placed t h.within a f.label f.kill from f.scope, table_size s ends t h)

  abbrev body : Term
  body = sub t (from + 1)

  -- what is left of it, as it is written
  abbrev rewrite : Term → Term
  rewrite = halt_aside (place_in (16 * (from + 1)) (16 * a))

  place_is : place_in (16 * (from + 1)) (16 * a) ≡ a - (from + 1)
  place_is = omega arith

  body_fits : from + 1 + size body ≤ length s / 16
  body_fits = omega (arith, spot_fits t (from + 1) (omega (arith, fired_placed, table_size s ends t h)), table_size s ends t h)

  body_stands : StandsIn s (16 * (from + 1)) body
  body_stands = holds_stands s t (from + 1) h.holds (omega (arith, fired_placed, table_size s ends t h))

  successor-size : size q.successor + size body ≡ length s / 16 + size (rewrite body)
  successor-size =
      let f = fired in
      rw place_is (omega (arith, ap size f.gives, kill-size t h.within a f.label f.kill from f.scope, left_is t h.within a f.label f.kill from f.scope, table_size s ends t h))

  pub head_fits : (16 * (from + 1) ≤ length s) × (16 * (from + 1) ≤ length out) × (16 * a ≤ length s)
  head_fits = omega (arith, successor-size, body_fits, q.room, fired_placed)

  pub body_asks : (d : List ℕ) → length d ≡ length out → Rewritable rewrite s (16 * (from + 1)) d (16 * (from + 1)) × PlaceOf s ends (16 * (from + 1)) (16 * a)
  body_asks d l = (
    ready body body_stands (omega (arith, length-encode (rewrite body), successor-size, body_fits, q.room)),
    place_of t (from + 1) a h.holds h.end (omega (arith, fired_placed, table_size s ends t h)) fired_placed.1 fired_placed.2,
  )

  module _ {d e : List ℕ} {next then : ℕ} (w : Rewrites rewrite s (16 * (from + 1)) d (16 * (from + 1)) e next then) where
    done : Done rewrite body (16 * (from + 1)) d (16 * (from + 1)) e next then
    done = w.done body body_stands

    pub behind_fits : (next ≤ length s) × (then + (length s - next) ≤ length out)
    behind_fits = omega (arith, done.next, done.then, length-encode body, length-encode (rewrite body), successor-size, body_fits, q.room, q.known.whole)

    pub gives_kill : {after : List ℕ} → d ≡ put out 0 (take (16 * (from + 1)) s) → after ≡ put e then (take (length s - next) (drop next s)) → after ≡ put out 0 (encode q.successor)
    gives_kill x y =
        let f = fired in
        let z : take (length s - next) (drop next s) ≡ drop next s = take_all (length s - next) (drop next s) (omega (arith, length-drop next s)) in
        let n : next ≡ 16 * (from + 1 + size body) = omega (arith, done.next, length-encode body) in
        and_then out 0 (16 * (from + 1)) (take (16 * (from + 1)) s) (encode (rewrite body) ++ drop next s)
        (omega (arith, length-take-le (16 * (from + 1)) s (omega (arith, fired_placed)))) x
        (and_then d (16 * (from + 1)) then (encode (rewrite body)) (drop next s) done.then done.bytes (rw z at y))
        ∙ ap (put out 0)
        (rw (n, place_is) (ap (λ x. take (16 * (from + 1)) x ++ (encode (halt_aside (a - (from + 1)) body) ++ drop (16 * (from + 1 + size body)) x)) h.holds.is)
        ∙ (sym (kill-bytes t h.within a f.label f.kill from f.scope) ∙ ap encode (sym f.gives)))
