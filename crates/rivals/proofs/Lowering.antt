-- What the record at one place does to the number of an invoke (roles, specs/Roles, ready_bound), and the walk of a ready receive along the chain of its class.
use mathlib.Core.Path.{◌≡◌, refl, sym, ap, ◌∙◌}
use mathlib.Core.Logic.{◌≢◌}
use mathlib.Core.Bool.{Bool, true, false, cond, ◌&&◌, ◌||◌}
use mathlib.Core.List.{List}
use mathlib.Core.Option.{Option, none, some}
use Prim.Native.Nat.{ℕ, ◌-◌, ◌/◌, ◌≤◌, ◌<◌, min}
use native.Mathlib.Omega.{arith}
use lib.Dec.{eqb}
use lib.ListN.{length, get_or}
use borrow.Author.Tests.{eqb-true, eq-eqb}
use Rattle.cows.specs.Basics.{found, only}
use Rattle.cows.specs.Terms.{Term, Action, size, invokes, prefixed, receives, receive_of, below}
use Rattle.cows.specs.Places.{spot_at, way_to, sub}
use Rattle.cows.specs.Active.{ready}
use Rattle.cows.specs.Moves.{Matching, binds, differs, unset_variable, other_endpoint, provided, closed_action, fit}
use Rattle.cows.proofs.Basics.{never, clash, and_true, true_and, not_so, eq_case, lt_case, same_some, only-some, found_some, holds_some}
use Rattle.cows.proofs.Stands.{invokes_is, looks, prefixed_is}
use Rattle.records.specs.Holds.{Holds}
use Rattle.records.proofs.StandsIn.{holds_size}
use Rattle.matching.specs.declared.Difference.{Difference}
use Rattle.std.specs.Prelude as rust
use Rattle.std.specs.Prelude.{Ok, Err}
use Rattle.matching.specs.Matching.{fit_of, ActionAt}
use Rattle.matching.proofs.Parties.{receive_ends, invoke_ends}
use Rattle.roles.specs.declared.Role.{Role}
use Rattle.roles.specs.declared.Role.TheVariants.{Receiver, Rival}
use Rattle.roles.specs.Roles.{is_role, role_at, seen, unfit, bound_by, bound_at, ready_bound, sending, rivalling, Cast}
use denote.Enum.Bare.{sameb}
use Rattle.roles.specs.contracts.Role.{the_type}
use Rattle.roles.proofs.Same.{by_test}
use Rattle.roles.proofs.Roles.{role_sender, role_rival}
use Rattle.chains.specs.Chains.{class_at, sender_here, in_class}
use Rattle.chains.proofs.Chaining.{FirstAt, first_most, Walking, walking_start, walking_at, walking_on, walking_less, walking_end, steps_left}
use Rattle.rivals.specs.Rivals.{LoweredAt, Rivals, LoweredAll}

-- what an answer of matching says of the number
bound_fits : (x : Matching) (l : ℕ) → Ok l ≡ fit_of x → bound_by x ≡ l
unfolding bound_by
bound_fits (binds σ) l e = cc
bound_fits (differs d) l e = cc

bound_apart : (x : Matching) (d : Difference) → Err d ≡ fit_of x → bound_by x ≡ unfit
unfolding bound_by
bound_apart (binds σ) d e = cc
bound_apart (differs f) d e = refl

-- endpoints of two classes differ
other_bound : (s : List ℕ) (r b : ℕ) (q m : Action) → ActionAt s r q → ActionAt s b m → class_at s b ≢ class_at s r → bound_by (fit q m) ≡ unfit
unfolding fit provided bound_by class_at
other_bound s r b q m h k n = go (closed_action m) _ _ ends
  where
    ends : (eqb q.partner m.partner && eqb q.operation m.operation) ≡ false
    ends = not_so (λ y.
        let (u, v) = and_true _ _ y in
        let x : q.partner ≡ m.partner = eqb-true _ _ u in
        let z : q.operation ≡ m.operation = eqb-true _ _ v in
        n (rw (h.partner, h.operation, k.partner, k.operation, x, z)))

    go : (c e : Bool) (rest : Matching) → e ≡ false → bound_by (cond c (cond e rest (differs other_endpoint)) (differs unset_variable)) ≡ unfit
    go true true rest e = never (sym e)
    go true false rest e = refl
    go false e rest z = refl

-- An invoke that may be a party holds no variable, and is marked.
sends-closed : (t : Term) (b : ℕ) (m : Action) → sending t b ≡ true → invokes (sub t b) ≡ some m → closed_action m ≡ true
unfolding sending seen
sends-closed t b m e i =
    let (a, p, q) = holds_some closed_action _ (and_true _ _ e).0 in
    let z : a ≡ m = same_some (sym (only-some _ _ a p).1 ∙ i) in
    ap closed_action (sym z) ∙ q

sends_marked : (t : Term) (cast : List Role) (b : ℕ) → Cast t cast → b < size t → sending t b ≡ true → sender_here cast b ≡ true
unfolding sender_here
sends_marked t cast b k l e = rw (k b l, role_sender t b l) e

-- The record at place r: no ready receive, or one with its endpoint and tuple.
no_rival : (t : Term) (r : ℕ) (m : Action) → rivalling t r ≡ false → ready_bound m (spot_at t r) ≡ unfit
unfolding rivalling ready_bound bound_at only found way_to sub
no_rival t r m e = go (ready (way_to t r)) (prefixed receives (sub t r)) e
  where
    go : (b : Bool) (o : Option Action) → (b && found o) ≡ false → bound_at m (only b o) ≡ unfit
    go true none e = refl
    go true (some q) e = never (sym e)
    go false o e = refl

record Receives (s : List ℕ) (t : Term) (r : ℕ) : Type 0 where
  action : Action
  at : ActionAt s r action
  bound : (m : Action) → ready_bound m (spot_at t r) ≡ bound_by (fit action m)

ready-bound : (t : Term) (r : ℕ) (q m : Action) → ready (way_to t r) ≡ true → prefixed receives (sub t r) ≡ some q → ready_bound m (spot_at t r) ≡ bound_by (fit q m)
unfolding ready_bound bound_at only way_to sub
ready-bound t r q m p z = rw (p, z)

rival_is : (s : List ℕ) (t : Term) (r : ℕ) → Holds s t → r < size t → rivalling t r ≡ true → Receives s t r
unfolding rivalling
rival_is s t r h l e =
    let (p, f) = and_true (ready (way_to t r)) _ e in
    let (q, z) = found_some (prefixed receives (sub t r)) f in
    record { action = q; at = receive_ends s t r h l q (below (sub t r)) (prefixed_is receives receive_of (λ u. (looks u).receiving) (sub t r) q z); bound = λ m. ready-bound t r q m p z }

-- by its role
pub by_tests : (r : Role) (a b v : Bool) → a ≡ sameb the_type r Receiver → b ≡ sameb the_type r Rival → (a || b) ≡ v → (is_role r Receiver || is_role r Rival) ≡ v
by_tests r a b v p q e = rw (by_test r Receiver p refl, by_test r Rival q refl) e

ready_role_lem : (t : Term) (cast : List Role) (r : ℕ) (v : Bool) → Cast t cast → r < size t → (is_role (role_at cast r) Receiver || is_role (role_at cast r) Rival) ≡ v → rivalling t r ≡ v
ready_role_lem t cast r v k l e = sym (role_rival t r l) ∙ (rw (k r l) at e)

-- The walk of the receive at place r stands at e: of the invokes before the place, the numbers are lowered, and the others are as they were.
abbrev LowerTurn : Term → ℕ → List ℕ → List ℕ → ℕ → Type 0
LowerTurn t r old new place =
    (b : ℕ) (m : Action) → b < size t → sending t b ≡ true → invokes (sub t b) ≡ some m → get_or old b 0 ≤ unfit
    → (b < place → get_or new b 0 ≡ min (get_or old b 0) (ready_bound m (spot_at t r))) × (place ≤ b → get_or new b 0 ≡ get_or old b 0)

pub record Lowering (s : List ℕ) (cast : List Role) (r : ℕ) (old new : List ℕ) (e : ℕ) : Type 0 where
  pub place : ℕ
  pub walk : Walking (sender_here cast) (class_at s) (length s / 16) (class_at s r) place e
  pub turn : (t : Term) → Holds s t → Cast t cast → LowerTurn t r old new place

module _ (s : List ℕ) (cast : List Role) (heads next : List ℕ) (r : ℕ) (old : List ℕ) (k : Rivals s cast heads next r old) where
  placed : (t : Term) → Holds s t → r < size t
  placed t h = omega (arith, holds_size s t h, k.inside)

  pub lowered_none : (is_role (role_at cast r) Receiver || is_role (role_at cast r) Rival) ≡ false → (t : Term) → Holds s t → Cast t cast → LoweredAll t r old old
  lowered_none v t h c b m l e i f = rw (no_rival t r m (ready_role_lem t cast r false c (placed t h) v)) (omega arith)

  pub lowering_start : class_at s r < 256 → Lowering s cast r old old (get_or heads (class_at s r) 0)
  lowering_start l = record { place = 0; walk = walking_start _ _ _ _ heads next k.senders.chained l; turn = λ t h c b m l e i f. (λ x. absurd (omega arith), λ x. refl) }

  pub lowering_most : (new : List ℕ) (e : ℕ) → Lowering s cast r old new e → e ≤ length s / 16
  lowering_most new e w = rw w.walk.here (first_most _ (length s / 16) w.place)

  pub lowering_less : (new : List ℕ) (e : ℕ) → 0 < e → Lowering s cast r old new e → steps_left (length s / 16) (get_or next (e - 1) 0) < steps_left (length s / 16) e
  lowering_less new e p w = walking_less _ _ _ _ heads next k.senders.chained w.place e p w.walk

  -- a ready receive
  module _ (v : (is_role (role_at cast r) Receiver || is_role (role_at cast r) Rival) ≡ true) where
    rival : (t : Term) → Holds s t → Cast t cast → Receives s t r
    rival t h c = rival_is s t r h (placed t h) (ready_role_lem t cast r true c (placed t h) v)

    -- an invoke that is not of its class
    passed_by : (t : Term) (h : Holds s t) (c : Cast t cast) (b : ℕ) (m : Action) → b < size t → sending t b ≡ true → invokes (sub t b) ≡ some m
        → in_class (sender_here cast) (class_at s) (class_at s r) b ≡ false → ready_bound m (spot_at t r) ≡ unfit
    unfolding in_class
    passed_by t h c b m l e i n =
        let x = rival t h c in
        x.bound m ∙ other_bound s r b _ m x.at (invoke_ends s t b h l m (invokes_is _ m i)) (λ z. clash (true_and (sends_marked t cast b c l e) (eq-eqb _ _ z)) n)

    pub lowering_end : (new : List ℕ) → Lowering s cast r old new 0 → (t : Term) → Holds s t → Cast t cast → LoweredAll t r old new
    lowering_end new w t h c b m l e i f =
        let x = w.turn t h c b m l e i f in
        lt_case (get_or new b 0 ≡ min (get_or old b 0) (ready_bound m (spot_at t r))) b w.place x.0
        (λ y. x.1 y ∙ rw (passed_by t h c b m l e i (walking_end _ _ _ _ heads next k.senders.chained w.place w.walk b y (omega (arith, holds_size s t h)))) (omega arith))

    module _ (new : List ℕ) (e : ℕ) (p : 0 < e) (w : Lowering s cast r old new e) where
      at : FirstAt (in_class (sender_here cast) (class_at s) (class_at s r)) (length s / 16) w.place (e - 1)
      at = walking_at _ _ _ _ heads next k.senders.chained w.place e p w.walk

      -- one invoke more
      lowering_on : (to : List ℕ) → ((b : ℕ) → b ≢ e - 1 → get_or to b 0 ≡ get_or new b 0)
          → ((t : Term) (h : Holds s t) (m : Action) → e - 1 < size t → sending t (e - 1) ≡ true → invokes (sub t (e - 1)) ≡ some m → Cast t cast → get_or new (e - 1) 0 ≤ unfit
          → get_or to (e - 1) 0 ≡ min (get_or new (e - 1) 0) (ready_bound m (spot_at t r)))
          → Lowering s cast r old to (get_or next (e - 1) 0)
      lowering_on to others here = record { place = e; walk = walking_on _ _ _ _ heads next k.senders.chained w.place e p w.walk; turn = turns }
        where
          turns : (t : Term) → Holds s t → Cast t cast → LowerTurn t r old to e
          turns t h c b m l i z f =
              let x = w.turn t h c b m l i z f in (
                λ y. eq_case (get_or to b 0 ≡ min (get_or old b 0) (ready_bound m (spot_at t r))) b (e - 1)
                    (λ q.
                    let u : e - 1 < size t = omega arith in
                    let d : get_or new b 0 ≡ get_or old b 0 = x.1 (omega (arith, at.behind)) in
                    let g : get_or new (e - 1) 0 ≡ get_or old b 0 = ap (λ j. get_or new j 0) (sym q) ∙ d in
                    ap (λ j. get_or to j 0) q ∙ (here t h m u (rw q at i) (rw q at z) c (omega arith) ∙ ap (λ j. min j (ready_bound m (spot_at t r))) g))
                    (λ n. others b n
                    ∙ lt_case (get_or new b 0 ≡ min (get_or old b 0) (ready_bound m (spot_at t r))) b w.place x.0
                    (λ u. x.1 u ∙ rw (passed_by t h c b m l i z (at.before b u (omega arith))) (omega arith))),
                λ y. others b (λ n. omega arith) ∙ x.1 (omega (arith, at.behind)),
              )

      module _ (f : rust.Result ℕ Difference) (tells : (q m : Action) → ActionAt s r q → ActionAt s (e - 1) m → closed_action m ≡ true → f ≡ fit_of (fit q m)) where
        told : (t : Term) (h : Holds s t) (c : Cast t cast) (m : Action) → e - 1 < size t → sending t (e - 1) ≡ true → (i : invokes (sub t (e - 1)) ≡ some m) → f ≡ fit_of (fit (rival t h c).action m)
        told t h c m l g i = tells _ m (rival t h c).at (invoke_ends s t (e - 1) h l m (invokes_is _ m i)) (sends-closed t (e - 1) m g i)

        pub lowering_past : (d : Difference) → Err d ≡ f → Lowering s cast r old new (get_or next (e - 1) 0)
        lowering_past d z =
            lowering_on new (λ b n. refl) (λ t h m l g i c y. rw ((rival t h c).bound m ∙ bound_apart _ d (z ∙ told t h c m l g i)) (omega arith))

        pub lowering_put : (n : ℕ) (to : List ℕ) → Ok n ≡ f → LoweredAt (e - 1) n new to → Lowering s cast r old to (get_or next (e - 1) 0)
        lowering_put n to z q =
            lowering_on to q.others (λ t h m l g i c y. q.here ∙ ap (min (get_or new (e - 1) 0)) (sym ((rival t h c).bound m ∙ bound_fits _ n (z ∙ told t h c m l g i))))
