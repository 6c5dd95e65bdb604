-- What a communication leaves: the table of the successor by the records of the term as it was, its size, and that it is within the limits.
use mathlib.Core.Path.{◌≡◌, sym, ap, subst, ◌∙◌}
use mathlib.Core.Bool.{true, not, ◌&&◌}
use mathlib.Core.List.{List, [], ◌∷◌, ◌++◌}
use Prim.Native.Nat.{ℕ, suc, ◌+◌, ◌-◌, ◌≤◌, ◌<◌}
use native.Mathlib.Omega.{arith}
use lib.Dec.{eqb}
use lib.ListN.{length, take, drop}
use borrow.Author.Tests.{eqb-true, eq-eqb, not-true}
use Rattle.cows.specs.Basics.{any, member, accept, every}
use Rattle.cows.specs.Terms.{choice, parallel, Term, under, Action, variable, size, invokes, prefixed, receives, below, receive_of, leaf, depth, invoke_of}
use Rattle.cows.specs.Kinds.{Node, distinct}
use Rattle.cows.specs.Places.{inside, left_of, right_of, Way, way_to, sub, frame_delimits, enclosed, frame_chooses}
use Rattle.cows.specs.Format.{nodes, bytes, encode}
use Rattle.cows.specs.Active.{wanted}
use Rattle.cows.specs.Within.{Right, counts, Within}
use Rattle.cows.specs.Allows.{Matches, empty, takes, equals, AllReach}
use Rattle.cows.specs.Moves.{Substitution, binds, fit, matched, in_scope, silence, around_choice, continue, bind, communicate_at}
use Rattle.cows.proofs.Basics.{clash, and_true, true_and, or_both, or_right, not_so, bind-accept}
use Rattle.cows.proofs.Scopes.{counts-enclosed}
use Rattle.cows.proofs.Fields.{append_bytes}
use Rattle.cows.proofs.Parts.{Sound}
use Rattle.cows.proofs.CommunicateKeeps.{AllBind}
use Rattle.cows.specs.Records.{bound_nodes}
use Rattle.cows.proofs.BoundNodes.{bound_append, bind-nodes, bind-depth, Once, bind-size}
use Rattle.cows.proofs.Meeting.{fit_fits, matched-binds, in_scope_reaches}
use Rattle.cows.proofs.Preserving.{meeting-binds, scopes_passed}
use Rattle.cows.proofs.Stands.{right_at, invokes_is, looks, prefixed_is, wanted-live}
use Rattle.ways.specs.Ways.{start_of}
use Rattle.plans.proofs.Continuing.{cuts}
use Rattle.communicate.proofs.Continued.{silence-enclosed, left-nodes, left-size, left-depth}

-- The receive q at place a fits the invoke m at place b, and each variable that it binds is in scope.
pub record Matched (t : Term) (a b : ℕ) (q m : Action) (σ : Substitution) : Type 0 where
  pub receiver : a < size t
  pub receives : sub t a ≡ under (receive_of q) (below (sub t a))
  pub sender : b < size t
  pub invokes : sub t b ≡ leaf (invoke_of m)
  pub fits : fit q m ≡ binds σ
  pub scopes : every (in_scope t a b) σ ≡ true

-- What the two leave, r, is within the limits. Of the records N, those of t with the invoke silenced, the choice that begins at place c is cut out but for the continuation,
-- and the variables are bound.
pub record Leaves (t : Term) (a : ℕ) (σ : Substitution) (c : ℕ) (N : List Node) (r : Term) : Type 0 where
  pub table : encode r ≡ bytes (bound_nodes σ (take c N)) ++ (bytes (bound_nodes σ (take (size (sub t a) - 1) (drop (suc a) N))) ++ bytes (bound_nodes σ (drop (c + size (sub t c)) N)))
  pub count : size r + length σ + size (sub t c) ≡ size t + (size (sub t a) - 1)
  pub shallow : depth r ≤ 256
  pub small : size r ≤ 2048

-- the same with the choice's place and the records in full
abbrev pub Left : Term → ℕ → ℕ → Substitution → Term → Type 0
Left t a b σ r = Leaves t a σ (start_of a (way_to t a)) (nodes (silence t b)) r

-- There are such parties, and r is what they leave.
pub record Met (t : Term) (a b : ℕ) (r : Term) : Type 0 where
  pub receive : Action
  pub invoke : Action
  pub pairs : Substitution
  pub matched : Matched t a b receive invoke pairs
  pub leaves : Left t a b pairs r
  pub is : bind pairs (continue (silence t b) a) ≡ r

-- the variables bound are the pattern's, and those are distinct
keys-member : {ws vs : List ℕ} {σ : Substitution} → Matches ws vs σ → (y : ℕ) → any (λ (p : ℕ × ℕ). eqb p.0 y) σ ≡ true → member y ws ≡ true
unfolding any member
keys-member empty y h = h
keys-member (takes {w = w} e m) y h = or_both {a = eqb w y} (λ k. eq-eqb y w (sym (eqb-true w y k))) (keys-member m y) h
keys-member (equals {v = v} e m) y h = or_right (eqb y v) _ (keys-member m y h)

once_met : (t r : Term) (a b : ℕ) → ((x : ℕ) → enclosed x (way_to t a) ≡ true → counts x r ≡ 1)
    → {ws vs : List ℕ} {σ : Substitution} → Matches ws vs σ → distinct ws ≡ true → AllReach t a b σ → Once r σ
unfolding distinct
once_met t r a b k empty d h = tt
once_met t r a b k (takes {w = w} {ws = ws} e m) d h =
    let (d₁, d₂) = and_true (not (variable w && member w ws)) (distinct ws) d in
    (k w h.0.receiver, not_so (λ i. clash (true_and e (keys-member m w i)) (not-true _ d₁)), once_met t r a b k m d₂ h.1)
once_met t r a b k (equals {v = v} {ws = ws} e m) d h = once_met t r a b k m (and_true (not (variable v && member v ws)) (distinct ws) d).1 h

-- a choice delimits nothing
enclosed_around : (d : ℕ) (w : Way) → enclosed d w ≡ true → enclosed d (around_choice w) ≡ true
unfolding enclosed any frame_delimits around_choice frame_chooses
enclosed_around d [] h = h
enclosed_around d (inside u ∷ w) h = h
enclosed_around d (left_of choice t ∷ w) h = enclosed_around d w h
enclosed_around d (left_of parallel t ∷ w) h = h
enclosed_around d (right_of choice t ∷ w) h = enclosed_around d w h
enclosed_around d (right_of parallel t ∷ w) h = h

-- The receive q at place a and the invoke m at place b match.
module _ (t : Term) (a b : ℕ) (q m : Action) (σ : Substitution) (w : Within t) (h : Matched t a b q m σ) where
  abbrev c : ℕ
  c = start_of a (way_to t a)

  abbrev N : List Node
  N = nodes (silence t b)

  abbrev s : Term
  s = continue (silence t b) a

  met_binds : Sound s × AllBind s σ
  unfolding prefixed receives invokes
  met_binds = meeting-binds t a b q m σ (ap (prefixed receives) h.receives) (ap invokes h.invokes) h.fits h.scopes (w.right, w.formed)

  counts_met : (x : ℕ) → enclosed x (way_to t a) ≡ true → counts x s ≡ 1
  unfolding continue
  counts_met x e =
      let i = silence-enclosed t a b h.receiver h.receives h.invokes x ∙ e in
      omega (arith, counts-enclosed (around_choice (way_to (silence t b) a)) (below (sub (silence t b) a)) x (enclosed_around x (way_to (silence t b) a) i), met_binds.0.1.unique x)

  once : Once s σ
  once =
      let r : Right (under (receive_of q) (below (sub t a))) = subst Right h.receives (right_at t a w.right) in
      once_met t s a b counts_met (fit_fits q m σ h.fits).matches r.0.3 (in_scope_reaches t a b σ h.scopes)

  left-count : size (bind σ s) + length σ + size (sub t c) ≡ size t + (size (sub t a) - 1)
  left-count =
      omega (arith, bind-size σ s met_binds.0 met_binds.1 once, left-size t a b h.receiver h.receives h.invokes)

  left_table : encode (bind σ s) ≡ bytes (bound_nodes σ (take c N)) ++ (bytes (bound_nodes σ (take (size (sub t a) - 1) (drop (suc a) N))) ++ bytes (bound_nodes σ (drop (c + size (sub t c)) N)))
  unfolding encode
  left_table =
      rw (
        bind-nodes σ s met_binds.0 met_binds.1,
        left-nodes t a b h.receiver h.receives h.invokes,
        bound_append σ,
        bound_append σ,
        append_bytes,
        append_bytes,
      )

  pub left : Left t a b σ (bind σ s)
  left =
      let k = cuts t a (receive_of q) h.receiver h.receives in
      record {
        table = left_table;
        count = left-count;
        shallow = omega (arith, bind-depth σ s, left-depth t a b h.receiver h.receives h.invokes, w.shallow);
        small = omega (arith, left-count, k, w.small);
      }

-- What is accepted has such parties.
pub accepted_met : (t r : Term) (a b : ℕ) → Within t → communicate_at t a b ≡ accept r → Met t a b r
unfolding communicate_at
accepted_met t r a b w e =
    let (q, eq, e₁) = bind-accept (wanted (prefixed receives) t a) _ r e in
    let (m, em, e₂) = bind-accept (wanted invokes t b) _ r e₁ in
    let (σ, eσ, e₃) = bind-accept (matched (fit q m)) _ r e₂ in
    let (es, is) = scopes_passed t a b m σ (bind σ (continue (silence t b) a)) r e₃ in
    let x = wanted-live (prefixed receives) t a q (under (receive_of q) (below (sub t a))) (prefixed_is receives receive_of (λ u. (looks u).receiving) (sub t a) q) eq in
    let y = wanted-live invokes t b m _ (invokes_is (sub t b) m) em in
    let h : Matched t a b q m σ =
    record { receiver = x.at.placed; receives = x.at.stands; sender = y.at.placed; invokes = y.at.stands; fits = matched-binds (fit q m) σ eσ; scopes = es } in
    record { receive = q; invoke = m; pairs = σ; matched = h; leaves = subst (Left t a b σ) is (left t a b q m σ w h); is = is }
