-- What a meeting asks (specs/Moves, communicate_at) is what its rule asks (specs/Allows, Meets): matching, scopes, held back and tightest, each in both directions.
use mathlib.Core.Path.{◌≡◌, refl, sym, ap, subst, ◌∙◌}
use mathlib.Core.Bool.{Bool, true, false, cond, not, ◌&&◌, ◌||◌}
use mathlib.Core.Option.{none, some}
use mathlib.Core.List.{List, [], ◌∷◌}
use Prim.Native.Nat.{ℕ, suc, ◌+◌, ◌<◌}
use native.Mathlib.Omega.{arith}
use lib.Dec.{ltb, eqb}
use lib.ListN.{length}
use borrow.Author.Tests.{ltb-true, ltb-false, lt-ltb, eqb-true, eq-eqb, not-true, not-false}
use Rattle.cows.specs.Basics.{any, every, member, found_with, found, accept}
use Rattle.cows.specs.Terms.{kill, receive, delimitation, Term, leaf, under, Action, variable, size, kills, prefixed, receives, delimits, below, binders, receive_of}
use Rattle.cows.specs.Places.{Spot, way_to, sub, first, encloses, enclosed}
use Rattle.cows.specs.Active.{ready}
use Rattle.cows.specs.Moves.{Substitution, Matching, Mismatch, unset_variable, other_endpoint, other_count, other_value, binds, differs, provided, besides, match, closed_action, fit, matched, outside, in_scope, ready_kill, held_back, fewer, tighter}
use Rattle.cows.specs.Allows.{Stands, Matches, empty, takes, equals, Reaches, AllReach, Unheld, Tightest}
use Rattle.cows.proofs.Basics.{never, clash, bool_case, and_true, true_and, or_left, or_right, or_second, or_case, found_none, none_found, holds_some, same_accept}
use Rattle.cows.proofs.Stands.{kills_is, looks, prefixed_stands, first_fails, fails_first, first_found, Delimited, member-delimited, delimited-member}

-- matching
same_binds : {σ τ : Substitution} → binds σ ≡ binds τ → σ ≡ τ
same_binds e = cc

provided-binds : (test : Bool) (d : Mismatch) (rest : Matching) (σ : Substitution) → provided test d rest ≡ binds σ → (test ≡ true) × (rest ≡ binds σ)
unfolding provided
provided-binds true d rest σ e = (refl, e)
provided-binds false d rest σ e = never cc

besides-binds : (w v : ℕ) (rest : Matching) (σ : Substitution) → besides w v rest ≡ binds σ → (τ : Substitution) × (rest ≡ binds τ) × ((w, v) ∷ τ ≡ σ)
unfolding besides
besides-binds w v (binds τ) σ e = (τ, refl, same_binds e)
besides-binds w v (differs d) σ e = never cc

match_matches : (n : ℕ) (ws vs : List ℕ) (σ : Substitution) → length ws ≡ length vs → match n ws vs ≡ binds σ → Matches ws vs σ
unfolding match
match_matches n [] [] σ l e = subst (Matches [] []) (same_binds e) empty
match_matches n [] (v ∷ vs) σ l e = absurd (omega arith)
match_matches n (w ∷ ws) [] σ l e = absurd (omega arith)
match_matches n (w ∷ ws) (v ∷ vs) σ l e = pick (variable w) refl (λ τ. match_matches (suc n) ws vs τ (omega arith)) e
  where
    rest : Matching
    rest = match (suc n) ws vs

    pick : (p : Bool) → variable w ≡ p → ((τ : Substitution) → rest ≡ binds τ → Matches ws vs τ) → cond p (besides w v rest) (provided (eqb w v) (other_value n) rest) ≡ binds σ → Matches (w ∷ ws) (v ∷ vs) σ
    pick true p f h = let (τ, r, k) = besides-binds w v rest σ h in subst (Matches (w ∷ ws) (v ∷ vs)) k (takes p (f τ r))
    pick false p f h =
        let (q, r) = provided-binds (eqb w v) (other_value n) rest σ h in
        rw (eqb-true w v q) (equals (ap variable (sym (eqb-true w v q)) ∙ p) (f σ r))

matches_match : {ws vs : List ℕ} {σ : Substitution} → Matches ws vs σ → (n : ℕ) → match n ws vs ≡ binds σ
unfolding match besides provided
matches_match empty n = refl
matches_match (takes e m) n = rw (matches_match m (suc n), e)
matches_match (equals {v = v} e m) n = rw (matches_match m (suc n), e, eq-eqb v v refl)

pub matches_lengths : {ws vs : List ℕ} {σ : Substitution} → Matches ws vs σ → length ws ≡ length vs
matches_lengths empty = refl
matches_lengths (takes e m) = ap suc (matches_lengths m)
matches_lengths (equals e m) = ap suc (matches_lengths m)

pub matches_unique : {ws vs : List ℕ} {σ τ : Substitution} → Matches ws vs σ → Matches ws vs τ → σ ≡ τ
matches_unique m k = same_binds (sym (matches_match m 0) ∙ matches_match k 0)

-- the receive r fits the invoke m
pub record Fits (r m : Action) (σ : Substitution) : Type 0 where
  pub closed : any variable (m.partner ∷ m.operation ∷ m.tuple) ≡ false
  pub partner : r.partner ≡ m.partner
  pub operation : r.operation ≡ m.operation
  pub matches : Matches r.tuple m.tuple σ

pub fit_fits : (r m : Action) (σ : Substitution) → fit r m ≡ binds σ → Fits r m σ
unfolding fit closed_action
fit_fits r m σ e =
    let (c, e₁) = provided-binds (closed_action m) unset_variable _ σ e in
    let (h, e₂) = provided-binds (eqb r.partner m.partner && eqb r.operation m.operation) other_endpoint _ σ e₁ in
    let (l, e₃) = provided-binds (eqb (length r.tuple) (length m.tuple)) other_count _ σ e₂ in
    let (p, o) = and_true (eqb r.partner m.partner) (eqb r.operation m.operation) h in
    record { closed = not-true _ c; partner = eqb-true _ _ p; operation = eqb-true _ _ o; matches = match_matches 0 _ _ σ (eqb-true _ _ l) e₃ }

pub fits_fit : (r m : Action) (σ : Substitution) → Fits r m σ → fit r m ≡ binds σ
unfolding fit closed_action provided
fits_fit r m σ f = rw (f.closed, eq-eqb _ _ f.partner, eq-eqb _ _ f.operation, eq-eqb _ _ (matches_lengths f.matches)) (matches_match f.matches 0)

pub matched-binds : (m : Matching) (σ : Substitution) → matched m ≡ accept σ → m ≡ binds σ
unfolding matched
matched-binds (binds τ) σ e = ap binds (same_accept e)
matched-binds (differs d) σ e = cc

-- 13: the delimitation of a value, if there is one, encloses the variable's
abbrev Nested : Term → ℕ → ℕ → Type 0
Nested t v x = (m n : ℕ) (r s : Term) → Stands t m (under (delimitation v) r) → Stands t n (under (delimitation x) s) → enclosed v (way_to t n) ≡ true

outside-nested : (t : Term) (v x : ℕ) → (not (member v (binders t)) || not (found (first (outside v x) t))) ≡ true → Nested t v x
unfolding outside found_with prefixed delimits
outside-nested t v x e m n r s h k =
    let e₁ = or_second (ap not (delimited-member v t m r h)) e in
    let e₂ = found_none (first (outside v x) t) (not-true _ e₁) in
    not-false _ (rw (eq-eqb x x refl) at (first_fails (outside v x) t e₂ n _ k))

nested-outside : (t : Term) (v x : ℕ) → Nested t v x → (not (member v (binders t)) || not (found (first (outside v x) t))) ≡ true
unfolding outside
nested-outside t v x h =
    bool_case _ (member v (binders t))
    (λ e. or_right (not (member v (binders t))) _ (none-outside (member-delimited v t e)))
    (λ e. or_left (not (member v (binders t))) _ (ap not e))
  where
    none-outside : Delimited v t → not (found (first (outside v x) t)) ≡ true
    none-outside (m, r, k) = ap not (none_found _ (fails_first (outside v x) t (λ n p e.
        let (e₁, e₂) = and_true (found_with (eqb x) (prefixed delimits (sub t n))) (not (enclosed v (way_to t n))) e in
        let (d, st, q) = prefixed_stands delimits delimitation (λ u. (looks u).delimiting) (eqb x) t n p e₁ in
        clash (h m n r _ k (subst (λ c. Stands t n (under (delimitation c) (below (sub t n)))) (sym (eqb-true x d q)) st)) (not-true _ e₂))))

in_scope_reach : (t : Term) (a b x v : ℕ) → in_scope t a b (x, v) ≡ true → Reaches t a b x v
unfolding in_scope
in_scope_reach t a b x v e =
    let (e₁, n) = and_true (enclosed x (way_to t a) && enclosed x (way_to t b)) _ e in
    let (r, s) = and_true (enclosed x (way_to t a)) (enclosed x (way_to t b)) e₁ in
    record { receiver = r; sender = s; nested = outside-nested t v x n }

pub in_scope_reaches : (t : Term) (a b : ℕ) (σ : Substitution) → every (in_scope t a b) σ ≡ true → AllReach t a b σ
unfolding every
in_scope_reaches t a b [] e = tt
in_scope_reaches t a b (p ∷ σ) e =
    let (h, k) = and_true (in_scope t a b p) (every (in_scope t a b) σ) e in
    (in_scope_reach t a b p.0 p.1 h, in_scope_reaches t a b σ k)

pub reaches_in_scope : (t : Term) (a b : ℕ) (σ : Substitution) → AllReach t a b σ → every (in_scope t a b) σ ≡ true
unfolding every in_scope
reaches_in_scope t a b [] h = refl
reaches_in_scope t a b (p ∷ σ) h =
    true_and (true_and (true_and h.0.receiver h.0.sender) (nested-outside t p.1 p.0 h.0.nested)) (reaches_in_scope t a b σ h.1)

-- 14: no [k] around either party holds a ready kill of k
held : Spot → Bool
held z = found_with (λ k. found (first (ready_kill k) z.here)) (prefixed delimits z.here)

fails_unheld : (t : Term) (f : ℕ → Spot → Bool) (c : ℕ) → ((n : ℕ) (z : Spot) → encloses n z.here c ≡ true → held z ≡ true → f n z ≡ true) → first f t ≡ none → Unheld t c
unfolding held encloses found_with prefixed delimits ready_kill kills
fails_unheld t f c h e n k s st l u m rd =
    clash
    (h n (record { way = way_to t n; here = under (delimitation k) s })
    (true_and (lt-ltb n c l) (lt-ltb c (n + size (under (delimitation k) s)) u))
    (first_found (ready_kill k) (under (delimitation k) s) m (leaf (kill k)) rd.at (true_and rd.ready (eq-eqb k k refl))))
    (first_fails f t e n (under (delimitation k) s) st)

pub held_back-unheld : (t : Term) (a b : ℕ) → first (held_back a b) t ≡ none → Unheld t a × Unheld t b
unfolding held_back held
held_back-unheld t a b e = (
  fails_unheld t (held_back a b) a (λ n z i k. true_and (or_left (encloses n z.here a) _ i) k) e,
  fails_unheld t (held_back a b) b (λ n z i k. true_and (or_right (encloses n z.here a) _ i) k) e,
)

unheld-none : (t : Term) (c n k : ℕ) (s : Term) → Unheld t c → Stands t n (under (delimitation k) s) → encloses n (sub t n) c ≡ true → first (ready_kill k) (sub t n) ≡ none
unfolding encloses ready_kill
unheld-none t c n k s h st i =
    let (l, u) = and_true (ltb n c) _ (rw st.stands at i) in
    rw st.stands (fails_first (ready_kill k) (under (delimitation k) s) (λ m q e.
    let (rd, e₁) = and_true (ready (way_to (under (delimitation k) s) m)) _ e in
    let (d, is, e₂) = holds_some (eqb k) (kills (sub (under (delimitation k) s) m)) e₁ in
    h n k s st (ltb-true n c l) (ltb-true c _ u) m
    (record { at = record { placed = q; stands = kills_is _ k (is ∙ ap some (sym (eqb-true k d e₂))) }; ready = rd })))

pub unheld-held_back : (t : Term) (a b : ℕ) → Unheld t a → Unheld t b → first (held_back a b) t ≡ none
unfolding held_back
unheld-held_back t a b h k = fails_first (held_back a b) t (λ n p e.
    let (i, e₁) = and_true (encloses n (sub t n) a || encloses n (sub t n) b) _ e in
    let (d, st, e₂) = prefixed_stands delimits delimitation (λ u. (looks u).delimiting) (λ d. found (first (ready_kill d) (sub t n))) t n p e₁ in
    or_case ⊥ (encloses n (sub t n) a) (encloses n (sub t n) b) i
    (λ i. clash e₂ (none_found _ (unheld-none t a n d _ h st i)))
    (λ i. clash e₂ (none_found _ (unheld-none t b n d _ k st i))))

-- 15: no ready receive that fits binds fewer variables
fewer-binds : (l : ℕ) (m : Matching) → fewer l m ≡ true → (σ : Substitution) × (m ≡ binds σ) × (length σ < l)
unfolding fewer
fewer-binds l (binds σ) e = (σ, refl, ltb-true (length σ) l e)
fewer-binds l (differs d) e = never e

pub tighter_tightest : (t : Term) (m : Action) (l : ℕ) → any variable (m.partner ∷ m.operation ∷ m.tuple) ≡ false → first (tighter m l) t ≡ none
    → Tightest t m.partner m.operation m.tuple l
unfolding tighter found_with prefixed receives fewer
tighter_tightest t m l c e n ws s τ rd mt =
    ltb-false (length τ) l
    (rw (rd.ready, fits_fit _ m τ (record { closed = c; partner = refl; operation = refl; matches = mt })) at
    (first_fails (tighter m l) t e n (under (receive m.partner m.operation ws) s) rd.at))

pub tightest_tighter : (t : Term) (m : Action) (l : ℕ) → Tightest t m.partner m.operation m.tuple l → first (tighter m l) t ≡ none
unfolding tighter
tightest_tighter t m l h = fails_first (tighter m l) t (λ n p e.
    let (rd, e₁) = and_true (ready (way_to t n)) _ e in
    let (r, st, e₂) = prefixed_stands receives receive_of (λ u. (looks u).receiving) (λ r. fewer l (fit r m)) t n p e₁ in
    let (τ, e₃, k) = fewer-binds l (fit r m) e₂ in
    let f = fit_fits r m τ e₃ in
    omega (arith, h n r.tuple (below (sub t n)) τ (record { at = rw (f.partner, f.operation) at st; ready = rd }) f.matches))
