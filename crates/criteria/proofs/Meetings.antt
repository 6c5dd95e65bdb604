-- Communications: a pair is open exactly if it meets (specs/Criteria).
use mathlib.Core.Path.{◌≡◌, refl, ap, subst}
use mathlib.Core.Bool.{true, not}
use mathlib.Core.Option.{Option, none, some}
use mathlib.Core.List.{List}
use Prim.Native.Nat.{ℕ, ◌≤◌}
use native.Mathlib.Omega.{arith}
use lib.Dec.{eqb}
use lib.ListN.{length}
use borrow.Author.Tests.{eqb-true, eq-eqb, not-true, not-false}
use Rattle.cows.specs.Basics.{every, place_if, accept, ◌>>=◌, ◌>>◌, forbid}
use Rattle.cows.specs.Terms.{Term, under, Action, receive_of, invokes, prefixed, receives, below}
use Rattle.cows.specs.Places.{way_to, sub, first}
use Rattle.cows.specs.Within.{Within, Right}
use Rattle.cows.specs.Active.{wanted}
use Rattle.cows.specs.Moves.{Substitution, Matching, binds, differs, fit, matched, in_scope, held_back, tighter, silence, continue, bind, communicate_at, Communicate, successor}
use Rattle.cows.specs.Allows.{Unheld, Matches, empty, takes, equals}
use Rattle.cows.proofs.Basics.{never, and_true, same_test, found_none, none_found, place_if-none, bind-accept, forbid-accept}
use Rattle.cows.proofs.Stands.{looks, wanted_is, right_at}
use Rattle.cows.proofs.Scans.{live-ready}
use Rattle.cows.proofs.Meeting.{fit_fits, matched-binds, held_back-unheld, unheld-held_back}
use Rattle.communicate.proofs.Left.{accepted_met}
use Rattle.opening.specs.Opening.{is_open}
use Rattle.opening.proofs.Opening.{fine_accepts, accepts_fine}
use Rattle.roles.specs.Roles.{seen, unheld, unfit, fewest_bound, meets_by, meets_as, meets}
use Rattle.criteria.proofs.Seen.{wanted-seen, seen-wanted, seen-prefix}
use Rattle.criteria.proofs.Fewest.{none-tighter, tighter-none, fewest_fits}

-- 14, one party at a time
unheld_test : (t : Term) (c : ℕ) → Unheld t c → unheld t c ≡ true
unfolding unheld
unheld_test t c h = ap not (none_found _ (unheld-held_back t c c h h))

test_unheld : (t : Term) (c : ℕ) → unheld t c ≡ true → Unheld t c
unfolding unheld
test_unheld t c e = (held_back-unheld t c c (found_none _ (not-true _ e))).0

-- 15: no more variables are bound than the pattern has slots
matches_few : {ws vs : List ℕ} {σ : Substitution} → Matches ws vs σ → length σ ≤ length ws
matches_few empty = omega arith
matches_few (takes e m) = omega (arith, matches_few m)
matches_few (equals e m) = omega (arith, matches_few m)

-- the receive itself is ready and fits, so that it binds the fewest variables or more
module _ (t : Term) (w : Within t) (a : ℕ) (r m : Action) (σ : Substitution) (x : seen (prefixed receives) t a ≡ some r) (f : fit r m ≡ binds σ) where
  few : length σ ≤ unfit
  few =
      let l = seen-prefix receives receive_of (λ u. (looks u).receiving) t a r x in
      let h : Right (under (receive_of r) (below (sub t a))) = subst Right l.at.stands (right_at t a w.right) in
      omega (arith, h.0.2.0, matches_few (fit_fits r m σ f).matches)

  not_more : fewest_bound t m ≤ length σ
  not_more =
      let l = seen-prefix receives receive_of (λ u. (looks u).receiving) t a r x in
      fewest_fits t m r σ a l.at.placed (live-ready (way_to t a) l.live) (wanted_is (prefixed receives) t a r (seen-wanted (prefixed receives) t a r x)) f

  tightest : first (tighter m (length σ)) t ≡ none → eqb (length σ) (fewest_bound t m) ≡ true
  tightest e = eq-eqb (length σ) (fewest_bound t m) (omega (arith, not_more, none-tighter t m (length σ) few e))

-- What a pair that meets has.
pub record Pair (t : Term) (a b : ℕ) (x y : Option Action) : Type 0 where
  pub receive : Action
  pub invoke : Action
  pub pairs : Substitution
  pub receives : x ≡ some receive
  pub invokes : y ≡ some invoke
  pub fits : fit receive invoke ≡ binds pairs
  pub scoped : every (in_scope t a b) pairs ≡ true
  pub receiver : unheld t a ≡ true
  pub sender : unheld t b ≡ true
  pub tight : eqb (length pairs) (fewest_bound t invoke) ≡ true

pub pair_has : (t : Term) (a b : ℕ) (x y : Option Action) → meets_as t a b x y ≡ true → Pair t a b x y
unfolding meets_as meets_by
pair_has t a b none y e = never e
pair_has t a b (some r) none e = never e
pair_has t a b (some r) (some m) e = go (fit r m) refl e
  where
    go : (f : Matching) → fit r m ≡ f → meets_by t a b m f ≡ true → Pair t a b (some r) (some m)
    go (binds σ) q e =
        let (p, e₁) = and_true (every (in_scope t a b) σ) _ e in
        let (h, e₂) = and_true (unheld t a) _ e₁ in
        let (k, l) = and_true (unheld t b) _ e₂ in
        record { receive = r; invoke = m; pairs = σ; receives = refl; invokes = refl; fits = q; scoped = p; receiver = h; sender = k; tight = l }
    go (differs d) q e = never e

has_pair : (t : Term) (a b : ℕ) (x y : Option Action) → Pair t a b x y → meets_as t a b x y ≡ true
unfolding meets_as meets_by
has_pair t a b x y p = rw (p.receives, p.invokes, p.fits, p.scoped, p.receiver, p.sender) p.tight

module _ (t : Term) (w : Within t) (a b : ℕ) where
  -- from the rules to the test
  open_meets : is_open t (Communicate a b) ≡ true → meets t a b ≡ true
  unfolding is_open successor communicate_at meets
  open_meets o =
      let (s, es, _, _) = fine_accepts (communicate_at t a b) o in
      let (r, er, e₁) = bind-accept (wanted (prefixed receives) t a) _ s es in
      let (m, em, e₂) = bind-accept (wanted invokes t b) _ s e₁ in
      let (σ, eσ, e₃) = bind-accept (matched (fit r m)) _ s e₂ in
      let (h₁₃, e₄) = forbid-accept 13 (place_if (not (every (in_scope t a b) σ)) a) _ s e₃ in
      let (h₁₄, e₅) = forbid-accept 14 (first (held_back a b) t) _ s e₄ in
      let (h₁₅, _) = forbid-accept 15 (first (tighter m (length σ)) t) _ s e₅ in
      let f = matched-binds (fit r m) σ eσ in
      let x = wanted-seen (prefixed receives) t a r er in
      let (p, q) = held_back-unheld t a b h₁₄ in
      has_pair t a b (seen (prefixed receives) t a) (seen invokes t b)
      (record {
        receive = r;
        invoke = m;
        pairs = σ;
        receives = x;
        invokes = wanted-seen invokes t b m em;
        fits = f;
        scoped = not-false (every (in_scope t a b) σ) (place_if-none _ a h₁₃);
        receiver = unheld_test t a p;
        sender = unheld_test t b q;
        tight = tightest t w a r m σ x f h₁₅;
      })

  -- and back: the move is accepted, and what it leaves is within the limits
  meets-accepted : (p : Pair t a b (seen (prefixed receives) t a) (seen invokes t b)) → communicate_at t a b ≡ accept (bind p.pairs (continue (silence t b) a))
  unfolding communicate_at matched ◌>>=◌ ◌>>◌ forbid place_if
  meets-accepted p =
      rw (
        seen-wanted (prefixed receives) t a p.receive p.receives,
        seen-wanted invokes t b p.invoke p.invokes,
        p.fits,
        p.scoped,
        unheld-held_back t a b (test_unheld t a p.receiver) (test_unheld t b p.sender),
        tighter-none t p.invoke (length p.pairs) (omega (arith, eqb-true (length p.pairs) (fewest_bound t p.invoke) p.tight)),
      )

  meets_open : meets t a b ≡ true → is_open t (Communicate a b) ≡ true
  unfolding is_open successor meets
  meets_open e =
      let p = pair_has t a b (seen (prefixed receives) t a) (seen invokes t b) e in
      let s = bind p.pairs (continue (silence t b) a) in
      let q = meets-accepted p in
      let z = accepted_met t s a b w q in
      accepts_fine (communicate_at t a b) s q z.leaves.small z.leaves.shallow

  pub meeting_open : is_open t (Communicate a b) ≡ meets t a b
  meeting_open = same_test open_meets meets_open
