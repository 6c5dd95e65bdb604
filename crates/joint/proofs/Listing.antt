-- The relations of specs/Listed say of a list what the functions of specs/Joint say: its number, its live kills, the first that is none, and the first that clashes.
use mathlib.Core.Path.{◌≡◌, refl, sym, ap, subst, ◌∙◌}
use mathlib.Core.Logic.{◌⊎◌, inl, inr, ⊎_elim}
use mathlib.Core.Bool.{true, false, ◌&&◌}
use mathlib.Core.Option.{Option, none, some}
use mathlib.Core.List.{List, [], ◌∷◌, ◌++◌, append_assoc, append-nil}
use Prim.Native.Nat.{ℕ, suc, ◌<◌}
use native.Mathlib.Omega.{arith}
use lib.Dec.{ltb, eqb}
use lib.ListN.{length}
use borrow.Author.Tests.{ltb-false, le-ltb, eqb-false, ne_eqb}
use Rattle.cows.specs.Basics.{any, All, only, place_if, or_else, Result, refuse, accept, ◌>>=◌, need}
use Rattle.cows.specs.Terms.{delimitation, Term, under, size, kills, below}
use Rattle.cows.specs.Places.{way_to, sub}
use Rattle.cows.specs.Active.{live, wanted}
use Rattle.cows.specs.Within.{Within}
use Rattle.cows.specs.Allows.{Stands}
use Rattle.cows.proofs.Basics.{bool_case, or_false, not_so, accept-bind, same_some, or_else_none, place_if-none}
use Rattle.cows.proofs.Basics as basics
use Rattle.cows.proofs.Reach.{delimits_at_is, enclosed_reaches}
use Rattle.joint.specs.Joint.{max_kills, label_at, clash, wrong_number, all_live, first_clash}
use Rattle.joint.specs.Listed.{RightNumber, LiveKill, HasScope, Clashing, Alone, AllAlone, FirstDead, FirstClashing}
use Rattle.joint.proofs.Stops.{stop-enclosed, live-label, live-stop}
use Rattle.joint.proofs.Judging.{wanted-kill, kill-wanted, all_apart}
use Rattle.joint.proofs.Scoping.{clash_covers, covers_clash}

-- 25
pub right_number : (ps : List ℕ) → wrong_number ps ≡ false → RightNumber ps
unfolding wrong_number
right_number ps e =
    let (x, y) = or_false (eqb (length ps) 0) (ltb max_kills (length ps)) e in
    record { some-kill = omega (arith, eqb-false (length ps) 0 x); few = ltb-false max_kills (length ps) y }

pub number_passed : (ps : List ℕ) → RightNumber ps → wrong_number ps ≡ false
unfolding wrong_number
number_passed ps r = rw (ne_eqb (length ps) 0 (λ e. omega (arith, r.some-kill)), le-ltb max_kills (length ps) r.few)

-- 11
pub live_or : (t : Term) (a : ℕ) → LiveKill t a ⊎ (wanted kills t a ≡ refuse 11 a)
unfolding wanted need
live_or t a = go (only (ltb a (size t) && live (way_to t a)) (kills (sub t a))) (wanted-kill t a)
  where
    go : (o : Option ℕ) → ((k : ℕ) → need 11 a o ≡ accept k → LiveKill t a) → LiveKill t a ⊎ (need 11 a o ≡ refuse 11 a)
    go none f = inr refl
    go (some k) f = inl (f k refl)

pub live-next : (t : Term) (a : ℕ) (ps : List ℕ) → LiveKill t a → all_live t (a ∷ ps) ≡ all_live t ps
unfolding all_live
live-next t a ps l = accept-bind (wanted kills t a) _ l.label (kill-wanted t a l)

pub dead_here : (t : Term) (a : ℕ) (ps : List ℕ) → wanted kills t a ≡ refuse 11 a → all_live t (a ∷ ps) ≡ refuse 11 a
unfolding all_live ◌>>=◌
dead_here t a ps e = rw e

same_refusal : {A : Type 0} {n m p q : ℕ} → ◌≡◌ {A = Result A} (refuse n p) (refuse m q) → (n ≡ m) × (p ≡ q)
same_refusal e = (cc, cc)

pub not-both : {A B : Type 0} {n p : ℕ} {x : A} → ◌≡◌ {A = Result A} (refuse n p) (accept x) → B
not-both e = absurd (let z : ◌≡◌ {A = ℕ} 0 1 = cc in omega arith)

-- the first dead one is the first of the list, or of the rest
first_here : (t : Term) (a : ℕ) (ps : List ℕ) → wanted kills t a ≡ refuse 11 a → FirstDead t (a ∷ ps) a
first_here t a ps h =
    record { before = []; behind = ps; listed = refl; live_before = tt; dead = λ l. not-both (sym h ∙ kill-wanted t a l) }

first-behind : (t : Term) (a b : ℕ) (ps : List ℕ) → LiveKill t b → FirstDead t ps a → FirstDead t (b ∷ ps) a
first-behind t a b ps l d =
    record { before = b ∷ d.before; behind = d.behind; listed = ap (λ (x : List ℕ). b ∷ x) d.listed; live_before = (l, d.live_before); dead = d.dead }

pub refused_dead : (t : Term) (ps : List ℕ) (n a : ℕ) → all_live t ps ≡ refuse n a → (n ≡ 11) × FirstDead t ps a
unfolding all_live
refused_dead t [] n a e = not-both (sym e)
refused_dead t (b ∷ ps) n a e =
    ⊎_elim
    (λ l. let (i, d) = refused_dead t ps n a (sym (live-next t b ps l) ∙ e) in (i, first-behind t a b ps l d))
    (λ h. let (i, j) = same_refusal (sym (dead_here t b ps h) ∙ e) in (sym i, subst (FirstDead t (b ∷ ps)) j (first_here t b ps h)))
    (live_or t b)

pub dead_refused : (t : Term) (before behind : List ℕ) (a : ℕ) → All (LiveKill t) before → (LiveKill t a → ⊥) → all_live t (before ++ (a ∷ behind)) ≡ refuse 11 a
dead_refused t [] behind a h d = ⊎_elim (λ l. absurd (d l)) (dead_here t a behind) (live_or t a)
dead_refused t (b ∷ before) behind a h d = live-next t b (before ++ (a ∷ behind)) h.0 ∙ dead_refused t before behind a h.1 d

-- A live kill has a scope. Two clash exactly if their scopes do.
has_scope : (t : Term) (a : ℕ) → Within t → LiveKill t a → (p : ℕ) × HasScope t a p
has_scope t a w l =
    let (p, i, x, y) = enclosed_reaches t l.label a l.kill.at.placed (rw (live-label t a l) at (stop-enclosed t a w (live-stop t a l))) in
    (p, record { live = l; body = below (sub t p); scope = record { placed = omega (arith, l.kill.at.placed); stands = delimits_at_is l.label (sub t p) x } })

pub scope_stands : (t : Term) (a p : ℕ) (h : HasScope t a p) → Stands t p (under (delimitation (label_at t a)) h.body)
scope_stands t a p h = rw (live-label t a h.live) h.scope

pub clash_clashing : (t : Term) (a b : ℕ) → Within t → LiveKill t a → LiveKill t b → clash t a b ≡ true → Clashing t a b
clash_clashing t a b w x y h =
    let (p, m) = has_scope t a w x in
    let (r, n) = has_scope t b w y in
    record {
      first = p;
      second = r;
      first_scope = m;
      second_scope = n;
      overlap = clash_covers t a b p r m.body n.body w (live-stop t a x) (live-stop t b y) (scope_stands t a p m) (scope_stands t b r n) h;
    }

pub clashing_clash : (t : Term) (a b : ℕ) → Within t → Clashing t a b → clash t a b ≡ true
clashing_clash t a b w c =
    let m = c.first_scope in
    let n = c.second_scope in
    covers_clash t a b c.first c.second m.body n.body w (live-stop t a m.live) (live-stop t b n.live) (scope_stands t a c.first m) (scope_stands t b c.second n) c.overlap

-- 26 by the test: none of the first n of ps, which are listed behind others, clashes.
abbrev Quiet : Term → (before ps : List ℕ) → ℕ → Type 0
Quiet t before ps n = (mid behind : List ℕ) (a : ℕ) → ps ≡ mid ++ (a ∷ behind) → length mid < n → any (clash t a) ((before ++ mid) ++ behind) ≡ false

same_cons : {x y : ℕ} {xs ys : List ℕ} → ◌≡◌ {A = List ℕ} (x ∷ xs) (y ∷ ys) → (x ≡ y) × (xs ≡ ys)
same_cons e = (cc, cc)

quiet_next : (t : Term) (a : ℕ) (before ps : List ℕ) (n : ℕ) → any (clash t a) (before ++ ps) ≡ false → Quiet t (before ++ (a ∷ [])) ps n → Quiet t before (a ∷ ps) (suc n)
quiet_next t a before ps n h q [] behind b e l =
    let (x, y) = same_cons e in
    rw (append-nil before, ← x, ← y) h
quiet_next t a before ps n h q (c ∷ mid) behind b e l =
    let (x, y) = same_cons e in
    rw (← x, ← append_assoc before (a ∷ []) mid) (q mid behind b y (omega arith))

quiet_first : (t : Term) (a : ℕ) (before ps : List ℕ) (n : ℕ) → Quiet t before (a ∷ ps) (suc n) → (any (clash t a) (before ++ ps) ≡ false) × Quiet t (before ++ (a ∷ [])) ps n
quiet_first t a before ps n q = (
  rw append-nil at (q [] ps a refl (omega arith)),
  λ mid behind b e l. rw (append_assoc before (a ∷ []) mid) (q (a ∷ mid) behind b (ap (λ (x : List ℕ). a ∷ x) e) (omega arith)),
)

none_quiet : (t : Term) (before ps : List ℕ) → first_clash t before ps ≡ none → Quiet t before ps (length ps)
unfolding first_clash
none_quiet t before [] e = λ mid behind a h l. absurd (omega arith)
none_quiet t before (a ∷ ps) e =
    let (x, y) = or_else_none (place_if (any (clash t a) (before ++ ps)) a) (first_clash t (before ++ (a ∷ [])) ps) e in
    quiet_next t a before ps (length ps) (place_if-none _ a x) (none_quiet t (before ++ (a ∷ [])) ps y)

quiet_none : (t : Term) (before ps : List ℕ) → Quiet t before ps (length ps) → first_clash t before ps ≡ none
unfolding first_clash place_if or_else
quiet_none t before [] q = refl
quiet_none t before (a ∷ ps) q =
    let (x, y) = quiet_first t a before ps (length ps) q in
    rw x (quiet_none t (before ++ (a ∷ [])) ps y)

-- the first that clashes, by the test
record Found (t : Term) (before ps : List ℕ) (a : ℕ) : Type 0 where
  mid : List ℕ
  behind : List ℕ
  listed : ps ≡ mid ++ (a ∷ behind)
  quiet : Quiet t before ps (length mid)
  loud : any (clash t a) ((before ++ mid) ++ behind) ≡ true

found_here : (t : Term) (before ps : List ℕ) (a : ℕ) → any (clash t a) (before ++ ps) ≡ true → Found t before (a ∷ ps) a
found_here t before ps a e =
    record { mid = []; behind = ps; listed = refl; quiet = λ m r b h l. absurd (omega arith); loud = rw (append-nil before) e }

found-behind : (t : Term) (before ps : List ℕ) (a b : ℕ) → any (clash t b) (before ++ ps) ≡ false → Found t (before ++ (b ∷ [])) ps a → Found t before (b ∷ ps) a
found-behind t before ps a b e f =
    record {
      mid = b ∷ f.mid;
      behind = f.behind;
      listed = ap (λ (x : List ℕ). b ∷ x) f.listed;
      quiet = quiet_next t b before ps (length f.mid) e f.quiet;
      loud = rw (← append_assoc before (b ∷ []) f.mid) f.loud;
    }

some-found : (t : Term) (before ps : List ℕ) (a : ℕ) → first_clash t before ps ≡ some a → Found t before ps a
unfolding first_clash place_if or_else
some-found t before [] a e = absurd (let z : ◌≡◌ {A = ℕ} 0 1 = cc in omega arith)
some-found t before (b ∷ ps) a e =
    bool_case (Found t before (b ∷ ps) a) (any (clash t b) (before ++ ps))
    (λ h. subst (Found t before (b ∷ ps)) (same_some (rw h at e)) (found_here t before ps b h))
    (λ h. found-behind t before ps a b h (some-found t (before ++ (b ∷ [])) ps a (rw h at e)))

pub clash-listed : (t : Term) (ps : List ℕ) (a : ℕ) → first_clash t [] ps ≡ some a → (before : List ℕ) × (behind : List ℕ) × (ps ≡ before ++ (a ∷ behind))
clash-listed t ps a e = let f = some-found t [] ps a e in (f.mid, f.behind, f.listed)

found_some : (t : Term) (before mid behind : List ℕ) (a : ℕ) → Quiet t before (mid ++ (a ∷ behind)) (length mid) → any (clash t a) ((before ++ mid) ++ behind) ≡ true
    → first_clash t before (mid ++ (a ∷ behind)) ≡ some a
unfolding first_clash place_if or_else
found_some t before [] behind a q e = rw (rw append-nil at e)
found_some t before (b ∷ mid) behind a q e =
    let (x, y) = quiet_first t b before (mid ++ (a ∷ behind)) (length mid) q in
    rw x (found_some t (before ++ (b ∷ [])) mid behind a y (rw (append_assoc before (b ∷ []) mid) e))

-- 26 by the relation.
module _ (t : Term) (w : Within t) where
  none_clashing : (a : ℕ) (bs : List ℕ) → any (clash t a) bs ≡ false → All (λ b. Clashing t a b → ⊥) bs
  unfolding any
  none_clashing a [] e = tt
  none_clashing a (b ∷ bs) e =
      let (x, y) = or_false (clash t a b) (any (clash t a) bs) e in
      (λ c. basics.clash (clashing_clash t a b w c) x, none_clashing a bs y)

  clashing_none : (a : ℕ) (bs : List ℕ) → LiveKill t a → All (LiveKill t) bs → All (λ b. Clashing t a b → ⊥) bs → any (clash t a) bs ≡ false
  unfolding any
  clashing_none a [] x y h = refl
  clashing_none a (b ∷ bs) x y h = rw (not_so (λ e. h.0 (clash_clashing t a b w x y.0 e))) (clashing_none a bs x y.1 h.1)

  -- of a list of live kills
  module _ (ps : List ℕ) (ls : All (LiveKill t) ps) where
    alone_test : (before behind : List ℕ) (a : ℕ) → ps ≡ before ++ (a ∷ behind) → Alone t before a behind → any (clash t a) (before ++ behind) ≡ false
    alone_test before behind a e h =
        let (x, y) = all_apart (LiveKill t) before behind a (subst (All (LiveKill t)) e ls) in
        clashing_none a (before ++ behind) x y h

    pub none_alone : first_clash t [] ps ≡ none → AllAlone t ps
    none_alone e before behind a h l = none_clashing a (before ++ behind) (none_quiet t [] ps e before behind a h l)

    pub alone_none : AllAlone t ps → first_clash t [] ps ≡ none
    alone_none h = quiet_none t [] ps (λ before behind a e l. alone_test before behind a e (h before behind a e l))

    pub some_first : (a : ℕ) → first_clash t [] ps ≡ some a → FirstClashing t ps a
    some_first a e =
        let f = some-found t [] ps a e in
        record {
          before = f.mid;
          behind = f.behind;
          listed = f.listed;
          alone_before = λ before behind b h l. none_clashing b (before ++ behind) (f.quiet before behind b h l);
          clashes = λ h. basics.clash f.loud (alone_test f.mid f.behind a f.listed h);
        }

    pub first_some : (a : ℕ) → FirstClashing t ps a → first_clash t [] ps ≡ some a
    first_some a f =
        let q : Quiet t [] ps (length f.before) = λ before behind b e l. alone_test before behind b e (f.alone_before before behind b e l) in
        let loud = bool_case _ (any (clash t a) (f.before ++ f.behind)) (λ e. e) (λ e. absurd (f.clashes (none_clashing a (f.before ++ f.behind) e))) in
        ap (first_clash t []) f.listed ∙ found_some t [] f.before f.behind a (subst (λ l. Quiet t [] l (length f.before)) f.listed q) loud
