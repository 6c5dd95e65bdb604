-- A list of moves: the load law of an accepted move, whichever it is, and from it the balance of a run (demand 3).
use mathlib.Core.Path.{◌≡◌, refl, sym, subst, ◌∙◌}
use mathlib.Core.Option.{Option, none, some}
use mathlib.Core.List.{List, [], ◌∷◌}
use Prim.Native.Nat.{ℕ, ◌+◌, ◌*◌, ◌≤◌}
use native.Mathlib.Omega.{arith}
use Rattle.cows.specs.Basics.{Result, refuse, accept}
use Rattle.cows.specs.Terms.{Term, kills, invokes, prefixed, receives, waits, delimits, replicates}
use Rattle.cows.specs.Active.{wanted}
use Rattle.cows.specs.Moves.{Move, Kill, Communicate, Timeout, Elapse, Unfold, Extrude, kill_at, communicate_at, timeout_at, elapse_by, unfold_at, extrude_at, successor, fit, matched}
use Rattle.cows.specs.Load.{load, ended_by, lost, spent, copies}
use Rattle.cows.specs.Format.{encode}
use Rattle.cows.specs.Tables.{judge}
use Rattle.cows.specs.Within.{Within}
use Rattle.cows.specs.Step.{read_move, step_term, judge_step}
use Rattle.cows.specs.Run.{Tally, counted, no_tally, sum, adds, RunState, start, judgement, enter, turn, run, lost_by, losses}
use Rattle.cows.proofs.Basics.{bind-accept, accept-bind, forbid-accept, same_accept, same_some}
use Rattle.cows.proofs.Stands.{wanted_is}
use Rattle.cows.proofs.Recordwise.{time_gives}
use Rattle.cows.proofs.Tables.{within-judge}
use Rattle.cows.proofs.Step.{step_accepted}
use Rattle.cows.proofs.Preserving.{step_within}
use Rattle.cows.proofs.Load.{load-kill, load_communicate, load_timeout, load-elapse, load_unfold, load_extrude}

-- One law for the six: before and what was copied = after, what moved and what was lost.
abbrev pub Law : Term → Move → Term → Type 0
Law t m s = load t + copies t m ≡ load s + spent m + lost t m

law_kill : (t s : Term) (a : ℕ) → kill_at t a ≡ accept s → Law t (Kill a) s
unfolding kill_at copies spent lost ended_by
law_kill t s a e =
    let (k, ek, es) = bind-accept (wanted kills t a) _ s e in
    let h = wanted_is kills t a k ek in
    subst (Law t (Kill a)) (same_accept es) (rw h (omega (arith, load-kill t a k h)))

law_communicate : (t s : Term) (a b : ℕ) → communicate_at t a b ≡ accept s → Law t (Communicate a b) s
unfolding communicate_at copies spent lost
law_communicate t s a b e =
    let (r, er, e₁) = bind-accept (wanted (prefixed receives) t a) _ s e in
    let (m, em, e₂) = bind-accept (wanted invokes t b) _ s e₁ in
    let (σ, eσ, e₃) = bind-accept (matched (fit r m)) _ s e₂ in
    let e₆ = (forbid-accept 15 _ _ s (forbid-accept 14 _ _ s (forbid-accept 13 _ _ s e₃).1).1).1 in
    subst (Law t (Communicate a b)) (same_accept e₆)
    (omega (arith, load_communicate σ t a b r m (wanted_is (prefixed receives) t a r er) (wanted_is invokes t b m em)))

law_timeout : (t s : Term) (a : ℕ) → timeout_at t a ≡ accept s → Law t (Timeout a) s
unfolding timeout_at copies spent lost
law_timeout t s a e =
    let (i, ei, e₁) = bind-accept (wanted (prefixed waits) t a) _ s e in
    subst (Law t (Timeout a)) (same_accept (forbid-accept 16 _ _ s e₁).1) (omega (arith, load_timeout t a i (wanted_is (prefixed waits) t a i ei)))

law_elapse : (t s : Term) (d : ℕ) → elapse_by t d ≡ accept s → Law t (Elapse d) s
unfolding copies spent lost
law_elapse t s d e = subst (Law t (Elapse d)) (time_gives t s d e).1 (omega (arith, load-elapse d t))

law_unfold : (t s : Term) (a : ℕ) → unfold_at t a ≡ accept s → Law t (Unfold a) s
unfolding unfold_at copies spent lost
law_unfold t s a e =
    let (x, ex, es) = bind-accept (wanted (prefixed replicates) t a) _ s e in
    subst (Law t (Unfold a)) (same_accept es) (omega (arith, load_unfold t a))

law_extrude : (t s : Term) (a : ℕ) → extrude_at t a ≡ accept s → Law t (Extrude a) s
unfolding extrude_at copies spent lost
law_extrude t s a e =
    let (d, ed, e₁) = bind-accept (wanted (prefixed delimits) t a) _ s e in
    subst (Law t (Extrude a)) (same_accept (forbid-accept 18 _ _ s e₁).1) (omega (arith, load_extrude d t a (wanted_is (prefixed delimits) t a d ed)))

pub load_law : (t s : Term) (m : Move) → successor t m ≡ accept s → load t + copies t m ≡ load s + spent m + lost t m
unfolding successor
load_law t s (Kill a) e = law_kill t s a e
load_law t s (Communicate a b) e = law_communicate t s a b e
load_law t s (Timeout a) e = law_timeout t s a e
load_law t s (Elapse d) e = law_elapse t s d e
load_law t s (Unfold a) e = law_unfold t s a e
load_law t s (Extrude a) e = law_extrude t s a e

-- The balance of a run that began with the load x, after moves that lost l.
abbrev pub Balanced : ℕ → ℕ → RunState → Type 0
Balanced x l r = x + r.tally.copied ≡ 2 * r.tally.communications + r.tally.kills + r.tally.timeouts + load r.table + l

balanced_count : (x l : ℕ) (c : Tally) (t s : Term) (m : Move) → successor t m ≡ accept s → Balanced x l (record { table = t; tally = c }) → Balanced x (l + lost t m) (record { table = s; tally = sum c (adds (copies t m) m) })
unfolding counted sum adds spent
balanced_count x l c t s m e h = go m (load_law t s m e)
  where
    go : (m : Move) → Law t m s → Balanced x (l + lost t m) (record { table = s; tally = sum c (adds (copies t m) m) })
    go (Kill a) k = omega arith
    go (Communicate a b) k = omega arith
    go (Timeout a) k = omega arith
    go (Elapse d) k = omega arith
    go (Unfold a) k = omega arith
    go (Extrude a) k = omega arith

balanced_turn : (x l : ℕ) (r : RunState) (m : Option Move) → Balanced x l r → Balanced x (l + lost_by r.table m (judgement r m)) (turn r m)
unfolding turn judgement enter lost_by
balanced_turn x l r m h = go m refl (step_term r.table m 32768) refl
  where
    go : (o : Option Move) → m ≡ o → (q : Result Term) → step_term r.table m 32768 ≡ q → Balanced x (l + lost_by r.table o q) (enter r o q)
    go o eo (refuse n p) eq = omega arith
    go none eo (accept s) eq = omega arith
    go (some move) eo (accept s) eq =
        let a = step_accepted r.table s m 32768 eq in
        balanced_count x l r.tally r.table s move (subst (λ v. successor r.table v ≡ accept s) (same_some (sym a.reads ∙ eo)) a.moves) h

balanced_run : (x l : ℕ) (r : RunState) (ms : List (List ℕ)) → Balanced x l r → Balanced x (l + losses r ms) (run r ms)
unfolding run losses
balanced_run x l r [] h = omega arith
balanced_run x l r (m ∷ ms) h = omega (arith, balanced_run x (l + lost_by r.table (read_move m) (judgement r (read_move m))) (turn r (read_move m)) ms (balanced_turn x l r (read_move m) h))

-- Demand 3: the balance of every list of moves, refused ones included, and the inequality.
pub run_balance : (t : Term) (ms : List (List ℕ)) → Balanced (load t) (losses (start t) ms) (run (start t) ms)
unfolding start counted no_tally
run_balance t ms = omega (arith, balanced_run (load t) 0 (start t) ms (omega arith))

pub run-bound : (t : Term) (ms : List (List ℕ)) → let r = run (start t) ms in
    2 * r.tally.communications + r.tally.kills + r.tally.timeouts + load r.table ≤ load t + r.tally.copied
run-bound t ms = omega (arith, run_balance t ms)

-- The run's judgement of a move is the step's on the bytes of the table that it keeps.
pub judgement_step : (r : RunState) (m : List ℕ) → Within r.table → judgement r (read_move m) ≡ judge_step (encode r.table) m 32768
unfolding judgement judge_step
judgement_step r m w = sym (accept-bind (judge (encode r.table)) (λ t. step_term t (read_move m) 32768) r.table (within-judge r.table w))

-- Every table that a run keeps is within the limits, if the start table is.
turn-within : (r : RunState) (m : Option Move) → Within r.table → Within (turn r m).table
unfolding turn judgement enter
turn-within r m w = go m (step_term r.table m 32768) refl
  where
    go : (o : Option Move) (q : Result Term) → step_term r.table m 32768 ≡ q → Within (enter r o q).table
    go o (refuse n p) e = w
    go none (accept s) e = w
    go (some move) (accept s) e = step_within r.table s m 32768 w e

pub run-within : (r : RunState) (ms : List (List ℕ)) → Within r.table → Within (run r ms).table
unfolding run
run-within r [] w = w
run-within r (m ∷ ms) w = run-within (turn r (read_move m)) ms (turn-within r (read_move m) w)
