-- The theorems, each with a one-line proof that cites where it is shown. What they speak of is defined in specs/; a table is a list of bytes.
use mathlib.Core.Path.{◌≡◌, sym, ap, subst, ◌∙◌}
use mathlib.Core.Logic.{◌≢◌, ◌↔◌}
use mathlib.Core.Bool.{false}
use mathlib.Core.Option.{Option}
use mathlib.Core.List.{List, ◌++◌, ◌∷◌}
use Prim.Native.Nat.{ℕ, ◌+◌, ◌*◌, ◌≤◌}
use native.Mathlib.Omega.{arith}
use lib.Dec.{T}
use lib.ListN.{length, get_or}
use Rattle.cows.specs.Basics.{any, every, refuse, accept}
use Rattle.cows.specs.Terms.{nil, kill, invoke, receive, delimitation, Term, leaf, under, Action, variable, kills, below}
use Rattle.cows.specs.Places.{inside, Way, fill, way_to, sub, enclosed}
use Rattle.cows.specs.Format.{AreBytes, encode}
use Rattle.cows.specs.Tables.{judge}
use Rattle.cows.specs.Within.{Within}
use Rattle.cows.specs.Moves.{Substitution, Mismatch, differs, fit, mismatch_number, silence, Move, Kill, Communicate, Timeout, Elapse, Unfold, Extrude, successor}
use Rattle.cows.specs.Allows.{Stands, Meets, Matches, Unheld, Tightest, Halted, Ended, Elapsed, Allows}
use Rattle.cows.specs.Remains.{MeetingLeaves}
use Rattle.cows.specs.Step.{read_move, judge_step, step_term, step_reply, step_output}
use Rattle.cows.specs.Accepts.{Accepts}
use Rattle.cows.specs.Mismatched.{Unlike, Lowest, Mismatched}
use Rattle.cows.specs.Timed.{ProposesTime}
use Rattle.cows.specs.Load.{load, shielded, ended_by, dropped, lost, spent, copies}
use Rattle.cows.specs.Run.{RunState, start, judgement, run, losses}
use Rattle.cows.specs.Papers.{right_night, papers, papers_right}
use Rattle.cows.specs.Misreadings.{misreadings, misreadings_right}
use Rattle.cows.proofs.Format.{encode-bytes, encode_injective}
use Rattle.cows.proofs.Tables.{judge-encode, judge-within, within-judge}
use Rattle.cows.proofs.Meeting.{fit_fits, fits_fit}
use Rattle.cows.proofs.Unlike.{fit_lowest, lowest_fit, fit_alike, alike_fit}
use Rattle.cows.proofs.Mismatched.{refused_mismatched, mismatched_refused, mismatched_few}
use Rattle.cows.proofs.Timed.{refused_timeless, timeless_refused, time-passes}
use Rattle.cows.proofs.Allows.{successor_allows, allows_successor, allows_unique}
use Rattle.cows.proofs.Remains.{meeting-leaves, leaves-meeting}
use Rattle.cows.proofs.Accepts.{accepted_accepts, accepts_accepted, accepts_one, accepts_within}
use Rattle.cows.proofs.Step.{answer_accepts, refusal_silent, output_behind, output_length}
use Rattle.cows.proofs.Preserving.{step_within}
use Rattle.cows.proofs.Corollaries.{meeting-unheld, meeting_tightest, kill_spares, halted_twice, halted-load}
use Rattle.cows.proofs.Run.{load_law, run_balance, run-bound, judgement_step, run-within}

-- 1. Every well-formed table stands for one term, and every term within the limits has one table.
pub table_accepted : (b : List ℕ) (t : Term) → AreBytes b → (judge b ≡ accept t) ↔ (Within t × (encode t ≡ b))
table_accepted b t h = ((λ e. (judge-within b t h e, judge-encode b t h e)), λ p. ap judge (sym p.1) ∙ within-judge t p.0)

pub table_one_term : (s t : Term) → Within s → Within t → encode s ≡ encode t → s ≡ t
table_one_term s t v w e = encode_injective s t v.right w.right e

pub table_bytes : (t : Term) → Within t → AreBytes (encode t)
table_bytes t w = encode-bytes t w.right

-- 2. A move is accepted with successor s if, and only if, the table is well formed, the rules allow the move on it with that successor, and it keeps
-- the limits and fits.
pub step_accepted : (table m : List ℕ) (room : ℕ) (s : Term) → AreBytes table → (judge_step table m room ≡ accept s) ↔ Accepts table m room s
step_accepted table m room s h = (accepted_accepts table m room s h, accepts_accepted table m room s)

-- the answer is 0 exactly if there is such a successor
pub answer_zero : (table m out : List ℕ) → ((step_reply table m out).answer ≡ 0) ↔ ((s : Term) × (judge_step table m (length out) ≡ accept s))
answer_zero table m out = answer_accepts table m out

-- there is one
pub one_accepted : (table m : List ℕ) (room : ℕ) (s u : Term) → Accepts table m room s → Accepts table m room u → s ≡ u
one_accepted table m room s u a b = accepts_one table m room s u a b

-- what the definitions compute is what the rules say, and nothing else
pub rules_computed : (t s : Term) (m : Move) → Within t → (successor t m ≡ accept s) ↔ Allows t m s
rules_computed t s m w = (successor_allows t s m w, allows_successor t s m w)

-- the successor is determined by the term and the move
pub one_successor : (t s r : Term) (m : Move) → Within t → Allows t m s → Allows t m r → s ≡ r
one_successor t s r m w a b = allows_unique t s r m w a b

-- no [k] around either party of an accepted meeting holds a ready kill of k
pub meeting-not-held : (t s : Term) (a b : ℕ) → Within t → successor t (Communicate a b) ≡ accept s → Unheld t a × Unheld t b
meeting-not-held t s a b w e = meeting-unheld t s a b w e

-- no ready receive that fits binds fewer variables
pub meeting_most_defined : (t s : Term) (a b p o : ℕ) (ws vs : List ℕ) (r : Term) (σ : Substitution) → Within t → successor t (Communicate a b) ≡ accept s
    → Stands t a (under (receive p o ws) r) → Stands t b (leaf (invoke p o vs)) → Matches ws vs σ → Tightest t p o vs (length σ)
meeting_most_defined t s a b p o ws vs r σ w e h k m = meeting_tightest t s a b p o ws vs r σ w e h k m

-- a meeting is accepted with successor s if, and only if, its conditions hold and the records of s are, in order, what remains of each record of t
pub meeting_records : (t s : Term) (a b : ℕ) → Within t → (successor t (Communicate a b) ≡ accept s) ↔ ((σ : Substitution) × Meets t a b σ × MeetingLeaves t a b σ s)
unfolding successor
meeting_records t s a b w = (meeting-leaves t s a b w, λ p. leaves-meeting t s a b p.0 w p.1 p.2)

-- a kill halts what stands parallel to it inside its [k]; outside nothing changes
pub kill-leaves : (t s : Term) (a k : ℕ) → Within t → successor t (Kill a) ≡ accept s → Stands t a (leaf (kill k))
    → (v : Way) × (u : Way) × (w : Way) × (way_to t a ≡ v ++ (inside (delimitation k) ∷ w)) × (enclosed k v ≡ false) × Ended v u
    × (t ≡ fill w (under (delimitation k) (fill v (leaf (kill k))))) × (s ≡ fill w (under (delimitation k) (fill u (leaf nil))))
kill-leaves t s a k w e h = kill_spares t s a k w e h

-- 3. The successor of an accepted move is within the limits again, and so is every table of a run.
pub accepted-within : (table m : List ℕ) (room : ℕ) (s : Term) → Accepts table m room s → Within s
accepted-within table m room s a = accepts_within table m room s a

pub successor-within : (t s : Term) (m : Option Move) (room : ℕ) → Within t → step_term t m room ≡ accept s → Within s
successor-within t s m room w e = step_within t s m room w e

pub tables_within : (t : Term) (ms : List (List ℕ)) → Within t → Within (run (start t) ms).table
unfolding start
tables_within t ms w = run-within (start t) ms w

-- 4. The load law of each move: before = after, what the moving records weigh, and what was lost.
pub load-kill : (t s : Term) (a : ℕ) → successor t (Kill a) ≡ accept s → load t ≡ load s + 1 + ended_by (kills (sub t a)) (way_to t a)
unfolding spent copies lost
load-kill t s a e = omega (arith, load_law t s (Kill a) e)

pub load_communicate : (t s : Term) (a b : ℕ) → successor t (Communicate a b) ≡ accept s → load t ≡ load s + 2 + dropped (way_to (silence t b) a)
unfolding spent copies lost
load_communicate t s a b e = omega (arith, load_law t s (Communicate a b) e)

pub load_timeout : (t s : Term) (a : ℕ) → successor t (Timeout a) ≡ accept s → load t ≡ load s + 1 + dropped (way_to t a)
unfolding spent copies lost
load_timeout t s a e = omega (arith, load_law t s (Timeout a) e)

pub load-elapse : (t s : Term) (d : ℕ) → successor t (Elapse d) ≡ accept s → load t ≡ load s
unfolding spent copies lost
load-elapse t s d e = omega (arith, load_law t s (Elapse d) e)

pub load_unfold : (t s : Term) (a : ℕ) → successor t (Unfold a) ≡ accept s → load t + load (below (sub t a)) ≡ load s
unfolding spent copies lost
load_unfold t s a e = omega (arith, load_law t s (Unfold a) e)

pub load_extrude : (t s : Term) (a : ℕ) → successor t (Extrude a) ≡ accept s → load t ≡ load s
unfolding spent copies lost
load_extrude t s a e = omega (arith, load_law t s (Extrude a) e)

-- Demand 3 over every list of moves of any length, refused ones included: the balance, and the inequality.
pub list_balance : (t : Term) (ms : List (List ℕ)) → let r = run (start t) ms in
    load t + r.tally.copied ≡ 2 * r.tally.communications + r.tally.kills + r.tally.timeouts + load r.table + losses (start t) ms
list_balance t ms = run_balance t ms

pub list_bound : (t : Term) (ms : List (List ℕ)) → let r = run (start t) ms in
    2 * r.tally.communications + r.tally.kills + r.tally.timeouts + load r.table ≤ load t + r.tally.copied
list_bound t ms = run-bound t ms

-- the run's judgement of a move is the step's on the table that it keeps
pub run_steps : (r : RunState) (m : List ℕ) → Within r.table → judgement r (read_move m) ≡ judge_step (encode r.table) m 32768
run_steps r m w = judgement_step r m w

-- 5. A refusal leaves the output as it was; an acceptance changes no byte behind the successor.
pub refused_untouched : (table m out : List ℕ) → (step_reply table m out).answer ≢ 0 → step_output table m out ≡ out
refused_untouched table m out h = refusal_silent table m out h

pub behind_untouched : (table m out : List ℕ) (i : ℕ) → 16 * (step_reply table m out).records ≤ i → get_or (step_output table m out) i 0 ≡ get_or out i 0
behind_untouched table m out i h = output_behind table m out i h

pub output_as_long : (table m out : List ℕ) → length (step_output table m out) ≡ length out
output_as_long table m out = output_length table m out

-- 6. Halting twice is halting once; what it leaves is the load of the protections reached from the root through parallels, delimitations and
-- replications only.
pub halting_twice : (t s : Term) → Halted t s → Halted s s
halting_twice t s h = halted_twice h

pub halting_load : (t s : Term) → Halted t s → load s ≡ shielded t
halting_load t s h = halted-load h

-- 7. (2026-02) Matching finds the lowest number in which a receive and an invoke differ; there is none exactly if they match as `Meets` asks. A step refuses
-- with 12 exactly where a live receive and a live invoke differ, and its place is that number, at most 6.
pub lowest_found : (r m : Action) (n : ℕ) → ((d : Mismatch) × (fit r m ≡ differs d) × (mismatch_number d ≡ n)) ↔ Lowest (Unlike r m) n
lowest_found r m n = ((λ x. subst (Lowest (Unlike r m)) x.2 (fit_lowest r m x.0 x.1)), lowest_fit r m n)

pub alike_match : (r m : Action) → ((n : ℕ) → Unlike r m n → ⊥)
    ↔ ((σ : Substitution) × (any variable (m.partner ∷ m.operation ∷ m.tuple) ≡ false) × (r.partner ≡ m.partner) × (r.operation ≡ m.operation) × Matches r.tuple m.tuple σ)
alike_match r m = (
  (λ h. let (σ, e) = alike_fit r m h in let f = fit_fits r m σ e in (σ, f.closed, f.partner, f.operation, f.matches)),
  λ (σ, c, p, o, e). fit_alike r m σ (fits_fit r m σ (record { closed = c; partner = p; operation = o; matches = e })),
)

pub mismatch_told : (table m : List ℕ) (room n : ℕ) → AreBytes table → (judge_step table m room ≡ refuse 12 n) ↔ Mismatched table m n
mismatch_told table m room n h = (refused_mismatched table m room n h, mismatched_refused table m room n)

pub mismatch_few : (table m : List ℕ) (n : ℕ) → Mismatched table m n → n ≤ 6
mismatch_few table m n x = mismatched_few table m n x

-- 8. (2026-04) Time goes on: a time of 1 or more is accepted on every well-formed table, whatever its waits hold, if the output is as long as the table; each live
-- wait has fallen by it, or to 0 if it held less. A step refuses with 17 exactly a time of 0 on a well-formed table, at place 0.
pub time-goes_on : (table m : List ℕ) (room d : ℕ) (x : ProposesTime table m d) → 1 ≤ d → length table ≤ room → (s : Term) × (judge_step table m room ≡ accept s) × Elapsed d x.term s
time-goes_on table m room d x h l = time-passes table m room d x h l

pub no-time-told : (table m : List ℕ) (room p : ℕ) → AreBytes table → (judge_step table m room ≡ refuse 17 p) ↔ (ProposesTime table m 0 × (p ≡ 0))
no-time-told table m room p h = (refused_timeless table m room p h, λ x. timeless_refused table m room x.0 ∙ ap (refuse 17) (sym x.1))

-- N1 to N12, and the misreadings.
pub nights : T (every right_night papers)
nights = papers_right

pub readings : T (every right_night misreadings)
readings = misreadings_right
