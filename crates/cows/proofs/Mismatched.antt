-- A step refuses with 12 exactly where a live receive and a live invoke differ, and its place is the lowest number in which they do (specs/Mismatched).
use mathlib.Core.Path.{◌≡◌, refl, sym, ap, subst, ◌∙◌}
use mathlib.Core.Option.{some}
use mathlib.Core.List.{List}
use Prim.Native.Nat.{ℕ, ◌≤◌}
use native.Mathlib.Omega.{arith}
use Rattle.cows.specs.Basics.{refuse, accept, ◌>>=◌, need}
use Rattle.cows.specs.Terms.{Term, invokes, prefixed, receives, below, receive_of}
use Rattle.cows.specs.Places.{sub}
use Rattle.cows.specs.Format.{AreBytes}
use Rattle.cows.specs.Tables.{judge}
use Rattle.cows.specs.Moves.{matched, Move, communicate_at, successor}
use Rattle.cows.specs.Within.{Right}
use Rattle.cows.specs.Step.{read_move, proposed, step_term, judge_step}
use Rattle.cows.specs.Mismatched.{Mismatched}
use Rattle.cows.proofs.Basics.{never}
use Rattle.cows.proofs.Tables.{judge-encode, judge-within, within-judge}
use Rattle.cows.proofs.Stands.{right_at, invokes_is, looks, prefixed_is, wanted-live, live-wanted}
use Rattle.cows.proofs.Unlike.{number_small, fit_lowest, lowest_fit}
use Rattle.cows.proofs.Bounds.{OfRefusal, untold, OfMismatch, judge_step-refusal}

module _ (table m : List ℕ) where
  told_here : AreBytes table → (t : Term) → judge table ≡ accept t → (v : Move) → read_move m ≡ some v → OfMismatch (Mismatched table m) t v
  told_here h t et v ev a b r i d is er ei e = record {
    term = t;
    within = judge-within table t h et;
    table_of = judge-encode table t h et;
    a = a;
    b = b;
    reads = ev ∙ ap some is;
    receive = r;
    body = below (sub t a);
    invoke = i;
    receiver = wanted-live (prefixed receives) t a r _ (prefixed_is receives receive_of (λ u. (looks u).receiving) (sub t a) r) er;
    sender = wanted-live invokes t b i _ (invokes_is (sub t b) i) ei;
    lowest = fit_lowest r i d e;
  }

  pub refused_mismatched : (room n : ℕ) → AreBytes table → judge_step table m room ≡ refuse 12 n → Mismatched table m n
  refused_mismatched room n h e =
      subst (OfRefusal (λ k p. k ≡ 12 → Mismatched table m p)) e
      (judge_step-refusal (λ k p. k ≡ 12 → Mismatched table m p) (λ k p l z. never (ap untold (sym z) ∙ l)) table m room (λ t et v ev. ((λ a b r i d is er ei f _. told_here h t et v ev a b r i d is er ei f), λ _ z. absurd (omega (arith, z))))) refl

  pub mismatched_refused : (room n : ℕ) → Mismatched table m n → judge_step table m room ≡ refuse 12 n
  unfolding judge_step step_term proposed need successor communicate_at matched ◌>>=◌ prefixed receives invokes
  mismatched_refused room n x =
      let (d, e, k) = lowest_fit x.receive x.invoke n x.lowest in
      let et : judge table ≡ accept x.term = ap judge (sym x.table_of) ∙ within-judge x.term x.within in
      let er = live-wanted (prefixed receives) x.term x.a x.receive _ refl x.receiver in
      let ei = live-wanted invokes x.term x.b x.invoke _ refl x.sender in
      rw (et, x.reads, er, ei, e, k)

  pub mismatched_few : (n : ℕ) → Mismatched table m n → n ≤ 6
  mismatched_few n x =
      let (d, e, k) = lowest_fit x.receive x.invoke n x.lowest in
      omega (arith, k, number_small x.receive x.invoke d e, (subst Right x.receiver.at.stands (right_at x.term x.a x.within.right)).0.2.0)
