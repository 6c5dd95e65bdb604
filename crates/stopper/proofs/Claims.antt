-- The request's claims (specs/Claims) hold of whatever meets the equations of the definition, and what meets the claims meets the equations.
use mathlib.Core.Path.{◌≡◌, refl, sym, ap, subst, ◌∙◌}
use mathlib.Core.Logic.{◌≢◌}
use mathlib.Core.Bool.{true, false}
use mathlib.Core.Option.{Option, none, some}
use mathlib.Core.List.{List, []}
use Prim.Native.Nat.{ℕ, ◌*◌, ◌≤◌, ◌<◌}
use native.Mathlib.Omega.{arith}
use lib.Dec.{ltb, eqb}
use lib.ListN.{length}
use borrow.Author.Tests.{eq-eqb, eqb-true, lt-ltb, ltb-true}
use Rattle.cows.specs.Basics.{Result, refuse, accept, ◌>>=◌}
use Rattle.cows.specs.Terms.{Term, size}
use Rattle.cows.specs.Format.{AreBytes}
use Rattle.cows.specs.Tables.{judge}
use Rattle.cows.specs.Step.{reply_to, written}
use Rattle.cows.specs.Run.{counted}
use Rattle.cows.specs.Within.{Within}
use Rattle.cows.proofs.Basics.{same_accept, or_left, or_right, or_case, lt_case, bool_case}
use Rattle.cows.proofs.Tables.{judge-within}
use Rattle.joint.specs.Joint.{max_kills, wrong_number, all_live, first_clash, after_joint, joint_term, judge_joint, tally_for}
use Rattle.joint.specs.Singly.{fire_singly}
use Rattle.joint.specs.Listed.{RightNumber}
use Rattle.joint.proofs.Judging.{passed_joint, joint_good}
use Rattle.joint.proofs.Listing.{right_number, number_passed}
use Rattle.joint.proofs.Orders.{singly}
use Rattle.joint.proofs.Theorems.{live_all, live-first, live-refusal, alone_all, clash-first}
use Rattle.ways.specs.Known.{Table}
use Rattle.tables.specs.declared.Reply.{Reply}
use Rattle.tables.specs.Verdict.{Checked}
use Rattle.stepper.proofs.Stepping.{check_refuses, Read, table_read, read_known}
use Rattle.player.specs.declared.Played.{Played}
use Rattle.player.specs.Nights.{refused_with}
use Rattle.stopper.specs.Firing.{CanJoin}
use Rattle.stopper.specs.Claims.{JointAnswers, Joined, JointRefused, JointFired, ClaimsOn, JointClaims}
use Rattle.stopper.proofs.Fires.{refused_jointly, fire-clash, fire_short, fire_fits}
use Rattle.stopper.proofs.Joins.{joint_wrong, joint_dead, joint_live, answers_joined, joined_answers}

-- fired singly in the order listed, kills that pass all tests end in the joint successor
singly_ends : (t : Term) (ps : List ℕ) → Within t → RightNumber ps → all_live t ps ≡ accept tt → first_clash t [] ps ≡ none → fire_singly (16 * size t) t ps ≡ accept (after_joint t ps)
unfolding fire_singly
singly_ends t ps w n l c =
    (singly t ps (16 * size t) w (joint_good t (after_joint t ps) ps (passed_joint t ps (number_passed ps n, l, c))).1 (omega arith)).fires

module _ (table ps out after : List ℕ) (r : Played) where
  -- a refusal, and a successor, from the equations and back
  pub refused_of : (n p : ℕ) → judge_joint table ps (length out) ≡ refuse n p → Joined table ps out after r → JointRefused n p out after r
  unfolding reply_to written tally_for
  refused_of n p e h =
      let a = joined_answers table ps out after r (refuse n p) e h in
      record { replied = rw⁻¹ (a.answers.replies, a.tallied) refl; output = a.answers.output }

  of_refused : (n p : ℕ) → judge_joint table ps (length out) ≡ refuse n p → JointRefused n p out after r → Joined table ps out after r
  of_refused n p e h =
      answers_joined table ps out after r (refuse n p) e (subst (λ a. JointAnswers (refuse n p) ps out a r) (sym h.output) (refused_jointly n p refl h.replied))

  pub fired_of : (s : Term) → judge_joint table ps (length out) ≡ accept s → Joined table ps out after r → JointFired s ps out after r
  unfolding reply_to written tally_for counted
  fired_of s e h =
      let a = joined_answers table ps out after r (accept s) e h in
      record { replied = a.answers.replies; tallied = a.tallied; output = a.answers.output }

  of_fired : (s : Term) → judge_joint table ps (length out) ≡ accept s → JointFired s ps out after r → Joined table ps out after r
  unfolding reply_to written tally_for counted
  of_fired s e h =
      answers_joined table ps out after r (accept s) e (record { answers = record { replies = h.replied; output = h.output }; tallied = h.tallied })

  pub table_told : (n p : ℕ) → judge table ≡ refuse n p → judge_joint table ps (length out) ≡ refuse n p
  unfolding judge_joint ◌>>=◌
  table_told n p e = rw e

  -- on the table of t
  module _ (t : Term) (e : judge table ≡ accept t) where
    on_term : (x : Result Term) → joint_term t ps (length out) ≡ x → judge_joint table ps (length out) ≡ x
    unfolding judge_joint ◌>>=◌
    on_term x z = rw e z

    module _ (w : Within t) where
      told_dead : (a : ℕ) → RightNumber ps → all_live t ps ≡ refuse 11 a → judge_joint table ps (length out) ≡ refuse 11 a
      told_dead a n l = on_term _ (joint_dead t ps (length out) n a l)

      told-clash : (a : ℕ) → RightNumber ps → all_live t ps ≡ accept tt → first_clash t [] ps ≡ some a → judge_joint table ps (length out) ≡ refuse 26 a
      told-clash a n l c = on_term _ (joint_live t ps (length out) n l ∙ fire-clash t ps (length out) a c)

      told_short : RightNumber ps → all_live t ps ≡ accept tt → first_clash t [] ps ≡ none → length out < 16 * size (after_joint t ps) → judge_joint table ps (length out) ≡ refuse 21 0
      told_short n l c k = on_term _ (joint_live t ps (length out) n l ∙ fire_short t ps (length out) c k)

      told_fired : RightNumber ps → all_live t ps ≡ accept tt → first_clash t [] ps ≡ none → 16 * size (after_joint t ps) ≤ length out → judge_joint table ps (length out) ≡ accept (after_joint t ps)
      told_fired n l c k = on_term _ (joint_live t ps (length out) n l ∙ fire_fits t ps (length out) c k)

      claims_on : Joined table ps out after r → ClaimsOn t ps out after r
      unfolding wrong_number
      claims_on h = record {
        none-listed = λ z. refused_of 25 0 (on_term _ (joint_wrong t ps (length out) (or_left (eqb (length ps) 0) _ (eq-eqb (length ps) 0 z)))) h;
        too_many = λ z. refused_of 25 0 (on_term _ (joint_wrong t ps (length out) (or_right (eqb (length ps) 0) _ (lt-ltb max_kills (length ps) z)))) h;
        not_live = λ a n d. refused_of 11 a (told_dead a n ((live-first t ps a).1 d)) h;
        clashing = λ a n ls c. refused_of 26 a (told-clash a n ((live_all t ps).1 ls) ((clash-first t ps a w ls).1 c)) h;
        no_room = λ s n ls a f k.
            let l = (live_all t ps).1 ls in
            let c = (alone_all t ps w ls).1 a in
            let z = same_accept (sym (singly_ends t ps w n l c) ∙ f) in
            refused_of 21 0 (told_short n l c (omega (arith, ap size z))) h;
        fired = λ s n ls a f k.
            let l = (live_all t ps).1 ls in
            let c = (alone_all t ps w ls).1 a in
            let z = same_accept (sym (singly_ends t ps w n l c) ∙ f) in
            fired_of s (told_fired n l c (omega (arith, ap size z)) ∙ ap accept z) h;
      }

      -- what meets the claims meets the equations
      module _ (c : ClaimsOn t ps out after r) where
        by_room : RightNumber ps → (l : all_live t ps ≡ accept tt) → first_clash t [] ps ≡ none → Joined table ps out after r
        by_room n l q =
            let ls = (live_all t ps).0 l in
            let a = (alone_all t ps w ls).0 q in
            lt_case _ (length out) (16 * size (after_joint t ps))
            (λ k. of_refused 21 0 (told_short n l q k) (c.no_room (after_joint t ps) n ls a (singly_ends t ps w n l q) k))
            (λ k. of_fired (after_joint t ps) (told_fired n l q k) (c.fired (after_joint t ps) n ls a (singly_ends t ps w n l q) k))

        by_clash : RightNumber ps → all_live t ps ≡ accept tt → (o : Option ℕ) → first_clash t [] ps ≡ o → Joined table ps out after r
        by_clash n l none q = by_room n l q
        by_clash n l (some a) q =
            let ls = (live_all t ps).0 l in
            of_refused 26 a (told-clash a n l q) (c.clashing a n ls ((clash-first t ps a w ls).0 q))

        by_live : RightNumber ps → (x : Result (Unit {0})) → all_live t ps ≡ x → Joined table ps out after r
        by_live n (accept tt) l = by_clash n l (first_clash t [] ps) refl
        by_live n (refuse m a) l =
            let z = l ∙ ap (λ k. refuse k a) (live-refusal t ps m a l) in
            of_refused 11 a (told_dead a n z) (c.not_live a n ((live-first t ps a).0 z))

        wrong : wrong_number ps ≡ true → JointRefused 25 0 out after r
        unfolding wrong_number
        wrong z = or_case _ (eqb (length ps) 0) (ltb max_kills (length ps)) z (λ k. c.none-listed (eqb-true (length ps) 0 k)) (λ k. c.too_many (ltb-true max_kills (length ps) k))

        by_number : Joined table ps out after r
        by_number =
            bool_case _ (wrong_number ps)
            (λ z. of_refused 25 0 (on_term _ (joint_wrong t ps (length out) z)) (wrong z))
            (λ z. by_live (right_number ps z) (all_live t ps) refl)

  pub claims : AreBytes table → Joined table ps out after r → JointClaims table ps out after r
  claims b h = record { table_first = λ n p e. refused_of n p (table_told n p e) h; then_so = λ t e. claims_on t e (judge-within table t b e) h }

  pub claims_joined : AreBytes table → JointClaims table ps out after r → Joined table ps out after r
  claims_joined b c = go (judge table) refl
    where
      go : (x : Result Term) → judge table ≡ x → Joined table ps out after r
      go (refuse n p) e = of_refused n p (table_told n p e) (c.table_first n p e)
      go (accept t) e = by_number t e (judge-within table t b e) (c.then_so t e)

  -- Both promises of `joint`.
  pub promised : AreBytes table → Joined table ps out after r → Joined table ps out after r × JointClaims table ps out after r
  promised b h = (h, claims b h)

-- What the code knows when the table has been checked: a refused table, a wrong number, and what a known table is answered.
module _ (table ends ps out : List ℕ) (k : Reply) (h : Checked table ends k) (r : Played) where
  pub table_joined : k.answer ≢ 0 → r ≡ refused_with k.answer k.place → Joined table ps out out r
  table_joined z q =
      let (n, p, e, y) = check_refuses table k h.reply z in
      answers_joined table ps out out r (refuse n p) (table_told table ps out out r n p e) (refused_jointly n p refl (q ∙ ap (λ (x : Reply). refused_with x.answer x.place) y))

  module _ (b : AreBytes table) (z : k.answer ≡ 0) where
    abbrev q : Read table ends
    q = table_read table ends k b h z

    pub number_joined : wrong_number ps ≡ true → r ≡ refused_with 25 0 → Joined table ps out out r
    number_joined y x =
        answers_joined table ps out out r (refuse 25 0) (on_term table ps out out r q.term q.judged _ (joint_wrong q.term ps (length out) y)) (refused_jointly 25 0 refl x)

    pub known_joined : (after : List ℕ) → ((t : Term) → Table table ends t → JointAnswers (joint_term t ps (length out)) ps out after r) → Joined table ps out after r
    known_joined after x = answers_joined table ps out after r _ (on_term table ps out after r q.term q.judged _ refl) (x q.term q.table)

pub can_join : (table ends ps : List ℕ) (k : Reply) → Checked table ends k → AreBytes table → k.answer ≡ 0 → wrong_number ps ≡ false → CanJoin table ends ps
can_join table ends ps k h b z y = record { known = read_known table ends (table_read table ends k b h z); number = right_number ps y }
