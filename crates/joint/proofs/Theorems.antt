-- The theorems of 2026-06, each with a short proof that cites where it is shown. What they speak of is in specs/ and in the definitions of crate cows.
use mathlib.Core.Path.{◌≡◌, sym, ap, subst, ◌∙◌}
use mathlib.Core.Logic.{◌↔◌}
use mathlib.Core.Bool.{true, false, ◌||◌}
use mathlib.Core.Option.{none, some}
use mathlib.Core.List.{List, [], map}
use Prim.Native.Nat.{ℕ, ◌+◌, ◌-◌, ◌*◌, ◌≤◌, ◌<◌}
use native.Mathlib.Omega.{arith}
use lib.Dec.{ltb, eqb}
use lib.ListN.{length}
use Rattle.cows.specs.Basics.{All, refuse, accept}
use Rattle.cows.specs.Terms.{nil, delimitation, Term, leaf, under, size}
use Rattle.cows.specs.Places.{fill, way_to}
use Rattle.cows.specs.Format.{AreBytes}
use Rattle.cows.specs.Moves.{halt_beside, Kill, successor}
use Rattle.cows.specs.Allows.{Stands}
use Rattle.cows.specs.Within.{Within}
use Rattle.cows.specs.Load.{load}
use Rattle.cows.proofs.Allows.{kill_fires}
use Rattle.joint.specs.Joint.{max_kills, label_at, clash, wrong_number, all_live, first_clash, outcome, after_joint, joint_at, judge_joint}
use Rattle.joint.specs.Singly.{carried, fire_singly, Permuted, halted, gone_by_all}
use Rattle.joint.specs.Listed.{RightNumber, LiveKill, Clashing, AllAlone, FirstDead, FirstClashing}
use Rattle.joint.proofs.Pruning.{Pruned, pruned-kill, Traced, traced}
use Rattle.joint.proofs.Stops.{Stop}
use Rattle.joint.proofs.Orders.{InTurn, singly, perm_length, perm_good, perm_joint}
use Rattle.joint.proofs.Judging.{joint_passed, passed_joint, accepted-live, live-accepted, joint_good, good_joint}
use Rattle.joint.proofs.Scoping.{stands_in, clash_spans, outcome_is}
use Rattle.joint.proofs.Bounds.{on_term}
use Rattle.joint.proofs.Listing.{right_number, number_passed, refused_dead, dead_refused, clash_clashing, clashing_clash, none_alone, alone_none, some_first, first_some}

-- An accepted list, fired in the order listed with just the room for the table.
listed : (t s : Term) (ps : List ℕ) → Within t → joint_at t ps ≡ accept s → (after_joint t ps ≡ s) × InTurn (16 * size t) (λ n. n) t ps ps
listed t s ps w e =
    let (n, g, z) = joint_good t s ps e in
    (z, singly t ps (16 * size t) w g (omega arith))

-- 1. Fired singly in any order, positions carried along by record, each a step with room for the table, the kills of an accepted list are all accepted and give one table, and
-- the joint step gives it. The list is a set: in another order it is accepted too, with the same successor.
pub any_order : (t s : Term) (ps qs : List ℕ) (room : ℕ) → Within t → joint_at t ps ≡ accept s → Permuted ps qs → 16 * size t ≤ room → fire_singly room t qs ≡ accept s
unfolding fire_singly
any_order t s ps qs room w e p l =
    let (n, g, z) = joint_good t s ps e in
    (singly t qs room w (perm_good t p g) l).fires ∙ ap accept (sym (perm_joint t w p g) ∙ z)

pub order_free : (t s : Term) (ps qs : List ℕ) → Within t → joint_at t ps ≡ accept s → Permuted ps qs → joint_at t qs ≡ accept s
unfolding wrong_number
order_free t s ps qs w e p =
    let (n, g, z) = joint_good t s ps e in
    good_joint t qs (subst (λ i. (eqb i 0 || ltb max_kills i) ≡ false) (perm_length p) n) (perm_good t p g) ∙ ap accept (sym (perm_joint t w p g) ∙ z)

-- 2. The load before is the load after, one for each stop, and what each of them halts on the table before; so the load bound.
pub joint_balance : (t s : Term) (ps : List ℕ) → Within t → joint_at t ps ≡ accept s → load t ≡ load s + length ps + halted t ps
joint_balance t s ps w e =
    let (z, h) = listed t s ps w e in
    subst (λ r. load t ≡ load r + length ps + halted t ps) z h.balance

pub joint_bound : (t s : Term) (ps : List ℕ) → Within t → joint_at t ps ≡ accept s → length ps + load s ≤ load t
joint_bound t s ps w e = omega (arith, joint_balance t s ps w e)

-- 3. The joint successor is within the limits, so that 20 cannot come of it. Each kill takes away as many records as it would alone on the table before.
pub joint_within : (t s : Term) (ps : List ℕ) → Within t → joint_at t ps ≡ accept s → Within s
joint_within t s ps w e =
    let (z, h) = listed t s ps w e in
    subst Within z h.within

pub successor_formed : (table ps : List ℕ) (room : ℕ) (s : Term) → AreBytes table → judge_joint table ps room ≡ accept s → Within s
successor_formed table ps room s b e = let (t, et, w, h) = on_term table ps room s b e in joint_within t s ps w h

pub joint_records : (t s : Term) (ps : List ℕ) → Within t → joint_at t ps ≡ accept s → size t ≡ size s + gone_by_all t ps
joint_records t s ps w e =
    let (z, h) = listed t s ps w e in
    subst (λ r. size t ≡ size r + gone_by_all t ps) z h.records

pub joint_smaller : (t s : Term) (ps : List ℕ) → Within t → joint_at t ps ≡ accept s → size s ≤ size t
joint_smaller t s ps w e = omega (arith, joint_records t s ps w e)

-- 4. A place carried along names the record that it named before: the same turns lead to it, and it is the same record or has become nil; or, if turns are left over, that
-- record went with what has become nil at their end.
pub carried_traced : (t s : Term) (a n : ℕ) → successor t (Kill a) ≡ accept s → n < size t → Traced t n s (carried t s n)
unfolding successor
carried_traced t s a n e l =
    let (k, h, q) = kill_fires t s a e in
    traced (subst (Pruned t) q (pruned-kill k t a)) n l

-- 5. The relations of specs/Listed say what the functions say. 25: the number, which is 1 to 8.
pub number_right : (ps : List ℕ) → (wrong_number ps ≡ false) ↔ RightNumber ps
number_right ps = (right_number ps, number_passed ps)

pub joint_few : (t s : Term) (ps : List ℕ) → joint_at t ps ≡ accept s → (1 ≤ length ps) × (length ps ≤ 8)
joint_few t s ps e =
    let r = right_number ps (joint_passed t s ps e).0.0 in (r.some-kill, r.few)

-- 11: all are live kills; the first that is none; and no other refusal is due here.
pub live_all : (t : Term) (ps : List ℕ) → (all_live t ps ≡ accept tt) ↔ All (LiveKill t) ps
live_all t ps = (accepted-live t ps, live-accepted t ps)

pub live-first : (t : Term) (ps : List ℕ) (a : ℕ) → (all_live t ps ≡ refuse 11 a) ↔ FirstDead t ps a
live-first t ps a = (λ e. (refused_dead t ps 11 a e).1, λ d. ap (all_live t) d.listed ∙ dead_refused t d.before d.behind a d.live_before d.dead)

pub live-refusal : (t : Term) (ps : List ℕ) (n p : ℕ) → all_live t ps ≡ refuse n p → n ≡ 11
live-refusal t ps n p e = (refused_dead t ps n p e).0

-- 26: two that clash; none does; the first that does.
pub clashes_so : (t : Term) (a b : ℕ) → Within t → LiveKill t a → LiveKill t b → (clash t a b ≡ true) ↔ Clashing t a b
clashes_so t a b w x y = (clash_clashing t a b w x y, clashing_clash t a b w)

pub alone_all : (t : Term) (ps : List ℕ) → Within t → All (LiveKill t) ps → (first_clash t [] ps ≡ none) ↔ AllAlone t ps
alone_all t ps w ls = (none_alone t w ps ls, alone_none t w ps ls)

pub clash-first : (t : Term) (ps : List ℕ) (a : ℕ) → Within t → All (LiveKill t) ps → (first_clash t [] ps ≡ some a) ↔ FirstClashing t ps a
clash-first t ps a w ls = (some_first t w ps ls a, first_some t w ps ls a)

-- So what is accepted, and with which successor.
pub joint_accepted : (t s : Term) (ps : List ℕ) → Within t → (joint_at t ps ≡ accept s) ↔ (RightNumber ps × All (LiveKill t) ps × AllAlone t ps × (after_joint t ps ≡ s))
joint_accepted t s ps w = (
  λ e. let ((n, l, c), z) = joint_passed t s ps e in
      let ls = accepted-live t ps l in
      (right_number ps n, ls, none_alone t w ps ls c, z),
  λ h. passed_joint t ps (number_passed ps h.0, live-accepted t ps h.1, alone_none t w ps h.1 h.2) ∙ ap accept h.3,
)

-- 6. For code. Two live kills clash exactly if the delimitation of one lies inside, or is the same as, that of the other.
pub clash_scopes : (t : Term) (a b p r : ℕ) (c e : Term) → Within t → Stop t a → Stop t b
    → Stands t p (under (delimitation (label_at t a)) c) → Stands t r (under (delimitation (label_at t b)) e)
    → clash t a b ≡ (stands_in p (under (delimitation (label_at t a)) c) r || stands_in r (under (delimitation (label_at t b)) e) p)
clash_scopes t a b p r c e w x y m n = clash_spans t a b p r c e w x y m n

-- What a kill leaves of its scope, by the place of its [k] and the body of that.
pub outcome-body : (t : Term) (a q : ℕ) (c : Term) → Within t → Stop t a → Stands t q (under (delimitation (label_at t a)) c)
    → outcome t a ≡ (label_at t a, fill (map halt_beside (way_to c (a - q - 1))) (leaf nil))
outcome-body t a q c w x d = outcome_is t a q c w x d
