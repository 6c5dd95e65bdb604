-- A list is accepted exactly if it has 1 to 8 places and is a list of live kills, all apart from each other.
use mathlib.Core.Path.{◌≡◌, refl, sym, subst, ◌∙◌}
use mathlib.Core.Bool.{false}
use mathlib.Core.Option.{none}
use mathlib.Core.List.{List, [], ◌∷◌, ◌++◌, append_assoc}
use Prim.Native.Nat.{ℕ}
use Rattle.cows.specs.Basics.{any, All, place_if, or_else, Result, refuse, accept, ◌>>◌, forbid}
use Rattle.cows.specs.Terms.{kill, Term, leaf, kills}
use Rattle.cows.specs.Places.{way_to, sub, enclosed}
use Rattle.cows.specs.Active.{wanted}
use Rattle.cows.proofs.Basics.{or_false, bind-accept, accept-bind, same_accept, forbid-accept, place_if-none, or_else_none, any_append}
use Rattle.cows.proofs.Stands.{kills_is, wanted-live, live-wanted}
use Rattle.joint.specs.Joint.{label_at, clash, wrong_number, all_live, first_clash, after_joint, joint_at}
use Rattle.joint.specs.Listed.{LiveKill}
use Rattle.joint.proofs.Stops.{Apart, Good, live-stop, good_live}

-- The three judgements of a list are passed: 25, 11 and 26.
abbrev pub Passed : Term → List ℕ → Type 0
Passed t ps = (wrong_number ps ≡ false) × (all_live t ps ≡ accept tt) × (first_clash t [] ps ≡ none)

then_accept : {B : Type 0} (m : Result (Unit {0})) (k : Result B) (b : B) → (m >> k) ≡ accept b → (m ≡ accept tt) × (k ≡ accept b)
unfolding ◌>>◌
then_accept (refuse n p) k b e = (cc, cc)
then_accept (accept a) k b e = (refl, e)

pub joint_passed : (t s : Term) (ps : List ℕ) → joint_at t ps ≡ accept s → Passed t ps × (after_joint t ps ≡ s)
unfolding joint_at
joint_passed t s ps e =
    let (n, e₁) = forbid-accept 25 (place_if (wrong_number ps) 0) _ s e in
    let (l, e₂) = then_accept (all_live t ps) _ s e₁ in
    let (c, e₃) = forbid-accept 26 (first_clash t [] ps) _ s e₂ in
    ((place_if-none (wrong_number ps) 0 n, l, c), same_accept e₃)

pub passed_joint : (t : Term) (ps : List ℕ) → Passed t ps → joint_at t ps ≡ accept (after_joint t ps)
unfolding joint_at place_if forbid ◌>>◌
passed_joint t ps h = rw (h.0, h.1, h.2)

-- 11
pub wanted-kill : (t : Term) (a k : ℕ) → wanted kills t a ≡ accept k → LiveKill t a
wanted-kill t a k e = record { label = k; kill = wanted-live kills t a k _ (kills_is (sub t a) k) e }

pub kill-wanted : (t : Term) (a : ℕ) (l : LiveKill t a) → wanted kills t a ≡ accept l.label
unfolding kills
kill-wanted t a l = live-wanted kills t a l.label (leaf (kill l.label)) refl l.kill

pub accepted-live : (t : Term) (ps : List ℕ) → all_live t ps ≡ accept tt → All (LiveKill t) ps
unfolding all_live
accepted-live t [] e = tt
accepted-live t (a ∷ ps) e =
    let (k, x, y) = bind-accept (wanted kills t a) _ tt e in
    (wanted-kill t a k x, accepted-live t ps y)

pub live-accepted : (t : Term) (ps : List ℕ) → All (LiveKill t) ps → all_live t ps ≡ accept tt
unfolding all_live
live-accepted t [] h = refl
live-accepted t (a ∷ ps) h = accept-bind (wanted kills t a) _ h.0.label (kill-wanted t a h.0) ∙ live-accepted t ps h.1

-- 26
clash_apart : (t : Term) (a : ℕ) (ps : List ℕ) → any (clash t a) ps ≡ false → All (Apart t a) ps
unfolding any clash
clash_apart t a [] e = tt
clash_apart t a (b ∷ ps) e =
    let (x, y) = or_false (clash t a b) (any (clash t a) ps) e in
    (or_false (enclosed (label_at t a) (way_to t b)) (enclosed (label_at t b) (way_to t a)) x, clash_apart t a ps y)

apart_clash : (t : Term) (a : ℕ) (ps : List ℕ) → All (Apart t a) ps → any (clash t a) ps ≡ false
unfolding any clash
apart_clash t a [] h = refl
apart_clash t a (b ∷ ps) h = rw (h.0.0, h.0.1) (apart_clash t a ps h.1)

none_good : (t : Term) (before ps : List ℕ) → first_clash t before ps ≡ none → All (LiveKill t) ps → Good t ps
unfolding first_clash
none_good t before [] e h = tt
none_good t before (a ∷ ps) e h =
    let (x, y) = or_else_none (place_if (any (clash t a) (before ++ ps)) a) (first_clash t (before ++ (a ∷ [])) ps) e in
    let (p, q) = or_false (any (clash t a) before) (any (clash t a) ps) (sym (any_append (clash t a) before ps) ∙ place_if-none _ a x) in
    (live-stop t a h.0, clash_apart t a ps q, none_good t (before ++ (a ∷ [])) ps y h.1)

-- what holds of all of a list holds of one, and of the others; so each of a good list is apart from those before it too
pub all_apart : (P : ℕ → Type 0) (xs ys : List ℕ) (a : ℕ) → All P (xs ++ (a ∷ ys)) → P a × All P (xs ++ ys)
all_apart P [] ys a h = h
all_apart P (x ∷ xs) ys a h = let (p, q) = all_apart P xs ys a h.1 in (p, (h.0, q))

good_apart : (t : Term) (a : ℕ) (before ps : List ℕ) → Good t (before ++ (a ∷ ps)) → All (Apart t a) (before ++ ps)
good_apart t a [] ps g = g.1
good_apart t a (b ∷ before) ps g =
    let ((x, y), z) = all_apart (Apart t b) before ps a g.1 in ((y, x), good_apart t a before ps g.2)

good_none : (t : Term) (before ps : List ℕ) → Good t (before ++ ps) → first_clash t before ps ≡ none
unfolding first_clash place_if or_else
good_none t before [] g = refl
good_none t before (a ∷ ps) g =
    rw (apart_clash t a (before ++ ps) (good_apart t a before ps g)) (good_none t (before ++ (a ∷ [])) ps (subst (Good t) (sym (append_assoc before (a ∷ []) ps)) g))

pub joint_good : (t s : Term) (ps : List ℕ) → joint_at t ps ≡ accept s → (wrong_number ps ≡ false) × Good t ps × (after_joint t ps ≡ s)
joint_good t s ps e =
    let (h, z) = joint_passed t s ps e in
    (h.0, none_good t [] ps h.2 (accepted-live t ps h.1), z)

pub good_joint : (t : Term) (ps : List ℕ) → wrong_number ps ≡ false → Good t ps → joint_at t ps ≡ accept (after_joint t ps)
good_joint t ps n g = passed_joint t ps (n, live-accepted t ps (good_live t ps g), good_none t [] ps g)
