-- The kills of an accepted list: each fired singly leaves the others as they were, carried along; so in every order they give the joint successor.
use mathlib.Core.Path.{◌≡◌, refl, sym, ap, subst, ◌∙◌}
use mathlib.Core.Logic.{◌≢◌}
use mathlib.Core.Bool.{true, false, ◌&&◌, ◌||◌}
use mathlib.Core.Option.{some}
use mathlib.Core.List.{List, [], ◌∷◌, ◌++◌, map, map-map, map-id}
use Prim.Native.Nat.{ℕ, suc, ◌+◌, ◌*◌, ◌≤◌, ◌<◌}
use native.Mathlib.Omega.{arith}
use lib.ListN.{length}
use Rattle.cows.specs.Basics.{All, accept, ◌>>=◌}
use Rattle.cows.specs.Terms.{kill, Term, leaf, size, kills}
use Rattle.cows.specs.Places.{Way, way_to, sub, enclosed}
use Rattle.cows.specs.Active.{live}
use Rattle.cows.specs.Within.{Within}
use Rattle.cows.specs.Moves.{after_kill, kill_at, Kill, successor}
use Rattle.cows.specs.Step.{step_term}
use Rattle.cows.specs.Load.{load, ended_inside, ended_beside, ended_by, lost}
use Rattle.cows.proofs.Basics.{clash, accept-bind, or_case}
use Rattle.cows.proofs.Stands.{live-wanted}
use Rattle.cows.proofs.Step.{accepted_step}
use Rattle.cows.proofs.Preserving.{step_within}
use Rattle.cows.proofs.Theorems.{load-kill}
use Rattle.joint.specs.Joint.{label_of, label_at, Outcome, halt_scope, outcome, settle, after_joint}
use Rattle.joint.specs.Singly.{carried, fire, Permuted, empty, keep, swap, next, halted, gone_by, gone_by_all}
use Rattle.joint.proofs.Entering.{enclosed_more, carried_fits}
use Rattle.joint.proofs.Firing.{Fired, fires, lone, Kept, kept, up_to, scope_more, live_more}
use Rattle.joint.proofs.Settling.{Free, settle-none, settled, Alike, alike_settle, alike_keep, alike_swap}
use Rattle.joint.proofs.Pruning.{smaller_kill, gone_more, gone_is}
use Rattle.joint.proofs.Stops.{Stop, Apart, Good, good_stops, stop-enclosed}

-- What stays of the kill at b of t: it is the one at c of q.
record Same (t : Term) (b : ℕ) (q : Term) (c : ℕ) : Type 0 where
  here : sub q c ≡ sub t b
  placed : c < size q
  lives : live (way_to q c) ≡ live (way_to t b)
  around : (d : ℕ) → enclosed d (way_to q c) ≡ enclosed d (way_to t b)
  leaves : outcome q c ≡ outcome t b
  ends : lost q (Kill c) ≡ lost t (Kill b)
  takes : gone_by q c ≡ gone_by t b

same_label : (t q : Term) (b c : ℕ) → sub q c ≡ sub t b → label_at q c ≡ label_at t b
unfolding label_at
same_label t q b c e = ap label_of e

same_outcome : (t q : Term) (b c : ℕ) → label_at q c ≡ label_at t b → halt_scope (label_at t b) (way_to q c) ≡ halt_scope (label_at t b) (way_to t b) → outcome q c ≡ outcome t b
unfolding outcome
same_outcome t q b c e h = rw (e, h)

lost_at : (t : Term) (b l : ℕ) → sub t b ≡ leaf (kill l) → lost t (Kill b) ≡ ended_inside l (way_to t b)
unfolding lost ended_by kills
lost_at t b l e = rw e

ended_more : (k : ℕ) (v w : Way) → enclosed k v ≡ true → ended_inside k (v ++ w) ≡ ended_inside k v
unfolding ended_inside
ended_more k = up_to k 0 (λ f n. ended_beside f + n) (ended_inside k) (λ f w. refl)

-- of the way to b, the part that is kept reaches up to its delimitation
kept_low : (t q : Term) (a b : ℕ) (k : Kept t a q b) → enclosed (label_at t b) (way_to t b) ≡ true → enclosed (label_at t b) (way_to t a) ≡ false → enclosed (label_at t b) k.low ≡ true
kept_low t q a b k i o =
    let l = label_at t b in
    or_case _ (enclosed l k.low) (enclosed l k.high) (sym (enclosed_more l k.low k.high) ∙ (ap (enclosed l) (sym k.before) ∙ i))
    (λ e. e) (λ e. clash (k.shared l e) o)

kept_same : (t q : Term) (a b : ℕ) → Stop t b → enclosed (label_at t b) (way_to t b) ≡ true → enclosed (label_at t b) (way_to t a) ≡ false → Kept t a q b → Same t b q (carried t q b)
kept_same t q a b s i o k =
    let l = label_at t b in
    let c = carried t q b in
    let e = kept_low t q a b k i o in
    let name = same_label t q b c k.here in
    record {
      here = k.here;
      placed = carried_fits t q b;
      lives = rw (k.after, k.before) (live_more k.low k.high' ∙ (ap (λ b. live k.low && b) k.lives ∙ sym (live_more k.low k.high)));
      around = λ d. rw (k.after, k.before) (enclosed_more d k.low k.high' ∙ (ap (λ b. enclosed d k.low || b) (k.encloses d) ∙ sym (enclosed_more d k.low k.high)));
      leaves = same_outcome t q b c name (rw (k.after, k.before) (scope_more l k.low k.high' e ∙ sym (scope_more l k.low k.high e)));
      ends =
          lost_at q c l (k.here ∙ s.at.stands)
          ∙ (rw (k.after, k.before) (ended_more l k.low k.high' e ∙ sym (ended_more l k.low k.high e)) ∙ sym (lost_at t b l s.at.stands));
      takes =
          gone_is q c l (k.here ∙ s.at.stands)
          ∙ (rw (name, k.after, k.before) (gone_more l k.low k.high' e ∙ sym (gone_more l k.low k.high e)) ∙ sym (gone_is t b l s.at.stands));
    }

-- The kill at a fires: it is accepted, as a step too, and leaves a term within the limits.
module _ (t : Term) (a : ℕ) (w : Within t) (s : Stop t a) where
  abbrev left : Term
  left = after_kill (label_at t a) t a

  abbrev move : ℕ → ℕ
  move = carried t left

  accepted : successor t (Kill a) ≡ accept left
  unfolding successor kill_at ◌>>=◌ kills
  accepted = rw (live-wanted kills t a (label_at t a) (leaf (kill (label_at t a))) refl s)

  stepped : (room : ℕ) → 16 * size t ≤ room → step_term t (some (Kill a)) room ≡ accept left
  stepped room h =
      let (i, j) = smaller_kill (label_at t a) t a in
      accepted_step t left (some (Kill a)) room
      (record { move = Kill a; reads = refl; moves = accepted; small = omega (arith, w.small); shallow = omega (arith, w.shallow); fits = omega arith })

  within : Within left
  within = step_within t left (some (Kill a)) (16 * size t) w (stepped (16 * size t) (omega arith))

  fired : Fired (label_at t a) (outcome t a).1 t a left
  unfolding outcome
  fired = fires (label_at t a) t a s.at.placed (stop-enclosed t a w s)

  -- the other kills stay as they are
  same : (b : ℕ) → Stop t b → Apart t a b → Same t b left (move b)
  same b x h = kept_same t left a b x (stop-enclosed t b w x) h.1 (kept fired b (kill (label_at t b)) x.at.placed h.0 x.at.stands)

  sames : (ps : List ℕ) → All (Stop t) ps → All (Apart t a) ps → All (λ b. Same t b left (move b)) ps
  sames [] x h = tt
  sames (b ∷ ps) x h = (same b x.0 h.0, sames ps x.1 h.1)

  stop-kept : (b : ℕ) → Stop t b → Same t b left (move b) → Stop left (move b)
  stop-kept b x h =
      let name = same_label t left b (move b) h.here in
      record { at = record { placed = h.placed; stands = h.here ∙ (x.at.stands ∙ ap (λ l. leaf (kill l)) (sym name)) }; live = h.lives ∙ x.live }

  apart_kept : (b c : ℕ) → Same t b left (move b) → Same t c left (move c) → Apart t b c → Apart left (move b) (move c)
  apart_kept b c h k x =
      rw (same_label t left b (move b) h.here, same_label t left c (move c) k.here) (k.around (label_at t b) ∙ x.0, h.around (label_at t c) ∙ x.1)

  aparts : (b : ℕ) (ps : List ℕ) → Same t b left (move b) → All (λ c. Same t c left (move c)) ps → All (Apart t b) ps → All (Apart left (move b)) (map move ps)
  aparts b [] h k x = tt
  aparts b (c ∷ ps) h k x = (apart_kept b c h k.0 x.0, aparts b ps h k.1 x.1)

  goods : (ps : List ℕ) → All (λ b. Same t b left (move b)) ps → Good t ps → Good left (map move ps)
  goods [] h g = tt
  goods (b ∷ ps) h g = (stop-kept b g.0 h.0, aparts b ps h.0 h.1 g.1, goods ps h.1 g.2)

  outcomes : (ps : List ℕ) → All (λ b. Same t b left (move b)) ps → map (outcome left) (map move ps) ≡ map (outcome t) ps
  outcomes [] h = refl
  outcomes (b ∷ ps) h = rw (h.0.leaves, outcomes ps h.1)

  losses : (ps : List ℕ) → All (λ b. Same t b left (move b)) ps → halted left (map move ps) ≡ halted t ps
  unfolding halted
  losses [] h = refl
  losses (b ∷ ps) h = rw (h.0.ends, losses ps h.1)

  records : (ps : List ℕ) → All (λ b. Same t b left (move b)) ps → gone_by_all left (map move ps) ≡ gone_by_all t ps
  records [] h = refl
  records (b ∷ ps) h = rw (h.0.takes, records ps h.1)

  frees : (ps : List ℕ) → All (Stop t) ps → All (Apart t a) ps → All (Free (outcome t a).1 t a) (map (outcome t) ps)
  unfolding outcome
  frees [] x h = tt
  frees (b ∷ ps) x h = (
    (lone fired b (label_at t b) x.0.at.placed h.0.0 (stop-enclosed t b w x.0) h.0.1 (w.formed.unique (label_at t b)), h.0.1),
    frees ps x.1 h.1,
  )

  -- what is still to be settled after it
  rest : (ps : List ℕ) → All (Stop t) ps → All (Apart t a) ps → after_joint left (map move ps) ≡ after_joint t (a ∷ ps)
  unfolding after_joint outcome
  rest ps x h =
      ap (λ (os : List Outcome). settle os left) (outcomes ps (sames ps x h))
      ∙ sym (settled fired (map (outcome t) ps) (w.formed.unique (label_at t a)) (frees ps x h))

-- The kills of ps, whose records stand at the places qs of t now, fired one after the other: all are accepted, and end in the joint successor; it is within the limits, and
-- load and records balance.
pub record InTurn (room : ℕ) (c : ℕ → ℕ) (t : Term) (ps qs : List ℕ) : Type 0 where
  pub fires : fire room c t ps ≡ accept (after_joint t qs)
  pub within : Within (after_joint t qs)
  pub balance : load t ≡ load (after_joint t qs) + length ps + halted t qs
  pub records : size t ≡ size (after_joint t qs) + gone_by_all t qs

in_turn : (ps : List ℕ) (room : ℕ) (c : ℕ → ℕ) (t : Term) → Within t → Good t (map c ps) → 16 * size t ≤ room → InTurn room c t ps (map c ps)
unfolding fire halted lost
in_turn [] room c t w g l =
    let e : t ≡ after_joint t [] = unfold after_joint in sym (settle-none t) in
    record { fires = ap accept e; within = subst Within e w; balance = omega (arith, ap load e); records = omega (arith, ap size e) }
in_turn (a ∷ ps) room c t w g l =
    let b = c a in
    let q = after_kill (label_at t b) t b in
    let m = (smaller_kill (label_at t b) t b).0 in
    let x = good_stops t (map c ps) g.2 in
    let z = sames t b w g.0 (map c ps) x g.1 in
    let e : map (carried t q) (map c ps) ≡ map (λ n. carried t q (c n)) ps = map-map (carried t q) c ps in
    let h = in_turn ps room (λ n. carried t q (c n)) q (within t b w g.0) (subst (Good q) e (goods t b w g.0 (map c ps) z g.2)) (omega arith) in
    let r = ap (after_joint q) (sym e) ∙ rest t b w g.0 (map c ps) x g.1 in
    record {
      fires = accept-bind (step_term t (some (Kill b)) room) _ q (stepped t b w g.0 room l) ∙ (h.fires ∙ ap accept r);
      within = subst Within r h.within;
      balance = omega (arith, load-kill t q b (accepted t b w g.0), h.balance, ap load r, ap (halted q) e, losses t b w g.0 (map c ps) z);
      records = omega (arith, h.records, ap size r, ap (gone_by_all q) e, records t b w g.0 (map c ps) z);
    }

pub singly : (t : Term) (ps : List ℕ) (room : ℕ) → Within t → Good t ps → 16 * size t ≤ room → InTurn room (λ n. n) t ps ps
singly t ps room w g l = subst (InTurn room (λ n. n) t ps) (map-id ps) (in_turn ps room (λ n. n) t w (subst (Good t) (sym (map-id ps)) g) l)

-- Another order.
perm_all : (P : ℕ → Type 0) {ps qs : List ℕ} → Permuted ps qs → All P ps → All P qs
perm_all P empty h = tt
perm_all P (keep p) h = (h.0, perm_all P p h.1)
perm_all P swap h = (h.1.0, (h.0, h.1.1))
perm_all P (next p q) h = perm_all P q (perm_all P p h)

pub perm_length : {ps qs : List ℕ} → Permuted ps qs → length ps ≡ length qs
perm_length empty = refl
perm_length (keep p) = ap suc (perm_length p)
perm_length swap = refl
perm_length (next p q) = perm_length p ∙ perm_length q

pub perm_good : (t : Term) {ps qs : List ℕ} → Permuted ps qs → Good t ps → Good t qs
perm_good t empty g = tt
perm_good t (keep {a = a} p) g = (g.0, perm_all (Apart t a) p g.1, perm_good t p g.2)
perm_good t swap g = (g.2.0, ((g.1.0.1, g.1.0.0), g.2.1), (g.0, g.1.1, g.2.2))
perm_good t (next p q) g = perm_good t q (perm_good t p g)

-- kills that are apart have different labels
apart_labels : (t : Term) (a b : ℕ) → Within t → Stop t b → Apart t a b → label_at t a ≢ label_at t b
apart_labels t a b w s h e = clash (stop-enclosed t b w s) (ap (λ l. enclosed l (way_to t b)) (sym e) ∙ h.0)

perm_alike : {ps qs : List ℕ} (t : Term) → Within t → Permuted ps qs → Good t ps → Alike (map (outcome t) ps) (map (outcome t) qs)
perm_alike t w empty g = λ u s. refl
perm_alike t w (keep p) g = alike_keep _ _ _ (perm_alike t w p g.2)
perm_alike t w (swap {a = a} {b = b} {ps = ps}) g =
    unfold outcome in alike_swap (outcome t a) (outcome t b) (map (outcome t) ps) (apart_labels t a b w g.2.0 g.1.0)
perm_alike t w (next p q) g = λ u s. perm_alike t w p g u s ∙ perm_alike t w q (perm_good t p g) u s

pub perm_joint : {ps qs : List ℕ} (t : Term) → Within t → Permuted ps qs → Good t ps → after_joint t ps ≡ after_joint t qs
unfolding after_joint
perm_joint {ps} {qs} t w p g = alike_settle (map (outcome t) ps) (map (outcome t) qs) (perm_alike t w p g) t
