-- Halting record by record, by the ways (specs/Allows: Halted), is what halt computes (specs/Moves): halt-halted, halted-halt.
use mathlib.Core.Path.{◌≡◌, refl, sym, subst, ◌∙◌}
use mathlib.Core.List.{List, [], ◌∷◌, ◌++◌}
use Rattle.cows.specs.Terms.{nil, kill, invoke, receive, wait, protection, delimitation, replication, choice, parallel, Term, leaf, under, both, size}
use Rattle.cows.specs.Kinds.{Node, basic, prefix, join, root}
use Rattle.cows.specs.Places.{Frame, inside, left_of, right_of, Way, Spot, spot_at, way_to, sub, passed}
use Rattle.cows.specs.Format.{nodes}
use Rattle.cows.specs.Moves.{halt_under, halt_both, halt}
use Rattle.cows.specs.Allows.{Through, through_parallel, through_delimitation, through_replication, Halts, halts_nil, halts_kill, halts_invoke, halts_choice, halts_receive, halts_wait, Reached, at_root, goes_through, Spared, keeps, keeps-protection, keeps-inside, leaves-nil, leaves_nothing, Halted}
use Rattle.cows.proofs.Gathered.{in_order_unique, Over, over_leaf, over_under, over_both}

-- Where the records at the end of a way stand: halting reaches them, or a protection that it reached shelters them, or they go with what became nil.
data Zone : Type 0 where
  reached : Zone
  sheltered : Zone
  gone : Zone

-- where what is below a record that halting reaches stands, and what becomes of that record
beneath : Node → Zone
beneath (basic x) = gone
beneath (prefix (receive p o ws)) = gone
beneath (prefix (wait n)) = gone
beneath (prefix protection) = sheltered
beneath (prefix (delimitation d)) = reached
beneath (prefix replication) = reached
beneath (join choice) = gone
beneath (join parallel) = reached

enter : Zone → Node → Zone
enter reached x = beneath x
enter sheltered x = sheltered
enter gone x = gone

zone : Way → Zone
zone [] = reached
zone (f ∷ w) = enter (zone w) (passed f)

becomes : Zone → Node → Node
becomes reached x = x
becomes sheltered x = x
becomes gone x = basic nil

leaves : Zone → Node → List Node
leaves reached x = becomes (beneath x) x ∷ []
leaves sheltered x = x ∷ []
leaves gone x = []

-- the three kinds of record
data Kind : Node → Zone → Type 0 where
  crossed : {x : Node} → Through x → Kind x reached
  shelter : Kind (prefix protection) sheltered
  ends : {x : Node} → Halts x → Kind x gone

kind : (x : Node) → Kind x (beneath x)
unfolding beneath
kind (basic nil) = ends halts_nil
kind (basic (kill k)) = ends halts_kill
kind (basic (invoke p o ws)) = ends halts_invoke
kind (prefix (receive p o ws)) = ends halts_receive
kind (prefix (wait n)) = ends halts_wait
kind (prefix protection) = shelter
kind (prefix (delimitation d)) = crossed through_delimitation
kind (prefix replication) = crossed through_replication
kind (join choice) = ends halts_choice
kind (join parallel) = crossed through_parallel

beneath_through : {x : Node} → Through x → beneath x ≡ reached
unfolding beneath
beneath_through through_parallel = refl
beneath_through through_delimitation = refl
beneath_through through_replication = refl

beneath_halts : {x : Node} → Halts x → beneath x ≡ gone
unfolding beneath
beneath_halts halts_nil = refl
beneath_halts halts_kill = refl
beneath_halts halts_invoke = refl
beneath_halts halts_choice = refl
beneath_halts halts_receive = refl
beneath_halts halts_wait = refl

-- the three kinds of way
data Stretch : Way → Zone → Type 0 where
  on_way : {w : Way} → Reached w → Stretch w reached
  in_shelter : (v w : Way) → Reached w → Stretch (v ++ (inside protection ∷ w)) sheltered
  in_nil : (v w : Way) (f : Frame) → Reached w → Halts (passed f) → Stretch (v ++ (f ∷ w)) gone

protection_is : (f : Frame) → passed f ≡ prefix protection → f ≡ inside protection
unfolding passed
protection_is (inside u) e = cc
protection_is (left_of j t) e = cc
protection_is (right_of j s) e = cc

next : {w : Way} → Reached w → (f : Frame) (x : Node) {z : Zone} → passed f ≡ x → Kind x z → Stretch (f ∷ w) z
next r f x e (crossed h) = on_way (goes_through f (rw e h) r)
next {w} r f x e shelter = subst (λ g. Stretch (g ∷ w) sheltered) (sym (protection_is f e)) (in_shelter [] w r)
next {w} r f x e (ends h) = in_nil [] w f r (rw e h)

further : {w : Way} {z : Zone} → Stretch w z → (f : Frame) → Stretch (f ∷ w) (enter z (passed f))
unfolding enter
further (on_way r) f = next r f (passed f) refl (kind (passed f))
further (in_shelter v w r) f = in_shelter (f ∷ v) w r
further (in_nil v w g r h) f = in_nil (f ∷ v) w g r h

stretch : (w : Way) → Stretch w (zone w)
unfolding zone
stretch [] = on_way at_root
stretch (f ∷ w) = further (stretch w) f

-- what is left of a record, and nothing else
spared_reached : {w : Way} → Reached w → (x : Node) {z : Zone} → Kind x z → Spared w x (becomes z x ∷ [])
unfolding becomes
spared_reached r x (crossed h) = keeps r h
spared_reached r x shelter = keeps-protection r
spared_reached r x (ends h) = leaves-nil r h

spared_stretch : {w : Way} {z : Zone} → Stretch w z → (x : Node) → Spared w x (leaves z x)
unfolding leaves
spared_stretch (on_way r) x = spared_reached r x (kind x)
spared_stretch (in_shelter v w r) x = keeps-inside v w r
spared_stretch (in_nil v w f r h) x = leaves_nothing v w f r h

zone_reached : {w : Way} → Reached w → zone w ≡ reached
unfolding zone enter
zone_reached at_root = refl
zone_reached (goes_through f h r) = rw (zone_reached r) (beneath_through h)

zone_past : (v w : Way) (z : Zone) → ((x : Node) → enter z x ≡ z) → zone w ≡ z → zone (v ++ w) ≡ z
unfolding zone
zone_past [] w z h e = e
zone_past (f ∷ v) w z h e = rw (zone_past v w z h e) (h (passed f))

spared_leaves : {w : Way} {x : Node} {l : List Node} → Spared w x l → l ≡ leaves (zone w) x
unfolding leaves becomes beneath zone enter passed
spared_leaves (keeps r h) = rw (zone_reached r, beneath_through h)
spared_leaves (leaves-nil r h) = rw (zone_reached r, beneath_halts h)
spared_leaves (keeps-protection r) = rw (zone_reached r)
spared_leaves (keeps-inside v w r) = rw (zone_past v (inside protection ∷ w) sheltered (λ x. refl) (rw (zone_reached r)))
spared_leaves (leaves_nothing v w f r h) = rw (zone_past v (f ∷ w) gone (λ x. refl) (rw (zone_reached r) (beneath_halts h)))

-- The records left of a term whose own way is w, by where that way ends.
left_at : Spot → List Node
left_at z = leaves (zone z.way) (root z.here)

over_sheltered : (w : Way) → zone w ≡ sheltered → (t : Term) → Over left_at w t ≡ nodes t
unfolding left_at leaves zone enter nodes root size
over_sheltered w e (leaf x) = over_leaf left_at w (leaf x) refl ∙ rw e
over_sheltered w e (under u t) = over_under left_at w u t ∙ rw (e, over_sheltered (inside u ∷ w) (rw e) t)
over_sheltered w e (both j s t) = over_both left_at w j s t ∙ rw (e, over_sheltered (left_of j t ∷ w) (rw e) s, over_sheltered (right_of j s ∷ w) (rw e) t)

over_gone : (w : Way) → zone w ≡ gone → (t : Term) → Over left_at w t ≡ []
unfolding left_at leaves zone enter size
over_gone w e (leaf x) = over_leaf left_at w (leaf x) refl ∙ rw e
over_gone w e (under u t) = over_under left_at w u t ∙ rw (e, over_gone (inside u ∷ w) (rw e) t)
over_gone w e (both j s t) = over_both left_at w j s t ∙ rw (e, over_gone (left_of j t ∷ w) (rw e) s, over_gone (right_of j s ∷ w) (rw e) t)

over_reached : (w : Way) → zone w ≡ reached → (t : Term) → Over left_at w t ≡ nodes (halt t)
unfolding left_at leaves zone enter becomes beneath passed nodes root size halt halt_under halt_both
over_reached w e (leaf x) = over_leaf left_at w (leaf x) refl ∙ rw e
over_reached w e (under (receive p o ws) t) = over_under left_at w (receive p o ws) t ∙ rw (e, over_gone (inside (receive p o ws) ∷ w) (rw e) t)
over_reached w e (under (wait n) t) = over_under left_at w (wait n) t ∙ rw (e, over_gone (inside (wait n) ∷ w) (rw e) t)
over_reached w e (under protection t) = over_under left_at w protection t ∙ rw (e, over_sheltered (inside protection ∷ w) (rw e) t)
over_reached w e (under (delimitation d) t) = over_under left_at w (delimitation d) t ∙ rw (e, over_reached (inside (delimitation d) ∷ w) (rw e) t)
over_reached w e (under replication t) = over_under left_at w replication t ∙ rw (e, over_reached (inside replication ∷ w) (rw e) t)
over_reached w e (both choice s t) = over_both left_at w choice s t ∙ rw (e, over_gone (left_of choice t ∷ w) (rw e) s, over_gone (right_of choice s ∷ w) (rw e) t)
over_reached w e (both parallel s t) =
    over_both left_at w parallel s t ∙ rw (e, over_reached (left_of parallel t ∷ w) (rw e) s, over_reached (right_of parallel s ∷ w) (rw e) t)

pub halt-halted : (t : Term) → Halted t (halt t)
halt-halted t =
    record {
      left = λ n. leaves (zone (way_to t n)) (root (sub t n));
      each = λ n l. spared_stretch (stretch (way_to t n)) (root (sub t n));
      records = unfold left_at way_to sub spot_at zone in sym (over_reached [] refl t);
    }

pub halted-halt : {t s : Term} → Halted t s → s ≡ halt t
halted-halt {t} {s} h = in_order_unique t s (halt t) _ (λ n h k l p q. spared_leaves p ∙ sym (spared_leaves q)) h (halt-halted t)
