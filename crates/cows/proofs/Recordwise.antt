-- Record by record: a term is told by its records; a substitution and the time passed, said of every record (specs/Allows: Replaced, Elapsed), are what
-- map_atoms and elapse compute (specs/Moves). What a time move gives, and when.
use mathlib.Core.Path.{◌≡◌, refl, sym, ap, subst, ◌∙◌}
use mathlib.Core.Logic.{◌≢◌}
use mathlib.Core.Bool.{Bool, true, false, cond}
use mathlib.Core.List.{List, [], ◌∷◌, ◌++◌, map}
use Prim.Native.Nat.{ℕ, zero, suc, ◌+◌, ◌-◌, ◌<◌}
use native.Mathlib.Omega.{arith}
use lib.Dec.{ltb, eqb}
use lib.ListN.{get_or}
use lib.Seq.{ext_get_or, get_or_at}
use borrow.Author.Tests.{ltb-true, ltb-false, eqb-true, eqb-false, eq-eqb, ne_eqb}
use Rattle.cows.specs.Basics.{every, place_if, refuse, accept, ◌>>◌, forbid}
use Rattle.cows.specs.Terms.{Basic, nil, kill, invoke, Prefix, receive, wait, protection, delimitation, replication, Term, leaf, under, both, size, depth, Join, choice, parallel}
use Rattle.cows.specs.Kinds.{Node, basic, prefix, join, root, kind, live_kind, open_kinds}
use Rattle.cows.specs.Places.{inside, left_of, right_of, Way, Spot, descend, spot_at, way_to, sub, passed}
use Rattle.cows.specs.Format.{nodes, decode}
use Rattle.cows.specs.Active.{live, on_kind}
use Rattle.cows.specs.Moves.{Substitution, map_basic, map_prefix, map_node, map_atoms, image, lower, elapse, elapse_by}
use Rattle.cows.specs.Allows.{StandsLive, Becomes, itself, by_pair, by_others, AllBecome, no_more, and_more, Rewritten, as_nil, as_kill, as_invoke, as_receive, as_wait, as_protection, as_delimitation, as_replication, as_join, Replaced, Elapsed}
use Rattle.cows.proofs.Basics.{clash, cond_case, cond_case₂, bool_case, true_and, place_if-none, same_accept, forbid-accept}
use Rattle.cows.proofs.Places.{fill_spot, descend_here}
use Rattle.cows.proofs.Format.{length-nodes, decode-nodes}
use Rattle.cows.specs.Records.{ahead, behind}
use Rattle.cows.proofs.Ways.{nodes-fill, length-ahead}
use Rattle.cows.proofs.Contexts.{dormant}

-- the record at a place of the list of records; two terms with the same records are the same
first_node : (s : Term) → (l : List Node) × (nodes s ≡ root s ∷ l)
unfolding nodes root
first_node (leaf x) = ([], refl)
first_node (under u t) = (nodes t, refl)
first_node (both j s t) = (nodes s ++ nodes t, refl)

pub node_at : (t : Term) (n : ℕ) → n < size t → get_or (nodes t) n (basic nil) ≡ root (sub t n)
node_at t n l =
    let (r, e) = first_node (sub t n) in
    let w = way_to t n in
    let whole : nodes t ≡ ahead w ++ (root (sub t n) ∷ (r ++ behind w)) = ap nodes (sym (fill_spot t n)) ∙ (nodes-fill w (sub t n) ∙ ap (λ q. ahead w ++ (q ++ behind w)) e) in
    ap (λ q. get_or q n (basic nil)) whole ∙ get_or_at (ahead w) (root (sub t n)) (r ++ behind w) (basic nil) n (length-ahead t n l)

pub same_records : (s t : Term) → size s ≡ size t → ((n : ℕ) → n < size t → root (sub s n) ≡ root (sub t n)) → s ≡ t
same_records s t e h =
    let same : nodes s ≡ nodes t =
    ext_get_or (basic nil) (nodes s) (nodes t) (length-nodes s ∙ (e ∙ sym (length-nodes t)))
    (λ n l. let k : n < size t = omega (arith, length-nodes s) in
    node_at s n (omega arith) ∙ (h n k ∙ sym (node_at t n k))) in
    sym (decode-nodes s) ∙ (ap decode same ∙ decode-nodes t)

-- substitution
becomes-image : (σ : Substitution) (a : ℕ) → Becomes σ a (image σ a)
unfolding image
becomes-image [] a = itself
becomes-image ((x, v) ∷ σ) a =
    cond_case (Becomes ((x, v) ∷ σ) a) (eqb a x) (λ e. subst (λ c. Becomes ((x, v) ∷ σ) c v) (sym (eqb-true a x e)) by_pair) (λ e. by_others (eqb-false a x e) (becomes-image σ a))

becomes_is : {σ : Substitution} {a b : ℕ} → Becomes σ a b → b ≡ image σ a
unfolding image
becomes_is itself = refl
becomes_is (by_pair {a = a}) = rw (eq-eqb a a refl)
becomes_is (by_others {a = a} {c = c} h t) = rw (ne_eqb a c h) (becomes_is t)

all_become : (σ : Substitution) (ws : List ℕ) → AllBecome σ ws (map (image σ) ws)
all_become σ [] = no_more
all_become σ (w ∷ ws) = and_more (becomes-image σ w) (all_become σ ws)

all_become_is : {σ : Substitution} {ws vs : List ℕ} → AllBecome σ ws vs → vs ≡ map (image σ) ws
all_become_is no_more = refl
all_become_is (and_more h k) = cc (becomes_is h, all_become_is k)

pub rewritten_map : (σ : Substitution) (x : Node) → Rewritten σ x (map_node (image σ) x)
unfolding map_node map_basic map_prefix
rewritten_map σ (basic nil) = as_nil
rewritten_map σ (basic (kill k)) = as_kill (becomes-image σ k)
rewritten_map σ (basic (invoke p o ws)) = as_invoke (becomes-image σ p) (becomes-image σ o) (all_become σ ws)
rewritten_map σ (prefix (receive p o ws)) = as_receive (becomes-image σ p) (becomes-image σ o) (all_become σ ws)
rewritten_map σ (prefix (wait n)) = as_wait
rewritten_map σ (prefix protection) = as_protection
rewritten_map σ (prefix (delimitation d)) = as_delimitation (becomes-image σ d)
rewritten_map σ (prefix replication) = as_replication
rewritten_map σ (join j) = as_join

pub rewritten_is : {σ : Substitution} {x y : Node} → Rewritten σ x y → y ≡ map_node (image σ) x
unfolding map_node map_basic map_prefix
rewritten_is as_nil = refl
rewritten_is (as_kill h) = cc (becomes_is h)
rewritten_is (as_invoke h k l) = cc (becomes_is h, becomes_is k, all_become_is l)
rewritten_is (as_receive h k l) = cc (becomes_is h, becomes_is k, all_become_is l)
rewritten_is as_wait = refl
rewritten_is as_protection = refl
rewritten_is (as_delimitation h) = cc (becomes_is h)
rewritten_is as_replication = refl
rewritten_is as_join = refl

-- a number that a term's shape alone gives: its size, its depth
pub record OfShape (m : Term → ℕ) : Type 0 where
  pub leaves : (x y : Basic) → m (leaf x) ≡ m (leaf y)
  pub prefixes : (u v : Prefix) (s t : Term) → m s ≡ m t → m (under u s) ≡ m (under v t)
  pub joins : (j : Join) (s t s' t' : Term) → m s ≡ m s' → m t ≡ m t' → m (both j s t) ≡ m (both j s' t')

pub of_size : OfShape size
unfolding size
of_size = record { leaves = λ x y. refl; prefixes = λ u v s t e. ap suc e; joins = λ j s t s' t' e h. rw (e, h) }

pub of_depth : OfShape depth
unfolding depth
of_depth = record { leaves = λ x y. refl; prefixes = λ u v s t e. ap suc e; joins = λ j s t s' t' e h. rw (e, h) }

-- mapping atoms keeps it, and so does time
pub map-keeps : {m : Term → ℕ} → OfShape m → (f : ℕ → ℕ) (t : Term) → m (map_atoms f t) ≡ m t
unfolding map_atoms
map-keeps k f (leaf x) = k.leaves _ x
map-keeps k f (under u t) = k.prefixes _ u _ t (map-keeps k f t)
map-keeps k f (both j s t) = k.joins j _ _ s t (map-keeps k f s) (map-keeps k f t)

pub elapse-keeps : {m : Term → ℕ} → OfShape m → (d : ℕ) (t : Term) → m (elapse d t) ≡ m t
unfolding elapse
elapse-keeps k d (leaf x) = refl
elapse-keeps {m} k d (under u t) =
    k.prefixes _ u _ t (cond_case (λ r. m r ≡ m t) (live_kind (kind (prefix u))) (λ e. elapse-keeps k d t) (λ e. refl))
elapse-keeps k d (both j s t) = k.joins j _ _ s t (elapse-keeps k d s) (elapse-keeps k d t)

root-map : (f : ℕ → ℕ) (v w : Way) (t : Term) (n : ℕ) → root (descend v (map_atoms f t) n).here ≡ map_node f (root (descend w t n).here)
unfolding descend map_atoms root map_node
root-map f v w (leaf x) n = refl
root-map f v w (under u t) zero = refl
root-map f v w (under u t) (suc n) = root-map f (inside (map_prefix f u) ∷ v) (inside u ∷ w) t n
root-map f v w (both j s t) zero = refl
root-map f v w (both j s t) (suc n) =
    rw (map-keeps of_size f s)
    (cond_case₂ (λ (x y : Spot). root x.here ≡ map_node f (root y.here)) (ltb n (size s))
    (λ e. root-map f (left_of j (map_atoms f t) ∷ v) (left_of j t ∷ w) s n) (λ e. root-map f (right_of j (map_atoms f s) ∷ v) (right_of j s ∷ w) t (n - size s)))

root-mapped : (f : ℕ → ℕ) (t : Term) (n : ℕ) → root (sub (map_atoms f t) n) ≡ map_node f (root (sub t n))
unfolding sub spot_at
root-mapped f t n = root-map f [] [] t n

pub map_replaced : (σ : Substitution) (t : Term) → Replaced σ t (map_atoms (image σ) t)
map_replaced σ t = record { count = map-keeps of_size (image σ) t; records = λ n l. rw (root-mapped (image σ) t n) (rewritten_map σ (root (sub t n))) }

pub replaced_map : (σ : Substitution) (t s : Term) → Replaced σ t s → s ≡ map_atoms (image σ) t
replaced_map σ t s h =
    same_records s (map_atoms (image σ) t) (h.count ∙ sym (map-keeps of_size (image σ) t))
    (λ n l. rewritten_is (h.records n (omega (arith, map-keeps of_size (image σ) t))) ∙ sym (root-mapped (image σ) t n))

-- time
lower_node : ℕ → Node → Node
lower_node d (basic x) = basic x
lower_node d (prefix u) = prefix (lower d u)
lower_node d (join j) = join j

-- a join on the way does not stop it
join_live : (j : Join) (t : Term) (w : Way) → live w ≡ true → (live (left_of j t ∷ w) ≡ true) × (live (right_of j t ∷ w) ≡ true)
unfolding live every on_kind passed open_kinds
join_live choice t w h = (h, h)
join_live parallel t w h = (h, h)

-- the record at a place when d has passed
timed : ℕ → Bool → Node → Node
timed d b x = cond b (lower_node d x) x

root-elapse : (d : ℕ) (v w : Way) → live w ≡ true → (t : Term) (n : ℕ) → root (descend v (elapse d t) n).here ≡ timed d (live (descend w t n).way) (root (descend w t n).here)
unfolding descend elapse root lower_node timed
root-elapse d v w h (leaf x) n = rw h
root-elapse d v w h (under u t) zero = rw h
root-elapse d v w h (under u t) (suc n) =
    cond_case (λ r. root (descend (inside (lower d u) ∷ v) r n).here ≡ timed d (live (descend (inside u ∷ w) t n).way) (root (descend (inside u ∷ w) t n).here)) (live_kind (kind (prefix u)))
    (λ e. root-elapse d (inside (lower d u) ∷ v) (inside u ∷ w) (unfold live every on_kind passed in true_and e h) t n)
    (λ e. rw (dormant (inside u ∷ w) (unfold live every on_kind passed in rw e) t n) (ap root (descend_here (inside (lower d u) ∷ v) (inside u ∷ w) t n)))
root-elapse d v w h (both j s t) zero = rw h
root-elapse d v w h (both j s t) (suc n) =
    rw (elapse-keeps of_size d s)
    (cond_case₂ (λ (x y : Spot). root x.here ≡ timed d (live y.way) (root y.here)) (ltb n (size s))
    (λ e. root-elapse d (left_of j (elapse d t) ∷ v) (left_of j t ∷ w) (join_live j t w h).0 s n)
    (λ e. root-elapse d (right_of j (elapse d s) ∷ v) (right_of j s ∷ w) (join_live j s w h).1 t (n - size s)))

root_elapsed : (d : ℕ) (t : Term) (n : ℕ) → root (sub (elapse d t) n) ≡ timed d (live (way_to t n)) (root (sub t n))
unfolding sub spot_at way_to
root_elapsed d t n = root-elapse d [] [] (unfold live every in refl) t n

-- at a place stands a live wait, or a record that time does not change
module _ (P : Type 0) (d : ℕ) (t : Term) (n : ℕ) (l : n < size t) where
  abbrev None : Type 0
  None = (i : ℕ) (r : Term) → StandsLive t n (under (wait i) r) → ⊥

  wait_or_not : ((i : ℕ) (r : Term) → StandsLive t n (under (wait i) r) → P) → (None → timed d (live (way_to t n)) (root (sub t n)) ≡ root (sub t n) → P) → P
  unfolding timed root lower_node lower
  wait_or_not f g = go (live (way_to t n)) refl (sub t n) refl
    where
      other : (s : Term) → sub t n ≡ s → ((i : ℕ) (r : Term) → s ≡ under (wait i) r → ◌≡◌ {A = ℕ} 0 1) → None
      other s e h i r k = let z = h i r (sym e ∙ k.at.stands) in omega arith

      go : (b : Bool) → live (way_to t n) ≡ b → (s : Term) → sub t n ≡ s → P
      go false q s e = g (λ i r k. clash k.live q) (rw q)
      go true q (leaf x) e = g (other _ e (λ i r z. cc)) (rw (q, e))
      go true q (under (receive p o ws) r) e = g (other _ e (λ i r z. cc)) (rw (q, e))
      go true q (under (wait i) r) e = f i r (record { at = record { placed = l; stands = e }; live = q })
      go true q (under protection r) e = g (other _ e (λ i r z. cc)) (rw (q, e))
      go true q (under (delimitation c) r) e = g (other _ e (λ i r z. cc)) (rw (q, e))
      go true q (under replication r) e = g (other _ e (λ i r z. cc)) (rw (q, e))
      go true q (both j r s) e = g (other _ e (λ i r z. cc)) (rw (q, e))

falls_live : (d : ℕ) (t : Term) (n i : ℕ) (r : Term) → StandsLive t n (under (wait i) r) → root (sub (elapse d t) n) ≡ prefix (wait (i - d))
unfolding timed root lower_node lower
falls_live d t n i r l = rw (root_elapsed d t n, l.live, l.at.stands)

pub elapse_elapsed : (d : ℕ) (t : Term) → Elapsed d t (elapse d t)
elapse_elapsed d t =
    record {
      count = elapse-keeps of_size d t;
      falls = λ n i r l. falls_live d t n (i + d) r l ∙ ap (λ j. prefix (wait j)) (let z : i + d - d ≡ i = omega arith in z);
      runs_out = λ n i r l h. falls_live d t n i r l ∙ ap (λ j. prefix (wait j)) (let z : i - d ≡ 0 = omega arith in z);
      stays = λ n l h. wait_or_not (root (sub (elapse d t) n) ≡ root (sub t n)) d t n l (λ i r k. absurd (h i r k)) (λ k e. root_elapsed d t n ∙ e);
    }

-- a live wait holds less than d, or d and the rest
elapsed_live : (d : ℕ) (t s : Term) → Elapsed d t s → (n i : ℕ) (r : Term) → StandsLive t n (under (wait i) r) → root (sub s n) ≡ prefix (wait (i - d))
elapsed_live d t s h n i r l =
    bool_case _ (ltb i d)
    (λ e. h.runs_out n i r l (ltb-true i d e) ∙ ap (λ j. prefix (wait j)) (let z : 0 ≡ i - d = omega (arith, ltb-true i d e) in z))
    (λ e. h.falls n (i - d) r (subst (λ j. StandsLive t n (under (wait j) r)) (let z : i ≡ i - d + d = omega (arith, ltb-false i d e) in z) l))

pub elapsed_elapse : (d : ℕ) (t s : Term) → Elapsed d t s → s ≡ elapse d t
elapsed_elapse d t s h =
    same_records s (elapse d t) (h.count ∙ sym (elapse-keeps of_size d t))
    (λ n l.
    let k : n < size t = omega (arith, elapse-keeps of_size d t) in
    wait_or_not (root (sub s n) ≡ root (sub (elapse d t) n)) d t n k
    (λ i r y. elapsed_live d t s h n i r y ∙ sym (falls_live d t n i r y)) (λ y e. h.stays n k y ∙ sym (root_elapsed d t n ∙ e)))

-- A time of 0 is refused, and no other.
pub no-time : (t : Term) (d : ℕ) → d ≡ 0 → elapse_by t d ≡ refuse 17 0
unfolding elapse_by ◌>>◌ forbid place_if
no-time t d e = rw e

pub some-time : (t : Term) (d : ℕ) → d ≢ 0 → elapse_by t d ≡ accept (elapse d t)
unfolding elapse_by ◌>>◌ forbid place_if
some-time t d h = rw (ne_eqb d 0 h)

pub time_gives : (t s : Term) (d : ℕ) → elapse_by t d ≡ accept s → (d ≢ 0) × (elapse d t ≡ s)
unfolding elapse_by
time_gives t s d e = let (z, k) = forbid-accept 17 (place_if (eqb d 0) 0) _ s e in (eqb-false d 0 (place_if-none _ 0 z), same_accept k)
