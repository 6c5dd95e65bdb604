-- What the four slots of a receive take (matching, specs/Taking) is the substitution of its matching, and the records of a table so bound are its bound_nodes (crate cows, proofs/BoundNodes).
use mathlib.Core.Path.{◌≡◌, refl, sym, ap, ap₂, subst, ◌∙◌}
use mathlib.Core.Logic.{◌≢◌}
use mathlib.Core.Bool.{Bool, true, false, cond}
use mathlib.Core.List.{List, [], ◌∷◌, ◌++◌, append-nil, flat_map}
use Prim.Native.Nat.{ℕ, zero, suc, ◌+◌, ◌*◌, ◌≤◌, ◌<◌}
use native.Mathlib.Omega.{arith}
use lib.Dec.{eqb}
use lib.ListN.{length, get_or, take, drop, length-drop, take-append-drop}
use lib.Seq.{length-take-le}
use borrow.Author.Tests.{eq-eqb, ne_eqb}
use Rattle.cows.specs.Basics.{any, found_with}
use Rattle.cows.specs.Terms.{nil, kill, invoke, receive, wait, protection, delimitation, replication, choice, parallel, Term, leaf, Action, variable, size, delimits, delimits_atom, below, invoke_of}
use Rattle.cows.specs.Kinds.{Node, basic, prefix, join}
use Rattle.cows.specs.Places.{sub}
use Rattle.cows.specs.Format.{byte, word, nodes, layout, record16, bytes, encode}
use Rattle.cows.specs.Within.{Right, Within}
use Rattle.cows.specs.Allows.{Matches}
use Rattle.cows.specs.Moves.{Substitution, map_basic, silence, image}
use Rattle.cows.proofs.Rows.{length_record16}
use Rattle.cows.proofs.Fields.{drop-bytes, append_bytes}
use Rattle.cows.proofs.Records.{RightNode}
use Rattle.cows.proofs.Format.{length-nodes, RightNodes, right_nodes}
use Rattle.cows.proofs.CommunicateKeeps.{AllBind, values_fit, all-in-scope}
use Rattle.cows.proofs.Silence.{silence-nodes}
use Rattle.cows.specs.Records.{node_delimits, bind_node, bound_nodes}
use Rattle.cows.proofs.BoundNodes.{image_other}
use Rattle.cows.proofs.Meeting.{fit_fits}
use Rattle.cows.proofs.Stands.{right_at}
use Rattle.cows.proofs.Cut.{all_take}
use Rattle.records.specs.declared.Binding.{Binding}
use Rattle.std.specs.Prelude as rust
use Rattle.records.specs.Holds.{Holds}
use Rattle.records.specs.Rewrites.{Has}
use Rattle.records.proofs.Put.{has_left, has_right, has_take}
use Rattle.matching.specs.Matching.{ActionAt}
use Rattle.matching.proofs.Parties.{receive_ends, invoke_ends}
use Rattle.renaming.specs.Mapped.{map_node, map_record, along}
use Rattle.renaming.specs.Bound.{takes_one, image_of_all, goes, record_bound, bound_records}
use Rattle.renaming.proofs.Mapped.{record_mapped}
use Rattle.renaming.proofs.Bound.{goes-delimitation}
use Rattle.renaming.proofs.Occurring.{not-zero}
use Rattle.matching.specs.Taking.{takes_of}
use Rattle.communicate.specs.Outermost.{slots_taken}
use Rattle.communicate.proofs.Left.{Matched}
use Rattle.communicate.proofs.Taking.{images_match, takers_match}

-- The records from place i on, with nil at place b.
silenced : (b i : ℕ) → List Node → List Node
silenced b i [] = []
silenced b i (n ∷ ns) = cond (eqb i b) (basic nil) n ∷ silenced b (suc i) ns

silenced_later : (b i : ℕ) (ns : List Node) → b < i → silenced b i ns ≡ ns
unfolding silenced
silenced_later b i [] l = refl
silenced_later b i (n ∷ ns) l = rw (ne_eqb i b (λ e. omega arith)) (ap (λ r. n ∷ r) (silenced_later b (suc i) ns (omega arith)))

silenced_is : (b i k : ℕ) (ns : List Node) → b ≡ i + k → k < length ns → take k ns ++ (basic nil ∷ drop (suc k) ns) ≡ silenced b i ns
unfolding silenced
silenced_is b i k [] e l = absurd (omega arith)
silenced_is b i zero (n ∷ ns) e l = rw (eq-eqb i b (omega arith)) (ap (λ r. basic nil ∷ r) (sym (silenced_later b (suc i) ns (omega arith))))
silenced_is b i (suc k) (n ∷ ns) e l = rw (ne_eqb i b (λ z. omega arith)) (ap (λ r. n ∷ r) (silenced_is b (suc i) k ns (omega arith) (omega arith)))

silenced_take : (b i n : ℕ) (ns : List Node) → take n (silenced b i ns) ≡ silenced b i (take n ns)
unfolding silenced
silenced_take b i zero ns = refl
silenced_take b i (suc n) [] = refl
silenced_take b i (suc n) (x ∷ ns) = ap (λ r. cond (eqb i b) (basic nil) x ∷ r) (silenced_take b (suc i) n ns)

silenced_drop : (b i n j : ℕ) (ns : List Node) → j ≡ i + n → drop n (silenced b i ns) ≡ silenced b j (drop n ns)
unfolding silenced
silenced_drop b i zero j ns e = ap (λ k. silenced b k ns) (let z : i ≡ j = omega arith in z)
silenced_drop b i (suc n) j [] e = refl
silenced_drop b i (suc n) j (x ∷ ns) e = silenced_drop b (suc i) n j ns (omega arith)

-- Four slots that do what a substitution does, record by record.
any_none : (σ : Substitution) → any (λ (p : ℕ × ℕ). false) σ ≡ false
unfolding any
any_none [] = refl
any_none (p ∷ σ) = any_none σ

cond-bytes : (x : Bool) (n : Node) → cond x [] (record16 n) ≡ bytes (cond x [] (n ∷ []))
unfolding flat_map
cond-bytes true n = refl
cond-bytes false n = sym (append-nil (record16 n))

module _ (ts : List (rust.Option Binding)) (σ : Substitution) (same : (a : ℕ) → image_of_all ts a ≡ image σ a) (keys : (a : ℕ) → a ≢ 0 → takes_one ts a ≡ any (λ (p : ℕ × ℕ). eqb p.0 a) σ) (zero_same : image σ 0 ≡ 0) where
  goes_node : (n : Node) → RightNode n → goes ts (record16 n) ≡ any (λ (p : ℕ × ℕ). node_delimits p.0 n) σ
  unfolding goes record16 layout byte node_delimits delimits_atom delimits found_with
  goes_node (basic nil) r = sym (any_none σ)
  goes_node (basic (kill k)) r = sym (any_none σ)
  goes_node (basic (invoke p o ws)) r = sym (any_none σ)
  goes_node (prefix (receive p o ws)) r = sym (any_none σ)
  goes_node (prefix (wait n)) r = sym (any_none σ)
  goes_node (prefix protection) r = sym (any_none σ)
  goes_node (prefix (delimitation d)) r = goes-delimitation ts d ∙ keys d (not-zero d r)
  goes_node (prefix replication) r = sym (any_none σ)
  goes_node (join choice) r = sym (any_none σ)
  goes_node (join parallel) r = sym (any_none σ)

  record_same : (b : List ℕ) → map_record (image_of_all ts) b ≡ map_record (image σ) b
  unfolding map_record
  record_same b = rw (same (word b 2), same (word b 4), same (word b 6), same (word b 8), same (word b 10), same (word b 12))

  nil-bound : record16 (basic nil) ≡ bytes (bind_node σ (basic nil))
  unfolding bind_node node_delimits map_node map_basic flat_map
  nil-bound = rw (any_none σ) (sym (append-nil (record16 (basic nil))))

  kept-bound : (n : Node) → RightNode n → cond (goes ts (record16 n)) [] (map_record (image_of_all ts) (record16 n)) ≡ bytes (bind_node σ n)
  unfolding bind_node
  kept-bound n r = rw (goes_node n r, record_same (record16 n), ← record_mapped (image σ) zero_same n) (cond-bytes (any (λ (p : ℕ × ℕ). node_delimits p.0 n) σ) (map_node (image σ) n))

  node_bound : (b i : ℕ) (n : Node) → RightNode n → record_bound ts b i (record16 n) ≡ bytes (bind_node σ (cond (eqb i b) (basic nil) n))
  unfolding record_bound
  node_bound b i n r = go (eqb i b)
    where
      go : (x : Bool) → cond x (record16 (basic nil)) (cond (goes ts (record16 n)) [] (map_record (image_of_all ts) (record16 n))) ≡ bytes (bind_node σ (cond x (basic nil) n))
      go true = nil-bound
      go false = kept-bound n r

  records_bound : (b : ℕ) (s : List ℕ) (i : ℕ) (ns : List Node) → RightNodes ns → Has s (16 * i) (bytes ns) → bound_records ts b s i (length ns) ≡ bytes (bound_nodes σ (silenced b i ns))
  unfolding along flat_map silenced
  records_bound b s i [] r k = refl
  records_bound b s i (n ∷ ns) r k =
      let l = length_record16 n in
      let e : take 16 (drop (16 * i) s) ≡ record16 n = rw l at (has_take (record16 n) (has_left (record16 n) (bytes ns) k)) in
      rw e
      (ap₂ ◌++◌ (node_bound b i n r.0) (records_bound b s (suc i) ns r.1 (has_right (record16 n) (bytes ns) (16 * suc i) (omega arith) k))
      ∙ sym (append_bytes (bind_node σ (cond (eqb i b) (basic nil) n)) (bound_nodes σ (silenced b (suc i) ns))))

-- The n records of s from place i on, as they are written: the invoke at place b is silenced, and what the receive at place a takes from it is bound.
abbrev pub met_records : (s : List ℕ) (a b i n : ℕ) → List ℕ
met_records s a b i n = bound_records (slots_taken s a b) b s i n

-- The receive q at place a and the invoke m at place b match.
module _ (s : List ℕ) (t : Term) (a b : ℕ) (q m : Action) (σ : Substitution) (w : Within t) (h : Matched t a b q m σ) (k : Holds s t) where
  receiver : ActionAt s a q
  receiver = receive_ends s t a k h.receiver q (below (sub t a)) h.receives

  sender : ActionAt s b m
  sender = invoke_ends s t b k h.sender m h.invokes

  matches : Matches q.tuple m.tuple σ
  matches = (fit_fits q m σ h.fits).matches

  all_bind : AllBind t σ
  all_bind =
      let r : Right (leaf (invoke_of m)) = subst Right h.invokes (right_at t b w.right) in
      all-in-scope t a b w.formed σ (values_fit q m σ r.2.1 h.fits) h.scopes

  -- what the slots of the pattern take from the tuple's
  abbrev slot : ℕ → rust.Option Binding
  slot i = takes_of (get_or q.tuple i 0) (get_or m.tuple i 0)

  -- what they take is bound
  pub taken-bound : (x : ℕ) → takes_one (slots_taken s a b) x ≡ true → any (λ (p : ℕ × ℕ). eqb p.0 x) σ ≡ true
  taken-bound x e =
      sym (takers_match t matches all_bind receiver.few x)
      ∙ (rw (receiver.slot0, receiver.slot1, receiver.slot2, receiver.slot3, sender.slot0, sender.slot1, sender.slot2, sender.slot3) at e)

  -- the n records from place i on
  module _ (i n : ℕ) (l : i + n ≤ size t) where
    abbrev part : List Node
    part = take n (drop i (nodes t))

    part_has : Has s (16 * i) (bytes part)
    unfolding encode
    part_has =
        record {
          rest = bytes (drop n (drop i (nodes t)));
          is = ap (drop (16 * i)) k.is ∙ (drop-bytes (nodes t) i ∙ (ap bytes (sym (take-append-drop n (drop i (nodes t)))) ∙ append_bytes part (drop n (drop i (nodes t)))));
        }

    part_silenced : take n (drop i (nodes (silence t b))) ≡ silenced b i part
    part_silenced =
        ap (λ x. take n (drop i x)) (silence-nodes t b h.sender h.invokes ∙ silenced_is b 0 b (nodes t) (omega arith) (omega (arith, h.sender, length-nodes t)))
        ∙ (ap (take n) (silenced_drop b 0 i i (nodes t) (omega arith)) ∙ silenced_take b i n (drop i (nodes t)))

    pub part_bound : met_records s a b i n ≡ bytes (bound_nodes σ (take n (drop i (nodes (silence t b)))))
    unfolding variable
    part_bound =
        let z : length part ≡ n = length-take-le n (drop i (nodes t)) (omega (arith, length-drop i (nodes t), length-nodes t)) in
        let r : RightNodes part = (all_take RightNode n (drop i (nodes t)) (all_take RightNode i (nodes t) (right_nodes t k.right)).1).0 in
        let l = receiver.few in
        rw (part_silenced, receiver.slot0, receiver.slot1, receiver.slot2, receiver.slot3, sender.slot0, sender.slot1, sender.slot2, sender.slot3)
        (subst (λ x. bound_records (slot 0 ∷ slot 1 ∷ slot 2 ∷ slot 3 ∷ []) b s i x ≡ bytes (bound_nodes σ (silenced b i part))) z
        (records_bound (slot 0 ∷ slot 1 ∷ slot 2 ∷ slot 3 ∷ []) σ (images_match t matches all_bind l) (λ x e. takers_match t matches all_bind l x) (image_other t σ all_bind 0 refl) b s i part r part_has))
