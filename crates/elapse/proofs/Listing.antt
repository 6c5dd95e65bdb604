-- The live waits of a table, listed by their places (specs/Waits): a walk that lists them, and the listed ones lowered one by one.
use mathlib.Core.Path.{◌≡◌, refl, sym, ap, ap₂, subst, ◌∙◌}
use mathlib.Core.Logic.{◌≢◌}
use mathlib.Core.Bool.{cond}
use mathlib.Core.List.{List, [], ◌∷◌, ◌++◌, append_assoc, append-nil, flat_map}
use Prim.Native.Nat.{ℕ, zero, suc, ◌+◌, ◌*◌, ◌-◌, ◌/◌, ◌%◌, ◌≤◌, ◌<◌}
use native.Mathlib.Omega.{arith}
use native.Mathlib.Numerals.{add-one}
use lib.Dec.{ltb}
use borrow.Author.Tests.{ltb-true, ltb-false}
use lib.ListN.{length, drop, get_or, length-append, drop_of_length-le, get_or-append}
use lib.Seq.{drop-cons, drop_at, get_or-append-add}
use Rattle.cows.specs.Basics.{found}
use Rattle.cows.specs.Terms.{Prefix, receive, wait, protection, delimitation, replication, Join, choice, parallel, Term, leaf, under, both, size, waits}
use Rattle.cows.specs.Kinds.{prefix, join, root, kind_of, live_kind, open_kinds}
use Rattle.cows.specs.Format.{bytes2, byte, word, record16, encode}
use Rattle.cows.specs.Moves.{lower, elapse}
use Rattle.cows.proofs.Basics.{bool_case, cond_case}
use Rattle.cows.proofs.Cut.{flat_map_append}
use Rattle.cows.proofs.Fields.{kind-wait}
use Rattle.cows.proofs.Format.{length-encode}
use Rattle.cows.proofs.Recordwise.{of_size, elapse-keeps}
use Rattle.cows.proofs.Records.{word-bytes2}
use Rattle.cows.proofs.Rows.{length_record16}
use Rattle.records.specs.Ends.{EndsFrom}
use Rattle.records.specs.Rewrites.{put, Has}
use Rattle.records.proofs.Put.{and_then, has_byte, has_right, has_fits}
use Rattle.records.proofs.StandsIn.{encode-under, encode-both, stands_kind, stands_fits}
use Rattle.elapse.specs.Waits.{wait_at, waits_from, wait_places, Lists, Listed}
use Rattle.elapse.proofs.Walking.{Still, Through, live-through, shut-still, past_wait, child_terms, encode-children, Ahead, ahead-start, ahead_none, First, first, ahead_past, next_is, next-bytes}
use Rattle.elapse.proofs.Judged.{put_first}
use Rattle.elapse.proofs.Lapsing.{stands_interval, put-interval}

-- Time changes no place.
pub waits-elapse : (d p : ℕ) (t : Term) → waits_from p (elapse d t) ≡ waits_from p t
unfolding waits_from wait_at waits found elapse lower open_kinds
waits-elapse d p (leaf x) = refl
waits-elapse d p (under (receive a o ws) t) = refl
waits-elapse d p (under (wait n) t) = refl
waits-elapse d p (under protection t) = waits-elapse d (suc p) t
waits-elapse d p (under (delimitation a) t) = waits-elapse d (suc p) t
waits-elapse d p (under replication t) = refl
waits-elapse d p (both j l r) = rw (waits-elapse d (suc p) l, elapse-keeps of_size d l, waits-elapse d (suc p + size l) r)

-- the places lie in the term
append_below : (ps qs : List ℕ) (m n : ℕ) → ((i : ℕ) → i < length ps → get_or ps i 0 < m) → ((i : ℕ) → i < length qs → get_or qs i 0 < n) → m ≤ n → (i : ℕ) → i < length (ps ++ qs) → get_or (ps ++ qs) i 0 < n
append_below ps qs m n f g l i h =
    bool_case _ (ltb i (length ps))
    (λ e. let z = ltb-true i (length ps) e in omega (arith, f i z, get_or-append ps qs 0 i z))
    (λ e.
    let j = i - length ps in
    let z : i ≡ length ps + j = omega (arith, ltb-false i (length ps) e) in
    omega (arith, g j (omega (arith, length-append ps qs)), ap (λ k. get_or (ps ++ qs) k 0) z ∙ get_or-append-add ps qs j 0))

waits-below : (p : ℕ) (t : Term) (i : ℕ) → i < length (waits_from p t) → get_or (waits_from p t) i 0 < p + size t
unfolding waits_from wait_at waits found open_kinds size
waits-below p (leaf x) i h = absurd (omega arith)
waits-below p (under (receive a o ws) t) i h = absurd (omega arith)
waits-below p (under (wait n) t) zero h = omega arith
waits-below p (under (wait n) t) (suc i) h = absurd (omega arith)
waits-below p (under protection t) i h = omega (arith, waits-below (suc p) t i h)
waits-below p (under (delimitation a) t) i h = omega (arith, waits-below (suc p) t i h)
waits-below p (under replication t) i h = absurd (omega arith)
waits-below p (both j l r) i h =
    omega (arith, append_below (waits_from (suc p) l) (waits_from (suc p + size l) r) (suc p + size l) (suc p + size l + size r) (waits-below (suc p) l) (waits-below (suc p + size l) r) (omega arith) i h)

-- The waits at some places lowered, one after the other.
pub lowered : ℕ → List ℕ → List ℕ → List ℕ
lowered d out [] = out
lowered d out (p ∷ ps) = lowered d (put out (16 * p + 14) (bytes2 (word out (16 * p + 14) - d))) ps

lowered_append : (d : ℕ) (out ps qs : List ℕ) → lowered d out (ps ++ qs) ≡ lowered d (lowered d out ps) qs
unfolding lowered
lowered_append d out [] qs = refl
lowered_append d out (p ∷ ps) qs = lowered_append d (put out (16 * p + 14) (bytes2 (word out (16 * p + 14) - d))) ps qs

-- the bytes of a term among others, by its first record
under_apart : (u : Prefix) (t : Term) (a c : List ℕ) → a ++ (encode (under u t) ++ c) ≡ (a ++ record16 (prefix u)) ++ (encode t ++ c)
under_apart u t a c = rw (encode-under u t) (simp append_assoc)

both_apart : (j : Join) (l r : Term) (a c : List ℕ) → a ++ (encode (both j l r) ++ c) ≡ (a ++ record16 (join j)) ++ (encode l ++ (encode r ++ c))
both_apart j l r a c = rw (encode-both j l r) (simp append_assoc)

-- All of a term's live waits lowered, among other bytes: that is what time makes of it.
lowered_term : (d : ℕ) (t : Term) (a c : List ℕ) (p : ℕ) → length a ≡ 16 * p → lowered d (a ++ (encode t ++ c)) (waits_from p t) ≡ a ++ (encode (elapse d t) ++ c)
unfolding lowered waits_from wait_at waits found elapse lower open_kinds
lowered_term d (leaf x) a c p at = refl
lowered_term d (under (receive x o ws) t) a c p at = refl
lowered_term d (under (wait n) t) a c p at =
    let i = stands_interval (a ++ (encode (under (wait n) t) ++ c)) (16 * p) n t (record { rest = c; is = drop_at a _ (16 * p) at }) in
    rw i (put-interval n (n - d) t a c (16 * p + 14) (omega arith))
lowered_term d (under protection t) a c p at =
    rw (under_apart protection t a c, under_apart protection (elapse d t) a c)
    (lowered_term d t (a ++ record16 (prefix protection)) c (suc p) (omega (arith, length-append a (record16 (prefix protection)), length_record16 (prefix protection))))
lowered_term d (under (delimitation x) t) a c p at =
    rw (under_apart (delimitation x) t a c, under_apart (delimitation x) (elapse d t) a c)
    (lowered_term d t (a ++ record16 (prefix (delimitation x))) c (suc p) (omega (arith, length-append a (record16 (prefix (delimitation x))), length_record16 (prefix (delimitation x)))))
lowered_term d (under replication t) a c p at = refl
lowered_term d (both j l r) a c p at =
    let b = a ++ record16 (join j) in
    let e = b ++ encode (elapse d l) in
    let n : length b ≡ 16 * suc p = omega (arith, length-append a (record16 (join j)), length_record16 (join j)) in
    let m : length e ≡ 16 * (suc p + size l) = omega (arith, n, length-append b (encode (elapse d l)), length-encode (elapse d l), elapse-keeps of_size d l) in
    rw (both_apart j l r a c, both_apart j (elapse d l) (elapse d r) a c, lowered_append d (b ++ (encode l ++ (encode r ++ c))) (waits_from (suc p) l) (waits_from (suc p + size l) r), lowered_term d l b (encode r ++ c) (suc p) n)
    (ap (λ x. lowered d x (waits_from (suc p + size l) r)) (sym (append_assoc b (encode (elapse d l)) (encode r ++ c)))
    ∙ (lowered_term d r e c (suc p + size l) m ∙ append_assoc b (encode (elapse d l)) (encode (elapse d r) ++ c)))

-- the numbers that stand in a buffer, two bytes each
words_long : (ps : List ℕ) → length (flat_map bytes2 ps) ≡ 2 * length ps
unfolding flat_map bytes2
words_long [] = refl
words_long (p ∷ ps) = omega (arith, words_long ps)

word_among : (ps : List ℕ) (i : ℕ) → i < length ps → (list : List ℕ) (k : ℕ) → Has list k (flat_map bytes2 ps) → word list (k + 2 * i) ≡ get_or ps i 0
unfolding flat_map bytes2 word byte
word_among [] i h list k e = absurd (omega arith)
word_among (p ∷ ps) zero h list k e =
    let a : get_or list (k + 0) 0 ≡ p % 256 = has_byte (flat_map bytes2 (p ∷ ps)) 0 (omega arith) e in
    let b : get_or list (suc (k + 0)) 0 ≡ p / 256 = ap (λ j. get_or list j 0) (let z : suc (k + 0) ≡ k + 1 = omega arith in z) ∙ has_byte (flat_map bytes2 (p ∷ ps)) 1 (omega arith) e in
    ap₂ (λ x y. x + 256 * y) a b ∙ word-bytes2 p
word_among (p ∷ ps) (suc i) h list k e =
    let z : k + 2 * suc i ≡ k + 2 + 2 * i = omega arith in
    ap (word list) z ∙ word_among ps i (omega arith) list (k + 2) (has_right (bytes2 p) (flat_map bytes2 ps) (k + 2) refl e)

-- a list of places
module _ (list : List ℕ) (w : ℕ) (ps : List ℕ) (h : Lists list w ps) where
  pub lists_room : 2 * w ≤ length list
  lists_room = go ps h.count h.stand
    where
      go : (ps : List ℕ) → w ≡ length ps → Has list 0 (flat_map bytes2 ps) → 2 * w ≤ length list
      go [] c e = omega arith
      go (p ∷ ps) c e = omega (arith, words_long (p ∷ ps), has_fits (flat_map bytes2 (p ∷ ps)) (omega (arith, words_long (p ∷ ps))) e)

  lists_place : (i : ℕ) → i < w → word list (2 * i) ≡ get_or ps i 0
  lists_place i l = let z : 2 * i ≡ 0 + 2 * i = omega arith in ap (word list) z ∙ word_among ps i (omega (arith, h.count)) list 0 h.stand

  -- the waits at the places from the i-th on are left to be lowered
  module _ (d : ℕ) (out r : List ℕ) (i : ℕ) (left : lowered d out (drop i ps) ≡ r) where
    pub lowering_next : i < w → {k v : ℕ} {after : List ℕ} → k ≡ 16 * word list (2 * i) + 14 → v ≡ word out k - d → after ≡ put out k (bytes2 v) → lowered d after (drop (i + 1) ps) ≡ r
    unfolding lowered
    lowering_next l {k} {v} {after} ek ev e =
        let z : k ≡ 16 * get_or ps i 0 + 14 = ek ∙ ap (λ x. 16 * x + 14) (lists_place i l) in
        let n : drop i ps ≡ get_or ps i 0 ∷ drop (i + 1) ps = rw (add-one i) (drop-cons ps i 0 (omega (arith, h.count))) in
        ap (λ x. lowered d x (drop (i + 1) ps)) (e ∙ (ap (λ x. put out k (bytes2 x)) ev ∙ ap (λ x. put out x (bytes2 (word out x - d))) z)) ∙ (ap (lowered d out) (sym n) ∙ left)

    pub lowering_end : w ≤ i → out ≡ r
    unfolding lowered
    lowering_end l = ap (lowered d out) (sym (drop_of_length-le ps {i = i} (omega (arith, h.count)))) ∙ left

pub lowering_start : (d : ℕ) (u : Term) (out rest : List ℕ) → out ≡ encode u ++ rest → lowered d out (drop 0 (wait_places u)) ≡ encode (elapse d u) ++ rest
unfolding wait_places
lowering_start d u out rest e = ap (λ x. lowered d x (waits_from 0 u)) e ∙ lowered_term d u [] rest 0 refl

pub listed-inside : (t list : List ℕ) (w : ℕ) → Listed t list w → (i : ℕ) → i < w → 16 * word list (2 * i) + 15 < length t
unfolding wait_places
listed-inside t list w h i l =
    omega (arith, lists_place list w _ h.lists i l, waits-below 0 h.term i (omega (arith, h.lists.count)), stands_fits h.term h.stands, length-encode h.term)

-- The places of the live waits of terms, one behind the other.
pub waits_ahead : ℕ → List Term → List ℕ
waits_ahead p [] = []
waits_ahead p (t ∷ ts) = waits_from p t ++ waits_ahead (p + size t) ts

waits_still : (p : ℕ) (t : Term) → Still t → waits_from p t ≡ []
unfolding waits_from wait_at waits found open_kinds
waits_still p (leaf x) h = refl
waits_still p (under (receive a o ws) t) h = refl
waits_still p (under (wait n) t) h = absurd (omega (arith, h (omega arith)))
waits_still p (under protection t) h = absurd (omega (arith, h (omega arith)))
waits_still p (under (delimitation a) t) h = absurd (omega (arith, h (omega arith)))
waits_still p (under replication t) h = refl
waits_still p (both choice l r) h = absurd (omega (arith, h (omega arith)))
waits_still p (both parallel l r) h = absurd (omega (arith, h (omega arith)))

ahead_through : (p : ℕ) (t : Term) (ts : List Term) → Through t → waits_ahead p (t ∷ ts) ≡ waits_ahead (p + 1) (child_terms t ++ ts)
unfolding waits_ahead waits_from wait_at waits found open_kinds size
ahead_through p (leaf x) ts h = refl
ahead_through p (under (receive a o ws) t) ts h = absurd (omega arith)
ahead_through p (under (wait n) t) ts h = absurd (omega arith)
ahead_through p (under protection t) ts h = let z : p + suc (size t) ≡ suc p + size t = omega arith in rw (add-one p, z)
ahead_through p (under (delimitation a) t) ts h = let z : p + suc (size t) ≡ suc p + size t = omega arith in rw (add-one p, z)
ahead_through p (under replication t) ts h = absurd (omega arith)
ahead_through p (both j l r) ts h =
    let z : p + suc (size l + size r) ≡ suc p + size l + size r = omega arith in rw (add-one p, z) (append_assoc (waits_from (suc p) l) (waits_from (suc p + size l) r) (waits_ahead (suc p + size l + size r) ts))

-- The walk that lists is at place p: what it found is written, and the other waits are those of the terms ahead.
pub record Listing (s list₀ : List ℕ) (t : Term) (list : List ℕ) (p w : ℕ) : Type 0 where
  pub ahead : Ahead s p
  pub found : List ℕ
  pub count : w ≡ length found
  pub written : list ≡ put list₀ 0 (flat_map bytes2 found)
  pub places : wait_places t ≡ found ++ waits_ahead p ahead.terms

module _ (s list₀ : List ℕ) (t : Term) where
  pub listing_start : s ≡ encode t → Listing s list₀ t list₀ 0 0
  unfolding put flat_map ahead-start waits_ahead wait_places
  listing_start h = record { ahead = ahead-start s t h; found = []; count = refl; written = refl; places = sym (append-nil (waits_from 0 t)) }

  module _ (list : List ℕ) (p w : ℕ) (h : Listing s list₀ t list p w) where
    pub listing-end : length s ≤ 16 * p → 2 * w ≤ length list₀ → Lists list w (wait_places t)
    unfolding waits_ahead
    listing-end l room =
        let e : wait_places t ≡ h.found = h.places ∙ (ap (λ x. h.found ++ waits_ahead p x) (ahead_none s p h.ahead l) ∙ append-nil h.found) in
        let b = flat_map bytes2 h.found in
        subst (Lists list w) (sym e) (record { count = h.count; stand = record { rest = drop (length b) list₀; is = h.written ∙ put_first list₀ b (omega (arith, words_long h.found, h.count)) } })

    module _ (l : 16 * p < length s) where
      abbrev f : First s p h.ahead
      f = first s p h.ahead l

      here_kind : get_or s (16 * p) 0 ≡ kind_of f.term
      here_kind = stands_kind f.term f.stands

      listing_through : (5 ≤ get_or s (16 * p) 0) × (get_or s (16 * p) 0 ≢ 9) → Listing s list₀ t list (p + 1) w
      unfolding ahead_past
      listing_through k = record {
        ahead = ahead_past s p h.ahead f (record16 (root f.term)) (child_terms f.term) (encode-children f.term) (omega (arith, length_record16 (root f.term)));
        found = h.found;
        count = h.count;
        written = h.written;
        places = h.places ∙ ap (λ x. h.found ++ x) (ap (waits_ahead p) f.is ∙ ahead_through p f.term f.rest (omega (arith, here_kind)));
      }

      module _ {ends : List ℕ} (e : EndsFrom s ends 0) {next : ℕ} (at : next ≡ get_or ends p 0) where
        behind : Ahead s next
        unfolding flat_map
        behind = ahead_past s p h.ahead f (encode f.term) [] (sym (append-nil (encode f.term))) (next-bytes s p h.ahead f e at)

        -- the waits ahead are those of the first term, and those behind it
        part : {ps : List ℕ} → waits_from p f.term ≡ ps → wait_places t ≡ (h.found ++ ps) ++ waits_ahead next f.rest
        unfolding waits_ahead
        part {ps} k =
            h.places
            ∙ (ap (λ x. h.found ++ x) (ap (waits_ahead p) f.is ∙ (ap (λ x. x ++ waits_ahead (p + size f.term) f.rest) k ∙ ap (λ n. ps ++ waits_ahead n f.rest) (sym (next_is s p h.ahead f e at))))
            ∙ sym (append_assoc h.found ps (waits_ahead next f.rest)))

        listing_still : (4 ≤ get_or s (16 * p) 0 → 9 ≤ get_or s (16 * p) 0) → Listing s list₀ t list next w
        unfolding behind ahead_past
        listing_still k = record {
          ahead = behind;
          found = h.found;
          count = h.count;
          written = h.written;
          places = part (waits_still p f.term (λ m. omega (arith, here_kind, k (omega (arith, here_kind))))) ∙ ap (λ x. x ++ waits_ahead next f.rest) (append-nil h.found);
        }

        pub listing_past : get_or s (16 * p) 0 ≢ 4 → {r : ℕ} → r ≡ cond (live_kind (get_or s (16 * p) 0)) (p + 1) next → Listing s list₀ t list r w
        listing_past n {r} q =
            rw q (cond_case (λ x. Listing s list₀ t list x w) (live_kind (get_or s (16 * p) 0)) (λ e. listing_through (live-through _ e)) (λ e. listing_still (shut-still _ e n)))

        pub listing-wait : get_or s (16 * p) 0 ≡ 4 → {r : ℕ} → r ≡ cond (live_kind (get_or s (16 * p) 0)) (p + 1) next → {after : List ℕ} → after ≡ put list (2 * w) (bytes2 p) → Listing s list₀ t after r (w + 1)
        unfolding behind ahead_past waits_from wait_at waits found open_kinds flat_map
        listing-wait k {r} z {after} o =
            let (n, q) = kind-wait f.term (sym here_kind ∙ k) in rw (past_wait p k z) (record {
              ahead = behind;
              found = h.found ++ (p ∷ []);
              count = omega (arith, h.count, length-append h.found (p ∷ []));
              written =
                  and_then list₀ 0 (2 * w) (flat_map bytes2 h.found) (bytes2 p) (omega (arith, h.count, words_long h.found)) h.written o
                  ∙ ap (put list₀ 0) (ap (λ x. flat_map bytes2 h.found ++ x) (sym (append-nil (bytes2 p))) ∙ sym (flat_map_append bytes2 h.found (p ∷ [])));
              places = part (ap (waits_from p) q);
            })
