-- Rewriting (specs/Rewrites), once for every f: what one step of a recursion asks and gives, at a leaf, at one child and at two.
use mathlib.Core.Path.{◌≡◌, sym, ap, ◌∙◌}
use mathlib.Core.List.{List, ◌++◌}
use Prim.Native.Nat.{ℕ, ◌+◌, ◌*◌, ◌-◌, ◌≤◌}
use native.Mathlib.Omega.{arith}
use lib.ListN.{length, take, drop, get_or, length-append}
use Rattle.cows.specs.Terms.{Basic, nil, Prefix, Join, Term, leaf, under, both, size}
use Rattle.cows.specs.Kinds.{root, children_of}
use Rattle.cows.specs.Format.{record16, encode}
use Rattle.cows.proofs.Format.{length-encode}
use Rattle.records.specs.Rewrites.{put, StandsIn, Passes, Rewritable, Done, Rewrites, unchanged, gone}
use Rattle.records.proofs.Put.{and_then, has_take}
use Rattle.records.proofs.Shapes.{end_stands}
use Rattle.records.proofs.StandsIn.{long, stands_children, stands_record, stands_fits, stands_under, stands_left, stands_right}

-- what is asked, with the fields that follow filled in
pub ready : {f : Term → Term} {s : List ℕ} {i : ℕ} {d : List ℕ} {j : ℕ} (t : Term) → StandsIn s i t → j + length (encode (f t)) ≤ length d → Rewritable f s i d j
ready {f} t h room = record { term = t; stands = h; room = room; inside = omega (arith, long t, stands_fits t h); space = omega (arith, long (f t)) }

-- At most one right term stands at a byte, and all that stand there are of one size.
module _ {s : List ℕ} {i : ℕ} where
  stands_start : (t : Term) → StandsIn s i t → StandsIn (drop i s) (16 * 0) t
  stands_start t h = record { rest = h.rest; is = h.is }

  pub one_size : (t u : Term) → StandsIn s i t → StandsIn s i u → size t ≡ size u
  one_size t u h k = omega (arith, end_stands (drop i s) t 0 (stands_start t h), end_stands (drop i s) u 0 (stands_start u k))

  pub one_length : (t u : Term) → StandsIn s i t → StandsIn s i u → length (encode t) ≡ length (encode u)
  one_length t u h k = omega (arith, length-encode t, length-encode u, one_size t u h k)

  -- so the end of one of them is the end of all
  pub passes : (t : Term) (p : ℕ) → StandsIn s i t → p ≡ i + length (encode t) → Passes s i p
  passes t p h e =
      record { past = omega (arith, long t); within = omega (arith, stands_fits t h); end = λ u k. omega (arith, one_length t u h k) }

length-leaf : (x : Basic) → length (encode (leaf x)) ≡ 16
unfolding size
length-leaf x = length-encode (leaf x)

-- a term passed over: copied whole, or nil written for it
module _ {s : List ℕ} {i : ℕ} {d : List ℕ} {j p : ℕ} where
  pub copy_asks : Rewritable unchanged s i d j → Passes s i p → (i + (p - i) ≤ length s) × (j + (p - i) ≤ length d)
  copy_asks r w = omega (arith, r.room, w.past, w.within, w.end r.term r.stands)

  pub copy_gives : {e : List ℕ} → Passes s i p → e ≡ put d j (take (p - i) (drop i s)) → Rewrites unchanged s i d j e p (j + (p - i))
  copy_gives w h =
      record {
        past = w.past;
        done = λ t x.
            let n : p - i ≡ length (encode t) = omega (arith, w.end t x) in
            record { next = w.end t x; then = rw n; bytes = h ∙ ap (put d j) (rw n (has_take (encode t) x)) };
      }

  pub nil_gives : {e : List ℕ} → Passes s i p → e ≡ put d j (encode (leaf nil)) → Rewrites gone s i d j e p (j + 16)
  nil_gives w h = record { past = w.past; done = λ t x. record { next = w.end t x; then = rw (length-leaf nil); bytes = h } }

-- a record that is copied is the first record of the term read
pub record_copied : {s : List ℕ} {i : ℕ} (d : List ℕ) (j : ℕ) {e : List ℕ} → e ≡ put d j (take 16 (drop i s)) → (t : Term) → StandsIn s i t → e ≡ put d j (record16 (root t))
record_copied d j w t h = w ∙ ap (put d j) (stands_record t h)

-- K is what a branch of the code knows of the term read: here f does as g, so that code that rewrites g will do.
module _ (f g : Term → Term) (K : Term → Type 0) (agree : (t : Term) → K t → f t ≡ g t) {s : List ℕ} {i : ℕ} {d : List ℕ} {j : ℕ} where
  pub as_asks : Rewritable f s i d j → ((t : Term) → StandsIn s i t → K t) → Rewritable g s i d j
  as_asks r k = ready r.term r.stands (rw (agree r.term (k r.term r.stands)) at r.room)

  pub as_gives : {e : List ℕ} {p q : ℕ} → Rewrites g s i d j e p q → ((t : Term) → StandsIn s i t → K t) → Rewrites f s i d j e p q
  as_gives w k = record {
    past = w.past;
    done = λ t h. let e = agree t (k t h) in let o = w.done t h in record { next = o.next; then = rw e o.then; bytes = rw e o.bytes };
  }

-- What f does at a term: h is written for the first record, then what g makes of the first child, then what k makes of the second.
abbrev pub Step : (Term → Term) → (Term → Term) → (Term → Term) → List ℕ → Term → Type 0
Step f g k h (leaf x) = encode (f (leaf x)) ≡ h
Step f g k h (under u t) = encode (f (under u t)) ≡ h ++ encode (g t)
Step f g k h (both j s t) = encode (f (both j s t)) ≡ h ++ (encode (g s) ++ encode (k t))

length-under : (u : Prefix) (t : Term) → length (encode (under u t)) ≡ 16 + length (encode t)
unfolding size
length-under u t = omega (arith, length-encode (under u t), length-encode t)

length_both : (j : Join) (s t : Term) → length (encode (both j s t)) ≡ 16 + length (encode s) + length (encode t)
unfolding size
length_both j s t = omega (arith, length-encode (both j s t), length-encode s, length-encode t)

length_two : (h a b : List ℕ) → length (h ++ (a ++ b)) ≡ length h + length a + length b
length_two h a b = omega (arith, length-append h (a ++ b), length-append a b)

-- A branch that knows K of the term read and writes h of it, n bytes, for the first record.
module _ (f g k : Term → Term) (h : Term → List ℕ) (K : Term → Type 0) (n : ℕ) (wide : (t : Term) → length (h t) ≡ n) (step : (t : Term) → K t → Step f g k (h t) t) where
  step_under : (u : Prefix) (t : Term) → K (under u t) → length (encode (f (under u t))) ≡ n + length (encode (g t))
  step_under u t y = ap length (step (under u t) y) ∙ (length-append (h (under u t)) (encode (g t)) ∙ rw (wide (under u t)))

  step_both : (j : Join) (s t : Term) → K (both j s t) → length (encode (f (both j s t))) ≡ n + length (encode (g s)) + length (encode (k t))
  step_both j s t y = ap length (step (both j s t) y) ∙ (length_two (h (both j s t)) (encode (g s)) (encode (k t)) ∙ rw (wide (both j s t)))

  -- what is asked for the first child, whether there is one or two
  pub first_asks : {s : List ℕ} {i : ℕ} {d d' : List ℕ} {j j' : ℕ}
      → Rewritable f s i d j → ((t : Term) → StandsIn s i t → K t) → 1 ≤ children_of (get_or s i 0) → j' ≡ j + n → length d' ≡ length d → Rewritable g s (i + 16) d' j'
  first_asks {s} {i} {d} {d'} {j} {j'} r know some at keep = go r.term r.stands r.room
    where
      go : (t : Term) → StandsIn s i t → j + length (encode (f t)) ≤ length d → Rewritable g s (i + 16) d' j'
      go (leaf x) y room = absurd (omega (arith, stands_children (leaf x) y))
      go (under u t) y room = ready t (stands_under u t y) (omega (arith, step_under u t (know (under u t) y)))
      go (both o l m) y room = ready l (stands_left o l m y) (omega (arith, step_both o l m (know (both o l m) y)))

  -- what is asked for the second, when the first is rewritten
  pub second_asks : {s : List ℕ} {i : ℕ} {d d' e : List ℕ} {j j' p q : ℕ}
      → Rewritable f s i d j → Rewrites g s (i + 16) d' j' e p q → ((t : Term) → StandsIn s i t → K t) → children_of (get_or s i 0) ≡ 2 → j' ≡ j + n → length e ≡ length d → Rewritable k s p e q
  second_asks {s} {i} {d} {d'} {e} {j} {j'} {p} {q} r w know two at keep = go r.term r.stands r.room
    where
      go : (t : Term) → StandsIn s i t → j + length (encode (f t)) ≤ length d → Rewritable k s p e q
      go (leaf x) y room = absurd (omega (arith, stands_children (leaf x) y))
      go (under u t) y room = absurd (omega (arith, stands_children (under u t) y))
      go (both o l m) y room =
          let a = w.done l (stands_left o l m y) in
          ready m (stands_right o l m p a.next y) (omega (arith, a.then, step_both o l m (know (both o l m) y)))

  pub one_gives : {s : List ℕ} {i : ℕ} {d d' e : List ℕ} {j j' p q : ℕ}
      → ((t : Term) → StandsIn s i t → d' ≡ put d j (h t)) → Rewrites g s (i + 16) d' j' e p q → ((t : Term) → StandsIn s i t → K t)
      → children_of (get_or s i 0) ≡ 1 → j' ≡ j + n → Rewrites f s i d j e p q
  one_gives {s} {i} {d} {d'} {e} {j} {j'} {p} {q} w a know one at = record { past = omega (arith, a.past); done = go }
    where
      go : (t : Term) → StandsIn s i t → Done f t i d j e p q
      go (leaf x) y = absurd (omega (arith, stands_children (leaf x) y))
      go (under u t) y =
          let z = know (under u t) y in
          let b = a.done t (stands_under u t y) in
          record {
            next = omega (arith, b.next, length-under u t);
            then = omega (arith, b.then, step_under u t z);
            bytes = and_then d j j' (h (under u t)) (encode (g t)) (omega (arith, wide (under u t))) (w (under u t) y) b.bytes ∙ ap (put d j) (sym (step (under u t) z));
          }
      go (both o l m) y = absurd (omega (arith, stands_children (both o l m) y))

  pub both_gives : {s : List ℕ} {i : ℕ} {d d' m e : List ℕ} {j j' p' q' p q : ℕ}
      → ((t : Term) → StandsIn s i t → d' ≡ put d j (h t)) → Rewrites g s (i + 16) d' j' m p' q' → Rewrites k s p' m q' e p q → ((t : Term) → StandsIn s i t → K t)
      → children_of (get_or s i 0) ≡ 2 → j' ≡ j + n → Rewrites f s i d j e p q
  both_gives {s} {i} {d} {d'} {m} {e} {j} {j'} {p'} {q'} {p} {q} w a b know two at = record { past = omega (arith, a.past, b.past); done = go }
    where
      go : (t : Term) → StandsIn s i t → Done f t i d j e p q
      go (leaf x) y = absurd (omega (arith, stands_children (leaf x) y))
      go (under u t) y = absurd (omega (arith, stands_children (under u t) y))
      go (both o l r) y =
          let z = know (both o l r) y in
          let x = a.done l (stands_left o l r y) in
          let v = b.done r (stands_right o l r p' x.next y) in
          record {
            next = omega (arith, x.next, v.next, length_both o l r);
            then = omega (arith, x.then, v.then, step_both o l r z);
            bytes =
                and_then d j j' (h (both o l r)) (encode (g l) ++ encode (k r)) (omega (arith, wide (both o l r))) (w (both o l r) y)
                (and_then d' j' q' (encode (g l)) (encode (k r)) x.then x.bytes v.bytes)
                ∙ ap (put d j) (sym (step (both o l r) z));
          }
