-- An expression that stands in a script (specs/Standing): its parts, its kind and its fields, as code finds them.
use mathlib.Core.Path.{◌≡◌, refl, sym, ap, subst, ◌∙◌}
use mathlib.Core.List.{List, [], ◌∷◌, ◌++◌, append-nil, flat_map}
use Prim.Native.Nat.{ℕ, suc, ◌+◌, ◌*◌, ◌/◌, ◌≤◌, ◌<◌}
use native.Mathlib.Omega.{arith}
use lib.ListN.{length, get_or}
use Rattle.cows.specs.Format.{byte, word}
use Rattle.cows.proofs.Records.{word-bytes2}
use Rattle.cows.specs.Format.{bytes2}
use Rattle.records.specs.Rewrites.{Has}
use Rattle.records.proofs.Put.{has_left, has_right, has_fits, has_byte}
use Rattle.orc.specs.Expressions.{nothing, call, Composition, sequential, symmetric, asymmetric, Orc, act, composed, records_in}
use Rattle.orc.specs.Scripts.{OrcNode, single, joining, orc_nodes, layout8, record8, script}
use Rattle.orc.proofs.Records.{length_record8}
use Rattle.orc.proofs.Format.{records_pos, script-composed, length-script}
use Rattle.scripts.specs.Standing.{ScriptAt}

-- the first record of an expression
abbrev pub root_of : Orc → OrcNode
root_of (act x) = single x
root_of (composed c f g) = joining c

-- a whole script
pub whole_at : {s : List ℕ} (e : Orc) → s ≡ script e → ScriptAt s 0 e
whole_at e h = record { has = record { rest = []; is = h ∙ sym (append-nil (script e)) } }

pub script-count : {s : List ℕ} (e : Orc) → s ≡ script e → length s / 8 ≡ records_in e
script-count e h = rw (h, length-script e) (omega arith)

module _ {s : List ℕ} {n : ℕ} where
  pub at_fits : (e : Orc) → ScriptAt s n e → 8 * n + 8 * records_in e ≤ length s
  at_fits e h = omega (arith, length-script e, records_pos e, has_fits (script e) (omega (arith, length-script e, records_pos e)) h.has)

  -- the first record, and the parts
  pub first_at : (e : Orc) → ScriptAt s n e → Has s (8 * n) (record8 (root_of e))
  first_at (act x) h = unfold script in unfold orc_nodes in unfold flat_map in has_left (record8 (single x)) [] h.has
  first_at (composed c f g) h = has_left (record8 (joining c)) (script f ++ script g) (subst (Has s (8 * n)) (script-composed c f g) h.has)

  below : (c : Composition) (f g : Orc) → ScriptAt s n (composed c f g) → Has s (8 * (n + 1)) (script f ++ script g)
  below c f g h = has_right (record8 (joining c)) (script f ++ script g) (8 * (n + 1)) (omega (arith, length_record8 (joining c))) (subst (Has s (8 * n)) (script-composed c f g) h.has)

  pub part_left : (c : Composition) (f g : Orc) → ScriptAt s n (composed c f g) → ScriptAt s (n + 1) f
  part_left c f g h = record { has = has_left (script f) (script g) (below c f g h) }

  pub part_right : (c : Composition) (f g : Orc) (m : ℕ) → m ≡ n + 1 + records_in f → ScriptAt s n (composed c f g) → ScriptAt s m g
  part_right c f g m e h = record { has = has_right (script f) (script g) (8 * m) (omega (arith, length-script f)) (below c f g h) }

  -- the fields of the first record
  at_byte : (e : Orc) → ScriptAt s n e → (k : ℕ) → k < 8 → get_or s (8 * n + k) 0 ≡ get_or (record8 (root_of e)) k 0
  at_byte e h k l = has_byte (record8 (root_of e)) k (omega (arith, length_record8 (root_of e))) (first_at e h)

  at_word : (e : Orc) → ScriptAt s n e → (k : ℕ) → k < 7 → word s (8 * n + k) ≡ word (record8 (root_of e)) k
  unfolding word byte
  at_word e h k l =
      let z : suc (8 * n + k) ≡ 8 * n + suc k = omega arith in
      rw (z, at_byte e h k (omega arith), at_byte e h (suc k) (omega arith))

-- the kind of an expression's first record; what an expression is, by its kind
unfoldable pub orc_kind : Orc → ℕ
orc_kind (act nothing) = 0
orc_kind (act (call s q w)) = 1
orc_kind (composed (sequential x) f g) = 2
orc_kind (composed symmetric f g) = 3
orc_kind (composed (asymmetric x) f g) = 4

abbrev by_orc_kind : Orc → List (Type 0)
by_orc_kind e =
    (e ≡ act nothing)
    ∷ ((s : ℕ) × (q : ℕ) × (w : ℕ) × (e ≡ act (call s q w)))
    ∷ ((x : ℕ) × (f : Orc) × (g : Orc) × (e ≡ composed (sequential x) f g))
    ∷ ((f : Orc) × (g : Orc) × (e ≡ composed symmetric f g))
    ∷ ((x : ℕ) × (f : Orc) × (g : Orc) × (e ≡ composed (asymmetric x) f g))
    ∷ []

of_orc_kind : (e : Orc) → get_or (by_orc_kind e) (orc_kind e) (Unit {0})
unfolding orc_kind
of_orc_kind (act nothing) = refl
of_orc_kind (act (call s q w)) = (s, q, w, refl)
of_orc_kind (composed (sequential x) f g) = (x, f, g, refl)
of_orc_kind (composed symmetric f g) = (f, g, refl)
of_orc_kind (composed (asymmetric x) f g) = (x, f, g, refl)

pub orc_kind_is : (k : ℕ) (e : Orc) → orc_kind e ≡ k → get_or (by_orc_kind e) k (Unit {0})
orc_kind_is k e h = subst (λ m. get_or (by_orc_kind e) m (Unit {0})) h (of_orc_kind e)

pub orc_kind-below : (e : Orc) → orc_kind e < 5
unfolding orc_kind
orc_kind-below (act nothing) = omega arith
orc_kind-below (act (call s q w)) = omega arith
orc_kind-below (composed (sequential x) f g) = omega arith
orc_kind-below (composed symmetric f g) = omega arith
orc_kind-below (composed (asymmetric x) f g) = omega arith

root-kind : (e : Orc) → get_or (record8 (root_of e)) 0 0 ≡ orc_kind e
unfolding record8 layout8 orc_kind
root-kind (act nothing) = refl
root-kind (act (call s q w)) = refl
root-kind (composed (sequential x) f g) = refl
root-kind (composed symmetric f g) = refl
root-kind (composed (asymmetric x) f g) = refl

module _ {s : List ℕ} {n : ℕ} where
  pub at_kind : (e : Orc) → ScriptAt s n e → get_or s (8 * n) 0 ≡ orc_kind e
  at_kind e h = ap (λ i. get_or s i 0) (let z : 8 * n ≡ 8 * n + 0 = omega arith in z) ∙ (at_byte e h 0 (omega arith) ∙ root-kind e)

  pub at_call : (p q w : ℕ) → ScriptAt s n (act (call p q w)) → (word s (8 * n + 2) ≡ w) × (word s (8 * n + 4) ≡ p) × (word s (8 * n + 6) ≡ q)
  at_call p q w h = (at_word _ h 2 (omega arith) ∙ first, at_word _ h 4 (omega arith) ∙ second, at_word _ h 6 (omega arith) ∙ third)
    where
      first : word (record8 (single (call p q w))) 2 ≡ w
      first = unfold record8 in unfold layout8 in unfold bytes2 in unfold word in unfold byte in word-bytes2 w

      second : word (record8 (single (call p q w))) 4 ≡ p
      second = unfold record8 in unfold layout8 in unfold bytes2 in unfold word in unfold byte in word-bytes2 p

      third : word (record8 (single (call p q w))) 6 ≡ q
      third = unfold record8 in unfold layout8 in unfold bytes2 in unfold word in unfold byte in word-bytes2 q

  pub at_sequence : (x : ℕ) (f g : Orc) → ScriptAt s n (composed (sequential x) f g) → word s (8 * n + 2) ≡ x
  unfolding record8 layout8 bytes2 word byte
  at_sequence x f g h = (unfold word in at_word _ h 2 (omega arith)) ∙ word-bytes2 x

  pub at_where : (x : ℕ) (f g : Orc) → ScriptAt s n (composed (asymmetric x) f g) → word s (8 * n + 2) ≡ x
  unfolding record8 layout8 bytes2 word byte
  at_where x f g h = at_word _ h 2 (omega arith) ∙ word-bytes2 x
