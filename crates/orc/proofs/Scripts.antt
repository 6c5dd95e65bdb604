-- Laws of specs/Scripts, judging: an accepted script is that of its expression, which is within the limits, and every script of such an expression is accepted.
use mathlib.Core.Path.{◌≡◌, refl, sym, ap, ◌∙◌}
use mathlib.Core.Bool.{Bool, true, false, not, ◌&&◌, ◌||◌}
use mathlib.Core.Option.{none}
use mathlib.Core.List.{List, [], ◌∷◌, ◌++◌, flat_map, append_assoc, append-nil}
use Prim.Native.Nat.{ℕ, suc, ◌+◌, ◌*◌, ◌%◌, ◌≤◌}
use native.Mathlib.Omega.{arith}
use native.Mathlib.Numerals.{add-one}
use lib.Dec.{ltb, eqb}
use lib.ListN.{length}
use borrow.Author.Tests.{eqb-true, ltb-false, eq-eqb, ne_eqb, le-ltb, not-false}
use Rattle.cows.specs.Basics.{any, member, found_with, one_if, place_if, or_else, accept, ◌>>◌, forbid}
use Rattle.cows.specs.Terms.{value, bindable, optional}
use Rattle.cows.specs.Cut.{cut, first_failing}
use Rattle.cows.specs.Format.{AreBytes}
use Rattle.cows.specs.Tables.{end_of, wrong_end}
use Rattle.cows.specs.Within.{nowhere}
use Rattle.cows.proofs.Basics.{never, clash, and_true, or_false, or_none, or_else_none, place_if-none, forbid-accept, same_accept, member_append}
use Rattle.cows.proofs.Cut.{none_failing, write_passes, cut_write, cut_right}
use Rattle.cows.proofs.Refusals.{bound-any, any-bound}
use Rattle.orc.specs.Expressions.{Composition, sequential, symmetric, asymmetric, Orc, act, composed, records_in, nesting, bound, over_left, over_right, act_uses, bound_in, RightOrc, InScope, times_bound, Admissible}
use Rattle.orc.specs.Scripts.{OrcNode, parts, orc_nodes, record8, script, right_record8, read_orc_node, nodes_of, expression, wrong_script, wrong_endpoint, first_deep, misplaced, out_of_scope, misbound, judge_script}
use Rattle.orc.proofs.Records.{RightOrcNode, right_record8_lem, record8-right, length_record8}
use Rattle.orc.proofs.Format.{records_pos, right_nodes8, nodes8_right, length-script, nodes-script, expression-nodes, expression_shaped, nodes-expression}

none-place_if : (b : Bool) (n : ℕ) → b ≡ false → place_if b n ≡ none
unfolding place_if
none-place_if b n e = rw e

-- 31, the depth: no record of an expression is too deep exactly if its depth is within the limit, whatever follows.
nesting_pos : (e : Orc) → 1 ≤ nesting e
unfolding nesting
nesting_pos (act x) = omega arith
nesting_pos (composed c f g) = omega arith

shallow_nodes : (e : Orc) (d : ℕ) (ds : List ℕ) (n : ℕ) (ns : List OrcNode) → d + nesting e ≤ 65 → first_deep (d ∷ ds) n (orc_nodes e ++ ns) ≡ first_deep ds (n + records_in e) ns
unfolding first_deep orc_nodes records_in nesting parts place_if or_else
shallow_nodes (act x) d ds n ns h = rw (le-ltb 64 d (omega arith), add-one)
shallow_nodes (composed c f g) d ds n ns h =
    rw (le-ltb 64 d (omega (arith, nesting_pos f)), append_assoc (orc_nodes f) (orc_nodes g) ns)
    (shallow_nodes f (suc d) (suc d ∷ ds) (suc n) (orc_nodes g ++ ns) (omega arith)
    ∙ (shallow_nodes g (suc d) ds (suc n + records_in f) ns (omega arith) ∙ ap (λ m. first_deep ds m ns) (omega arith)))

nodes_shallow : (e : Orc) (d : ℕ) (ds : List ℕ) (n : ℕ) (ns : List OrcNode) → first_deep (d ∷ ds) n (orc_nodes e ++ ns) ≡ none → (d + nesting e ≤ 65) × (first_deep ds (n + records_in e) ns ≡ none)
unfolding first_deep orc_nodes records_in nesting parts
nodes_shallow (act x) d ds n ns h =
    let (k, l) = or_else_none (place_if (ltb 64 d) n) _ h in
    (omega (arith, ltb-false 64 d (place_if-none _ n k)), ap (λ m. first_deep ds m ns) (omega arith) ∙ l)
nodes_shallow (composed c f g) d ds n ns h =
    let (k, l) = or_else_none (place_if (ltb 64 d) n) _ h in
    let (p, q) = nodes_shallow f (suc d) (suc d ∷ ds) (suc n) (orc_nodes g ++ ns) (rw (append_assoc (orc_nodes f) (orc_nodes g) ns) at l) in
    let (r, t) = nodes_shallow g (suc d) ds (suc n + records_in f) ns q in
    (omega arith, ap (λ m. first_deep ds m ns) (omega arith) ∙ t)

-- 31 finds nothing in the records of an expression within the depth, and in no others
pub misplaced-none : (ns : List OrcNode) → misplaced ns ≡ none → (orc_nodes (expression ns) ≡ ns) × (nesting (expression ns) ≤ 64)
unfolding misplaced
misplaced-none ns e =
    let (d, w) = or_else_none (first_deep (1 ∷ []) 0 ns) _ e in
    let q = nodes-expression ns w in
    let l = nodes_shallow (expression ns) 1 [] 0 [] (rw (append-nil (orc_nodes (expression ns)), q) d) in
    (q, omega (arith, l.0))

none-misplaced : (e : Orc) → nesting e ≤ 64 → misplaced (orc_nodes e) ≡ none
unfolding misplaced first_deep or_else
none-misplaced e h =
    ap (λ p. or_else p (wrong_end (length (orc_nodes e)) (end_of parts 1 0 (orc_nodes e))))
    (ap (first_deep (1 ∷ []) 0) (sym (append-nil (orc_nodes e))) ∙ shallow_nodes e 1 [] 0 [] (omega arith))
    ∙ expression_shaped e

-- 32: the variables that an expression binds are those that it counts.
member_one : (a : ℕ) (c : Composition) → member a (optional (bound c)) ≡ found_with (eqb a) (bound c)
unfolding member any optional found_with bound
member_one a (sequential x) = or_none (eqb a x)
member_one a symmetric = refl
member_one a (asymmetric x) = or_none (eqb a x)

-- a list has it exactly if it is there at least once
abbrev Agree : Bool → ℕ → Type 0
Agree b n = (b ≡ true → 1 ≤ n) × (b ≡ false → n ≡ 0)

agree-sum : (a b c : Bool) (m n : ℕ) → Agree b m → Agree c n → Agree (a || (b || c)) (one_if a + m + n)
agree-sum true b c m n h k = ((λ e. omega arith), (λ e. clash refl e))
agree-sum false true c m n h k = ((λ e. omega (arith, h.0 refl)), (λ e. clash refl e))
agree-sum false false c m n h k = ((λ e. omega (arith, k.0 e)), (λ e. omega (arith, h.1 refl, k.1 e)))

agree-bound : (a : ℕ) (e : Orc) → Agree (member a (bound_in e)) (times_bound a e)
unfolding bound_in
agree-bound a (act x) = unfold member in unfold any in ((λ e. never e), (λ e. refl))
agree-bound a (composed c f g) =
    rw (member_append a (optional (bound c)) (bound_in f ++ bound_in g), member_append a (bound_in f) (bound_in g), member_one a c)
    (agree-sum (found_with (eqb a) (bound c)) (member a (bound_in f)) (member a (bound_in g)) (times_bound a f) (times_bound a g) (agree-bound a f) (agree-bound a g))

-- what is seen when a composition's left and right part are read
seen-left : (a : ℕ) (c : Composition) (seen : List ℕ) → member a (optional (bound c) ++ seen) ≡ (found_with (eqb a) (bound c) || member a seen)
seen-left a c seen = member_append a (optional (bound c)) seen ∙ ap (λ b. b || member a seen) (member_one a c)

seen_right : (a : ℕ) (c : Composition) (f : Orc) (seen : List ℕ) → member a (bound_in f ++ (optional (bound c) ++ seen)) ≡ (member a (bound_in f) || (found_with (eqb a) (bound c) || member a seen))
seen_right a c f seen = member_append a (bound_in f) _ ∙ ap (λ b. member a (bound_in f) || b) (seen-left a c seen)

-- the variable of a composition was not seen
not_seen : (c : Composition) (seen : List ℕ) → found_with (λ x. member x seen) (bound c) ≡ false → (a : ℕ) → found_with (eqb a) (bound c) ≡ true → member a seen ≡ false
unfolding found_with bound
not_seen (sequential x) seen h a e = ap (λ y. member y seen) (eqb-true a x e) ∙ h
not_seen symmetric seen h a e = never e
not_seen (asymmetric x) seen h a e = ap (λ y. member y seen) (eqb-true a x e) ∙ h

seen-not : (c : Composition) (seen : List ℕ) → ((a : ℕ) → found_with (eqb a) (bound c) ≡ true → member a seen ≡ false) → found_with (λ x. member x seen) (bound c) ≡ false
unfolding found_with bound
seen-not (sequential x) seen h = h x (eq-eqb x x refl)
seen-not symmetric seen h = refl
seen-not (asymmetric x) seen h = h x (eq-eqb x x refl)

-- b: bound here, m: seen before, l: bound on the left
once_up : (b m l : Bool) (f g : ℕ) → (b ≡ true → m ≡ false) → Agree l f → f + one_if (b || m) ≤ 1 → g + one_if (l || (b || m)) ≤ 1 → one_if b + f + g + one_if m ≤ 1
once_up true true l f g n k x y = clash refl (n refl)
once_up true false true f g n k x y = omega (arith, k.0 refl)
once_up true false false f g n k x y = omega arith
once_up false m true f g n k x y = omega (arith, k.0 refl)
once_up false m false f g n k x y = omega (arith, k.1 refl)

once_down : (b m l : Bool) (f g : ℕ) → Agree l f → one_if b + f + g + one_if m ≤ 1 → (b ≡ true → m ≡ false) × (f + one_if (b || m) ≤ 1) × (g + one_if (l || (b || m)) ≤ 1)
once_down true true l f g k h = absurd (omega arith)
once_down true false true f g k h = absurd (omega (arith, k.0 refl))
once_down true false false f g k h = ((λ e. refl), omega arith, omega arith)
once_down false m true f g k h = ((λ e. never e), omega arith, omega (arith, k.0 refl))
once_down false m false f g k h = ((λ e. never e), omega arith, omega arith)

abbrev Once : List ℕ → Orc → Type 0
Once seen e = (a : ℕ) → times_bound a e + one_if (member a seen) ≤ 1

one_small : (b : Bool) → 0 + one_if b ≤ 1
one_small true = omega arith
one_small false = omega arith

-- 32 finds nothing exactly if no variable is unbound and none bound a second time.
pub misbound-none : (E : ℕ → Bool) (seen : List ℕ) (n : ℕ) (e : Orc) → misbound E seen n e ≡ none → InScope bindable E e × Once seen e
unfolding misbound out_of_scope
misbound-none E seen n (act x) h = (any-bound bindable E (act_uses x) (place_if-none _ n h), λ a. one_small (member a seen))
misbound-none E seen n (composed c f g) h =
    let (h₁, h₂) = or_else_none (place_if (found_with (λ x. member x seen) (bound c)) n) _ h in
    let (h₃, h₄) = or_else_none (misbound (over_left c E) (optional (bound c) ++ seen) (suc n) f) _ h₂ in
    let (k, u) = misbound-none (over_left c E) (optional (bound c) ++ seen) (suc n) f h₃ in
    let (d, w) = misbound-none (over_right c E) (bound_in f ++ (optional (bound c) ++ seen)) (suc n + records_in f) g h₄ in (
      (k, d),
      λ a. once_up (found_with (eqb a) (bound c)) (member a seen) (member a (bound_in f)) (times_bound a f) (times_bound a g)
          (not_seen c seen (place_if-none _ n h₁) a) (agree-bound a f) (rw (seen-left a c seen) at (u a)) (rw (seen_right a c f seen) at (w a)),
    )

pub none-misbound : (E : ℕ → Bool) (seen : List ℕ) (n : ℕ) (e : Orc) → InScope bindable E e → Once seen e → misbound E seen n e ≡ none
unfolding misbound out_of_scope or_else
none-misbound E seen n (act x) h k = none-place_if _ n (bound-any bindable E (act_uses x) h)
none-misbound E seen n (composed c f g) h k =
    rw (
      none-place_if _ n (seen-not c seen (λ a. (down a).0)),
      none-misbound (over_left c E) (optional (bound c) ++ seen) (suc n) f h.0 (λ a. rw (seen-left a c seen) (down a).1),
      none-misbound (over_right c E) (bound_in f ++ (optional (bound c) ++ seen)) (suc n + records_in f) g h.1 (λ a. rw (seen_right a c f seen) (down a).2),
    )
  where
    down : (a : ℕ) → (found_with (eqb a) (bound c) ≡ true → member a seen ≡ false) × (times_bound a f + one_if (found_with (eqb a) (bound c) || member a seen) ≤ 1)
        × (times_bound a g + one_if (member a (bound_in f) || (found_with (eqb a) (bound c) || member a seen)) ≤ 1)
    down a = once_down (found_with (eqb a) (bound c)) (member a seen) (member a (bound_in f)) (times_bound a f) (times_bound a g) (agree-bound a f) (k a)

-- An accepted script is that of its expression, which is within the limits; the result endpoint is a pair of values.
pub record ScriptAccepted (b : List ℕ) (p o : ℕ) (e : Orc) : Type 0 where
  pub is : b ≡ script e
  pub within : Admissible e
  pub partner : value p ≡ true
  pub operation : value o ≡ true

pub right_start : (b : List ℕ) (p o : ℕ) → (wrong_script b || wrong_endpoint p o) ≡ false → (length b ≤ 4096) × (length b % 8 ≡ 0) × (value p ≡ true) × (value o ≡ true)
unfolding wrong_script wrong_endpoint
right_start b p o e =
    let (e₁, e₂) = or_false (eqb (length b) 0 || ltb 4096 (length b) || not (eqb (length b % 8) 0)) (not (value p && value o)) e in
    let (e₃, e₄) = or_false (eqb (length b) 0 || ltb 4096 (length b)) (not (eqb (length b % 8) 0)) e₁ in
    let (e₅, e₆) = or_false (eqb (length b) 0) (ltb 4096 (length b)) e₃ in
    let (p₁, o₁) = and_true (value p) (value o) (not-false _ e₂) in
    (ltb-false 4096 (length b) e₆, eqb-true (length b % 8) 0 (not-false _ e₄), p₁, o₁)

-- right records of the right shape and depth are the script of the expression that they are read as
pub records_script : (b : List ℕ) → AreBytes b → length b % 8 ≡ 0 → first_failing right_record8 0 (cut 8 b) ≡ none → misplaced (nodes_of b) ≡ none
    → (b ≡ script (expression (nodes_of b))) × RightOrc (expression (nodes_of b)) × (nesting (expression (nodes_of b)) ≤ 64)
unfolding script
records_script b k z e₂ e₃ =
    let (w, r) = cut_right record8 RightOrcNode 8 read_orc_node right_record8 right_record8_lem b z k e₂ in
    let (n, d) = misplaced-none (nodes_of b) e₃ in
    (sym (ap (flat_map record8) n ∙ w), nodes8_right (expression (nodes_of b)) (rw n r), d)

once_empty : (a : ℕ) (n : ℕ) → n + one_if (member a []) ≤ 1 → n ≤ 1
once_empty a n h = omega arith

accepted : (b : List ℕ) (p o : ℕ) (e : Orc) → length b ≤ 4096 → (value p ≡ true) × (value o ≡ true) → (b ≡ script e) × RightOrc e × (nesting e ≤ 64) → InScope bindable nowhere e × Once [] e → ScriptAccepted b p o e
accepted b p o e l v (s, r, d) (c, u) = record {
  is = s;
  within = record { right = r; closed = c; unique = λ a. once_empty a (times_bound a e) (u a); small = omega (arith, length-script e, ap length s); shallow = d };
  partner = v.0;
  operation = v.1;
}

pub judge-accepted : (b : List ℕ) (p o : ℕ) (e : Orc) → AreBytes b → judge_script b p o ≡ accept e → ScriptAccepted b p o e
unfolding judge_script
judge-accepted b p o e k h =
    let (h₁, k₁) = forbid-accept 30 (place_if (wrong_script b || wrong_endpoint p o) 0) _ e h in
    let (h₂, k₂) = forbid-accept 30 (first_failing right_record8 0 (cut 8 b)) _ e k₁ in
    let (h₃, k₃) = forbid-accept 31 (misplaced (nodes_of b)) _ e k₂ in
    let (h₄, k₄) = forbid-accept 32 (misbound nowhere [] 0 (expression (nodes_of b))) _ e k₃ in
    let (l, z, x, y) = right_start b p o (place_if-none _ 0 h₁) in
    rw (← same_accept k₄) (accepted b p o (expression (nodes_of b)) l (x, y) (records_script b k z h₂ h₃) (misbound-none nowhere [] 0 (expression (nodes_of b)) h₄))

script-length : (e : Orc) → records_in e ≤ 512 → wrong_script (script e) ≡ false
unfolding wrong_script
script-length e h =
    let p = records_pos e in
    rw (length-script e, ne_eqb (8 * records_in e) 0 (λ e. omega arith), le-ltb 4096 (8 * records_in e) (omega arith), eq-eqb (8 * records_in e % 8) 0 (omega arith))

script_right : (e : Orc) → RightOrc e → first_failing right_record8 0 (cut 8 (script e)) ≡ none
unfolding script
script_right e h =
    rw (cut_write 8 record8 length_record8 (omega arith) (orc_nodes e))
    (none_failing right_record8 0 _ (write_passes record8 RightOrcNode right_record8 record8-right (orc_nodes e) (right_nodes8 e h)))

-- The script of an expression within the limits is accepted, with any pair of values.
pub admissible_judge : (e : Orc) (p o : ℕ) → Admissible e → value p ≡ true → value o ≡ true → judge_script (script e) p o ≡ accept e
unfolding judge_script wrong_endpoint place_if ◌>>◌ forbid member any
admissible_judge e p o h x y =
    rw (
      script-length e h.small,
      x,
      y,
      script_right e h.right,
      nodes-script e,
      none-misplaced e h.shallow,
      expression-nodes e,
      none-misbound nowhere [] 0 e h.closed (λ a. omega (arith, h.unique a)),
    )
