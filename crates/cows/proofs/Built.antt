-- Things kept as records in prefix order (specs/Format, build), whatever they are: their records end behind them, and they are read back from their records.
use mathlib.Core.Path.{◌≡◌, refl, sym, ap, ◌∙◌}
use mathlib.Core.Option.{none, some}
use mathlib.Core.List.{List, [], ◌∷◌, ◌++◌, flat_map, append-nil}
use Prim.Native.Nat.{ℕ, zero, suc, ◌+◌}
use native.Mathlib.Omega.{arith}
use lib.ListN.{length, get_or}
use borrow.Author.Tests.{le-ltb}
use Rattle.cows.specs.Basics.{place_if}
use Rattle.cows.specs.Format.{build}
use Rattle.cows.specs.Tables.{end_of, wrong_end}
use Rattle.cows.proofs.Basics.{same_some}
use Rattle.cows.proofs.Ends.{none-some, end_bounds, end_right}

-- the things of type T have the records `nodes`, and a record has as many parts as it wants
module _ {A T : Type 0} (wants : A → ℕ) (nodes : T → List A) where
  pub nodes_ended : ((t : T) (n : ℕ) → end_of wants 1 n (nodes t) ≡ some (n + length (nodes t))) → (t : T) → wrong_end (length (nodes t)) (end_of wants 1 0 (nodes t)) ≡ none
  unfolding wrong_end place_if
  nodes_ended h t = rw (h t 0, le-ltb (0 + length (nodes t)) (length (nodes t)) (omega arith))

  -- a record that is pushed takes its parts
  module _ (push : A → List T → List T)
      (takes : (r : A) (ts : List T) (w : ℕ) → length ts ≡ wants r + w → (length (push r ts) ≡ suc w) × (flat_map nodes (push r ts) ≡ r ∷ flat_map nodes ts)) where
    build_flat : (ns : List A) (w n : ℕ) → end_of wants w n ns ≡ some (n + length ns) → (length (build push ns) ≡ w) × (flat_map nodes (build push ns) ≡ ns)
    unfolding end_of build flat_map
    build_flat [] zero n e = (refl, refl)
    build_flat [] (suc w) n e = none-some e
    build_flat (r ∷ rs) zero n e = absurd (omega (arith, same_some e))
    build_flat (r ∷ rs) (suc w) n e =
        let (l, f) = build_flat rs (wants r + w) (suc n) (e ∙ ap some (omega arith)) in
        let (l', f') = takes r (build push rs) w l in
        (l', f' ∙ ap (λ q. r ∷ q) f)

    one_flat : (x : T) (ts : List T) → length ts ≡ 1 → nodes (get_or ts 0 x) ≡ flat_map nodes ts
    unfolding flat_map
    one_flat x [] h = absurd (omega arith)
    one_flat x (t ∷ []) h = sym (append-nil (nodes t))
    one_flat x (t ∷ s ∷ ts) h = absurd (omega arith)

    -- records of the right shape are those of the thing read off them
    pub nodes_built : (x : T) (ns : List A) → wrong_end (length ns) (end_of wants 1 0 ns) ≡ none → nodes (get_or (build push ns) 0 x) ≡ ns
    nodes_built x ns e =
        let r = end_right (length ns) (end_of wants 1 0 ns) (λ k q. omega (arith, end_bounds wants 1 0 ns k q)) e in
        let (l, f) = build_flat ns 1 0 (r ∙ ap some (omega arith)) in
        one_flat x (build push ns) l ∙ f

-- and a thing is read off its records
pub built_nodes : {A T : Type 0} (nodes : T → List A) (push : A → List T → List T) → ((t : T) (ns : List A) → build push (nodes t ++ ns) ≡ t ∷ build push ns)
    → (x t : T) → get_or (build push (nodes t)) 0 x ≡ t
unfolding build
built_nodes nodes push h x t = rw (← append-nil (nodes t), h t []) refl
