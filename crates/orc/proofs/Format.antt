-- Laws of scripts as records (specs/Scripts): an expression is read back from its records and from its bytes, and records of the right shape are their expression's.
use mathlib.Core.Path.{◌≡◌, refl, sym, ap, ◌∙◌}
use mathlib.Core.Option.{none, some}
use mathlib.Core.List.{List, [], ◌∷◌, ◌++◌, flat_map, append_assoc}
use Prim.Native.Nat.{ℕ, suc, ◌+◌, ◌*◌, ◌≤◌}
use native.Mathlib.Omega.{arith}
use lib.ListN.{length, length-append}
use Rattle.cows.specs.Basics.{All}
use Rattle.cows.specs.Format.{AreBytes, build}
use Rattle.cows.specs.Tables.{end_of, wrong_end}
use Rattle.cows.proofs.Ends.{end_append, end_none, end_one}
use Rattle.cows.proofs.Built.{nodes_ended, nodes_built, built_nodes}
use Rattle.cows.proofs.Cut.{all_append, append_all, flat_map_append, length_write, read_written, write_bytes}
use Rattle.orc.specs.Expressions.{nothing, Composition, Orc, act, composed, records_in, RightOrc}
use Rattle.orc.specs.Scripts.{OrcNode, single, joining, parts, orc_nodes, record8, script, read_orc_node, nodes_of, attach, expression}
use Rattle.orc.proofs.Records.{RightOrcNode, length_record8, node_record8, record8_bytes}

pub records_pos : (e : Orc) → 1 ≤ records_in e
unfolding records_in
records_pos (act x) = omega arith
records_pos (composed c f g) = omega arith

pub length_nodes8 : (e : Orc) → length (orc_nodes e) ≡ records_in e
unfolding orc_nodes records_in
length_nodes8 (act x) = refl
length_nodes8 (composed c f g) = ap suc (length-append (orc_nodes f) (orc_nodes g) ∙ omega (arith, length_nodes8 f, length_nodes8 g))

-- read back from its records, whatever follows
built_expression : (e : Orc) (ns : List OrcNode) → build attach (orc_nodes e ++ ns) ≡ e ∷ build attach ns
unfolding build attach orc_nodes
built_expression (act x) ns = refl
built_expression (composed c f g) ns = rw (append_assoc (orc_nodes f) (orc_nodes g) ns, built_expression f (orc_nodes g ++ ns), built_expression g ns) refl

pub expression-nodes : (e : Orc) → expression (orc_nodes e) ≡ e
unfolding expression
expression-nodes = built_nodes orc_nodes attach built_expression (act nothing)

-- an expression ends behind its records
end-expression : (e : Orc) (n : ℕ) → end_of parts 1 n (orc_nodes e) ≡ some (n + length (orc_nodes e))
unfolding orc_nodes parts
end-expression (act x) n = end_one parts n (single x) [] 0 refl ∙ (end_none parts (suc n) [] ∙ ap some (omega arith))
end-expression (composed c f g) n =
    end_one parts n (joining c) (orc_nodes f ++ orc_nodes g) 2 refl
    ∙ (end_append parts 1 1 (suc n) (orc_nodes f) (orc_nodes g) (end-expression f (suc n))
    ∙ (end-expression g (suc n + length (orc_nodes f)) ∙ ap some (omega (arith, length-append (orc_nodes f) (orc_nodes g)))))

pub expression_shaped : (e : Orc) → wrong_end (length (orc_nodes e)) (end_of parts 1 0 (orc_nodes e)) ≡ none
expression_shaped = nodes_ended parts orc_nodes end-expression

-- records of the right shape are those of the expression read off them
attach-takes : (r : OrcNode) (es : List Orc) (w : ℕ) → length es ≡ parts r + w → (length (attach r es) ≡ suc w) × (flat_map orc_nodes (attach r es) ≡ r ∷ flat_map orc_nodes es)
unfolding attach flat_map orc_nodes parts
attach-takes (single x) es w h = (omega arith, refl)
attach-takes (joining c) [] w h = absurd (omega arith)
attach-takes (joining c) (f ∷ []) w h = absurd (omega arith)
attach-takes (joining c) (f ∷ g ∷ es) w h = (omega arith, ap (λ l. joining c ∷ l) (append_assoc (orc_nodes f) (orc_nodes g) (flat_map orc_nodes es)))

pub nodes-expression : (ns : List OrcNode) → wrong_end (length ns) (end_of parts 1 0 ns) ≡ none → orc_nodes (expression ns) ≡ ns
unfolding expression
nodes-expression = nodes_built parts orc_nodes attach attach-takes (act nothing)

-- the records of an expression are right exactly if the expression is
pub right_nodes8 : (e : Orc) → RightOrc e → All RightOrcNode (orc_nodes e)
unfolding orc_nodes
right_nodes8 (act x) h = (h, tt)
right_nodes8 (composed c f g) h = (h.0, all_append RightOrcNode (orc_nodes f) (orc_nodes g) (right_nodes8 f h.1) (right_nodes8 g h.2))

pub nodes8_right : (e : Orc) → All RightOrcNode (orc_nodes e) → RightOrc e
unfolding orc_nodes
nodes8_right (act x) h = h.0
nodes8_right (composed c f g) h = let (k, l) = append_all RightOrcNode (orc_nodes f) (orc_nodes g) h.1 in (h.0, nodes8_right f k, nodes8_right g l)

-- Records and their bytes.
pub script-composed : (c : Composition) (f g : Orc) → script (composed c f g) ≡ record8 (joining c) ++ (script f ++ script g)
unfolding script orc_nodes flat_map
script-composed c f g = ap (λ l. record8 (joining c) ++ l) (flat_map_append record8 (orc_nodes f) (orc_nodes g))

pub length-script : (e : Orc) → length (script e) ≡ 8 * records_in e
unfolding script
length-script e = length_write 8 record8 length_record8 (orc_nodes e) ∙ ap (λ m. 8 * m) (length_nodes8 e)

any_node : (ns : List OrcNode) → All (λ n. Unit {0}) ns
any_node [] = tt
any_node (n ∷ ns) = (tt, any_node ns)

pub nodes-script : (e : Orc) → nodes_of (script e) ≡ orc_nodes e
unfolding script
nodes-script e = read_written record8 (λ n. Unit {0}) 8 length_record8 (omega arith) read_orc_node (λ n h. node_record8 n) (orc_nodes e) (any_node (orc_nodes e))

pub expression-script : (e : Orc) → expression (nodes_of (script e)) ≡ e
expression-script e = ap expression (nodes-script e) ∙ expression-nodes e

-- no two expressions have one script
pub script_injective : (e f : Orc) → script e ≡ script f → e ≡ f
script_injective e f h = sym (expression-script e) ∙ (ap (λ b. expression (nodes_of b)) h ∙ expression-script f)

pub script-bytes : (e : Orc) → RightOrc e → AreBytes (script e)
unfolding script
script-bytes e h = write_bytes record8 RightOrcNode record8_bytes (orc_nodes e) (right_nodes8 e h)
