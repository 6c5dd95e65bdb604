-- A list of moves with one more at its end: the run, its replies and their bytes.
use mathlib.Core.Path.{◌≡◌, refl, ap}
use mathlib.Core.List.{List, [], ◌∷◌, ◌++◌, flat_map}
use Prim.Native.Nat.{ℕ, suc, ◌*◌}
use lib.ListN.{length}
use Rattle.cows.specs.Format.{bytes2}
use Rattle.cows.specs.Step.{Reply, read_move}
use Rattle.cows.specs.Run.{RunState, turn, judgement, run, kept, replies, reply_bytes, reply6}
use Rattle.cows.proofs.Cut.{flat_map_append, length_write}

pub run_more : (r : RunState) (ms : List (List ℕ)) (m : List ℕ) → run r (ms ++ (m ∷ [])) ≡ turn (run r ms) (read_move m)
unfolding run
run_more r [] m = refl
run_more r (x ∷ ms) m = run_more (turn r (read_move x)) ms m

pub replies_more : (r : RunState) (ms : List (List ℕ)) (m : List ℕ) → replies r (ms ++ (m ∷ [])) ≡ replies r ms ++ (kept (run r ms) (judgement (run r ms) (read_move m)) ∷ [])
unfolding run replies
replies_more r [] m = refl
replies_more r (x ∷ ms) m = ap (λ l. kept r (judgement r (read_move x)) ∷ l) (replies_more (turn r (read_move x)) ms m)

pub length-replies : (r : RunState) (ms : List (List ℕ)) → length (replies r ms) ≡ length ms
unfolding replies
length-replies r [] = refl
length-replies r (m ∷ ms) = ap suc (length-replies (turn r (read_move m)) ms)

-- their bytes
pub bytes_more : (rs : List Reply) (q : Reply) → reply_bytes (rs ++ (q ∷ [])) ≡ reply_bytes rs ++ reply6 q
unfolding flat_map bytes2
bytes_more rs q = flat_map_append reply6 rs (q ∷ [])

pub length-bytes : (rs : List Reply) → length (reply_bytes rs) ≡ 6 * length rs
unfolding bytes2
length-bytes = length_write 6 reply6 (λ r. refl)
