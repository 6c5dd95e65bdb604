-- How a clause's term is written (specs/Parts): the records before, between and behind those of its parts.
use mathlib.Core.Path.{◌≡◌, ap, ◌∙◌}
use mathlib.Core.List.{◌++◌}
use Prim.Native.Nat.{ℕ}
use Rattle.cows.specs.Terms.{Term}
use Rattle.cows.specs.Format.{nodes, bytes, encode}
use Rattle.cows.proofs.Fields.{append_bytes}
use Rattle.orc.specs.Translation.{sequenced, pruned}
use Rattle.clauses.specs.Parts.{sequence_head, sequence_middle, where_head, where_middle, where_tail}

pub encode-sequenced : (q r x : ℕ) (s t : Term)
    → encode (sequenced q r x s t) ≡ bytes (sequence_head q r) ++ (encode s ++ (bytes (sequence_middle q r x) ++ encode t))
unfolding encode nodes
encode-sequenced q r x s t =
    append_bytes (sequence_head q r) (nodes s ++ (sequence_middle q r x ++ nodes t))
    ∙ ap (λ b. bytes (sequence_head q r) ++ b) (append_bytes (nodes s) (sequence_middle q r x ++ nodes t)
    ∙ ap (λ b. bytes (nodes s) ++ b) (append_bytes (sequence_middle q r x) (nodes t)))

pub encode-pruned : (q r x k : ℕ) (s t : Term)
    → encode (pruned q r x k s t) ≡ bytes (where_head q r x) ++ (encode s ++ (bytes (where_middle k) ++ (encode t ++ bytes (where_tail q r x k))))
unfolding encode nodes
encode-pruned q r x k s t =
    append_bytes (where_head q r x) (nodes s ++ (where_middle k ++ (nodes t ++ where_tail q r x k)))
    ∙ ap (λ b. bytes (where_head q r x) ++ b) (append_bytes (nodes s) (where_middle k ++ (nodes t ++ where_tail q r x k))
    ∙ ap (λ b. bytes (nodes s) ++ b) (append_bytes (where_middle k) (nodes t ++ where_tail q r x k)
    ∙ ap (λ b. bytes (where_middle k) ++ b) (append_bytes (nodes t) (where_tail q r x k))))
