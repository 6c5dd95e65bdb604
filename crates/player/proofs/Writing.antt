-- What play writes (src/buffers): a reply's six bytes, and the last table with zeros behind it.
use mathlib.Core.Path.{◌≡◌, refl, sym, ap, ◌∙◌}
use mathlib.Core.Bool.{Bool, cond}
use mathlib.Core.List.{List, ◌++◌, append_assoc}
use Prim.Native.Nat.{ℕ, ◌+◌, ◌*◌, ◌-◌, ◌≤◌}
use native.Mathlib.Omega.{arith}
use lib.ListN.{length, take, drop, replicate, length-append, length-replicate}
use lib.Seq.{sets-eq, length-take-le, drop-drop}
use borrow.Rule.Slice.PartMut.{put_mid}
use Rattle.cows.specs.Format.{bytes2}
use Rattle.records.specs.Rewrites.{put}
use Rattle.records.proofs.Put.{and_then}
use Rattle.player.specs.Nights.{six_bytes}

pub reply_put : (d : List ℕ) (at a p n : ℕ) {d₁ d₂ d₃ : List ℕ} → d₁ ≡ put d at (bytes2 a) → d₂ ≡ put d₁ (at + 2) (bytes2 p) → d₃ ≡ put d₂ (at + 4) (bytes2 n) → d₃ ≡ put d at (six_bytes a p n)
unfolding bytes2
reply_put d at a p n {d₁} e₁ e₂ e₃ = and_then d at (at + 2) (bytes2 a) (bytes2 p ++ bytes2 n) refl e₁ (and_then d₁ (at + 2) (at + 4) (bytes2 p) (bytes2 n) (omega arith) e₂ e₃)

-- a part of the output that holds zeros only
pub zeros_filled : (d : List ℕ) (to len : ℕ) {part : List ℕ} → to + len ≤ length d → part ≡ replicate len 0 → put_mid to (to + len - to) d part ≡ put d to (replicate len 0)
unfolding put
zeros_filled d to len h e =
    let l = length-replicate {A = ℕ} len 0 in
    let i : to + (to + len - to) ≡ to + length (replicate {A = ℕ} len 0) = omega (arith, l) in
    rw (e, drop-drop (to + len - to) to d, i) (sym (sets-eq (replicate len 0) d to (omega (arith, l)) ∙ append_assoc (take to d) _ _))

pub put_eq : (d bs : List ℕ) → length bs ≤ length d → put d 0 bs ≡ bs ++ drop (0 + length bs) d
unfolding put
put_eq d bs h = sets-eq bs d 0 (omega arith)

pub table_put : (from out : List ℕ) (n : ℕ) {d₁ d₂ : List ℕ} → 16 * n ≤ length from → n ≤ 2048 → 32768 ≤ length out → d₁ ≡ put out 0 (take (16 * n) (drop 0 from))
    → d₂ ≡ put d₁ (16 * n) (replicate (32768 - 16 * n) 0) → d₂ ≡ take (16 * n) from ++ replicate (32768 - 16 * n) 0 ++ drop 32768 out
table_put from out n h few room e₁ e₂ =
    let t = length-take-le (16 * n) from h in
    let bs = take (16 * n) from ++ replicate (32768 - 16 * n) 0 in
    let l : length bs ≡ 32768 = omega (arith, length-append (take (16 * n) from) (replicate (32768 - 16 * n) 0), length-replicate {A = ℕ} (32768 - 16 * n) 0, t) in
    let w : put out 0 bs ≡ bs ++ drop (0 + length bs) out = put_eq out bs (omega arith) in
    and_then out 0 (16 * n) (take (16 * n) from) (replicate (32768 - 16 * n) 0) (omega (arith, t)) e₁ e₂ ∙ (w ∙ ap (λ k. bs ++ drop k out) (let z : 0 + length bs ≡ 32768 = omega arith in z))

-- the last table, copied or there already
pub zeros_put : (out : List ℕ) (n : ℕ) {d : List ℕ} → n ≤ 2048 → 32768 ≤ length out → d ≡ put out (16 * n) (replicate (32768 - 16 * n) 0) → d ≡ take (16 * n) out ++ replicate (32768 - 16 * n) 0 ++ drop 32768 out
unfolding put
zeros_put out n few room e =
    let bs : List ℕ = replicate (32768 - 16 * n) 0 in
    let l : length bs ≡ 32768 - 16 * n = length-replicate {A = ℕ} (32768 - 16 * n) 0 in
    let z : 16 * n + length bs ≡ 32768 = omega (arith, l) in
    e ∙ (sets-eq bs out (16 * n) (omega (arith, l)) ∙ ap (λ k. take (16 * n) out ++ bs ++ drop k out) z)

pub last_put : (b second : Bool) (other out : List ℕ) (n : ℕ) {d : List ℕ} → second ≡ b → d ≡ take (16 * n) (cond b other out) ++ replicate (32768 - 16 * n) 0 ++ drop 32768 out
    → d ≡ take (16 * n) (cond second other out) ++ replicate (32768 - 16 * n) 0 ++ drop 32768 out
last_put b second other out n h e = rw h e
