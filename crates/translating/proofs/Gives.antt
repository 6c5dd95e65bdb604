-- What the pass gives at a record of each kind, from what it gives at the record's parts (specs/Writing, Writes; proofs/Steps).
use mathlib.Core.Path.{◌≡◌, sym, ap, subst, ◌∙◌}
use mathlib.Core.Bool.{Bool}
use mathlib.Core.List.{List}
use Prim.Native.Nat.{ℕ, ◌+◌, ◌*◌, ◌≤◌, ◌<◌}
use native.Mathlib.Omega.{arith}
use lib.ListN.{get_or}
use Rattle.cows.specs.Limits.{first_label, no_atom}
use Rattle.cows.specs.Terms.{parallel}
use Rattle.cows.specs.Kinds.{basic, join}
use Rattle.cows.specs.Format.{word, record16, bytes}
use Rattle.records.specs.Rewrites.{put}
use Rattle.orc.specs.Expressions.{Act, sequential, symmetric, asymmetric, Orc, act, composed}
use Rattle.scripts.specs.Standing.{ScriptAt}
use Rattle.scripts.proofs.Standing.{orc_kind, at_kind, part_left, part_right, at_sequence, at_where, orc_kind_is}
use Rattle.spares.specs.Spares.{NextSpare}
use Rattle.clauses.specs.Parts.{sends, sequence_head, sequence_middle, where_head, where_middle, where_tail}
use Rattle.translating.specs.Writing.{Wrote, Writes}
use Rattle.translating.specs.declared.Pass.{Pass}
use Rattle.translating.proofs.Steps.{pass, wrote_act, wrote_symmetric, wrote_sequential, wrote_asymmetric}

module _ {s : List ℕ} {used : List Bool} {at : Pass} {p o : ℕ} {out after : List ℕ} where
  pub act_gives : get_or s (8 * at.place) 0 < 2 → ((x : Act) → ScriptAt s at.place (act x) → after ≡ put out at.byte (record16 (basic (sends p o x))))
      → Writes s used at p o out after (pass (at.place + 1) (at.byte + 16) at.value at.label)
  act_gives k h = record { past = omega arith; done = go }
    where
      go : (e : Orc) → ScriptAt s at.place e → Wrote used e at p o out after (pass (at.place + 1) (at.byte + 16) at.value at.label)
      go (act x) a = wrote_act used p o x at.place at.byte at.value at.label (h x a)
      go (composed (sequential x) f g) a = absurd (unfold orc_kind in omega (arith, at_kind _ a))
      go (composed symmetric f g) a = absurd (unfold orc_kind in omega (arith, at_kind _ a))
      go (composed (asymmetric x) f g) a = absurd (unfold orc_kind in omega (arith, at_kind _ a))

  pub parallel_gives : {l r : Pass} {d e : List ℕ} → get_or s (8 * at.place) 0 ≡ 3 → d ≡ put out at.byte (record16 (join parallel))
      → Writes s used (pass (at.place + 1) (at.byte + 16) at.value at.label) p o d e l → Writes s used l p o e after r → Writes s used at p o out after r
  parallel_gives {l = l} {r = r} {d = d} {e = e} k h a b = record { past = omega (arith, a.past, b.past); done = go }
    where
      go : (u : Orc) → ScriptAt s at.place u → Wrote used u at p o out after r
      go u z =
          let (f, g, q) = orc_kind_is 3 u (sym (at_kind u z) ∙ k) in
          let y = subst (ScriptAt s at.place) q z in
          let w = a.done f (part_left symmetric f g y) in
          subst (λ v. Wrote used v at p o out after r) (sym q)
          (wrote_symmetric used p o f g at.place at.byte at.value at.label h w (b.done g (part_right symmetric f g l.place w.next y)))

  -- the two values that a sequence or a where takes, and its variable
  module _ {x q r : ℕ} (start : 1 ≤ at.value) (partner : NextSpare used at.value q) (operation : NextSpare used (q + 1) r) (is : x ≡ word s (8 * at.place + 2)) where
    pub sequence_gives : {l t : Pass} {d e d' : List ℕ} → get_or s (8 * at.place) 0 ≡ 2 → d ≡ put out at.byte (bytes (sequence_head q r))
        → Writes s used (pass (at.place + 1) (at.byte + 48) (r + 1) at.label) q r d e l → d' ≡ put e l.byte (bytes (sequence_middle q r x))
        → Writes s used (pass l.place (l.byte + 48) l.value l.label) p o d' after t → Writes s used at p o out after t
    sequence_gives {l = l} {t = t} {e = e} {d' = d'} k h a m b = record { past = omega (arith, a.past, b.past); done = go }
      where
        go : (u : Orc) → ScriptAt s at.place u → Wrote used u at p o out after t
        go u z =
            let (y, f, g, c) = orc_kind_is 2 u (sym (at_kind u z) ∙ k) in
            let z' = subst (ScriptAt s at.place) c z in
            let w = a.done f (part_left (sequential y) f g z') in
            let m' : d' ≡ put e l.byte (bytes (sequence_middle q r y)) = m ∙ ap (λ i. put e l.byte (bytes (sequence_middle q r i))) (is ∙ at_sequence y f g z') in
            subst (λ v. Wrote used v at p o out after t) (sym c)
            (wrote_sequential used p o y q r at.place at.byte at.value at.label start partner operation f g h w m' (b.done g (part_right (sequential y) f g l.place w.next z')))

    pub where_gives : {l t : Pass} {d e d' e' : List ℕ} → get_or s (8 * at.place) 0 ≡ 4 → first_label ≤ at.label → d ≡ put out at.byte (bytes (where_head q r x))
        → Writes s used (pass (at.place + 1) (at.byte + 64) (r + 1) at.label) p o d e l → l.label < no_atom → d' ≡ put e l.byte (bytes (where_middle l.label))
        → Writes s used (pass l.place (l.byte + 32) l.value (l.label + 1)) q r d' e' t → after ≡ put e' t.byte (bytes (where_tail q r x l.label))
        → Writes s used at p o out after (pass t.place (t.byte + 32) t.value t.label)
    where_gives {l = l} {t = t} {d = d} {e = e} {d' = d'} {e' = e'} k low h a few m b n = record { past = omega (arith, a.past, b.past); done = go }
      where
        go : (u : Orc) → ScriptAt s at.place u → Wrote used u at p o out after (pass t.place (t.byte + 32) t.value t.label)
        go u z =
            let (y, g, f, c) = orc_kind_is 4 u (sym (at_kind u z) ∙ k) in
            let z' = subst (ScriptAt s at.place) c z in
            let w = a.done g (part_left (asymmetric y) g f z') in
            let i = is ∙ at_where y g f z' in
            let h' : d ≡ put out at.byte (bytes (where_head q r y)) = h ∙ ap (λ i. put out at.byte (bytes (where_head q r i))) i in
            let n' : after ≡ put e' t.byte (bytes (where_tail q r y l.label)) = n ∙ ap (λ i. put e' t.byte (bytes (where_tail q r i l.label))) i in
            subst (λ v. Wrote used v at p o out after (pass t.place (t.byte + 32) t.value t.label)) (sym c)
            (wrote_asymmetric used p o y q r at.place at.byte at.value at.label start partner operation g f low h' w few m (b.done f (part_right (asymmetric y) g f l.place w.next z')) n')
