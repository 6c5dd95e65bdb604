-- Measuring an expression record by record (specs/Extents: Measurable, Measured): one without parts, and one of two parts by the extents of both.
use mathlib.Core.Path.{◌≡◌, refl, ◌∙◌}
use mathlib.Core.List.{List}
use Prim.Native.Nat.{ℕ, ◌+◌, ◌*◌, ◌≤◌, ◌<◌}
use native.Mathlib.Omega.{arith}
use lib.ListN.{get_or}
use Rattle.orc.specs.Expressions.{Act, nothing, call, Composition, sequential, symmetric, asymmetric, Orc, act, composed, max_script_records, records_in}
use Rattle.scripts.specs.Standing.{ScriptAt}
use Rattle.orc.proofs.Format.{records_pos}
use Rattle.scripts.proofs.Standing.{orc_kind, at_fits, part_left, part_right, at_kind}
use Rattle.extents.specs.Extents.{composition_kind, added_by, deepened_by, out_size, out_depth, Measurable, Measured}
use Rattle.extents.specs.declared.Extent.{Extent}
use Rattle.extents.proofs.Sizes.{size-bound, depth-bound}

-- kinds below 2 have no parts, the others have two
kind-act : (x : Act) → orc_kind (act x) < 2
unfolding orc_kind
kind-act nothing = omega arith
kind-act (call s q w) = omega arith

kind-composed : (c : Composition) (f g : Orc) → (orc_kind (composed c f g) ≡ composition_kind c) × (2 ≤ orc_kind (composed c f g))
unfolding orc_kind
kind-composed (sequential x) f g = (refl, omega arith)
kind-composed symmetric f g = (refl, omega arith)
kind-composed (asymmetric x) f g = (refl, omega arith)

pub measurable : {s : List ℕ} {n : ℕ} (e : Orc) → ScriptAt s n e → records_in e ≤ max_script_records → Measurable s n
measurable e h l = record { expression = e; stands = h; few = l; inside = omega (arith, at_fits e h, records_pos e) }

-- nothing overflows
bounded : {s : List ℕ} {n : ℕ} {r : Extent} → Measurable s n → Measured s n r → (r.records ≤ 4096) × (r.depth ≤ 4096)
bounded m h = let e = m.expression in omega (arith, m.few, h.is e m.stands, size-bound e, depth-bound e)

module _ {s : List ℕ} {n : ℕ} where
  -- an expression without parts
  act_extent : (e : Orc) → ScriptAt s n e → get_or s (8 * n) 0 < 2 → (n + 1 ≡ n + records_in e) × (1 ≡ out_size e) × (1 ≡ out_depth e)
  unfolding records_in out_size out_depth
  act_extent (act x) h k = (refl, refl, refl)
  act_extent (composed c f g) h k = absurd (omega (arith, at_kind (composed c f g) h, kind-composed c f g))

  pub act_measured : get_or s (8 * n) 0 < 2 → Measured s n (record { end = n + 1; records = 1; depth = 1 })
  act_measured k = record { past = omega arith; is = λ e h. act_extent e h k }

  -- an expression of two parts
  module _ (k : 2 ≤ get_or s (8 * n) 0) where
    no-act : (x : Act) → ScriptAt s n (act x) → ⊥
    no-act x h = omega (arith, at_kind (act x) h, kind-act x)

    left_at : (e : Orc) → ScriptAt s n e → records_in e ≤ max_script_records → Measurable s (n + 1)
    unfolding records_in
    left_at (act x) h l = absurd (no-act x h)
    left_at (composed c f g) h l = measurable f (part_left c f g h) (omega arith)

    pub left_measurable : Measurable s n → Measurable s (n + 1)
    left_measurable m = left_at m.expression m.stands m.few

    module _ {p : Extent} (left : Measured s (n + 1) p) where
      right_at : (e : Orc) → ScriptAt s n e → records_in e ≤ max_script_records → Measurable s p.end
      unfolding records_in
      right_at (act x) h l = absurd (no-act x h)
      right_at (composed c f g) h l = measurable g (part_right c f g p.end (left.is f (part_left c f g h)).0 h) (omega arith)

      pub right_measurable : Measurable s n → Measurable s p.end
      right_measurable m = right_at m.expression m.stands m.few

      pub parts_bounded : {q : Extent} → Measured s p.end q → Measurable s n → (p.records ≤ 4096) × (p.depth ≤ 4096) × (q.records ≤ 4096) × (q.depth ≤ 4096)
      parts_bounded right m = omega (arith, bounded (left_measurable m) left, bounded (right_measurable m) right)

      module _ {q : Extent} (right : Measured s p.end q) (a d : ℕ) (x : a ≡ added_by (get_or s (8 * n) 0)) (y : d ≡ deepened_by (get_or s (8 * n) 0) p.depth q.depth) where
        composed_extent : (e : Orc) → ScriptAt s n e → (q.end ≡ n + records_in e) × (a + p.records + q.records ≡ out_size e) × (d ≡ out_depth e)
        unfolding records_in out_size out_depth
        composed_extent (act i) h = absurd (no-act i h)
        composed_extent (composed c f g) h =
            let (e, u, v) = left.is f (part_left c f g h) in
            let (e', u', v') = right.is g (part_right c f g p.end e h) in
            let z : get_or s (8 * n) 0 ≡ composition_kind c = at_kind (composed c f g) h ∙ (kind-composed c f g).0 in
            rw (x, y, z, u, u', v, v') (omega arith, refl, refl)

        pub composed_measured : Measured s n (record { end = q.end; records = a + p.records + q.records; depth = d })
        composed_measured = record { past = omega (arith, left.past, right.past); is = composed_extent }
