use native.Mathlib.Omega.{arith}
use Rattle.scopes.proofs.NextPlace.{pass_again, pass_farther, pass_nearer}
use Rattle.scopes.proofs.Directory.pass_delimitation.Goals as goal
use Rattle.scopes.proofs.Directory.pass_delimitation.Goals.{then-v-e, else-v-e}

pub offset_bounds-self-p : goal.offset_bounds-self-p
offset_bounds-self-p c = omega (arith, c.args.self.now.paged.inside c.word_at.result (omega arith))

pub bounds-self-p : goal.bounds-self-p
bounds-self-p c = omega (arith, c.args.self.now.paged.inside c.word_at.result (omega arith))

pub overflow_add-e : goal.overflow_add-e
overflow_add-e c = omega (arith, c.requires.0.small c.args.j c.requires.1)

pub offset_bounds-self-p-then-v-e : goal.offset_bounds-self-p-then-v-e
offset_bounds-self-p-then-v-e c = omega (arith, c.args.self.now.paged.inside c.word_at.result (omega arith))

pub bounds-self-p-then-v-e : goal.bounds-self-p-then-v-e
bounds-self-p-then-v-e c = omega (arith, c.args.self.now.paged.inside c.word_at.result (omega arith))

pub returns : goal.returns
returns c = let (ends, l, k) = c.requires in
    let g = c.args.self.now.paged in
    let ea = c.word_at.ensures in
    let ep = c.slot_of-p.ensures in
    elim c.if-v-e.branch [
      | then-v-e w ↦ rw w.self-is (λ t h. (pass_farther _ _ _ _ l k _ _ ea ep g t h.holds h.keeps _ ends w.if-v-e.true, pass_again _ _ _ _ l k _ _ ea ep g t h.holds h.keeps))
      | else-v-e w ↦ rw w.self-is (λ t h. (pass_nearer _ _ _ _ l k _ _ ea ep g t h.holds h.keeps _ ends w.if-v-e.false, pass_again _ _ _ _ l k _ _ ea ep g t h.holds h.keeps))
    ]
