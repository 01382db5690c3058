use Rattle.std.proofs.Common.{ℕ, ◌+◌, drop, sym, ap, ◌∙◌}
use Rattle.std.proofs.lemmas.List.{at_drop_more, at_drop_all}
use Rattle.field.specs.Field.{absorbed}
use Rattle.field.proofs.HashKey.hash.Goals as goal

pub loop-block-preserved : goal.loop-block-preserved
loop-block-preserved c =
    let xs = c.args.blocks.now in
    let h = c.args.self.now.h in
    let i = c.loop-block.block-index in
    ap (λ (a : ℕ). absorbed h a (drop (i + 1) xs)) c.absorb-sum.ensures
    ∙ sym (at_drop_more (absorbed h c.loop-block.sum) xs i 0 c.loop-block-test.true) ∙ c.loop-block.invariant

pub returns : goal.returns
returns c =
    sym (at_drop_all (absorbed c.args.self.now.h c.loop-block.sum) c.args.blocks.now c.loop-block.block-index c.loop-block-test.false) ∙ c.loop-block.invariant
