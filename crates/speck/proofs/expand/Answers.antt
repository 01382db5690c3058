use Rattle.std.proofs.Common.{ℕ, ◌<◌, length, sym, refl, ap, ◌∙◌, arith, length-set}
use Rattle.speck.specs.Speck.{Pair, pair_of, scheduled, round_of}
use Rattle.speck.proofs.Loops.{scheduled_none, scheduled_more, table_more}
use Rattle.speck.proofs.expand.Goals as goal

pub loop-i-init : goal.loop-i-init
loop-i-init c = (refl, c.words-pair.ensures ∙ scheduled_none (pair_of c.args.key), λ j h. absurd (omega arith))

pub loop-i-preserved : goal.loop-i-preserved
loop-i-preserved c =
    let p : Pair = pair_of c.args.key in
    let lt : c.loop-i.i < length c.loop-i.k-items = omega arith in (
      length-set _ _ _ ∙ c.loop-i.invariant.0,
      c.round-pair.ensures ∙ ap (round_of c.loop-i.i) c.loop-i.invariant.1 ∙ sym (scheduled_more p c.loop-i.i),
      table_more (λ (j : ℕ). (scheduled p j).1) c.loop-i.k-items c.loop-i.i c.loop-i.pair.1 lt (ap (λ (q : Pair). q.1) c.loop-i.invariant.1) c.loop-i.invariant.2,
    )

pub returns : goal.returns
returns c = λ i h. c.loop-i.invariant.2 i (omega arith)
