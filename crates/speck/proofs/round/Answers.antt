use Rattle.std.proofs.Common.{◌∙◌, refl, arith}
use Rattle.speck.proofs.Rotations.{or_right8, or_left3}
use Rattle.speck.proofs.round.Goals as goal

pub returns : goal.returns
returns c =
    let x = c.rotate_right.ensures ∙ or_right8 c.args.pair.0 (omega arith) in
    let y = c.rotate_left.ensures ∙ or_left3 c.args.pair.1 (omega arith) in
    rw (x, y) refl
