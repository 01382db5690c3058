use Rattle.std.proofs.Common.{ap, ◌∙◌, refl, arith}
use Rattle.aes_math.specs.Rounds.{state_of}
use Rattle.aes_math.proofs.NumLaws.{of_block}
use Rattle.aes_round.proofs.Joined.{joined}
use Rattle.aes_round.proofs.join.Goals as goal

pub returns : goal.returns
returns c =
    ap state_of (joined c.from.result c.from-2.result c.from-3.result c.from-4.result (omega arith) (omega arith) (omega arith) (omega arith))
    ∙ of_block c.from.result c.from-2.result c.from-3.result c.from-4.result (omega arith) (omega arith) (omega arith) (omega arith)
    ∙ rw (c.from.ensures, c.from-2.ensures, c.from-3.ensures, c.from-4.ensures) refl
