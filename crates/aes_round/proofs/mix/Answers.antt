use mathlib.Core.Path.{ap, ◌∙◌}
use native.Mathlib.Omega.{arith}
use Rattle.aes_math.specs.Rounds.{Word, word_of}
use Rattle.aes_math.proofs.NumLaws.{turn8, turn16, turn24}
use Rattle.aes_math.proofs.WordSums.{total4_is}
use Rattle.aes_round.specs.Directions.{down}
use Rattle.aes_round.proofs.mix.Goals as goal

pub returns : goal.returns
returns g c =
    total4_is c.column.result c.rotate_right.result c.rotate_right-2.result c.rotate_right-3.result _ _ _ _
    c.column.ensures
    (ap word_of c.rotate_right.ensures ∙ turn8 c.column-2.result (omega arith) ∙ ap down c.column-2.ensures)
    (ap word_of c.rotate_right-2.ensures ∙ turn16 c.column-3.result (omega arith) ∙ ap (λ (w : Word). down (down w)) c.column-3.ensures)
    (ap word_of c.rotate_right-3.ensures ∙ turn24 c.column-4.result (omega arith) ∙ ap (λ (w : Word). down (down (down w))) c.column-4.ensures)
