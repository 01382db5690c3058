use Rattle.std.proofs.Common.{get_or, ap, ◌∙◌, arith}
use Rattle.aes_math.specs.Rounds.{sub_word}
use Rattle.aes_math.proofs.StateLaws.{quad}
use Rattle.aes.proofs.NextKey.{key_is}
use Rattle.aes.proofs.next_key.Goals as goal

pub returns : goal.returns
returns c =
    c.join.ensures
    ∙ key_is c.args.x (get_or c.columns.result 0 0) (get_or c.columns.result 1 0) (get_or c.columns.result 2 0) (get_or c.columns.result 3 0) c.sub_word.result c.from_be_bytes.result _
    c.columns.ensures (c.sub_word.ensures ∙ ap sub_word c.rot_word.ensures) (quad (omega arith) (omega arith) (omega arith) (omega arith))
