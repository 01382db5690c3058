use Rattle.std.proofs.Common.{◌*◌, ◌/◌, ◌%◌, ◌^◌, ap, ◌∙◌}
use native.Mathlib.Omega.{arith}
use lib.Bits.{or_comm}
use Rattle.aes_math.specs.Rounds.{word_of}
use Rattle.aes_math.proofs.NumLaws.{turn24}
use Rattle.aes_round.proofs.rot_word.Goals as goal

pub returns : goal.returns
returns c = ap word_of (c.rotate_left.ensures ∙ or_comm (c.args.w * 2 ^ 8 % 2 ^ 32) (c.args.w / 2 ^ 24)) ∙ turn24 c.args.w (omega arith)
