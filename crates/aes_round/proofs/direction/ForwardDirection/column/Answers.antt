use Rattle.aes_math.specs.Field.{xtime, scale, mul_bits, mul, squares, inverse, bit, digits_of, affine, unaffine, sbox, inv_sbox}
use Rattle.aes_round.proofs.TableRules.{te0_rule}
use native.Mathlib.Omega.{arith}
use Rattle.aes_round.proofs.direction.ForwardDirection.column.Goals as goal

pub returns : goal.returns
unfolding sbox inv_sbox affine unaffine digits_of bit inverse squares mul mul_bits scale xtime
returns c = te0_rule c.args.x (omega arith)
