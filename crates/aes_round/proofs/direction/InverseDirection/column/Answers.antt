use Rattle.aes_math.specs.Field.{xtime, scale, mul_bits, mul, squares, inverse, bit, digits_of, affine, unaffine, sbox, inv_sbox}
use Rattle.aes_round.proofs.TableRules.{td0_rule}
use native.Mathlib.Omega.{arith}
use Rattle.aes_round.proofs.direction.InverseDirection.column.Goals as goal

pub returns : goal.returns
unfolding sbox inv_sbox affine unaffine digits_of bit inverse squares mul mul_bits scale xtime
returns c = td0_rule c.args.x (omega arith)
