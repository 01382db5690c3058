use Rattle.aes_math.specs.Field.{xtime, scale, mul_bits, mul, squares, inverse, bit, digits_of, affine, unaffine, sbox, inv_sbox}
use Rattle.aes_math.proofs.Below.{entry}
use native.Mathlib.Omega.{arith}
use Rattle.aes_round.proofs.direction.ForwardDirection.substitute.Goals as goal

pub returns : goal.returns
unfolding sbox inv_sbox affine unaffine digits_of bit inverse squares mul mul_bits scale xtime
returns c = entry sbox 256 c.args.x 0 (omega arith)
