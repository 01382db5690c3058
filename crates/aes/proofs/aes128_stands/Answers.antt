use Rattle.std.proofs.Common.{refl}
use Rattle.aes_math.specs.Field.{xtime, scale, mul_bits, mul, squares, inverse, bit, digits_of, affine, unaffine, sbox, inv_sbox}
use Rattle.aes_math.specs.Rounds.{sub_bytes, inv_sub_bytes, shift_rows, inv_shift_rows, mix_columns, inv_mix_columns, add_round_key, rounds, inv_rounds, cipher, inv_cipher, state_of, num_of}
use Rattle.aes.specs.Aes128.{rcon, next_key, round_key, sealed, opened}
use Rattle.aes.specs.BlockLaws.{undone}
use Rattle.aes.proofs.KeyWords.{words}
use Rattle.aes.proofs.aes128_stands.Goals as goal

pub returns : goal.returns
unfolding xtime scale mul_bits mul squares inverse bit digits_of affine unaffine sbox inv_sbox sub_bytes inv_sub_bytes shift_rows inv_shift_rows mix_columns inv_mix_columns add_round_key rcon next_key round_key rounds inv_rounds cipher inv_cipher state_of num_of sealed opened
returns c = record { undone = undone; words = words; example = (refl, refl) }
