-- What the definitions are held to.
use Rattle.std.proofs.Common.{◌≡◌, zero, suc, refl, arith}
use Rattle.aes_math.specs.Field.{xtime, scale, mul_bits, mul, squares, inverse, sbox}
use Rattle.aes_math.specs.Facts.{Inverses, Substitution, Products, Ciphers}
use Rattle.aes_math.proofs.ByteLaws.{mul-inverse, inv_sbox-sbox, sbox-inv_sbox}
use Rattle.aes_math.proofs.StateLaws.{inv_cipher-cipher, cipher-inv_cipher}

zero_inverse : inverse 0 ≡ 0
unfolding inverse squares mul mul_bits scale xtime
zero_inverse = refl

inverses : Inverses
inverses zero p h = let no : ⊥ = omega arith in absurd no
inverses (suc b) p h = mul-inverse b (omega arith)

pub substitution : Substitution
unfolding sbox
substitution = record { rule = λ b. refl; inverses = inverses; zero = zero_inverse; opens = inv_sbox-sbox; seals = sbox-inv_sbox }

pub products : Products
unfolding mul mul_bits scale xtime
products = (refl, refl)

pub ciphers : Ciphers
ciphers n ks bytes s h = (inv_cipher-cipher ks bytes n s h, cipher-inv_cipher ks bytes n s h)
