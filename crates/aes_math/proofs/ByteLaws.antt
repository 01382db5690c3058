-- What is computed at each of the 256 bytes.
use Rattle.std.proofs.Common.{◌≡◌, ℕ, suc, ◌<◌, true, ltb, refl}
use borrow.Author.Tests.{ltb-true}
use Rattle.aes_math.specs.Field.{xtime, scale, mul_bits, mul, squares, inverse, bit, digits_of, affine, unaffine, sbox, inv_sbox}
use Rattle.aes_math.proofs.Below.{agree}

pub inv_sbox-sbox : (b : ℕ) → b < 256 → inv_sbox (sbox b) ≡ b
unfolding sbox inv_sbox unaffine affine digits_of bit inverse squares mul mul_bits scale xtime
inv_sbox-sbox = agree (λ b. inv_sbox (sbox b)) (λ b. b) 256 refl

pub sbox-inv_sbox : (b : ℕ) → b < 256 → sbox (inv_sbox b) ≡ b
unfolding sbox inv_sbox unaffine affine digits_of bit inverse squares mul mul_bits scale xtime
sbox-inv_sbox = agree (λ b. sbox (inv_sbox b)) (λ b. b) 256 refl

pub sbox_lt : (b : ℕ) → b < 256 → sbox b < 256
unfolding sbox inv_sbox unaffine affine digits_of bit inverse squares mul mul_bits scale xtime
sbox_lt b h = ltb-true (sbox b) 256 (agree (λ b. ltb (sbox b) 256) (λ b. true) 256 refl b h)

pub inv_sbox_lt : (b : ℕ) → b < 256 → inv_sbox b < 256
unfolding sbox inv_sbox unaffine affine digits_of bit inverse squares mul mul_bits scale xtime
inv_sbox_lt b h = ltb-true (inv_sbox b) 256 (agree (λ b. ltb (inv_sbox b) 256) (λ b. true) 256 refl b h)

-- b times its inverse is 1, unless b is 0
pub mul-inverse : (b : ℕ) → b < 255 → mul (suc b) (inverse (suc b)) ≡ 1
unfolding inverse squares mul mul_bits scale xtime
mul-inverse = agree (λ b. mul (suc b) (inverse (suc b))) (λ b. 1) 255 refl
