-- The product by a fixed byte is linear, and keeps bytes.
use Rattle.std.proofs.Common.{◌≡◌, ℕ, zero, suc, ◌*◌, ◌/◌, ◌%◌, ◌<◌, sym, refl, ap, ◌∙◌, ap₂, le_of_suc-le-suc, not-suc-le-zero, add-zero, arith}
use lib.Bits.{bit_xor, xor_block, xor_mod, xor_shr, xor_assoc, xor_comm, xor_lt, xor_zero_r, xor_self}
use Rattle.aes_math.specs.Field.{xtime, scale, mul_bits, mul}

-- (a + b) + (c + d) is (a + c) + (b + d)
pub swap : (a b c d : ℕ) → bit_xor (bit_xor a b) (bit_xor c d) ≡ bit_xor (bit_xor a c) (bit_xor b d)
swap a b c d =
    xor_assoc a b (bit_xor c d)
    ∙ ap (bit_xor a) (sym (xor_assoc b c d) ∙ ap (λ (x : ℕ). bit_xor x d) (xor_comm b c) ∙ xor_assoc c b d)
    ∙ sym (xor_assoc a c (bit_xor b d))

pub undo : (a k : ℕ) → bit_xor (bit_xor a k) k ≡ a
undo a k = xor_assoc a k k ∙ ap (bit_xor a) (xor_self k) ∙ xor_zero_r a

double : (x y : ℕ) → bit_xor x y * 2 ≡ bit_xor (x * 2) (y * 2)
double x y =
    sym (add-zero (bit_xor x y * 2)) ∙ sym (xor_block 1 x y 0 0 (omega arith) (omega arith))
    ∙ ap₂ bit_xor (add-zero (x * 2)) (add-zero (y * 2))

top : (p q : ℕ) → p < 2 → q < 2 → bit_xor p q * 0x1b ≡ bit_xor (p * 0x1b) (q * 0x1b)
top zero q hp hq = refl
top (suc zero) zero hp hq = refl
top (suc zero) (suc zero) hp hq = refl
top (suc zero) (suc (suc q)) hp hq = absurd (not-suc-le-zero (le_of_suc-le-suc (le_of_suc-le-suc hq)))
top (suc (suc p)) q hp hq = absurd (not-suc-le-zero (le_of_suc-le-suc (le_of_suc-le-suc hp)))

pub xtime_xor : (x y : ℕ) → xtime (bit_xor x y) ≡ bit_xor (xtime x) (xtime y)
unfolding xtime
xtime_xor x y =
    ap₂ bit_xor
    (ap (λ (n : ℕ). n % 256) (double x y) ∙ xor_mod (x * 2) (y * 2) 8)
    (ap (λ (n : ℕ). n % 2 * 0x1b) (xor_shr x y 7) ∙ ap (λ (n : ℕ). n * 0x1b) (xor_mod (x / 128) (y / 128) 1)
    ∙ top (x / 128 % 2) (y / 128 % 2) (omega arith) (omega arith))
    ∙ swap (x * 2 % 256) (y * 2 % 256) (x / 128 % 2 * 0x1b) (y / 128 % 2 * 0x1b)

scale_xor : (a x y : ℕ) → scale a (bit_xor x y) ≡ bit_xor (scale a x) (scale a y)
unfolding scale
scale_xor zero x y = refl
scale_xor (suc a) x y = refl

mul_bits_xor : (n a x y : ℕ) → mul_bits n a (bit_xor x y) ≡ bit_xor (mul_bits n a x) (mul_bits n a y)
unfolding mul_bits
mul_bits_xor zero a x y = refl
mul_bits_xor (suc n) a x y =
    ap₂ bit_xor (scale_xor (a % 2) x y) (ap (mul_bits n (a / 2)) (xtime_xor x y) ∙ mul_bits_xor n (a / 2) (xtime x) (xtime y))
    ∙ swap (scale (a % 2) x) (scale (a % 2) y) (mul_bits n (a / 2) (xtime x)) (mul_bits n (a / 2) (xtime y))

pub mul_xor : (a x y : ℕ) → mul a (bit_xor x y) ≡ bit_xor (mul a x) (mul a y)
unfolding mul
mul_xor a x y = mul_bits_xor 8 a x y

-- ---- bytes

pub xtime_lt : (b : ℕ) → xtime b < 256
unfolding xtime
xtime_lt b = xor_lt 8 (b * 2 % 256) (b / 128 % 2 * 0x1b) (omega arith) (omega arith)

scale_lt : (a b : ℕ) → b < 256 → scale a b < 256
unfolding scale
scale_lt zero b h = omega arith
scale_lt (suc a) b h = h

mul_bits_lt : (n a b : ℕ) → b < 256 → mul_bits n a b < 256
unfolding mul_bits
mul_bits_lt zero a b h = omega arith
mul_bits_lt (suc n) a b h =
    xor_lt 8 (scale (a % 2) b) (mul_bits n (a / 2) (xtime b)) (scale_lt (a % 2) b h) (mul_bits_lt n (a / 2) (xtime b) (xtime_lt b))

pub mul_lt : (a b : ℕ) → b < 256 → mul a b < 256
unfolding mul
mul_lt a b h = mul_bits_lt 8 a b h
