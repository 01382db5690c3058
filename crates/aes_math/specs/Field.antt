-- Bytes as polynomials over GF(2), modulo m(x) = x^8 + x^4 + x^3 + x + 1 (FIPS 197, section 4), and the substitution of
-- a byte (section 5.1.1). Bit i of a byte is the coefficient of x^i.
use Rattle.std.specs.Prelude.{ℕ, zero, suc, ◌+◌, ◌*◌, ◌/◌, ◌%◌, ◌^◌, bit_xor}

-- x • b: shift left, and where a bit falls out take it away as x^4 + x^3 + x + 1
unfoldable pub xtime : ℕ → ℕ
xtime b = bit_xor (b * 2 % 256) (b / 128 % 2 * 0x1b)

-- a digit times a byte
unfoldable pub scale : ℕ → ℕ → ℕ
scale zero b = 0
scale (suc n) b = b

-- the sum of b x^i over the n low bits i of a that are set
unfoldable pub mul_bits : ℕ → ℕ → ℕ → ℕ
mul_bits zero a b = 0
mul_bits (suc n) a b = bit_xor (scale (a % 2) b) (mul_bits n (a / 2) (xtime b))

-- the product in GF(2^8)
unfoldable pub mul : ℕ → ℕ → ℕ
mul a b = mul_bits 8 a b

-- b^2 b^4 .. b^(2^n)
unfoldable pub squares : ℕ → ℕ → ℕ
squares zero b = 1
squares (suc n) b = mul (mul b b) (squares n (mul b b))

-- the multiplicative inverse b^254 = b^2 b^4 .. b^128, which is 0 at 0
unfoldable pub inverse : ℕ → ℕ
inverse b = squares 7 b

unfoldable pub bit : ℕ → ℕ → ℕ
bit i b = b / 2 ^ (i % 8) % 2

-- the sum of 2^i f(i) over i below n
unfoldable pub digits_of : ℕ → (ℕ → ℕ) → ℕ
digits_of zero f = 0
digits_of (suc n) f = digits_of n f + f n * 2 ^ n

-- the affine map: bit i is b(i) + b(i+4) + b(i+5) + b(i+6) + b(i+7) + c(i), indices modulo 8, where c is 0x63
unfoldable pub affine : ℕ → ℕ
affine b = digits_of 8 (λ i. (bit i b + bit (i + 4) b + bit (i + 5) b + bit (i + 6) b + bit (i + 7) b + bit i 0x63) % 2)

-- the inverse affine map: bit i is b(i+2) + b(i+5) + b(i+7) + d(i), where d is 0x05
unfoldable pub unaffine : ℕ → ℕ
unaffine b = digits_of 8 (λ i. (bit (i + 2) b + bit (i + 5) b + bit (i + 7) b + bit i 0x05) % 2)

unfoldable pub sbox : ℕ → ℕ
sbox b = affine (inverse b)

unfoldable pub inv_sbox : ℕ → ℕ
inv_sbox b = inverse (unaffine b)
