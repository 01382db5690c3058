-- The product of blocks, and the hash. A block is the number that its 16 bytes write, the highest byte first.
use Rattle.std.specs.Prelude.{ℕ, List, [], ◌∷◌, bit_xor}
use Rattle.field.specs.Polynomials.{modular, mirrored}

-- x^128 + x^7 + x^2 + x + 1
abbrev pub modulus : ℕ
modulus = 0x1_0000_0000_0000_0000_0000_0000_0000_0087

-- The product of NIST SP 800-38D: the highest bit of a block is the coefficient of x^0, the lowest that of x^127.
unfoldable pub product : ℕ → ℕ → ℕ
product a b = mirrored 128 (modular modulus (mirrored 128 a) (mirrored 128 b))

-- from the sum a, each block in turn is XORed in and multiplied by h
abbrev pub absorbed : ℕ → ℕ → List ℕ → ℕ
absorbed h a [] = a
absorbed h a (b ∷ bs) = absorbed h (product (bit_xor a b) h) bs

-- the hash under h of a list of blocks starts from the zero block, and adds no length block of its own
abbrev pub hash : ℕ → List ℕ → ℕ
hash h bs = absorbed h 0 bs
