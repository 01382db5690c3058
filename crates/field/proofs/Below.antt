-- Products and hashes are blocks.
use Rattle.std.proofs.Common.{ℕ, ◌^◌, ◌<◌, List, [], ◌∷◌, arith}
use lib.Bits.{bit_xor}
use Rattle.field.specs.Field.{product, absorbed, hash}
use Rattle.field.proofs.Ghash.{product_below}

absorbed_below : (h a : ℕ) (bs : List ℕ) → a < 2 ^ 128 → absorbed h a bs < 2 ^ 128
absorbed_below h a [] ha = ha
absorbed_below h a (b ∷ bs) ha = absorbed_below h (product (bit_xor a b) h) bs (product_below (bit_xor a b) h)

pub hash_below : (h : ℕ) (bs : List ℕ) → hash h bs < 2 ^ 128
hash_below h bs = absorbed_below h 0 bs (omega arith)
