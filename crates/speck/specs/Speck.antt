-- Speck128/128, as its authors published it (The Simon and Speck Families of Lightweight Block Ciphers): a round and its inverse on two words,
-- the 32 round keys, and what a key makes of a block.
use Rattle.std.specs.Prelude.{ℕ, zero, suc, ◌+◌, ◌-◌, ◌*◌, ◌/◌, ◌%◌, ◌^◌, bit_xor}
use Rattle.block.specs.Blocks.{swapped}

-- a pair of words of 64 bits, the left one first
abbrev pub Pair : Type 0
Pair = ℕ × ℕ

-- a word rotated right by 8 and left by 3, and the rotations that undo these
abbrev pub right8 : ℕ → ℕ
right8 x = x / 256 + x % 256 * 2 ^ 56

abbrev pub left3 : ℕ → ℕ
left3 x = x % 2 ^ 61 * 8 + x / 2 ^ 61

abbrev pub left8 : ℕ → ℕ
left8 x = x % 2 ^ 56 * 256 + x / 2 ^ 56

abbrev pub right3 : ℕ → ℕ
right3 x = x / 8 + x % 8 * 2 ^ 61

-- modulo 2^64
abbrev pub plus : ℕ → ℕ → ℕ
plus a b = (a + b) % 2 ^ 64

abbrev pub minus : ℕ → ℕ → ℕ
minus a b = (a + (2 ^ 64 - b)) % 2 ^ 64

-- the new left word of a round under the key k
abbrev pub mixed : ℕ → ℕ → ℕ → ℕ
mixed k x y = bit_xor (plus (right8 x) y) k

abbrev pub round_of : ℕ → Pair → Pair
round_of k p = (mixed k p.0 p.1, bit_xor (left3 p.1) (mixed k p.0 p.1))

-- the old right word
abbrev pub unmixed : Pair → ℕ
unmixed p = right3 (bit_xor p.1 p.0)

abbrev pub unround_of : ℕ → Pair → Pair
unround_of k p = (left8 (minus (bit_xor p.0 k) (unmixed p)), unmixed p)

-- l(i) and k(i): the schedule runs the round on itself, with i for the key
unfoldable pub scheduled : Pair → ℕ → Pair
scheduled p zero = p
scheduled p (suc i) = round_of i (scheduled p i)

-- the first n rounds, with the round keys ks, and their inverse
unfoldable pub rounds : (ℕ → ℕ) → ℕ → Pair → Pair
rounds ks zero p = p
rounds ks (suc n) p = round_of (ks n) (rounds ks n p)

unfoldable pub unrounds : (ℕ → ℕ) → ℕ → Pair → Pair
unrounds ks zero p = p
unrounds ks (suc n) p = unrounds ks n (unround_of (ks n) p)

-- A block and a key are read alike: the first 8 bytes, the lowest first, are the right word, the last 8 the left one.
abbrev pub pair_of : ℕ → Pair
pair_of n = (swapped n / 2 ^ 64, swapped n % 2 ^ 64)

abbrev pub block_of : Pair → ℕ
block_of p = swapped (p.0 * 2 ^ 64 + p.1)

-- k(i) of a key
abbrev pub round_key : ℕ → ℕ → ℕ
round_key key i = (scheduled (pair_of key) i).1

-- the block n sealed, and opened, under the key
unfoldable pub sealed : ℕ → ℕ → ℕ
sealed key n = block_of (rounds (round_key key) 32 (pair_of n))

unfoldable pub opened : ℕ → ℕ → ℕ
opened key n = block_of (unrounds (round_key key) 32 (pair_of n))
