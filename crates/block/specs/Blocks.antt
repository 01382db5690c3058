-- Bytes and blocks. A block is the number that its 16 bytes write, the highest byte first.
use Rattle.std.specs.Prelude.{ℕ, zero, suc, ◌/◌, ◌%◌, ◌^◌, cond, List, [], ◌∷◌, ◌++◌, reverse, length, take, drop, ◌==◌, bit_xor}
use Rattle.std.specs.Int.Digits.{number_from_digits}

-- the k lowest bytes of n, the highest first
abbrev pub bytes_of : ℕ → ℕ → List ℕ
bytes_of zero n = []
bytes_of (suc k) n = (n / 256 ^ k % 256) ∷ bytes_of k n

-- a block's bytes, and the block that 16 bytes write
unfoldable pub to_bytes : ℕ → List ℕ
to_bytes n = bytes_of 16 n

unfoldable pub to_block : List ℕ → ℕ
to_block bs = number_from_digits 256 bs

-- a part of a string as a block, and a block written over it; a part that is not one block reads as 0 and is left as it is
unfoldable pub loaded : List ℕ → ℕ
loaded xs = cond (length xs == 16) (to_block xs) 0

unfoldable pub stored : List ℕ → ℕ → List ℕ
stored xs n = cond (length xs == 16) (to_bytes n) xs

-- the first n blocks of a string of bytes
abbrev pub blocks_of : ℕ → List ℕ → List ℕ
blocks_of zero xs = []
blocks_of (suc n) xs = to_block (take 16 xs) ∷ blocks_of n (drop 16 xs)

-- block by block: a block b is replaced by f s b, where the state s steps from block to block
abbrev pub walk : {S : Type 0} → (S → ℕ → ℕ) → (S → S) → ℕ → S → List ℕ → List ℕ
walk f next zero s xs = []
walk f next (suc n) s xs = to_bytes (f s (to_block (take 16 xs))) ++ walk f next n (next s) (drop 16 xs)

-- The block whose bytes stand in the other order: a block read as a number with the lowest byte first, and such a number as a block.
unfoldable pub swapped : ℕ → ℕ
swapped n = to_block (reverse (to_bytes n))

-- a sector's tweak is its number in 16 bytes, the lowest byte first
abbrev pub tweak : ℕ → ℕ
tweak k = swapped k

-- byte by byte
abbrev pub xor_bytes : List ℕ → List ℕ → List ℕ
xor_bytes [] ys = []
xor_bytes (x ∷ xs) [] = []
xor_bytes (x ∷ xs) (y ∷ ys) = bit_xor x y ∷ xor_bytes xs ys
