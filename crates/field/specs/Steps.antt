-- The product by steps (NIST SP 800-38D, 6.3), and a table of products.
use Rattle.std.specs.Prelude.{◌≡◌, ℕ, zero, suc, ◌-◌, ◌*◌, ◌/◌, ◌%◌, ◌^◌, ◌<◌, ◌≤◌, List, [], ◌∷◌, bit_xor, slice_index, slice_index_or}
use Rattle.field.specs.Polynomials.{times, modular}
use Rattle.field.specs.Field.{product, hash}

-- one step to the right; where the last bit falls out, the bits 11100001 are XORed in at the left
unfoldable pub halved : ℕ → ℕ
halved v = bit_xor (v / 2) (v % 2 * 0xe100_0000_0000_0000_0000_0000_0000_0000)

-- z and, where bit k of x is set, v
unfoldable pub added : ℕ → ℕ → ℕ → ℕ → ℕ
added x k z v = bit_xor z (x / 2 ^ k % 2 * v)

-- the last n bits of x
abbrev pub summed : ℕ → ℕ → ℕ → ℕ → ℕ
summed zero x z v = z
summed (suc n) x z v = summed n x (added x n z v) (halved v)

unfoldable pub stepwise : ℕ → ℕ → ℕ
stepwise x y = summed 128 x 0 y

-- entry k of row i of a table for h: the product of k 2^(124 - 4 i) by h
unfoldable pub entry : ℕ → ℕ → ℕ → ℕ
entry h i k = stepwise (k * 2 ^ (124 - 4 * i)) h

-- a row i of the table
abbrev pub Row : ℕ → ℕ → List ℕ → Type 0
Row h i row = (k : ℕ) → k < 16 → slice_index row k ≡ entry h i k

-- the table has the products of every nibble at every place
abbrev pub Products : ℕ → List (List ℕ) → Type 0
Products h t = (i : ℕ) → i < 32 → Row h i (slice_index_or t i [])

-- modular m a b is the remainder of a b modulo m: of degree below 128, and a multiple of m away from a b; there is no other
pub record Remainder : Type 0 where
  pub below : (m a b : ℕ) → 2 ^ 128 ≤ m → m < 2 ^ 129 → b < 2 ^ 128 → modular m a b < 2 ^ 128
  pub congruent : (m a b : ℕ) → (q : ℕ) × (bit_xor (times 128 a b) (modular m a b) ≡ times 128 q m)
  pub unique : (m n q f g : ℕ) → 2 ^ 128 ≤ m → m < 2 ^ 129 → f < 2 ^ 128 → g < 2 ^ 128 → bit_xor f g ≡ times n q m → f ≡ g

-- what is known of the product: it is that by steps, the factors may change places, the highest bit alone is 1, it is linear, and two fixed cases (the hash is of test case 2 of the GCM paper)
pub record Product : Type 0 where
  pub remainder : Remainder
  pub steps : (a b : ℕ) → b < 2 ^ 128 → product a b ≡ stepwise a b
  pub commutes : (a b : ℕ) → product a b ≡ product b a
  pub one : (a : ℕ) → a < 2 ^ 128 → product 0x8000_0000_0000_0000_0000_0000_0000_0000 a ≡ a
  pub by_x : (a : ℕ) → a < 2 ^ 128 → product 0x4000_0000_0000_0000_0000_0000_0000_0000 a ≡ halved a
  pub sums : (a b c : ℕ) → c < 2 ^ 128 → product (bit_xor a b) c ≡ bit_xor (product a c) (product b c)
  pub hashed : hash 0x66e94bd4ef8a2c3b884cfa59ca342b2e (0x0388dace60b6a392f328c2b971b2fe78 ∷ 0x80 ∷ []) ≡ 0xf38cbb1ad69223dcc3457ae5b6b0f885
  pub fixed : product 0x01 0x4000_0000_0000_0000_0000_0000_0000_0000 ≡ 0xe100_0000_0000_0000_0000_0000_0000_0000
