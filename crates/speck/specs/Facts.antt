-- What the definitions are held to.
use Rattle.std.specs.Prelude.{◌≡◌, ℕ, ◌^◌, ◌<◌, List, slice_index}
use Rattle.cipher.specs.Ciphers.{Undoing}
use Rattle.speck.specs.Speck.{Pair, round_of, unround_of, round_key, block_of, sealed, opened}

-- two words of 64 bits
abbrev pub Words : Pair → Type 0
Words p = (p.0 < 2 ^ 64) × (p.1 < 2 ^ 64)

-- the inverse of a round undoes it, and the round its inverse
pub record Rounds : Type 0 where
  pub opens : (k : ℕ) (p : Pair) → k < 2 ^ 64 → Words p → unround_of k (round_of k p) ≡ p
  pub seals : (k : ℕ) (p : Pair) → k < 2 ^ 64 → Words p → round_of k (unround_of k p) ≡ p

-- under every key, each function undoes the other on every block
abbrev pub Undone : Type 0
Undone = (key : ℕ) → Undoing (sealed key) (opened key)

-- the authors' test vector, left words first
abbrev pub Example : Type 0
Example = sealed (block_of (0x0f0e0d0c0b0a0908, 0x0706050403020100)) (block_of (0x6c61766975716520, 0x7469206564616d20)) ≡ block_of (0xa65d985179783265, 0x7860fedf5c570d18)

-- the round keys k(0) to k(31) of a key
abbrev pub Schedule : ℕ → List ℕ → Type 0
Schedule key ks = (i : ℕ) → i < 32 → slice_index ks i ≡ round_key key i
