-- What the two functions of a cipher obey under one key.
use Rattle.std.specs.Prelude.{ℕ, ◌^◌, ◌<◌, ◌≡◌}

-- a sealing and an opening function on blocks: they stay among the blocks, and each undoes the other on every block
pub record Undoing (sealed opened : ℕ → ℕ) : Type 0 where
  pub sealed_below : (x : ℕ) → x < 2 ^ 128 → sealed x < 2 ^ 128
  pub opened_below : (x : ℕ) → x < 2 ^ 128 → opened x < 2 ^ 128
  pub opens : (x : ℕ) → x < 2 ^ 128 → opened (sealed x) ≡ x
  pub seals : (x : ℕ) → x < 2 ^ 128 → sealed (opened x) ≡ x
