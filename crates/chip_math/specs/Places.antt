-- Where a chip's sector lies, and what a chip answers before it looks at the life.
use Rattle.std.specs.Prelude.{◌≡◌, ℕ, ◌+◌, ◌*◌, ◌<◌, ◌≤◌, cond, List, length, ◌==◌, nat_lt}
use Rattle.chip_math.specs.Chips.{chip_count}

-- 3 where there is no such sector, 2 where that many bytes are not one sector
abbrev pub place_answer : ℕ → List ℕ → List ℕ → ℕ → ℕ → ℕ
place_answer size bytes lives k len = cond (nat_lt k (chip_count size bytes lives)) (cond (len == size) 0 2) 3

-- sector k begins at the place, is that many bytes long, and lies in the bytes as its life does in the lives
pub record Placed (size : ℕ) (bytes lives : List ℕ) (k len place : ℕ) : Type 0 where
  pub there : k < chip_count size bytes lives
  pub long : len ≡ size
  pub begins : place ≡ k * size
  pub in_bytes : place + len ≤ length bytes
  pub in_lives : k < length lives
