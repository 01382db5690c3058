-- What the two substitution tables hold.
use Rattle.std.specs.Prelude.{◌≡◌, List, ℕ, ◌<◌, get_or}
use Rattle.aes_math.specs.Field.{inverse, affine}

-- entry b of the substitution table is the inverse of b (0 for 0) put through the affine map; the opening table undoes it, and it the opening table
abbrev pub Tables : List ℕ → List ℕ → Type 0
Tables s o =
    (b : ℕ) → b < 256
    → (get_or s b 0 ≡ affine (inverse b)) × (get_or o (get_or s b 0) 0 ≡ b) × (get_or s (get_or o b 0) 0 ≡ b)
