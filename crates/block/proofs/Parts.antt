-- What a part of a string reads as, and what a block written over it leaves.
use Rattle.std.proofs.Common.{◌≡◌, ℕ, ◌≢◌, List, length, rules}
use Rattle.block.specs.Blocks.{to_bytes, to_block, loaded, stored}

pub loaded_is : (xs : List ℕ) → length xs ≡ 16 → loaded xs ≡ to_block xs
unfolding loaded
loaded_is xs l = search rules

pub loaded_not : (xs : List ℕ) → length xs ≢ 16 → loaded xs ≡ 0
unfolding loaded
loaded_not xs l = search rules

pub stored_is : (xs : List ℕ) (n : ℕ) → length xs ≡ 16 → stored xs n ≡ to_bytes n
unfolding stored
stored_is xs n l = search rules

pub stored_not : (xs : List ℕ) (n : ℕ) → length xs ≢ 16 → stored xs n ≡ xs
unfolding stored
stored_not xs n l = search rules
