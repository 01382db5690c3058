-- The blocks that arrays of sixteen bytes hold.
use Rattle.std.proofs.Common.{◌≡◌, ℕ, zero, suc, List, [], ◌∷◌, take, drop, refl, ap}
use Rattle.std.specs.Simd.{first_chunks}
use Rattle.block.specs.Blocks.{blocks_of, to_block}

abbrev pub block_list : List (List ℕ) → List ℕ
block_list [] = []
block_list (b ∷ bs) = to_block b ∷ block_list bs

pub block_list_chunks : (n : ℕ) (xs : List ℕ) → block_list (first_chunks 16 n xs) ≡ blocks_of n xs
block_list_chunks zero xs = refl
block_list_chunks (suc n) xs = ap (λ bs. to_block (take 16 xs) ∷ bs) (block_list_chunks n (drop 16 xs))
