-- What the doubling keeps.
use Rattle.std.specs.Prelude.{ℕ, ◌^◌, ◌<◌}
use Rattle.block.specs.Blocks.{swapped}
use Rattle.block.proofs.Swaps.{swapped_below}
use Rattle.xts.specs.Xts.{twice, doubled}

pub doubled_below : (n : ℕ) → doubled n < 2 ^ 128
unfolding doubled
doubled_below n = swapped_below (twice (swapped n))
