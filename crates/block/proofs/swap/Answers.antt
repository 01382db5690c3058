use Rattle.std.proofs.Common.{reverse, refl, div-one}
use Rattle.block.specs.Blocks.{to_bytes, to_block, swapped}
use Rattle.block.proofs.Bytes.{number_16}
use Rattle.block.proofs.swap.Goals as goal

pub returns : goal.returns
unfolding swapped to_bytes to_block
returns c = cc (c.swap_bytes.ensures, div-one c.args.block, number_16 (reverse (to_bytes c.args.block)) refl)
