use Rattle.std.proofs.Common.{refl}
use Rattle.block.specs.Blocks.{swapped, to_bytes, to_block}
use Rattle.speck.specs.Speck.{scheduled, rounds, unrounds, sealed, opened}
use Rattle.speck.specs.Laws.{round_laws, undone}
use Rattle.speck.proofs.speck_stands.Goals as goal

pub returns : goal.returns
unfolding sealed opened rounds unrounds scheduled swapped to_bytes to_block
returns c = record { rounds = round_laws; undone = undone; example = refl }
