use Rattle.std.proofs.Common.{vec_items}
use Rattle.chip_math.proofs.Chipped.{laid}
use Rattle.chip.proofs.Chip.new.Goals as goal

pub returns-clause-laid : goal.returns-clause-laid
returns-clause-laid g c = laid c.args.size.bytes (vec_items c.args.bytes) (vec_items c.args.lives)
