use Rattle.chip_math.proofs.Chipped.{laid}
use Rattle.chip_math.proofs.Memory.{keeps_all}
use Rattle.chip_math.proofs.chips_stand.Goals as goal

pub returns : goal.returns
returns c = record { lies = laid; keeps = keeps_all }
