use Rattle.std.proofs.Common.{◌≡◌, ◌++◌, take, drop}
use Rattle.chip_math.specs.Chips.{programmed}
use Rattle.chip.proofs.flash.program.Given as goal

-- what is done, joined with what is left programmed, is the whole programmed
abbrev pub invariant-loop-i : goal.invariant-loop-i
invariant-loop-i l = take l.i l.sector ++ programmed (drop l.i l.sector) (drop l.i l.bytes) ≡ programmed l.initial.sector l.bytes
