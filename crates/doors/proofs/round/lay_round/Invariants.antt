-- The records so far, and zero bytes after them.
use Rattle.std.proofs.Common.{◌≡◌, ◌-◌, ◌*◌, ◌++◌, take, replicate}
use Rattle.doors.specs.Rounds.{records}
use Rattle.doors.proofs.round.lay_round.Given as goal

abbrev pub invariant-loop-i : goal.invariant-loop-i
invariant-loop-i l = l.image ≡ records (take l.i l.doors) ++ replicate (1024 - 24 * l.i) 0
