-- What is left to read, behind the doors so far, is what all places hold.
use Rattle.std.proofs.Common.{vec_items}
use Rattle.doors.proofs.Readings.{Reading}
use Rattle.doors.proofs.round.read_round.Given as goal

abbrev pub invariant-loop-bytes : goal.invariant-loop-bytes
invariant-loop-bytes l = Reading l.bytes-index l.places (vec_items l.doors)
