-- The doors of the lines so far; the iterator has the other lines.
use Rattle.std.proofs.Common.{◌≡◌, take, drop, vec_items, vec_len}
use Rattle.lines.specs.Left.{lines_left}
use Rattle.lines.specs.Lines.{lines}
use Rattle.doors.specs.Rounds.{Each}
use Rattle.doors.proofs.round.parse_round.Given as goal

abbrev pub invariant-loop-line : goal.invariant-loop-line
invariant-loop-line l =
    Each (take (vec_len l.doors) (lines l.fn.input)) (vec_items l.doors) × (drop (vec_len l.doors) (lines l.fn.input) ≡ lines_left l.line-iterator)
