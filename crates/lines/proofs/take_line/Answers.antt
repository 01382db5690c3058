-- The first line ends at the first LF, or with the text.
use Rattle.std.proofs.Common.{◌+◌, ◌≤◌, length, arith, length-drop, rules}
use Rattle.std.proofs.lemmas.List.{take_rest}
use Rattle.lines.proofs.Splits.{line_all, line_cut}
use Rattle.lines.proofs.take_line.Goals as goal

pub returns-in-Some : goal.returns-in-Some
returns-in-Some c =
    let s = c.args.s.now in
    let cut = line_cut s c.in-Some.ensures in
    rw (take_rest s (c.in-Some.end + 1), length-drop (c.in-Some.end + 1) s) (cut.1, omega (arith, cut.0))

pub returns-in-None : goal.returns-in-None
returns-in-None c = let some : 1 ≤ length c.args.s.now = search rules in (line_all c.args.s.now c.in-None.ensures some, some)
