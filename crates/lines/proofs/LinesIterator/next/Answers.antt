-- Where no text is left, no line is.
use Rattle.std.proofs.Common.{ap, ◌∙◌}
use Rattle.lines.specs.Lines.{lines}
use Rattle.lines.proofs.Splits.{lines_nil}
use Rattle.lines.proofs.LinesIterator.next.Goals as goal

pub returns-in_err-line-clause-steps : goal.returns-in_err-line-clause-steps
returns-in_err-line-clause-steps c = let none = ap lines c.in_err-line.ensures ∙ lines_nil in rw c.from_residual.ensures (none, none)
