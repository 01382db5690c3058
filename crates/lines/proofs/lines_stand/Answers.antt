use Rattle.lines.proofs.Splits.{joins_lines}
use Rattle.lines.proofs.lines_stand.Goals as goal

pub returns : goal.returns
returns c = joins_lines
