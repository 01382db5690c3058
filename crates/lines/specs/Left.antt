-- The lines that an iterator has still to give.
use Rattle.std.specs.Prelude.{ℕ, List}
use Rattle.lines.specs.Lines.{lines}
use Rattle.lines.specs.declared.Lines.{Lines}

abbrev pub lines_left : Lines → List (List ℕ)
lines_left s = lines s.rest.now
