use Rattle.std.proofs.Common.{append_assoc}
use Rattle.guards.proofs.report.push_sector.Goals as goal

pub returns : goal.returns
returns c = simp append_assoc (simp (c.in_ok-write.ensures.bytes, append_assoc) at c.push_rows.ensures)
