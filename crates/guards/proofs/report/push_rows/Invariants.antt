-- The rows so far and those to come are all rows.
use Rattle.std.proofs.Common.{◌≡◌, ◌++◌, string_bytes}
use Rattle.guards.specs.Report.{dumped}
use Rattle.guards.proofs.report.push_rows.Given as goal

abbrev pub invariant-loop-row : goal.invariant-loop-row
invariant-loop-row l =
    (string_bytes l.text ++ dumped l.row-iterator.rest.now ≡ string_bytes l.initial.text ++ dumped l.bytes) × (l.row-iterator.size ≡ 32)
