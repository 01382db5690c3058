-- The lines so far and those to come are the whole list.
use Rattle.std.proofs.Common.{◌≡◌, ◌++◌, drop, string_bytes}
use Rattle.guards.specs.Report.{listed}
use Rattle.guards.proofs.report.opened.Given as goal

abbrev pub invariant-loop-door : goal.invariant-loop-door
invariant-loop-door l = string_bytes l.text ++ listed (drop l.door-index l.doors) ≡ string_bytes l.initial.text ++ listed l.doors
