-- The value of the digits so far, within the limit.
use Rattle.std.proofs.Common.{◌≡◌, ◌≤◌, take}
use Rattle.decimal.specs.Decimal.{decimal}
use Rattle.decimal.proofs.value.Given as goal

abbrev pub invariant-loop-b : goal.invariant-loop-b
invariant-loop-b l = (l.v ≡ decimal 0 (take l.b-index l.s)) × (l.v ≤ l.limit)
