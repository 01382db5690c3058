use Rattle.std.proofs.Common.{◌≡◌, ◌-◌, ◌*◌, ◌/◌, ◌%◌, ◌^◌}
use Rattle.field.specs.Steps.{stepwise}
use Rattle.field.proofs.HashKey.times.Given as goal

-- x moved up by what was taken of it, and the product of that
abbrev pub invariant-loop-row : goal.invariant-loop-row
invariant-loop-row l = record {
  left : l.rest ≡ l.x * 2 ^ (4 * l.row-index) % 2 ^ 128;
  taken : l.z ≡ stepwise (l.x / 2 ^ (128 - 4 * l.row-index) * 2 ^ (128 - 4 * l.row-index)) l.self.h;
}
