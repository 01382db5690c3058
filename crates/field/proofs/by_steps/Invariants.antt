use Rattle.std.proofs.Common.{◌≡◌}
use Rattle.field.specs.Steps.{summed}
use Rattle.field.proofs.by_steps.Given as goal

-- what is left of the bits gives the product
abbrev pub invariant-loop-k : goal.invariant-loop-k
invariant-loop-k l = summed l.k l.x l.z l.v ≡ summed l.bits l.x 0 l.y
