use Rattle.std.proofs.Common.{◌≡◌, drop}
use Rattle.field.specs.Field.{absorbed}
use Rattle.field.proofs.HashKey.hash.Given as goal

-- what is left of the blocks gives the hash
abbrev pub invariant-loop-block : goal.invariant-loop-block
invariant-loop-block l = absorbed l.self.h l.sum (drop l.block-index l.blocks) ≡ absorbed l.self.h 0 l.blocks
