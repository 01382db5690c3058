-- The bytes of the digits so far.
use Rattle.std.proofs.Common.{◌*◌, take, vec_items}
use Rattle.hexadecimal.specs.Hex.{Decodes}
use Rattle.hexadecimal.proofs.decode.Given as goal

abbrev pub invariant-loop-high : goal.invariant-loop-high
invariant-loop-high l = Decodes (take (2 * l.high-index) l.text) (vec_items l.bytes)
