-- The digits of the bytes so far.
use Rattle.std.proofs.Common.{◌≡◌, take, string_bytes}
use Rattle.hexadecimal.specs.Hex.{encoded}
use Rattle.hexadecimal.proofs.encode.Given as goal

abbrev pub invariant-loop-b : goal.invariant-loop-b
invariant-loop-b l = string_bytes l.text ≡ encoded (take l.b-index l.bytes)
