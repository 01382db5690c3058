use Rattle.std.proofs.Common.{◌≡◌, drop}
use Rattle.field.specs.Field.{absorbed}
use Rattle.xcb.proofs.Bytes.{block_list}
use Rattle.xcb.proofs.Frame.hash.Given as goal

-- what is left of the blocks gives the hash of all
abbrev pub invariant-loop-block : goal.invariant-loop-block
invariant-loop-block l =
    absorbed l.key.h l.sum (block_list (drop l.block-index l.blocks)) ≡ absorbed l.key.h l.initial.sum (block_list l.blocks)
