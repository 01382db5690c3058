use Rattle.std.proofs.Common.{◌≡◌, ◌/◌, true, length, ◌∙◌, rules}
use Rattle.mode.specs.Modes.{permitted}
use Rattle.mode.proofs.Whole.{whole_blocks}
use Rattle.mode.proofs.Walked.{walked_whole}
use Rattle.xts.specs.Xts.{doubled, masked}
use Rattle.xts.proofs.Xts.turn_text.Goals as goal

pub returns-clause-bytes : goal.returns-clause-bytes
returns-clause-bytes g c =
    let xs = c.args.text.now in
    let ok : permitted (length xs) ≡ true = search rules in
    let all = c.walk_blocks.ensures ∙ walked_whole (masked (g.K.Call.answered c.args.call)) doubled (length xs / 16) _ xs (whole_blocks (length xs) ok) in
    search rules
