use Rattle.std.proofs.Common.{◌^◌, ◌<◌, ap, ◌∙◌, rules}
use Rattle.block.specs.Blocks.{to_bytes, xor_bytes}
use Rattle.block.proofs.Xor.{xor_to_bytes}
use Rattle.keys.proofs.Same.{same_bytes}
use Rattle.keys.proofs.HalfKey.second_card.Goals as goal

pub returns : goal.returns
returns c =
    let w = c.in-Some.ensures in
    let first = c.args.self.card in
    let second = c.in-Some.second in
    let hs : c.in-Some.second < 2 ^ 128 = search rules in
    let hf : c.args.self.card < 2 ^ 128 = search rules in (
      w.long,
      (λ e. c.if-second-self.false (same_bytes second first hs hf (w.bytes ∙ e))),
      xor_to_bytes first second ∙ ap (xor_bytes (to_bytes first)) w.bytes,
    )
