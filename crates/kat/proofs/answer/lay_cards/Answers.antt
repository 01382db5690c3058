use Rattle.std.proofs.Common.{◌^◌, ◌<◌, sym, ap, ◌∙◌, rules}
use Rattle.block.specs.Blocks.{to_block, to_bytes, xor_bytes}
use Rattle.block.proofs.Bytes.{block_bytes, bytes_block}
use Rattle.kat.proofs.Texts.{laid}
use Rattle.kat.proofs.answer.lay_cards.Goals as goal

pub returns : goal.returns
returns c =
    let a = c.args.first.now in
    let b = c.args.second.now in
    let f = c.in_ok-first_card.ensures in
    let s = c.in_ok-key.ensures in
    let small : c.into_block.result < 2 ^ 128 = search rules in
    laid a b c.into_block.result f.0 s.0
    (λ e. s.1 (sym (bytes_block b c.known_bytes-2.ensures s.0) ∙ ap to_bytes (sym e) ∙ bytes_block a c.known_bytes.ensures f.0 ∙ sym f.1))
    (sym (block_bytes c.into_block.result small) ∙ ap to_block (ap to_bytes c.into_block.ensures ∙ s.2 ∙ ap (λ x. xor_bytes x b) f.1))
