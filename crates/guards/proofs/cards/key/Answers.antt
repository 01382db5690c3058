use Rattle.std.proofs.Common.{ℕ, ◌^◌, ◌<◌, Ok, sym, ap, ◌∙◌, rules}
use Rattle.block.specs.Blocks.{to_block, xor_bytes}
use Rattle.block.proofs.Bytes.{block_bytes}
use Rattle.keys.specs.Cards.{whole_key}
use Rattle.guards.proofs.cards.key.Goals as goal

pub returns : goal.returns
returns c = λ _.
    let f = c.in_ok-first_card.ensures in
    let s = c.in_ok-second_card.ensures in
    let n = c.in_ok-second_card.field-0.value in
    let small : n < 2 ^ 128 = search rules in
    ap (λ (v : ℕ). Ok (whole_key v))
    (sym (block_bytes n small) ∙ ap to_block (s.2 ∙ ap (λ x. xor_bytes x c.args.guard.now) f.1))
