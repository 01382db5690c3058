use Rattle.std.proofs.Common.{◌≡◌, refl, length, ◌∙◌, rules, arith}
use Rattle.aes.proofs.Keys.{reversed}
use Rattle.aes.proofs.inv_expand.Goals as goal

pub returns : goal.returns
returns c =
    let mixed = c.mix_keys.new.keys in
    let l : length mixed ≡ 11 = search rules in
    reversed c.args.enc.now mixed c.reverse.new.self (c.reverse.ensures.len ∙ l)
    (λ i h. c.reverse.ensures.by_index i 0 (omega arith) ∙ rw l refl) c.mix_keys.ensures.fits c.mix_keys.ensures.mixed
