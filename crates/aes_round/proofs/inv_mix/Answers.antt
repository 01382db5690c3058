use mathlib.Core.Path.{ap, ◌∙◌}
use Rattle.std.proofs.Common.{ℕ, List, get_or}
use Rattle.aes_math.specs.Rounds.{Word, word_of, inv_mix_word}
use Rattle.aes_math.specs.Field.{inv_sbox, sbox}
use Rattle.aes_math.proofs.ByteLaws.{inv_sbox-sbox}
use Rattle.aes_math.proofs.StateLaws.{quad}
use Rattle.aes_math.proofs.NumLaws.{word_bytes}
use Rattle.aes_math.specs.Facts.{Bytes}
use Rattle.aes_round.proofs.inv_mix.Goals as goal

pub returns : goal.returns
returns c =
    let w : Word = word_of c.args.w in
    let h : Bytes w = word_bytes c.args.w in
    let bytes = c.to_be_bytes.ensures in
    c.mix.ensures
    ∙ ap inv_mix_word
    (quad
    (ap inv_sbox (c.substitute.ensures ∙ ap (λ (b : List ℕ). sbox (get_or b 0 0)) bytes) ∙ inv_sbox-sbox w.0 h.0)
    (ap inv_sbox (c.substitute-2.ensures ∙ ap (λ (b : List ℕ). sbox (get_or b 1 0)) bytes) ∙ inv_sbox-sbox w.1 h.1)
    (ap inv_sbox (c.substitute-3.ensures ∙ ap (λ (b : List ℕ). sbox (get_or b 2 0)) bytes) ∙ inv_sbox-sbox w.2 h.2)
    (ap inv_sbox (c.substitute-4.ensures ∙ ap (λ (b : List ℕ). sbox (get_or b 3 0)) bytes) ∙ inv_sbox-sbox w.3 h.3))
