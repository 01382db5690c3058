-- The rules of the tables of columns.
use mathlib.Core.Path.{◌≡◌, ap, ◌∙◌}
use Prim.Native.Nat.{ℕ, ◌<◌}
use lib.ListN.{get_or}
use Rattle.aes_math.specs.Field.{sbox, inv_sbox}
use Rattle.aes_math.specs.Rounds.{Word, word_of, num_word}
use Rattle.aes_round.specs.Tables.{Tables}
use Rattle.aes_math.specs.Parts.{mix0, inv0}
use Rattle.aes_math.proofs.FieldLaws.{mul_lt}
use Rattle.aes_math.proofs.ByteLaws.{sbox_lt, inv_sbox_lt, inv_sbox-sbox, sbox-inv_sbox}
use Rattle.aes_math.specs.Facts.{Bytes}
use Rattle.aes_math.proofs.NumLaws.{word_of_num}
use Rattle.aes_math.proofs.Below.{entry}
use Rattle.std.specs.List.{range_with_len}
use Rattle.std.proofs.Common.{map}

-- a table of words by the words' bytes
rule : (f : ℕ → Word) → ((b : ℕ) → b < 256 → Bytes (f b)) → (b : ℕ) → b < 256 → word_of (get_or (map (λ x. num_word (f x)) (range_with_len 0 256)) b 0) ≡ f b
rule f bytes b h = ap word_of (entry (λ x. num_word (f x)) 256 b 0 h) ∙ word_of_num (f b) (bytes b h)

pub te0_rule : (b : ℕ) → b < 256 → word_of (get_or (map (λ x. num_word (mix0 (sbox x))) (range_with_len 0 256)) b 0) ≡ mix0 (sbox b)
te0_rule = rule (λ x. mix0 (sbox x)) (λ b h. (mul_lt 2 (sbox b) (sbox_lt b h), sbox_lt b h, sbox_lt b h, mul_lt 3 (sbox b) (sbox_lt b h)))

pub td0_rule : (b : ℕ) → b < 256 → word_of (get_or (map (λ x. num_word (inv0 (inv_sbox x))) (range_with_len 0 256)) b 0) ≡ inv0 (inv_sbox b)
td0_rule = rule (λ x. inv0 (inv_sbox x)) (λ b h. (mul_lt 14 (inv_sbox b) (inv_sbox_lt b h), mul_lt 9 (inv_sbox b) (inv_sbox_lt b h), mul_lt 13 (inv_sbox b) (inv_sbox_lt b h), mul_lt 11 (inv_sbox b) (inv_sbox_lt b h)))

pub tables_rule : Tables (map sbox (range_with_len 0 256)) (map inv_sbox (range_with_len 0 256))
unfolding sbox
tables_rule b h = (
  entry sbox 256 b 0 h,
  ap (λ (x : ℕ). get_or (map inv_sbox (range_with_len 0 256)) x 0) (entry sbox 256 b 0 h) ∙ entry inv_sbox 256 (sbox b) 0 (sbox_lt b h) ∙ inv_sbox-sbox b h,
  ap (λ (x : ℕ). get_or (map sbox (range_with_len 0 256)) x 0) (entry inv_sbox 256 b 0 h) ∙ entry sbox 256 (inv_sbox b) 0 (inv_sbox_lt b h) ∙ sbox-inv_sbox b h,
)
