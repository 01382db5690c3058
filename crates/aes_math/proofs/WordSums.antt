-- What the code's sums of words are.
use Rattle.std.proofs.Common.{◌≡◌, ℕ, ap, ◌∙◌}
use lib.Bits.{bit_xor}
use Rattle.aes_math.specs.Rounds.{Word, add_word, word_of}
use Rattle.aes_math.proofs.StateLaws.{total}
use Rattle.aes_math.proofs.NumLaws.{word_xor}

pub add_is : (t k : ℕ) (w : Word) → word_of t ≡ w → word_of (bit_xor t k) ≡ add_word w (word_of k)
add_is t k w e = word_xor t k ∙ ap (λ (x : Word). add_word x (word_of k)) e

pub both_are : (t k : ℕ) (v w : Word) → word_of t ≡ v → word_of k ≡ w → word_of (bit_xor t k) ≡ add_word v w
both_are t k v w e f = add_is t k v e ∙ ap (add_word v) f

pub total_is : (t u v w k : ℕ) (p q r s : Word) → word_of t ≡ p → word_of u ≡ q → word_of v ≡ r → word_of w ≡ s
    → word_of (bit_xor (bit_xor (bit_xor (bit_xor t u) v) w) k) ≡ add_word (total p q r s) (word_of k)
total_is t u v w k p q r s ep eq er es =
    add_is (bit_xor (bit_xor (bit_xor t u) v) w) k (total p q r s)
    (both_are (bit_xor (bit_xor t u) v) w (add_word (add_word p q) r) s
    (both_are (bit_xor t u) v (add_word p q) r (both_are t u p q ep eq) er) es)

pub total4_is : (t u v w : ℕ) (p q r s : Word) → word_of t ≡ p → word_of u ≡ q → word_of v ≡ r → word_of w ≡ s
    → word_of (bit_xor (bit_xor (bit_xor t u) v) w) ≡ total p q r s
total4_is t u v w p q r s ep eq er es =
    both_are (bit_xor (bit_xor t u) v) w (add_word (add_word p q) r) s
    (both_are (bit_xor t u) v (add_word p q) r (both_are t u p q ep eq) er) es
