-- The four words of the next round key.
use Rattle.std.proofs.Common.{◌≡◌, ℕ, refl, ap, ◌∙◌}
use lib.Bits.{bit_xor}
use Rattle.aes_math.specs.Rounds.{Word, State, add_word, sub_word, rot_word, word_of}
use Rattle.aes_math.proofs.StateLaws.{quad}
use Rattle.aes_math.proofs.WordSums.{both_are}
use Rattle.aes.specs.Aes128.{next_key}

pub key_is : (x a b c d w v : ℕ) (k : State) → (word_of a, word_of b, word_of c, word_of d) ≡ k → word_of w ≡ sub_word (rot_word (word_of d)) → word_of v ≡ (x, 0, 0, 0)
    → (word_of (bit_xor (bit_xor a w) v), word_of (bit_xor b (bit_xor (bit_xor a w) v)), word_of (bit_xor c (bit_xor b (bit_xor (bit_xor a w) v))), word_of (bit_xor d (bit_xor c (bit_xor b (bit_xor (bit_xor a w) v))))) ≡ next_key x k
unfolding next_key
key_is x a b c d w v k ek ew ev =
    let p : ℕ = bit_xor (bit_xor a w) v in
    let p' : Word = add_word (add_word (word_of a) (sub_word (rot_word (word_of d)))) (x, 0, 0, 0) in
    let ep : word_of p ≡ p' = both_are (bit_xor a w) v (add_word (word_of a) (sub_word (rot_word (word_of d)))) (x, 0, 0, 0) (both_are a w (word_of a) (sub_word (rot_word (word_of d))) refl ew) ev in
    let q : ℕ = bit_xor b p in
    let q' : Word = add_word (word_of b) p' in
    let eq : word_of q ≡ q' = both_are b p (word_of b) p' refl ep in
    let r : ℕ = bit_xor c q in
    let r' : Word = add_word (word_of c) q' in
    let er : word_of r ≡ r' = both_are c q (word_of c) q' refl eq in
    quad ep eq er (both_are d r (word_of d) r' refl er) ∙ ap (next_key x) ek
