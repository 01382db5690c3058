-- XTS opens what it sealed.
use Rattle.std.specs.Prelude.{◌≡◌, ℕ, ◌*◌, ◌/◌, ◌^◌, ◌<◌, true, List, length, bit_xor}
use Rattle.std.proofs.Common.{sym, ap, ◌∙◌}
use Rattle.std.proofs.lemmas.Nat.{xor_lt}
use Rattle.std.specs.Int.Digits.{AllBelowBase}
use Rattle.block.specs.Blocks.{walk}
use Rattle.block.proofs.Walks.{walk-walk, length-walk, under_walk}
use Rattle.block.proofs.Xor.{xor_back}
use Rattle.mode.specs.Modes.{permitted}
use Rattle.mode.proofs.Whole.{whole_blocks}
use Rattle.xts.specs.Xts.{masked, doubled, blockwise}
use Rattle.xts.specs.Facts.{Undone}
use Rattle.xts.specs.Doubling.{doubled_below}

module _ (e d : ℕ → ℕ) (fits : (x : ℕ) → x < 2 ^ 128 → e x < 2 ^ 128) (back : (x : ℕ) → x < 2 ^ 128 → d (e x) ≡ x) where
  masked_back : (t b : ℕ) → t < 2 ^ 128 → b < 2 ^ 128 → masked d t (masked e t b) ≡ b
  masked_back t b ht hb =
      ap (λ (x : ℕ). bit_xor (d x) t) (xor_back (e (bit_xor b t)) t)
      ∙ ap (λ (x : ℕ). bit_xor x t) (back (bit_xor b t) (xor_lt 128 b t hb ht)) ∙ xor_back b t

  masked_below : (t b : ℕ) → t < 2 ^ 128 → b < 2 ^ 128 → masked e t b < 2 ^ 128
  masked_below t b ht hb = xor_lt 128 (e (bit_xor b t)) t (fits (bit_xor b t) (xor_lt 128 b t hb ht)) ht

  pub blockwise_back : (t : ℕ) (xs : List ℕ) → t < 2 ^ 128 → AllBelowBase 256 xs → permitted (length xs) ≡ true → blockwise d t (blockwise e t xs) ≡ xs
  blockwise_back t xs ht u p =
      let whole : length xs ≡ 16 * (length xs / 16) = whole_blocks (length xs) p in
      let same : length (blockwise e t xs) ≡ length xs = length-walk (masked e) doubled (length xs / 16) t xs ∙ sym whole in
      ap (λ (n : ℕ). walk (masked d) doubled (n / 16) t (blockwise e t xs)) same
      ∙ walk-walk (masked e) (masked d) doubled (λ n s. s < 2 ^ 128) (λ n s h. doubled_below s) (λ n. masked_below) (λ n. masked_back) (length xs / 16) t xs ht u whole

pub blockwise_is : (e : ℕ → ℕ) (t : ℕ) (xs : List ℕ) → permitted (length xs) ≡ true → AllBelowBase 256 (blockwise e t xs) × (length (blockwise e t xs) ≡ length xs)
blockwise_is e t xs p =
    (under_walk (masked e) doubled (length xs / 16) t xs, length-walk (masked e) doubled (length xs / 16) t xs ∙ sym (whole_blocks (length xs) p))

pub undone : Undone
undone e d t₀ o l second =
    let small = second.sealed_below in
    record {
      opens = λ t xs h x. blockwise_back e d l.sealed_below l.opens (t₀ t) xs (small t h) x.bytes x.fits;
      seals = λ t xs h x. blockwise_back d e l.opened_below l.seals (t₀ t) xs (small t h) x.bytes x.fits;
      sealed_length = λ t xs h x. (blockwise_is e (t₀ t) xs x.fits).1;
      opened_length = λ t xs h x. (blockwise_is d (t₀ t) xs x.fits).1;
      sealed_bytes = λ t xs h x. (blockwise_is e (t₀ t) xs x.fits).0;
      opened_bytes = λ t xs h x. (blockwise_is d (t₀ t) xs x.fits).0;
    }
