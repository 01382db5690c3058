-- Rotations as sums.
use Rattle.std.proofs.Common.{◌≡◌, ℕ, ◌+◌, ◌*◌, ◌/◌, ◌%◌, ◌^◌, ◌<◌, ap, ◌∙◌, arith}
use lib.Bits.{bit_or, or_shifted, or_shifted_r}
use Rattle.speck.specs.Speck.{right8, left8, right3, left3}

pub or_left3 : (x : ℕ) → x < 2 ^ 64 → bit_or (x * 8 % 2 ^ 64) (x / 2 ^ 61) ≡ left3 x
or_left3 x h =
    let e : x * 8 % 2 ^ 64 ≡ x % 2 ^ 61 * 2 ^ 3 = omega arith in
    ap (λ (n : ℕ). bit_or n (x / 2 ^ 61)) e ∙ or_shifted (x % 2 ^ 61) 3 (x / 2 ^ 61) (omega arith)

pub or_left8 : (x : ℕ) → x < 2 ^ 64 → bit_or (x * 256 % 2 ^ 64) (x / 2 ^ 56) ≡ left8 x
or_left8 x h =
    let e : x * 256 % 2 ^ 64 ≡ x % 2 ^ 56 * 2 ^ 8 = omega arith in
    ap (λ (n : ℕ). bit_or n (x / 2 ^ 56)) e ∙ or_shifted (x % 2 ^ 56) 8 (x / 2 ^ 56) (omega arith)

pub or_right8 : (x : ℕ) → x < 2 ^ 64 → bit_or (x / 256) (x * 2 ^ 56 % 2 ^ 64) ≡ right8 x
or_right8 x h =
    let e : x * 2 ^ 56 % 2 ^ 64 ≡ x % 256 * 2 ^ 56 = omega arith in
    let s : bit_or (x / 256) (x % 256 * 2 ^ 56) ≡ x % 256 * 2 ^ 56 + x / 256 = or_shifted_r (x % 256) 56 (x / 256) (omega arith) in
    ap (bit_or (x / 256)) e ∙ omega arith

pub or_right3 : (x : ℕ) → x < 2 ^ 64 → bit_or (x / 8) (x * 2 ^ 61 % 2 ^ 64) ≡ right3 x
or_right3 x h =
    let e : x * 2 ^ 61 % 2 ^ 64 ≡ x % 8 * 2 ^ 61 = omega arith in
    let s : bit_or (x / 8) (x % 8 * 2 ^ 61) ≡ x % 8 * 2 ^ 61 + x / 8 = or_shifted_r (x % 8) 61 (x / 8) (omega arith) in
    ap (bit_or (x / 8)) e ∙ omega arith
