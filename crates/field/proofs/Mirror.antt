-- The opposite order of bits.
use Rattle.std.proofs.Common.{◌≡◌, ℕ, zero, suc, ◌+◌, ◌*◌, ◌/◌, ◌%◌, ◌^◌, ◌<◌, sym, refl, ap, ◌∙◌, ap₂, add-zero, mul_assoc, pow-suc, zero-mul, div-one, arith}
use native.Mathlib.Nat.{mod-one}
use lib.Arith.{digits_div, digits_mod}
use lib.Bits.{bit_xor, xor_block, xor_shifted, xor_assoc, xor_comm}
use lib.Pow.{mod-pow-add}
use Rattle.field.specs.Steps.{halved}
use Rattle.field.specs.Polynomials.{mirrored}
use Rattle.field.proofs.Xor.{undo, bit_xor_lem, scale_xor}
use Rattle.field.proofs.Times.{half_bit}

pub mirrored_below : (n x : ℕ) → mirrored n x < 2 ^ n
unfolding mirrored
mirrored_below zero x = omega arith
mirrored_below (suc n) x = let h = mirrored_below n x in rw pow-suc (omega arith)

pub mirrored_xor : (n a b : ℕ) → mirrored n (bit_xor a b) ≡ bit_xor (mirrored n a) (mirrored n b)
unfolding mirrored
mirrored_xor zero a b = refl
mirrored_xor (suc n) a b =
    ap₂ (λ (x y : ℕ). x * 2 + y) (mirrored_xor n a b) (bit_xor_lem a b n)
    ∙ sym (xor_block 1 (mirrored n a) (mirrored n b) (a / 2 ^ n % 2) (b / 2 ^ n % 2) (omega arith) (omega arith))

-- from the low end
pub mirrored_low : (n x : ℕ) → mirrored (suc n) x ≡ x % 2 * 2 ^ n + mirrored n (x / 2)
unfolding mirrored
mirrored_low zero x = ap (λ (y : ℕ). 0 * 2 + y % 2) (div-one x) ∙ omega arith
mirrored_low (suc n) x =
    let ih : mirrored n x * 2 + x / 2 ^ n % 2 ≡ x % 2 * 2 ^ n + mirrored n (x / 2) = mirrored_low n x in
    let e : x % 2 * 2 ^ suc n ≡ x % 2 * 2 ^ n * 2 = ap (λ (m : ℕ). x % 2 * m) (pow-suc 2 n) ∙ sym (mul_assoc (x % 2) (2 ^ n) 2) in
    let b : x / 2 ^ suc n ≡ x / 2 / 2 ^ n = sym (half_bit x n) in
    ap₂ (λ (u v : ℕ). u * 2 + v % 2) ih b ∙ omega arith

pub mirrored-twice : (n x : ℕ) → mirrored n (mirrored n x) ≡ x % 2 ^ n
unfolding mirrored
mirrored-twice zero x = sym (mod-one x)
mirrored-twice (suc n) x =
    let y : ℕ = mirrored n x * 2 + x / 2 ^ n % 2 in
    let a : y % 2 ≡ x / 2 ^ n % 2 = digits_mod (mirrored n x) (omega arith) in
    let b : y / 2 ≡ mirrored n x = digits_div (mirrored n x) (omega arith) in
    mirrored_low n y ∙ ap₂ (λ (u v : ℕ). u * 2 ^ n + mirrored n v) a b
    ∙ ap (λ (v : ℕ). x / 2 ^ n % 2 * 2 ^ n + v) (mirrored-twice n x)
    ∙ sym (mod-pow-add x 1 n) ∙ ap (λ (k : ℕ). x % 2 ^ k) (omega arith)

-- ---- one step to the right, mirrored, is the product by x less a multiple of the modulus

abbrev E : ℕ
E = 0xe100_0000_0000_0000_0000_0000_0000_0000

pub mirrored_suc : (n x : ℕ) → mirrored (suc n) x ≡ mirrored n x * 2 + x / 2 ^ n % 2
unfolding mirrored
mirrored_suc n x = refl

mirrored_half : (w : ℕ) → w < 2 ^ 128 → mirrored 128 (w / 2) ≡ bit_xor (mirrored 128 w * 2) (w % 2 * 2 ^ 128)
mirrored_half w h =
    let z : w / 2 / 2 ^ 127 % 2 ≡ 0 = omega arith in
    let l : mirrored 128 w ≡ w % 2 * 2 ^ 127 + mirrored 127 (w / 2) = mirrored_low 127 w in
    let t : mirrored 128 (w / 2) ≡ mirrored 127 (w / 2) * 2 = mirrored_suc 127 (w / 2) ∙ ap (λ (u : ℕ). mirrored 127 (w / 2) * 2 + u) z ∙ add-zero (mirrored 127 (w / 2) * 2) in
    let e : mirrored 128 w * 2 ≡ w % 2 * 2 ^ 128 + mirrored 128 (w / 2) = omega (arith, l, t) in
    let x : mirrored 128 w * 2 ≡ bit_xor (mirrored 128 (w / 2)) (w % 2 * 2 ^ 128) =
    e ∙ sym (xor_shifted (w % 2) 128 (mirrored 128 (w / 2)) (mirrored_below 128 (w / 2))) ∙ xor_comm (w % 2 * 2 ^ 128) (mirrored 128 (w / 2)) in
    sym (undo (mirrored 128 (w / 2)) (w % 2 * 2 ^ 128)) ∙ ap (λ (u : ℕ). bit_xor u (w % 2 * 2 ^ 128)) (sym x)

mirrored-digit : (p : ℕ) → p < 2 → mirrored 128 (p * E) ≡ p * 0x87
unfolding mirrored
mirrored-digit zero h = refl
mirrored-digit (suc zero) h = refl
mirrored-digit (suc (suc p)) h = let no : ⊥ = omega arith in absurd no

pub mirrored-halved : (w : ℕ) → w < 2 ^ 128 → mirrored 128 (halved w) ≡ bit_xor (w % 2 * 0x1_0000_0000_0000_0000_0000_0000_0000_0087) (mirrored 128 w * 2)
unfolding halved
mirrored-halved w h =
    let p : ℕ = w % 2 in
    mirrored_xor 128 (w / 2) (p * E)
    ∙ ap₂ bit_xor (mirrored_half w h) (mirrored-digit p (omega arith))
    ∙ xor_assoc (mirrored 128 w * 2) (p * 2 ^ 128) (p * 0x87)
    ∙ ap (bit_xor (mirrored 128 w * 2)) (sym (scale_xor p (2 ^ 128) 0x87 (omega arith)))
    ∙ xor_comm (mirrored 128 w * 2) (p * 0x1_0000_0000_0000_0000_0000_0000_0000_0087)

mirrored_zero : (k : ℕ) → mirrored k 0 ≡ 0
unfolding mirrored
mirrored_zero zero = refl
mirrored_zero (suc k) = ap₂ (λ (x y : ℕ). x * 2 + y % 2) (mirrored_zero k) (native.Mathlib.Nat.zero-div (2 ^ k))

pub mirrored-scale : (n p v : ℕ) → p < 2 → mirrored n (p * v) ≡ p * mirrored n v
mirrored-scale n zero v h = ap (mirrored n) (zero-mul v) ∙ mirrored_zero n ∙ sym (zero-mul (mirrored n v))
mirrored-scale n (suc zero) v h =
    let e : (y : ℕ) → 1 * y ≡ y = λ y. omega arith in ap (mirrored n) (e v) ∙ sym (e (mirrored n v))
mirrored-scale n (suc (suc p)) v h = let no : ⊥ = omega arith in absurd no
