-- The stepwise of blocks as a Horner sum, and its laws.
use Rattle.std.proofs.Common.{◌≡◌, ℕ, zero, suc, ◌+◌, ◌*◌, ◌/◌, ◌%◌, ◌^◌, ◌<◌, sym, refl, ap, ◌∙◌, ap₂, pow-suc, zero-mul, arith, pow_pos}
use lib.Bits.{bit_xor, xor_mod, xor_shr, xor_assoc, xor_zero_r, xor_lt}
use Rattle.field.specs.Steps.{halved, added, summed, stepwise}
use Rattle.field.proofs.Xor.{swap, digits_scale, bit_scale, digit_cases}

abbrev E : ℕ
E = 0xe100_0000_0000_0000_0000_0000_0000_0000

pub halved_xor : (a b : ℕ) → halved (bit_xor a b) ≡ bit_xor (halved a) (halved b)
unfolding halved
halved_xor a b =
    ap₂ bit_xor (xor_shr a b 1) (ap (λ (x : ℕ). x * E) (xor_mod a b 1) ∙ digits_scale (a % 2) (b % 2) E (omega arith) (omega arith))
    ∙ swap (a / 2) (b / 2) (a % 2 * E) (b % 2 * E)

pub halved_zero : halved 0 ≡ 0
unfolding halved
halved_zero = refl

pub halved_even : (n : ℕ) → halved (n * 2) ≡ n
unfolding halved
halved_even n =
    let a : n * 2 / 2 ≡ n = omega arith in
    let b : n * 2 % 2 ≡ 0 = omega arith in
    ap₂ (λ (x y : ℕ). bit_xor x (y * E)) a b ∙ xor_zero_r n

halved-digit : (p v : ℕ) → p < 2 → halved (p * v) ≡ p * halved v
halved-digit zero v h = ap halved (zero-mul v) ∙ halved_zero ∙ sym (zero-mul (halved v))
halved-digit (suc zero) v h =
    let e : (n : ℕ) → 1 * n ≡ n = λ n. omega arith in ap halved (e v) ∙ sym (e (halved v))
halved-digit (suc (suc p)) v h = let no : ⊥ = omega arith in absurd no

-- the last n bits of x, the last first
unfoldable pub horner : ℕ → ℕ → ℕ → ℕ
horner zero x v = 0
horner (suc n) x v = bit_xor (x / 2 ^ n % 2 * v) (halved (horner n x v))

pub horner_suc : (n x v : ℕ) → horner (suc n) x v ≡ bit_xor (x / 2 ^ n % 2 * v) (halved (horner n x v))
unfolding horner
horner_suc n x v = refl

pub horner_halved : (n x v : ℕ) → horner n x (halved v) ≡ halved (horner n x v)
unfolding horner
horner_halved zero x v = sym halved_zero
horner_halved (suc n) x v =
    ap₂ bit_xor (sym (halved-digit (x / 2 ^ n % 2) v (omega arith))) (ap halved (horner_halved n x v))
    ∙ sym (halved_xor (x / 2 ^ n % 2 * v) (halved (horner n x v)))

summed_is : (n x z v : ℕ) → summed n x z v ≡ bit_xor z (horner n x v)
unfolding horner added
summed_is zero x z v = sym (xor_zero_r z)
summed_is (suc n) x z v =
    summed_is n x (bit_xor z (x / 2 ^ n % 2 * v)) (halved v)
    ∙ xor_assoc z (x / 2 ^ n % 2 * v) (horner n x (halved v))
    ∙ ap (λ (y : ℕ). bit_xor z (bit_xor (x / 2 ^ n % 2 * v) y)) (horner_halved n x v)

pub stepwise_is : (x y : ℕ) → stepwise x y ≡ horner 128 x y
unfolding stepwise
stepwise_is x y = summed_is 128 x 0 y

horner_xor : (n a b v : ℕ) → horner n (bit_xor a b) v ≡ bit_xor (horner n a v) (horner n b v)
unfolding horner
horner_xor zero a b v = refl
horner_xor (suc n) a b v =
    ap₂ bit_xor (bit_scale a b n v) (ap halved (horner_xor n a b v) ∙ halved_xor (horner n a v) (horner n b v))
    ∙ swap (a / 2 ^ n % 2 * v) (b / 2 ^ n % 2 * v) (halved (horner n a v)) (halved (horner n b v))

pub stepwise_xor : (a b v : ℕ) → stepwise (bit_xor a b) v ≡ bit_xor (stepwise a v) (stepwise b v)
stepwise_xor a b v = stepwise_is (bit_xor a b) v ∙ horner_xor 128 a b v ∙ sym (ap₂ bit_xor (stepwise_is a v) (stepwise_is b v))

-- a bit lower
horner_double : (n y v : ℕ) → horner (suc n) (y * 2) v ≡ horner n y v
unfolding horner
horner_double zero y v =
    let b : y * 2 / 1 % 2 ≡ 0 = omega arith in
    ap₂ (λ (p q : ℕ). bit_xor (p * v) q) b halved_zero ∙ ap (λ (p : ℕ). bit_xor p 0) (zero-mul v)
horner_double (suc n) y v =
    let e : y * 2 / 2 ^ suc n ≡ y / 2 ^ n = ap (λ (m : ℕ). y * 2 / m) (pow-suc 2 n ∙ native.Mathlib.Nat.mul_comm (2 ^ n) 2) ∙ sym (native.Mathlib.Nat.div-div-eq-div-mul (y * 2) 2 (2 ^ n)) ∙ ap (λ (m : ℕ). m / 2 ^ n) (native.Mathlib.Nat.mul-div_cancel y (omega arith)) in
    ap₂ (λ (p q : ℕ). bit_xor (p % 2 * v) (halved q)) e (horner_double n y v)

pub stepwise_half : (y v : ℕ) → y < 2 ^ 127 → stepwise y v ≡ halved (stepwise (y * 2) v)
unfolding horner
stepwise_half y v h =
    let b : y / 2 ^ 127 % 2 ≡ 0 = omega arith in
    stepwise_is y v ∙ ap (λ (p : ℕ). bit_xor (p * v) (halved (horner 127 y v))) b
    ∙ ap (λ (p : ℕ). bit_xor p (halved (horner 127 y v))) (zero-mul v)
    ∙ ap halved (sym (horner_double 127 y v) ∙ sym (stepwise_is (y * 2) v))

horner_zero : (n v : ℕ) → horner n 0 v ≡ 0
unfolding horner
horner_zero zero v = refl
horner_zero (suc n) v =
    let b : 0 / 2 ^ n % 2 ≡ 0 = ap (λ (x : ℕ). x % 2) (native.Mathlib.Nat.zero-div (2 ^ n)) in
    ap₂ (λ (p q : ℕ). bit_xor (p * v) (halved q)) b (horner_zero n v) ∙ ap₂ bit_xor (zero-mul v) halved_zero

pub stepwise_zero : (v : ℕ) → stepwise 0 v ≡ 0
stepwise_zero v = stepwise_is 0 v ∙ horner_zero 128 v

pub halved_below : (v : ℕ) → v < 2 ^ 128 → halved v < 2 ^ 128
unfolding halved
halved_below v h = xor_lt 128 (v / 2) (v % 2 * E) (omega arith) (omega arith)

pub horner_below : (n x v : ℕ) → v < 2 ^ 128 → horner n x v < 2 ^ 128
unfolding horner
horner_below zero x v h = omega arith
horner_below (suc n) x v h =
    xor_lt 128 (x / 2 ^ n % 2 * v) (halved (horner n x v))
    (digit_cases (λ (y : ℕ). y < 2 ^ 128) (x / 2 ^ n % 2) v (omega arith) (omega arith) h) (halved_below (horner n x v) (horner_below n x v h))

horner_past : (n v : ℕ) → horner n (2 ^ n) v ≡ 0
unfolding horner
horner_past zero v = refl
horner_past (suc n) v = ap (λ (x : ℕ). horner (suc n) x v) (pow-suc 2 n) ∙ horner_double n (2 ^ n) v ∙ horner_past n v

-- the highest of n + 1 bits alone
horner_unit : (n v : ℕ) → horner (suc n) (2 ^ n) v ≡ v
horner_unit n v =
    let b : 2 ^ n / 2 ^ n % 2 ≡ 1 = ap (λ (x : ℕ). x % 2) (native.Mathlib.Nat.div_self (pow_pos n)) in
    let e : 1 * v ≡ v = omega arith in
    horner_suc n (2 ^ n) v ∙ ap₂ (λ (p q : ℕ). bit_xor (p * v) (halved q)) b (horner_past n v) ∙ ap₂ bit_xor e halved_zero ∙ xor_zero_r v

pub stepwise_one : (v : ℕ) → stepwise (2 ^ 127) v ≡ v
stepwise_one v = stepwise_is (2 ^ 127) v ∙ horner_unit 127 v

pub stepwise_by_x : (v : ℕ) → stepwise (2 ^ 126) v ≡ halved v
stepwise_by_x v =
    stepwise_is (2 ^ 126) v ∙ horner_suc 127 (2 ^ 126) v ∙ ap₂ (λ (p q : ℕ). bit_xor p (halved q)) (zero-mul v) (horner_unit 126 v)

horner_shl : (n y v j : ℕ) → horner (n + j) (y * 2 ^ j) v ≡ horner n y v
horner_shl n y v zero = ap₂ (λ (k x : ℕ). horner k x v) (native.Mathlib.Nat.add-zero n) (native.Mathlib.Nat.mul-one y)
horner_shl n y v (suc j) =
    ap₂ (λ (k x : ℕ). horner k x v) (native.Mathlib.Nat.add-suc n j) (ap (λ (x : ℕ). y * x) (pow-suc 2 j) ∙ sym (native.Mathlib.Nat.mul_assoc y (2 ^ j) 2))
    ∙ horner_double (n + j) (y * 2 ^ j) v ∙ horner_shl n y v j

-- the four highest bits
pub stepwise_top : (k v : ℕ) → summed 4 k 0 v ≡ stepwise (k * 2 ^ 124) v
stepwise_top k v = summed_is 4 k 0 v ∙ sym (stepwise_is (k * 2 ^ 124) v ∙ horner_shl 4 k v 124)
