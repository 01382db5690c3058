-- XOR and digits.
use Rattle.std.proofs.Common.{◌≡◌, ℕ, zero, suc, ◌*◌, ◌/◌, ◌%◌, ◌^◌, ◌<◌, sym, ap, ◌∙◌, subst, ap₂, le_of_suc-le-suc, not-suc-le-zero, add-zero, zero-mul, arith, pow_pos}
use lib.Bits.{bit_xor, xor_block, xor_mod, xor_shr, xor_assoc, xor_comm, xor_zero_r, xor_self}

-- (a + b) + (c + d) is (a + c) + (b + d)
pub swap : (a b c d : ℕ) → bit_xor (bit_xor a b) (bit_xor c d) ≡ bit_xor (bit_xor a c) (bit_xor b d)
swap a b c d =
    xor_assoc a b (bit_xor c d)
    ∙ ap (bit_xor a) (sym (xor_assoc b c d) ∙ ap (λ (x : ℕ). bit_xor x d) (xor_comm b c) ∙ xor_assoc c b d)
    ∙ sym (xor_assoc a c (bit_xor b d))

pub undo : (a k : ℕ) → bit_xor (bit_xor a k) k ≡ a
undo a k = xor_assoc a k k ∙ ap (bit_xor a) (xor_self k) ∙ xor_zero_r a

pub shl_xor : (x y k : ℕ) → bit_xor x y * 2 ^ k ≡ bit_xor (x * 2 ^ k) (y * 2 ^ k)
shl_xor x y k =
    sym (add-zero (bit_xor x y * 2 ^ k)) ∙ sym (xor_block k x y 0 0 (pow_pos k) (pow_pos k))
    ∙ ap₂ bit_xor (add-zero (x * 2 ^ k)) (add-zero (y * 2 ^ k))

pub double : (x y : ℕ) → bit_xor x y * 2 ≡ bit_xor (x * 2) (y * 2)
double x y = shl_xor x y 1

no_digit : {A : Type 0} {x : ℕ} → suc (suc x) < 2 → A
no_digit h = absurd (not-suc-le-zero (le_of_suc-le-suc (le_of_suc-le-suc h)))

-- a sum of digits times m
pub digits_scale : (p q m : ℕ) → p < 2 → q < 2 → bit_xor p q * m ≡ bit_xor (p * m) (q * m)
digits_scale zero q m hp hq = sym (ap (λ (x : ℕ). bit_xor x (q * m)) (zero-mul m))
digits_scale (suc zero) zero m hp hq = sym (ap (bit_xor (1 * m)) (zero-mul m) ∙ xor_zero_r (1 * m))
digits_scale (suc zero) (suc zero) m hp hq = zero-mul m ∙ sym (xor_self (1 * m))
digits_scale (suc zero) (suc (suc q)) m hp hq = no_digit hq
digits_scale (suc (suc p)) q m hp hq = no_digit hp

-- a digit times a sum
pub scale_xor : (p a b : ℕ) → p < 2 → p * bit_xor a b ≡ bit_xor (p * a) (p * b)
scale_xor zero a b h = zero-mul (bit_xor a b) ∙ sym (ap₂ bit_xor (zero-mul a) (zero-mul b))
scale_xor (suc zero) a b h =
    let e : (n : ℕ) → 1 * n ≡ n = λ n. omega arith in
    e (bit_xor a b) ∙ sym (ap₂ bit_xor (e a) (e b))
scale_xor (suc (suc p)) a b h = no_digit h

-- bit k of a sum
pub bit_xor_lem : (a b k : ℕ) → bit_xor a b / 2 ^ k % 2 ≡ bit_xor (a / 2 ^ k % 2) (b / 2 ^ k % 2)
bit_xor_lem a b k = ap (λ (x : ℕ). x % 2) (xor_shr a b k) ∙ xor_mod (a / 2 ^ k) (b / 2 ^ k) 1

pub bit_scale : (a b k m : ℕ) → bit_xor a b / 2 ^ k % 2 * m ≡ bit_xor (a / 2 ^ k % 2 * m) (b / 2 ^ k % 2 * m)
bit_scale a b k m = ap (λ (x : ℕ). x * m) (bit_xor_lem a b k) ∙ digits_scale (a / 2 ^ k % 2) (b / 2 ^ k % 2) m (omega arith) (omega arith)

-- what holds at 0 and at v holds at a digit times v
pub digit_cases : (P : ℕ → Type 0) (p v : ℕ) → p < 2 → P 0 → P v → P (p * v)
digit_cases P zero v h z o = subst P (sym (zero-mul v)) z
digit_cases P (suc zero) v h z o = let e : v ≡ 1 * v = omega arith in subst P e o
digit_cases P (suc (suc p)) v h z o = no_digit h
