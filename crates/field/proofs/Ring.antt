-- Products of polynomials: order, and multiples of multiples.
use Rattle.std.proofs.Common.{◌≡◌, ℕ, zero, suc, ◌+◌, ◌-◌, ◌*◌, ◌/◌, ◌%◌, ◌^◌, ◌<◌, ◌≤◌, sym, refl, ap, ◌∙◌, subst, ap₂, add-zero, add-suc, mod-eq_of_lt, mul_assoc, mul_comm, suc-add, pow-suc, zero-add, zero-mul, mul-one, arith, pow_pos}
use native.Mathlib.Nat.{mod-one}
use lib.Arith.{digits_div, digits_mod}
use lib.Bits.{bit_xor, xor_comm, xor_shifted}
use lib.Pow.{mod-pow-add, field, mod-mod-pow}
use Rattle.field.specs.Polynomials.{times}
use Rattle.field.proofs.Xor.{swap, double, scale_xor}
use Rattle.field.proofs.Times.{times_xor, times_sum, times_shl, times_zero, times_low}

pub times_suc : (n a b : ℕ) → times (suc n) a b ≡ bit_xor (times n a b) (a / 2 ^ n % 2 * (b * 2 ^ n))
unfolding times
times_suc n a b = refl

-- one more coefficient at the low end
pub times_more : (n a p b : ℕ) → p < 2 → times (suc n) (a * 2 + p) b ≡ bit_xor (p * b) (times n a b * 2)
times_more n a p b h =
    times_low n (a * 2 + p) b ∙ ap₂ (λ (u v : ℕ). bit_xor (u * b) (times n v b * 2)) (digits_mod a h) (digits_div a h)

pub times_one : (n a : ℕ) → times n a 1 ≡ a % 2 ^ n
unfolding times
times_one zero a = sym (mod-one a)
times_one (suc n) a =
    let p : ℕ = a / 2 ^ n % 2 in
    let e : 1 * 2 ^ n ≡ 2 ^ n = omega arith in
    ap₂ (λ (x y : ℕ). bit_xor x (p * y)) (times_one n a) e
    ∙ xor_comm (a % 2 ^ n) (p * 2 ^ n) ∙ xor_shifted p n (a % 2 ^ n) (native.Mathlib.Nat.mod-lt a (pow_pos n))
    ∙ sym (mod-pow-add a 1 n) ∙ ap (λ (k : ℕ). a % 2 ^ k) (omega arith)

times_nil : (n a : ℕ) → times n a 0 ≡ 0
unfolding times
times_nil zero a = refl
times_nil (suc n) a = ap₂ (λ (x y : ℕ). bit_xor x (a / 2 ^ n % 2 * y)) (times_nil n a) (zero-mul (2 ^ n)) ∙ native.Mathlib.Nat.mul-zero (a / 2 ^ n % 2)

times_bit : (n a p : ℕ) → p < 2 → a < 2 ^ n → times n a p ≡ p * a
times_bit n a zero h l = times_nil n a ∙ sym (zero-mul a)
times_bit n a (suc zero) h l = times_one n a ∙ mod-eq_of_lt l ∙ omega arith
times_bit n a (suc (suc p)) h l = let no : ⊥ = omega arith in absurd no

-- both factors taken apart
parted : (n a b : ℕ) → a < 2 ^ suc n
    → times (suc n) a b ≡ bit_xor (bit_xor (a % 2 * (b / 2) * 2) (a % 2 * (b % 2))) (bit_xor (times n (a / 2) (b / 2) * 2 * 2) (b % 2 * (a / 2) * 2))
parted n a b h =
    let a0 : ℕ = a % 2 in
    let a1 : ℕ = a / 2 in
    let b0 : ℕ = b % 2 in
    let b1 : ℕ = b / 2 in
    let t : ℕ = times n a1 b1 in
    let small : a1 < 2 ^ n = (native.Mathlib.Nat.div-lt_iff_lt-mul {k = 2} {x = a} {y = 2 ^ n} (omega arith)).1 (subst (λ (k : ℕ). a < k) (pow-suc 2 n) h) in
    let eb : b ≡ bit_xor (b1 * 2) b0 = sym (xor_shifted b1 1 b0 (omega arith) ∙ omega arith) in
    let f : times n a1 b ≡ bit_xor (t * 2) (b0 * a1) =
    ap (times n a1) eb ∙ times_sum n a1 (b1 * 2) b0 ∙ ap₂ bit_xor (times_shl n a1 b1 1) (times_bit n a1 b0 (omega arith) small) in
    let g : a0 * b ≡ bit_xor (a0 * b1 * 2) (a0 * b0) =
    ap (λ (x : ℕ). a0 * x) eb ∙ scale_xor a0 (b1 * 2) b0 (omega arith) ∙ ap (λ (x : ℕ). bit_xor x (a0 * b0)) (sym (mul_assoc a0 b1 2)) in
    times_low n a b ∙ ap₂ bit_xor g (ap (λ (x : ℕ). x * 2) f ∙ double (t * 2) (b0 * a1))

around : (u w t v : ℕ) → bit_xor (bit_xor u w) (bit_xor t v) ≡ bit_xor (bit_xor v w) (bit_xor t u)
around u w t v =
    swap u w t v ∙ ap₂ bit_xor (xor_comm u t) (xor_comm w v) ∙ xor_comm (bit_xor t u) (bit_xor v w)

pub times_comm : (n a b : ℕ) → a < 2 ^ n → b < 2 ^ n → times n a b ≡ times n b a
unfolding times
times_comm zero a b ha hb = refl
times_comm (suc n) a b ha hb =
    let half : (x : ℕ) → x < 2 ^ suc n → x / 2 < 2 ^ n = λ x h. (native.Mathlib.Nat.div-lt_iff_lt-mul {k = 2} {x = x} {y = 2 ^ n} (omega arith)).1 (subst (λ (k : ℕ). x < k) (pow-suc 2 n) h) in
    let ih : times n (a / 2) (b / 2) ≡ times n (b / 2) (a / 2) = times_comm n (a / 2) (b / 2) (half a ha) (half b hb) in
    parted n a b ha
    ∙ around (a % 2 * (b / 2) * 2) (a % 2 * (b % 2)) (times n (a / 2) (b / 2) * 2 * 2) (b % 2 * (a / 2) * 2)
    ∙ ap₂ (λ (x y : ℕ). bit_xor (bit_xor (b % 2 * (a / 2) * 2) x) (bit_xor (y * 2 * 2) (a % 2 * (b / 2) * 2))) (mul_comm (a % 2) (b % 2)) ih
    ∙ sym (parted n b a hb)

-- ---- multiples

-- more coefficients, all 0
pub lift : (n k q m : ℕ) → times n q m ≡ times (n + k) (q % 2 ^ n) m
unfolding times
lift zero k q m = sym (ap₂ (λ (x y : ℕ). times x y m) (zero-add k) (mod-one q) ∙ times_zero k m)
lift (suc n) k q m =
    let r : ℕ = q % 2 ^ suc n in
    let one : suc n ≡ n + 1 = omega arith in
    let a : r % 2 ≡ q % 2 = ap (λ (j : ℕ). q % 2 ^ j % 2) one ∙ mod-mod-pow q n 1 in
    let b : r / 2 ≡ q / 2 % 2 ^ n = ap (λ (j : ℕ). q % 2 ^ j / 2) one ∙ field q n 1 in
    times_low n q m ∙ ap (λ (x : ℕ). bit_xor (q % 2 * m) (x * 2)) (lift n k (q / 2) m)
    ∙ sym (ap (λ (j : ℕ). times j r m) (suc-add n k) ∙ times_low (n + k) r m ∙ ap₂ (λ (x y : ℕ). bit_xor (x * m) (times (n + k) y m * 2)) a b)

shift_one : (n q m : ℕ) → times n q m * 2 ≡ times (suc n) (q * 2) m
shift_one n q m =
    let e : q * 2 ≡ q * 2 + 0 = omega arith in
    sym (ap (λ (x : ℕ). times (suc n) x m) e ∙ times_more n q 0 m (omega arith) ∙ ap (λ (x : ℕ). bit_xor x (times n q m * 2)) (zero-mul m))

shift : (n q m j : ℕ) → times n q m * 2 ^ j ≡ times (n + j) (q * 2 ^ j) m
shift n q m zero = mul-one (times n q m) ∙ ap₂ (λ (x y : ℕ). times x y m) (sym (add-zero n)) (sym (mul-one q))
shift n q m (suc j) =
    ap (λ (x : ℕ). times n q m * x) (pow-suc 2 j) ∙ sym (mul_assoc (times n q m) (2 ^ j) 2) ∙ ap (λ (x : ℕ). x * 2) (shift n q m j)
    ∙ shift_one (n + j) (q * 2 ^ j) m
    ∙ ap₂ (λ (x y : ℕ). times x y m) (sym (add-suc n j)) (mul_assoc q (2 ^ j) 2 ∙ ap (λ (x : ℕ). q * x) (sym (pow-suc 2 j)))

scale : (n p q m : ℕ) → p < 2 → p * times n q m ≡ times n (p * q) m
scale n zero q m h = zero-mul (times n q m) ∙ sym (ap (λ (x : ℕ). times n x m) (zero-mul q) ∙ times_zero n m)
scale n (suc zero) q m h =
    let e : (y : ℕ) → 1 * y ≡ y = λ y. omega arith in e (times n q m) ∙ sym (ap (λ (x : ℕ). times n x m) (e q))
scale n (suc (suc p)) q m h = let no : ⊥ = omega arith in absurd no

-- a product with a multiple is a multiple
pub times_multiple : (n y q m : ℕ) → n ≤ 128 → (r : ℕ) × (times n y (times 128 q m) ≡ times 256 r m)
unfolding times
times_multiple zero y q m h = (0, sym (times_zero 256 m))
times_multiple (suc n) y q m h =
    let ih = times_multiple n y q m (omega arith) in
    let p : ℕ = y / 2 ^ n % 2 in
    let s : ℕ = q * 2 ^ n % 2 ^ (128 + n) in
    let whole : 128 + n + (128 - n) ≡ 256 = omega arith in
    let e : times 128 q m * 2 ^ n ≡ times 256 s m = shift 128 q m n ∙ lift (128 + n) (128 - n) (q * 2 ^ n) m ∙ ap (λ (k : ℕ). times k s m) whole in (
      bit_xor ih.0 (p * s),
      (ap₂ (λ (x z : ℕ). bit_xor x (p * z)) ih.1 e ∙ ap (bit_xor (times 256 ih.0 m)) (scale 256 p s m (omega arith)) ∙ sym (times_xor 256 ih.0 (p * s) m)),
    )
