-- The product of polynomials, and its remainder.
use Rattle.std.proofs.Common.{◌≡◌, ℕ, zero, suc, ◌+◌, ◌*◌, ◌/◌, ◌%◌, ◌^◌, ◌<◌, ◌≤◌, ◌⊎◌, sym, refl, ap, ◌∙◌, subst, ap₂, inl, inr, mul_assoc, div-lt_iff_lt-mul, pow-suc, zero-mul, mul-one, div-one, mul-div_cancel, arith, pow_pos, pow_mono, pow-add, shl_lt, shr_lt}
use native.Mathlib.Nat.{pow-succ', zero-div, mul-mod_left, div-div-eq-div-mul, div-eq_of_lt, mul-div-mul_right}
use lib.Bits.{bit_xor, xor_shr, xor_assoc, xor_comm, xor_zero_r, xor_self, xor_lt}
use Rattle.field.specs.Polynomials.{times, reduced, modular}
use Rattle.field.specs.Steps.{Remainder}
use Rattle.field.proofs.Xor.{swap, undo, shl_xor, double, scale_xor, bit_scale, digit_cases}

-- ---- linear in each factor

pub times_xor : (n a b m : ℕ) → times n (bit_xor a b) m ≡ bit_xor (times n a m) (times n b m)
unfolding times
times_xor zero a b m = refl
times_xor (suc n) a b m =
    ap₂ bit_xor (times_xor n a b m) (bit_scale a b n (m * 2 ^ n))
    ∙ swap (times n a m) (times n b m) (a / 2 ^ n % 2 * (m * 2 ^ n)) (b / 2 ^ n % 2 * (m * 2 ^ n))

pub times_sum : (n q a b : ℕ) → times n q (bit_xor a b) ≡ bit_xor (times n q a) (times n q b)
unfolding times
times_sum zero q a b = refl
times_sum (suc n) q a b =
    let p : ℕ = q / 2 ^ n % 2 in
    ap₂ bit_xor (times_sum n q a b) (ap (λ (x : ℕ). p * x) (shl_xor a b n) ∙ scale_xor p (a * 2 ^ n) (b * 2 ^ n) (omega arith))
    ∙ swap (times n q a) (times n q b) (p * (a * 2 ^ n)) (p * (b * 2 ^ n))

pub times_shl : (n q a k : ℕ) → times n q (a * 2 ^ k) ≡ times n q a * 2 ^ k
unfolding times
times_shl zero q a k = sym (zero-mul (2 ^ k))
times_shl (suc n) q a k =
    let p : ℕ = q / 2 ^ n % 2 in
    let e : p * (a * 2 ^ k * 2 ^ n) ≡ p * (a * 2 ^ n) * 2 ^ k =
    ap (λ (x : ℕ). p * x) (native.Mathlib.Nat.mul_right_comm a (2 ^ k) (2 ^ n)) ∙ sym (mul_assoc p (a * 2 ^ n) (2 ^ k)) in
    ap₂ bit_xor (times_shl n q a k) e ∙ sym (shl_xor (times n q a) (p * (a * 2 ^ n)) k)

pub times_zero : (n m : ℕ) → times n 0 m ≡ 0
unfolding times
times_zero zero m = refl
times_zero (suc n) m =
    ap₂ (λ (x p : ℕ). bit_xor x (p % 2 * (m * 2 ^ n))) (times_zero n m) (zero-div (2 ^ n)) ∙ zero-mul (m * 2 ^ n)

-- ---- from the low end

pub half_bit : (a n : ℕ) → a / 2 / 2 ^ n ≡ a / 2 ^ suc n
half_bit a n = div-div-eq-div-mul a 2 (2 ^ n) ∙ ap (λ (m : ℕ). a / m) (sym (pow-succ' 2 n))

pub times_low : (n a b : ℕ) → times (suc n) a b ≡ bit_xor (a % 2 * b) (times n (a / 2) b * 2)
unfolding times
times_low zero a b =
    ap₂ (λ (x y : ℕ). x % 2 * y) (div-one a) (mul-one b) ∙ sym (xor_zero_r (a % 2 * b))
times_low (suc n) a b =
    let p : ℕ = a / 2 / 2 ^ n % 2 in
    let e : a / 2 ^ suc n % 2 * (b * 2 ^ suc n) ≡ p * (b * 2 ^ n) * 2 =
    ap₂ (λ (x y : ℕ). x % 2 * (b * y)) (sym (half_bit a n)) (pow-suc 2 n) ∙ ap (λ (x : ℕ). p * x) (sym (mul_assoc b (2 ^ n) 2)) ∙ sym (mul_assoc p (b * 2 ^ n) 2) in
    ap₂ bit_xor (times_low n a b) e
    ∙ xor_assoc (a % 2 * b) (times n (a / 2) b * 2) (p * (b * 2 ^ n) * 2)
    ∙ ap (bit_xor (a % 2 * b)) (sym (double (times n (a / 2) b) (p * (b * 2 ^ n))))

-- ---- x^k

pub times_pow : (n k m : ℕ) → k < n → times n (2 ^ k) m ≡ m * 2 ^ k
times_pow zero k m h = let no : ⊥ = omega arith in absurd no
times_pow (suc n) zero m h =
    let e : 1 * m ≡ m = omega arith in
    times_low n 1 m ∙ ap₂ (λ (x y : ℕ). bit_xor x (y * 2)) e (times_zero n m) ∙ xor_zero_r m ∙ sym (mul-one m)
times_pow (suc n) (suc k) m h =
    let a : 2 ^ suc k % 2 ≡ 0 = ap (λ (x : ℕ). x % 2) (pow-suc 2 k) ∙ mul-mod_left (2 ^ k) 2 in
    let b : 2 ^ suc k / 2 ≡ 2 ^ k = ap (λ (x : ℕ). x / 2) (pow-suc 2 k) ∙ mul-div_cancel (2 ^ k) (omega arith) in
    times_low n (2 ^ suc k) m ∙ ap₂ (λ (x y : ℕ). bit_xor (x * m) (times n y m * 2)) a b
    ∙ ap₂ (λ (x y : ℕ). bit_xor x (y * 2)) (zero-mul m) (times_pow n k m (omega arith))
    ∙ mul_assoc m (2 ^ k) 2 ∙ ap (λ (x : ℕ). m * x) (sym (pow-suc 2 k))

-- a digit times x^k
pub times-digit : (n p k m : ℕ) → p < 2 → k < n → times n (p * 2 ^ k) m ≡ p * (m * 2 ^ k)
times-digit n zero k m h l = ap (λ (x : ℕ). times n x m) (zero-mul (2 ^ k)) ∙ times_zero n m ∙ sym (zero-mul (m * 2 ^ k))
times-digit n (suc zero) k m h l =
    let e : (y : ℕ) → 1 * y ≡ y = λ y. omega arith in
    ap (λ (x : ℕ). times n x m) (e (2 ^ k)) ∙ times_pow n k m l ∙ sym (e (m * 2 ^ k))
times-digit n (suc (suc p)) k m h l = let no : ⊥ = omega arith in absurd no

-- ---- no multiple of m but 0 has a degree below m's

xor_nil : (f g : ℕ) → bit_xor f g ≡ 0 → f ≡ g
xor_nil f g e = sym (undo f g) ∙ ap (λ (x : ℕ). bit_xor x g) e

below_pow : (x k : ℕ) → x / 2 ^ k ≡ 0 → x < 2 ^ k
below_pow x k e = let h : x / 2 ^ k < 1 = omega arith in let r : x < 1 * 2 ^ k = (div-lt_iff_lt-mul (pow_pos k)).0 h in omega arith

module _ (m : ℕ) (lo : 2 ^ 128 ≤ m) (hi : m < 2 ^ 129) where
  kept : (p t : ℕ) → p * m < 2 ^ 129 → 2 ^ 128 ≤ t → 2 ^ 128 ≤ bit_xor (p * m) (t * 2)
  kept p t h l =
      let a : p * m / 2 ^ 129 ≡ 0 = div-eq_of_lt h in
      let b : bit_xor (p * m) (t * 2) / 2 ^ 129 ≡ t * 2 / 2 ^ 129 = xor_shr (p * m) (t * 2) 129 ∙ ap (λ (x : ℕ). bit_xor x (t * 2 / 2 ^ 129)) a in
      omega arith

  longer : (p t : ℕ) → p < 2 → (t ≡ 0) ⊎ (2 ^ 128 ≤ t) → (bit_xor (p * m) (t * 2) ≡ 0) ⊎ (2 ^ 128 ≤ bit_xor (p * m) (t * 2))
  longer zero t h (inl z) = inl (ap₂ (λ (x y : ℕ). bit_xor x (y * 2)) (zero-mul m) z)
  longer (suc zero) t h (inl z) =
      let e : bit_xor (1 * m) (t * 2) ≡ m = ap (λ (y : ℕ). bit_xor (1 * m) (y * 2)) z ∙ xor_zero_r (1 * m) ∙ omega arith in inr (omega arith)
  longer (suc (suc p)) t h (inl z) = let no : ⊥ = omega arith in absurd no
  longer zero t h (inr l) = inr (kept 0 t (omega arith) l)
  longer (suc zero) t h (inr l) = inr (kept 1 t (omega arith) l)
  longer (suc (suc p)) t h (inr l) = let no : ⊥ = omega arith in absurd no

  nil_or_long : (n q : ℕ) → (times n q m ≡ 0) ⊎ (2 ^ 128 ≤ times n q m)
  unfolding times
  nil_or_long zero q = inl refl
  nil_or_long (suc n) q = subst (λ (x : ℕ). (x ≡ 0) ⊎ (2 ^ 128 ≤ x)) (sym (times_low n q m)) (longer (q % 2) (times n (q / 2) m) (omega arith) (nil_or_long n (q / 2)))

  -- two remainders that differ by a multiple of m are one
  pub remainder_unique : (n q f g : ℕ) → f < 2 ^ 128 → g < 2 ^ 128 → bit_xor f g ≡ times n q m → f ≡ g
  remainder_unique n q f g hf hg e = go (nil_or_long n q)
    where
      go : (times n q m ≡ 0) ⊎ (2 ^ 128 ≤ times n q m) → f ≡ g
      go (inl z) = xor_nil f g (e ∙ z)
      go (inr l) = let b : bit_xor f g < 2 ^ 128 = xor_lt 128 f g hf hg in let no : ⊥ = omega arith in absurd no

  -- ---- long division leaves a remainder

  top_one : (n : ℕ) → m * 2 ^ n / 2 ^ (128 + n) ≡ 1
  top_one n =
      ap (λ (x : ℕ). m * 2 ^ n / x) (pow-add 2 128 n) ∙ mul-div-mul_right m (2 ^ 128) (pow_pos n) ∙ omega arith

  cleared : (n p : ℕ) → p < 2 → bit_xor p (p % 2 * (m * 2 ^ n) / 2 ^ (128 + n)) ≡ 0
  cleared n zero h = ap (λ (x : ℕ). x / 2 ^ (128 + n)) (zero-mul (m * 2 ^ n)) ∙ zero-div (2 ^ (128 + n))
  cleared n (suc zero) h =
      let e : 1 * (m * 2 ^ n) ≡ m * 2 ^ n = omega arith in ap (λ (x : ℕ). bit_xor 1 (x / 2 ^ (128 + n))) e ∙ ap (bit_xor 1) (top_one n)
  cleared n (suc (suc p)) h = let no : ⊥ = omega arith in absurd no

  pub reduced_below : (n f : ℕ) → f < 2 ^ (128 + n) → reduced m n f < 2 ^ 128
  unfolding reduced
  reduced_below zero f h = h
  reduced_below (suc n) f h =
      let p : ℕ = f / 2 ^ (128 + n) in
      let one : 128 + suc n ≡ 1 + (128 + n) = omega arith in
      let hp : p < 2 ^ 1 = shr_lt 1 (128 + n) (subst (λ (k : ℕ). f < 2 ^ k) one h) in
      let z : bit_xor f (p % 2 * (m * 2 ^ n)) / 2 ^ (128 + n) ≡ 0 = xor_shr f (p % 2 * (m * 2 ^ n)) (128 + n) ∙ cleared n p hp in
      reduced_below n (bit_xor f (p % 2 * (m * 2 ^ n))) (below_pow (bit_xor f (p % 2 * (m * 2 ^ n))) (128 + n) z)

-- by multiples of m
pub reduced_by : (m n f : ℕ) → n ≤ 128 → (q : ℕ) × (bit_xor f (reduced m n f) ≡ times 128 q m)
unfolding reduced
reduced_by m zero f h = (0, xor_self f ∙ sym (times_zero 128 m))
reduced_by m (suc n) f h =
    let p : ℕ = f / 2 ^ (128 + n) % 2 in
    let t : ℕ = p * (m * 2 ^ n) in
    let r : ℕ = reduced m n (bit_xor f t) in
    let ih : (q : ℕ) × (bit_xor (bit_xor f t) r ≡ times 128 q m) = reduced_by m n (bit_xor f t) (omega arith) in (
      bit_xor (p * 2 ^ n) ih.0,
      (let a : bit_xor f r ≡ bit_xor t (bit_xor (bit_xor f t) r) =
          ap (λ (x : ℕ). bit_xor x r) (sym (undo f t) ∙ xor_comm (bit_xor f t) t) ∙ xor_assoc t (bit_xor f t) r in
          a ∙ ap₂ bit_xor (sym (times-digit 128 p n m (omega arith) (omega arith))) ih.1 ∙ sym (times_xor 128 (p * 2 ^ n) ih.0 m)),
    )

pub times_below : (n a b : ℕ) → b < 2 ^ 128 → times n a b < 2 ^ (128 + n)
unfolding times
times_below zero a b h = pow_pos 128
times_below (suc n) a b h =
    let one : 128 + suc n ≡ suc (128 + n) = omega arith in
    let s : b * 2 ^ n < 2 ^ (128 + n) = shl_lt 128 n h in
    let lift : 2 ^ (128 + n) ≤ 2 ^ suc (128 + n) = pow_mono {i = 128 + n} {j = suc (128 + n)} (omega arith) in
    let t : times n a b < 2 ^ (128 + n) = times_below n a b h in
    subst (λ (k : ℕ). bit_xor (times n a b) (a / 2 ^ n % 2 * (b * 2 ^ n)) < 2 ^ k) (sym one)
    (xor_lt (suc (128 + n)) (times n a b) (a / 2 ^ n % 2 * (b * 2 ^ n)) (omega arith)
    (digit_cases (λ (x : ℕ). x < 2 ^ suc (128 + n)) (a / 2 ^ n % 2) (b * 2 ^ n) (omega arith) (pow_pos (suc (128 + n))) (omega arith)))

pub remainder : Remainder
unfolding modular
remainder = record {
  below = λ m a b lo hi h. reduced_below m lo hi 128 (times 128 a b) (times_below 128 a b h);
  congruent = λ m a b. reduced_by m 128 (times 128 a b) (omega arith);
  unique = λ m n q f g lo hi. remainder_unique m lo hi n q f g;
}
