-- The table of products by a block.
use Rattle.std.proofs.Common.{◌≡◌, ℕ, ◌+◌, ◌-◌, ◌*◌, ◌/◌, ◌%◌, ◌^◌, ◌<◌, ◌≤◌, sym, ap, ◌∙◌, subst, mul_assoc, mul_comm, add-mul, arith, pow_pos, pow_mono, pow-add, shl_lt, shr-shr}
use native.Mathlib.Nat.{mul-div-mul_right}
use lib.Pow.{field}
use Rattle.std.proofs.lemmas.Nat.{mul-mod_first}
use lib.Bits.{bit_xor, xor_shifted}
use Rattle.field.specs.Steps.{halved, summed, stepwise, entry}
use Rattle.field.proofs.Horner.{stepwise_half, stepwise_top, stepwise_xor}

pub entry_top : (h k : ℕ) → summed 4 k 0 h ≡ entry h 0 k
unfolding entry
entry_top h k = stepwise_top k h

quarter : (y h : ℕ) → y < 2 ^ 124 → stepwise y h ≡ halved (halved (halved (halved (stepwise (y * 16) h))))
quarter y h l =
    let e : y * 2 * 2 * 2 * 2 ≡ y * 16 = omega arith in
    stepwise_half y h (omega arith) ∙ ap halved (stepwise_half (y * 2) h (omega arith) ∙ ap halved (stepwise_half (y * 2 * 2) h (omega arith)
    ∙ ap halved (stepwise_half (y * 2 * 2 * 2) h (omega arith) ∙ ap (λ (m : ℕ). halved (stepwise m h)) e)))

-- the entry below, in the next row
pub entry_next : (h i k : ℕ) → i < 31 → k < 16 → halved (halved (halved (halved (entry h i k)))) ≡ entry h (i + 1) k
unfolding entry
entry_next h i k l hk =
    let e : ℕ = 124 - 4 * (i + 1) in
    let ee : 124 - 4 * i ≡ e + 4 = omega arith in
    let small : k * 2 ^ e < 2 ^ (4 + e) = shl_lt 4 e (omega arith) in
    let top : 2 ^ (4 + e) ≤ 2 ^ 124 = pow_mono {i = 4 + e} {j = 124} (omega arith) in
    let up : k * 2 ^ e * 16 ≡ k * 2 ^ (124 - 4 * i) =
    mul_assoc k (2 ^ e) 16 ∙ ap (λ (m : ℕ). k * m) (sym (pow-add 2 e 4)) ∙ ap (λ (m : ℕ). k * 2 ^ m) (sym ee) in
    sym (quarter (k * 2 ^ e) h (omega arith) ∙ ap (λ (m : ℕ). halved (halved (halved (halved (stepwise m h))))) up)

-- one nibble more of x, from the top
pub nibble : (h x e : ℕ) → bit_xor (stepwise (x / 2 ^ (e + 4) * 2 ^ (e + 4)) h) (stepwise (x / 2 ^ e % 16 * 2 ^ e) h) ≡ stepwise (x / 2 ^ e * 2 ^ e) h
nibble h x e =
    let k : ℕ = x / 2 ^ e % 16 in
    let q : ℕ = x / 2 ^ (e + 4) in
    let p : 2 ^ (e + 4) ≡ 2 ^ e * 16 = pow-add 2 e 4 in
    let small : k * 2 ^ e < 2 ^ (4 + e) = shl_lt 4 e (omega arith) in
    let small' : k * 2 ^ e < 2 ^ (e + 4) = subst (λ (m : ℕ). k * 2 ^ e < 2 ^ m) (let c : 4 + e ≡ e + 4 = omega arith in c) small in
    let qe : x / 2 ^ e / 16 ≡ q = shr-shr x e 4 in
    let d : x / 2 ^ e ≡ q * 16 + k = omega arith in
    let b : 16 * 2 ^ e ≡ 2 ^ (e + 4) = mul_comm 16 (2 ^ e) ∙ sym p in
    let all : q * 2 ^ (e + 4) + k * 2 ^ e ≡ x / 2 ^ e * 2 ^ e =
    sym (ap (λ (m : ℕ). m * 2 ^ e) d ∙ add-mul (q * 16) k (2 ^ e) ∙ ap (λ (m : ℕ). m + k * 2 ^ e) (mul_assoc q 16 (2 ^ e) ∙ ap (λ (m : ℕ). q * m) b)) in
    sym (stepwise_xor (q * 2 ^ (e + 4)) (k * 2 ^ e) h) ∙ ap (λ (m : ℕ). stepwise m h) (xor_shifted q (e + 4) (k * 2 ^ e) small' ∙ all)

-- the top nibble of x moved up by j bits
pub top_nibble : (x e j : ℕ) → e + j ≡ 124 → x * 2 ^ j % 2 ^ 128 / 2 ^ 124 ≡ x / 2 ^ e % 16
top_nibble x e j c =
    let n : ℕ = x * 2 ^ j in
    let split : 2 ^ 124 ≡ 2 ^ e * 2 ^ j = ap (λ (m : ℕ). 2 ^ m) (sym c) ∙ pow-add 2 e j in
    field n 4 124 ∙ ap (λ (m : ℕ). n / m % 16) split ∙ ap (λ (m : ℕ). m % 16) (mul-div-mul_right x (2 ^ e) (pow_pos j))

-- four bits further
pub moved_up : (x i : ℕ) → x * 2 ^ (4 * i) % 2 ^ 128 * 16 % 2 ^ 128 ≡ x * 2 ^ (4 * (i + 1)) % 2 ^ 128
moved_up x i =
    let four : 4 * (i + 1) ≡ 4 * i + 4 = omega arith in
    mul-mod_first (x * 2 ^ (4 * i)) 16 (2 ^ 128)
    ∙ ap (λ (m : ℕ). m % 2 ^ 128) (mul_assoc x (2 ^ (4 * i)) 16 ∙ ap (λ (m : ℕ). x * m) (sym (ap (λ (m : ℕ). 2 ^ m) four ∙ pow-add 2 (4 * i) 4)))
