-- XOR undoes itself, and on blocks it goes byte by byte.
use Rattle.std.proofs.Common.{◌≡◌, ℕ, zero, suc, ◌+◌, ◌*◌, ◌/◌, ◌%◌, ◌^◌, List, ◌∷◌, sym, refl, ap, ◌∙◌, subst, ap₂, pow-suc, arith, pow-add}
use lib.Bits.{bit_xor, xor_assoc, xor_self, xor_zero_r, xor_mod, xor_shr}
use Rattle.block.specs.Blocks.{bytes_of, to_bytes, xor_bytes}

pub xor_back : (a b : ℕ) → bit_xor (bit_xor a b) b ≡ a
xor_back a b = xor_assoc a b b ∙ ap (λ (n : ℕ). bit_xor a n) (xor_self b) ∙ xor_zero_r a

-- a byte is 8 bits
byte_power : (k : ℕ) → 2 ^ (8 * k) ≡ 256 ^ k
byte_power zero = refl
byte_power (suc k) =
    ap (λ (m : ℕ). 2 ^ m) (let e : 8 * suc k ≡ 8 * k + 8 = omega arith in e)
    ∙ pow-add 2 (8 * k) 8 ∙ ap (λ (m : ℕ). m * 256) (byte_power k) ∙ sym (pow-suc 256 k)

-- byte k
byte_at : (k x y : ℕ) → bit_xor x y / 256 ^ k % 256 ≡ bit_xor (x / 256 ^ k % 256) (y / 256 ^ k % 256)
byte_at k x y =
    let p : 2 ^ (8 * k) ≡ 256 ^ k = byte_power k in
    let s : bit_xor x y / 256 ^ k ≡ bit_xor (x / 256 ^ k) (y / 256 ^ k) = subst (λ (m : ℕ). bit_xor x y / m ≡ bit_xor (x / m) (y / m)) p (xor_shr x y (8 * k)) in
    ap (λ (n : ℕ). n % 256) s ∙ xor_mod (x / 256 ^ k) (y / 256 ^ k) 8

xor_bytes_of : (k x y : ℕ) → bytes_of k (bit_xor x y) ≡ xor_bytes (bytes_of k x) (bytes_of k y)
xor_bytes_of zero x y = refl
xor_bytes_of (suc k) x y = ap₂ (λ (b : ℕ) (bs : List ℕ). b ∷ bs) (byte_at k x y) (xor_bytes_of k x y)

pub xor_to_bytes : (x y : ℕ) → to_bytes (bit_xor x y) ≡ xor_bytes (to_bytes x) (to_bytes y)
unfolding to_bytes
xor_to_bytes x y = xor_bytes_of 16 x y
