-- The step-by-step product is the product of the mirrored polynomials modulo x^128 + x^7 + x^2 + x + 1.
use Rattle.std.proofs.Common.{◌≡◌, ℕ, zero, suc, ◌+◌, ◌*◌, ◌/◌, ◌%◌, ◌^◌, ◌<◌, [], ◌∷◌, sym, refl, ap, ◌∙◌, ap₂, mod-eq_of_lt, arith}
use lib.Bits.{bit_xor, xor_assoc, xor_comm}
use Rattle.field.specs.Field.{product, hash}
use Rattle.field.specs.Steps.{halved, stepwise, Product}
use Rattle.field.specs.Polynomials.{times, reduced, modular, mirrored}
use Rattle.field.proofs.Xor.{swap, double}
use Rattle.field.proofs.Times.{times_xor, times_below, reduced_by, reduced_below, remainder_unique, remainder}
use Rattle.field.proofs.Ring.{times_more, times_comm}
use Rattle.field.proofs.Mirror.{mirrored_suc, mirrored_xor, mirrored-scale, mirrored-halved, mirrored_below, mirrored-twice}
use Rattle.field.proofs.Horner.{horner, horner_suc, horner_below, stepwise_is, stepwise_xor, stepwise_one, stepwise_by_x}

abbrev M : ℕ
M = 0x1_0000_0000_0000_0000_0000_0000_0000_0087

start : (x v : ℕ) → mirrored 128 (horner 0 x v) ≡ bit_xor (times 0 (mirrored 0 x) (mirrored 128 v)) (times 0 0 M)
unfolding horner times mirrored
start x v = refl

step : (n x v q : ℕ) → v < 2 ^ 128 → mirrored 128 (horner n x v) ≡ bit_xor (times n (mirrored n x) (mirrored 128 v)) (times n q M)
    → mirrored 128 (horner (suc n) x v) ≡ bit_xor (times (suc n) (mirrored (suc n) x) (mirrored 128 v)) (times (suc n) (q * 2 + horner n x v % 2) M)
step n x v q h e =
    let p : ℕ = x / 2 ^ n % 2 in
    let r : ℕ = horner n x v % 2 in
    let y : ℕ = mirrored 128 v in
    let t : ℕ = times n (mirrored n x) y in
    let s : ℕ = times n q M in
    ap (mirrored 128) (horner_suc n x v)
    ∙ mirrored_xor 128 (p * v) (halved (horner n x v))
    ∙ ap₂ bit_xor (mirrored-scale 128 p v (omega arith)) (mirrored-halved (horner n x v) (horner_below n x v h))
    ∙ ap (λ (z : ℕ). bit_xor (p * y) (bit_xor (r * M) z)) (ap (λ (z : ℕ). z * 2) e ∙ double t s)
    ∙ sym (xor_assoc (p * y) (r * M) (bit_xor (t * 2) (s * 2)))
    ∙ swap (p * y) (r * M) (t * 2) (s * 2)
    ∙ sym (ap₂ bit_xor (ap (λ (a : ℕ). times (suc n) a y) (mirrored_suc n x) ∙ times_more n (mirrored n x) p y (omega arith)) (times_more n q r M (omega arith)))

congruent : (n x v : ℕ) → v < 2 ^ 128
    → (q : ℕ) × (mirrored 128 (horner n x v) ≡ bit_xor (times n (mirrored n x) (mirrored 128 v)) (times n q M))
congruent zero x v h = (0, start x v)
congruent (suc n) x v h =
    let ih = congruent n x v h in (ih.0 * 2 + horner n x v % 2, step n x v ih.0 h ih.1)

pub horner_modular : (x v : ℕ) → v < 2 ^ 128 → mirrored 128 (horner 128 x v) ≡ modular M (mirrored 128 x) (mirrored 128 v)
unfolding modular
horner_modular x v h =
    let f : ℕ = times 128 (mirrored 128 x) (mirrored 128 v) in
    let c = congruent 128 x v h in
    let d = reduced_by M 128 f (omega arith) in
    let r : ℕ = reduced M 128 f in
    let s : ℕ = times 128 c.0 M in
    let e : bit_xor (mirrored 128 (horner 128 x v)) r ≡ times 128 (bit_xor c.0 d.0) M =
    ap (λ (z : ℕ). bit_xor z r) (c.1 ∙ xor_comm f s) ∙ xor_assoc s f r ∙ ap (bit_xor s) d.1 ∙ sym (times_xor 128 c.0 d.0 M) in
    remainder_unique M (omega arith) (omega arith) 128 (bit_xor c.0 d.0) (mirrored 128 (horner 128 x v)) r
    (mirrored_below 128 (horner 128 x v)) (reduced_below M (omega arith) (omega arith) 128 f (times_below 128 (mirrored 128 x) (mirrored 128 v) (mirrored_below 128 v))) e

pub product_steps : (x v : ℕ) → v < 2 ^ 128 → product x v ≡ stepwise x v
unfolding product
product_steps x v h =
    sym (stepwise_is x v ∙ sym (mirrored-twice 128 (horner 128 x v) ∙ mod-eq_of_lt (horner_below 128 x v h)) ∙ ap (mirrored 128) (horner_modular x v h))

pub product_commutes : (a b : ℕ) → product a b ≡ product b a
unfolding product modular
product_commutes a b = ap (λ (f : ℕ). mirrored 128 (reduced M 128 f)) (times_comm 128 (mirrored 128 a) (mirrored 128 b) (mirrored_below 128 a) (mirrored_below 128 b))

pub product_below : (a b : ℕ) → product a b < 2 ^ 128
unfolding product
product_below a b = mirrored_below 128 (modular M (mirrored 128 a) (mirrored 128 b))

fixed : product 0x01 0x4000_0000_0000_0000_0000_0000_0000_0000 ≡ 0xe100_0000_0000_0000_0000_0000_0000_0000
unfolding product modular times reduced mirrored
fixed = refl

hashed : hash 0x66e94bd4ef8a2c3b884cfa59ca342b2e (0x0388dace60b6a392f328c2b971b2fe78 ∷ 0x80 ∷ []) ≡ 0xf38cbb1ad69223dcc3457ae5b6b0f885
unfolding product modular times reduced mirrored
hashed = refl

pub product_known : Product
product_known = record {
  remainder = remainder;
  steps = product_steps;
  commutes = product_commutes;
  one = λ a h. product_steps 0x8000_0000_0000_0000_0000_0000_0000_0000 a h ∙ stepwise_one a;
  by_x = λ a h. product_steps 0x4000_0000_0000_0000_0000_0000_0000_0000 a h ∙ stepwise_by_x a;
  sums = λ a b c h. product_steps (bit_xor a b) c h ∙ stepwise_xor a b c ∙ sym (ap₂ bit_xor (product_steps a c h) (product_steps b c h));
  hashed = hashed;
  fixed = fixed;
}
