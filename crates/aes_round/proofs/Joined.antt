-- Four columns put together by shifts.
use Rattle.std.proofs.Common.{◌≡◌, ℕ, ◌+◌, ◌*◌, ◌%◌, ◌^◌, ◌<◌, mod-eq_of_lt, arith}
use lib.Bits.{bit_or, or_shifted}

pub joined : (a b c d : ℕ) → a < 2 ^ 32 → b < 2 ^ 32 → c < 2 ^ 32 → d < 2 ^ 32
    → bit_or (bit_or (bit_or (a * 2 ^ 96 % 2 ^ 128) (b * 2 ^ 64 % 2 ^ 128)) (c * 2 ^ 32 % 2 ^ 128)) d ≡ ((a * 2 ^ 32 + b) * 2 ^ 32 + c) * 2 ^ 32 + d
joined a b c d ha hb hc hd =
    let ea : a * 2 ^ 96 % 2 ^ 128 ≡ a * 2 ^ 96 = mod-eq_of_lt (omega arith) in
    let eb : b * 2 ^ 64 % 2 ^ 128 ≡ b * 2 ^ 64 = mod-eq_of_lt (omega arith) in
    let ec : c * 2 ^ 32 % 2 ^ 128 ≡ c * 2 ^ 32 = mod-eq_of_lt (omega arith) in
    let e₁ : a * 2 ^ 96 + b * 2 ^ 64 ≡ (a * 2 ^ 32 + b) * 2 ^ 64 = omega arith in
    let e₂ : (a * 2 ^ 32 + b) * 2 ^ 64 + c * 2 ^ 32 ≡ ((a * 2 ^ 32 + b) * 2 ^ 32 + c) * 2 ^ 32 = omega arith in
    rw (ea, eb, ec, or_shifted a 96 (b * 2 ^ 64) (omega arith), e₁, or_shifted (a * 2 ^ 32 + b) 64 (c * 2 ^ 32) (omega arith), e₂)
    (or_shifted ((a * 2 ^ 32 + b) * 2 ^ 32 + c) 32 d (omega arith))
