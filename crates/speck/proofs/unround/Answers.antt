use Rattle.std.proofs.Common.{◌≡◌, ℕ, ◌<◌, ◌^◌, ap, ◌∙◌, arith}
use Rattle.std.proofs.lemmas.Nat.{xor_lt}
use lib.Bits.{bit_xor}
use Rattle.speck.specs.Speck.{left8, minus, unmixed}
use Rattle.speck.proofs.Rotations.{or_right3, or_left8}
use Rattle.speck.proofs.unround.Goals as goal

pub returns : goal.returns
returns c =
    let x : bit_xor c.args.pair.1 c.args.pair.0 < 2 ^ 64 = xor_lt 64 c.args.pair.1 c.args.pair.0 (omega arith) (omega arith) in
    let b : c.rotate_right-y.result ≡ unmixed c.args.pair = c.rotate_right-y.ensures ∙ or_right3 (bit_xor c.args.pair.1 c.args.pair.0) x in
    let a : c.rotate_left.result ≡ left8 (minus (bit_xor c.args.pair.0 c.args.k) (unmixed c.args.pair)) =
    c.rotate_left.ensures ∙ or_left8 (minus (bit_xor c.args.pair.0 c.args.k) c.rotate_right-y.result) (omega arith)
    ∙ ap (λ (n : ℕ). left8 (minus (bit_xor c.args.pair.0 c.args.k) n)) b in
    λ i. (a i, b i)
