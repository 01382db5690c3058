use Rattle.std.proofs.Common.{◌≡◌, ℕ, zero, suc, ◌+◌, ◌/◌, ◌%◌, ◌^◌, ◌<◌, List, ◌++◌, length, take, drop, refl, ap, ◌∙◌, mod-eq_of_lt, arith}
use Rattle.block.specs.Blocks.{to_bytes, to_block, walk}
use Rattle.mode.proofs.Walked.{walked_whole}
use Rattle.xcb.specs.Xcb.{counted, next}
use Rattle.xcb.proofs.Xcb.stream.Goals as goal

abbrev wrapped : ℕ → ℕ
wrapped j = (j + 1) % 2 ^ 128

-- a counter of 128 bits does not wrap
walk_wrapped : (f : ℕ → ℕ → ℕ) (n j : ℕ) (xs : List ℕ) → j + n < 2 ^ 128 → walk f wrapped n j xs ≡ walk f next n j xs
walk_wrapped f zero j xs h = refl
walk_wrapped f (suc n) j xs h =
    let one : (j + 1) % 2 ^ 128 ≡ j + 1 = mod-eq_of_lt (omega arith) in
    ap (λ (ys : List ℕ). to_bytes (f j (to_block (take 16 xs))) ++ ys)
    (ap (λ (k : ℕ). walk f wrapped n k (drop 16 xs)) one ∙ walk_wrapped f n (j + 1) (drop 16 xs) (omega arith))

pub returns : goal.returns
returns g c =
    let k = g.C.Cipher in
    let f = counted (k.sealed (k.key c.args.self.now.counter)) c.args.z in
    let xs : List ℕ = c.args.part.now in
    let n : ℕ = length xs / 16 in
    let small : length xs < 2 ^ 64 = omega arith in
    c.walk_blocks.ensures
    ∙ walked_whole f wrapped n 0 xs (omega arith)
    ∙ walk_wrapped f n 0 xs (omega arith)
