use Rattle.std.proofs.Common.{◌≡◌, ℕ, ◌+◌, ◌-◌, ◌*◌, ◌/◌, ◌≤◌, List, ◌++◌, length, take, drop, ap, ap₂, ◌∙◌, arith, length-drop}
use lib.Bits.{bit_xor}
use Rattle.std.proofs.lemmas.List.{length-take-le}
use Rattle.block.specs.Blocks.{blocks_of, to_bytes, to_block, loaded, stored}
use Rattle.block.proofs.Parts.{loaded_is, stored_is}
use Rattle.block.proofs.Walks.{length-walk}
use Rattle.mode.proofs.Whole.{whole_blocks, at_least}
use Rattle.xcb.specs.declared.Frames.{Frames}
use Rattle.xcb.specs.Xcb.{counted, digest, finished, middle, next, passed, streamed}
use Rattle.xcb.proofs.Xcb.pass.Goals as goal

-- the steps of a pass over a left part and a last block, put together
module _ (e o q : ℕ → ℕ) (h : ℕ) (fs : Frames) (n : ℕ) (xs L R : List ℕ) (long : length xs ≡ 16 * n + 16) (front : L ≡ take (16 * n) xs) (back : R ≡ drop (16 * n) xs) where
  pass_is : (s d1 d2 : ℕ) (left right : List ℕ)
      → s ≡ e (loaded R)
      → d1 ≡ digest h fs.before (blocks_of (length L / 16) L)
      → left ≡ streamed q (bit_xor s d1) (length L / 16) L
      → d2 ≡ digest h fs.after (blocks_of (length left / 16) left)
      → right ≡ stored R (o (bit_xor (bit_xor s d1) d2))
      → left ++ right ≡ passed e o q h fs n xs
  unfolding passed finished middle
  pass_is s d1 d2 left right s-is d1-is left_is d2-is right_is =
      let lL : length L ≡ 16 * n = ap length front ∙ length-take-le (16 * n) xs (omega arith) in
      let lR : length R ≡ 16 = ap length back ∙ length-drop (16 * n) xs ∙ omega arith in
      let nL : length L / 16 ≡ n = omega arith in
      let Z : ℕ = middle e h fs.before n xs in
      let z : bit_xor s d1 ≡ Z =
      ap₂ bit_xor (s-is ∙ ap e (loaded_is R lR ∙ ap to_block back)) (d1-is ∙ ap₂ (λ (m : ℕ) (ys : List ℕ). digest h fs.before (blocks_of m ys)) nL front) in
      let l : left ≡ streamed q Z n (take (16 * n) xs) =
      left_is ∙ ap₂ (λ (x m : ℕ). streamed q x m L) z nL ∙ ap (streamed q Z n) front in
      let ll : length left ≡ 16 * n = ap length l ∙ length-walk (counted q Z) next n 0 (take (16 * n) xs) in
      let nl : length left / 16 ≡ n = omega arith in
      let d : d2 ≡ digest h fs.after (blocks_of n (streamed q Z n (take (16 * n) xs))) =
      d2-is ∙ ap₂ (λ (m : ℕ) (ys : List ℕ). digest h fs.after (blocks_of m ys)) nl l in
      ap₂ (λ (ys zs : List ℕ). ys ++ zs) l
      (right_is ∙ stored_is R (o (bit_xor (bit_xor s d1) d2)) lR ∙ ap₂ (λ (x y : ℕ). to_bytes (o (bit_xor x y))) z d)

pub returns : goal.returns
returns g c =
    let k = g.C.Cipher in
    let e = k.sealed (k.key c.args.front.now) in
    let o = k.opened (k.key c.args.back.now) in
    let q = k.sealed (k.key c.args.self.now.counter) in
    let xs : List ℕ = c.args.text.now in
    let n : ℕ = length xs / 16 - 1 in
    let whole : length xs ≡ 16 * (length xs / 16) = whole_blocks (length xs) c.requires in
    let some : 32 ≤ length xs = at_least (length xs) c.requires in
    let at : length xs - 16 ≡ 16 * n = omega arith in
    pass_is e o q c.args.self.now.hash_key.h c.args.frames n xs _ _ (omega arith)
    (c.split_at_mut-left.ensures.front ∙ ap (λ (m : ℕ). take m xs) at) (c.split_at_mut-left.ensures.back ∙ ap (λ (m : ℕ). drop m xs) at)
    c.seal.result c.hash.result c.hash-2.result c.stream.new.part c.store.new.part
    (c.seal.ensures ∙ ap e c.load.ensures) c.hash.ensures c.stream.ensures c.hash-2.ensures
    (c.store.ensures ∙ ap (stored _) c.open.ensures)
