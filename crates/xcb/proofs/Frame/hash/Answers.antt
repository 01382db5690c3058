use Rattle.std.proofs.Common.{◌≡◌, ℕ, ◌/◌, List, [], ◌∷◌, ◌++◌, length, refl, sym, ap, ◌∙◌}
use Rattle.std.proofs.lemmas.List.{at_drop_all}
use lib.Bits.{bit_xor}
use Rattle.block.specs.Blocks.{blocks_of}
use Rattle.field.specs.Field.{absorbed, product}
use Rattle.xcb.specs.Xcb.{digest}
use Rattle.xcb.proofs.Bytes.{block_list, block_list_chunks}
use Rattle.xcb.proofs.Frame.hash.Goals as goal

absorbed_last : (h a b : ℕ) (bs : List ℕ) → absorbed h a (bs ++ (b ∷ [])) ≡ product (bit_xor (absorbed h a bs) b) h
absorbed_last h a b [] = refl
absorbed_last h a b (x ∷ bs) = absorbed_last h (product (bit_xor a x) h) b bs

pub returns : goal.returns
unfolding digest
returns c =
    let h : ℕ = c.args.key.now.h in
    let f = c.args.self.now in
    let xs : List ℕ = c.args.part.now in
    let n : ℕ = length xs / 16 in
    let s : ℕ = product (bit_xor (product (bit_xor 0 f.first) h) f.second) h in
    let first : c.absorb-sum.result ≡ s = c.absorb-sum.ensures ∙ ap (λ (x : ℕ). product (bit_xor x f.second) h) c.absorb.ensures in
    let blocks = c.as_chunks.result.0.now in
    let end : c.loop-block.sum ≡ absorbed h c.absorb-sum.result (block_list blocks) =
    sym (at_drop_all (λ bs. absorbed h c.loop-block.sum (block_list bs)) blocks c.loop-block.block-index c.loop-block-test.false) ∙ c.loop-block.invariant in
    let all : c.loop-block.sum ≡ absorbed h s (blocks_of n xs) =
    end ∙ ap (λ bs. absorbed h c.absorb-sum.result (block_list bs)) c.as_chunks.ensures.front
    ∙ ap (λ bs. absorbed h c.absorb-sum.result bs) (block_list_chunks n xs) ∙ ap (λ (x : ℕ). absorbed h x (blocks_of n xs)) first in
    c.absorb-2.ensures ∙ ap (λ (x : ℕ). product (bit_xor x f.last) h) all ∙ sym (absorbed_last h s f.last (blocks_of n xs))
