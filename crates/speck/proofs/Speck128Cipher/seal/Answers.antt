use Rattle.std.proofs.Common.{◌≡◌, ℕ, get_or, refl, ap, ◌∙◌, arith}
use Rattle.speck.specs.Speck.{rounds, pair_of, block_of, round_key, sealed}
use Rattle.speck.proofs.Loops.{rounds_none, rounds_more, rounds_same}
use Rattle.speck.proofs.Speck128Cipher.seal.Goals as goal

pub loop-k-init : goal.loop-k-init
loop-k-init c = c.words-pair.ensures ∙ rounds_none (λ (i : ℕ). get_or c.args.self.now.keys i 0) (pair_of c.args.block)

pub loop-k-preserved : goal.loop-k-preserved
loop-k-preserved c =
    let ks : ℕ → ℕ = λ i. get_or c.args.self.now.keys i 0 in
    c.round-pair.ensures ∙ rounds_more ks c.loop-k.k-index (ks c.loop-k.k-index) (pair_of c.args.block) c.loop-k.pair refl c.loop-k.invariant

pub returns : goal.returns
unfolding sealed
returns c =
    let ks : ℕ → ℕ = λ i. get_or c.args.self.now.keys i 0 in
    let e : c.loop-k.k-index ≡ 32 = omega arith in
    c.joined.ensures
    ∙ ap block_of (c.loop-k.invariant
    ∙ ap (λ (n : ℕ). rounds ks n (pair_of c.args.block)) e
    ∙ rounds_same ks (round_key c.args.self.now.key) 32 (pair_of c.args.block) c.args.self.now.expanded)
