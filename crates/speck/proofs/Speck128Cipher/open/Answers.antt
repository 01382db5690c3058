use Rattle.std.proofs.Common.{◌≡◌, ℕ, List, length, get_or, sym, ap, ap₂, ◌∙◌, arith}
use Rattle.speck.specs.Speck.{Pair, unrounds, pair_of, block_of, round_key, opened}
use Rattle.speck.proofs.Loops.{one_more, taken, fewer, unrounds_none, unrounds_less, unrounds_same}
use Rattle.speck.proofs.Speck128Cipher.open.Goals as goal

pub loop-k-init : goal.loop-k-init
loop-k-init c =
    let ks : ℕ → ℕ = λ i. get_or c.args.self.now.keys i 0 in
    let e : c.into_iter-k-iterator.result.iter.rest.now ≡ c.args.self.now.keys = cc in
    let n : length c.args.self.now.keys ≡ 32 = omega arith in
    (λ i h. ap (λ (l : List ℕ). get_or l i 0) e, ap₂ (λ (m : ℕ) (p : Pair). unrounds ks m p) (ap length e ∙ n) c.words-pair.ensures)

pub loop-k-preserved : goal.loop-k-preserved
loop-k-preserved c =
    let ks : ℕ → ℕ = λ i. get_or c.args.self.now.keys i 0 in
    let rest : List ℕ = c.loop-k.k-iterator.iter.rest.now in
    let new : List ℕ = c.next.new.self.iter.rest.now in
    let k : ℕ = c.in-Some.k.now in
    let e = c.in-Some.ensures.steps in (
      fewer c.args.self.now.keys rest new k e c.loop-k.invariant.0,
      ap (unrounds ks (length new)) c.unround-pair.ensures
          ∙ unrounds_less ks (length rest) (length new) k c.loop-k.pair (one_more c.args.self.now.keys rest new k e) (taken c.args.self.now.keys rest new k e c.loop-k.invariant.0)
          ∙ c.loop-k.invariant.1,
    )

pub returns : goal.returns
unfolding opened
returns c =
    let ks : ℕ → ℕ = λ i. get_or c.args.self.now.keys i 0 in
    c.joined.ensures
    ∙ ap block_of (sym (unrounds_none ks c.loop-k.pair)
    ∙ ap (λ (n : ℕ). unrounds ks n c.loop-k.pair) (sym c.in-None.ensures.steps.0)
    ∙ c.loop-k.invariant.1
    ∙ unrounds_same ks (round_key c.args.self.now.key) 32 (pair_of c.args.block) c.args.self.now.expanded)
