use Rattle.std.proofs.Common.{◌≡◌, ℕ, ◌+◌, ◌-◌, ◌*◌, ◌/◌, ◌++◌, List, length, take, drop, ap, ◌∙◌, arith}
use borrow.Rule.Slice.PartMut.{put_mid}
use Rattle.block.specs.Blocks.{loaded, stored, walk}
use Rattle.mode.proofs.Walked.{walked_more}
use Rattle.mode.proofs.turns.walk_turns.Goals as goal

pub loop-i-preserved : goal.loop-i-preserved
loop-i-preserved g c = (
  c.step-state.type_inv,
  λ f h turns steps.
      let xs = c.loop-i.text in
      let i = c.loop-i.i in
      let s = c.loop-i.state in
      let n = length c.args.text.now / 16 in
      let w = 16 * i + 16 - 16 * i in
      let b = c.load.result in
      let ys = c.store.new.part in
      let xs' : List ℕ = put_mid (16 * i) w xs ys in
      let part : List ℕ = take w (drop (16 * i) xs) in
      let eb : c.turn-block.result ≡ f s (loaded part) = turns s b c.turn-block.result c.loop-i.invariant.0 c.load.type_inv c.turn-block.ensures ∙ ap (f s) c.load.ensures in
      let es : c.step-state.result ≡ h s = steps s c.step-state.result c.loop-i.invariant.0 c.step-state.ensures in
      let l : length xs ≡ length c.args.text.now = c.loop-i.auto.text in
      ap (λ (t : ℕ). take (16 * (i + 1)) xs' ++ (walk f h (n - (i + 1)) t (drop (16 * (i + 1)) xs') ++ drop (16 * n) xs')) es
      ∙ walked_more f h n i w s xs ys c.loop-i-test.true (omega arith) (omega arith) (c.store.ensures ∙ ap (stored part) eb)
      ∙ c.loop-i.invariant.1 f h turns steps,
)
