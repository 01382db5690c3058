use Rattle.std.proofs.Common.{get_or, ◌∙◌}
use Rattle.aes_math.specs.Rounds.{state_of}
use Rattle.aes_math.proofs.NumLaws.{num_is}
use Rattle.aes.specs.Aes128.{round_key, sealed}
use Rattle.aes.proofs.Keys.{key_at}
use Rattle.aes.proofs.Runs.{forward}
use Rattle.aes.proofs.Aes128Cipher.seal.Goals as goal

pub returns : goal.returns
unfolding sealed
returns c =
    num_is c.run.result _ c.run.type_inv
    (c.run.ensures
    ∙ forward (λ i. state_of (get_or c.args.self.now.enc i 0)) (round_key (state_of (get_or c.args.self.now.enc 0 0))) (state_of c.args.block) (key_at c.args.self.now.enc c.args.self.now.expanded))
