use Rattle.std.proofs.Common.{get_or, ap, ◌∙◌, arith}
use Rattle.aes_math.specs.Rounds.{state_of}
use Rattle.aes_math.proofs.NumLaws.{num_is}
use Rattle.aes.specs.Aes128.{round_key, opened}
use Rattle.aes.proofs.Keys.{key_at, inv_key_at}
use Rattle.aes.proofs.Runs.{inverse}
use Rattle.aes.proofs.Aes128Cipher.open.Goals as goal

pub returns : goal.returns
unfolding opened
returns c =
    num_is c.run.result _ c.run.type_inv
    (c.run.ensures
    ∙ inverse (λ i. state_of (get_or c.args.self.now.dec i 0)) (round_key (state_of (get_or c.args.self.now.enc 0 0))) (state_of c.args.block)
    (ap state_of c.args.self.now.reversed.first ∙ key_at c.args.self.now.enc c.args.self.now.expanded 10 (omega arith))
    (inv_key_at c.args.self.now.enc c.args.self.now.expanded c.args.self.now.dec c.args.self.now.reversed)
    (ap state_of c.args.self.now.reversed.last ∙ key_at c.args.self.now.enc c.args.self.now.expanded 0 (omega arith)))
