use Rattle.aes_math.proofs.NumLaws.{of_columns}
use Rattle.aes_round.proofs.columns.Goals as goal

pub returns : goal.returns
returns c =
    of_columns c.args.s
