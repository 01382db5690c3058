use mathlib.Core.Path.{ap, ◌∙◌}
use Rattle.aes_math.specs.Rounds.{inv_mix_columns}
use Rattle.aes_math.proofs.StateLaws.{quad}
use Rattle.aes_round.proofs.inv_mix_columns.Goals as goal

pub returns : goal.returns
unfolding inv_mix_columns
returns c = c.join.ensures ∙ quad c.inv_mix.ensures c.inv_mix-2.ensures c.inv_mix-3.ensures c.inv_mix-4.ensures ∙ ap inv_mix_columns c.columns.ensures
