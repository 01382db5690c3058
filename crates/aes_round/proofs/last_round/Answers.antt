use mathlib.Core.Path.{ap, ◌∙◌}
use Rattle.aes_math.specs.Rounds.{add_round_key, each, state_of}
use Rattle.aes_math.proofs.StateLaws.{quad}
use Rattle.aes_math.proofs.NumLaws.{state_xor}
use Rattle.aes_round.specs.Directions.{substituted}
use Rattle.aes_round.proofs.last_round.Goals as goal

pub returns : goal.returns
returns g c =
    state_xor c.join.result c.args.k
    ∙ ap (add_round_key (state_of c.args.k))
    (c.join.ensures ∙ quad c.substitute.ensures c.substitute-2.ensures c.substitute-3.ensures c.substitute-4.ensures
    ∙ ap (each (substituted g.D.Direction.substitute)) (c.shift_rows.ensures ∙ ap g.D.Direction.shift_rows c.columns.ensures)
    ∙ g.met.D.Direction.substitutes (state_of c.args.s))
