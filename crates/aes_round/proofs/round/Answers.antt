use mathlib.Core.Path.{ap, ◌∙◌}
use Rattle.aes_math.specs.Rounds.{State, add_round_key, each, state_of}
use Rattle.aes_math.proofs.StateLaws.{quad}
use Rattle.aes_math.proofs.NumLaws.{state_xor}
use Rattle.aes_round.specs.Directions.{mixed, substituted}
use Rattle.aes_round.proofs.round.Goals as goal

pub returns : goal.returns
returns g c =
    state_xor c.join.result c.args.k
    ∙ ap (add_round_key (state_of c.args.k))
    (c.join.ensures ∙ quad c.mix.ensures c.mix-2.ensures c.mix-3.ensures c.mix-4.ensures
    ∙ ap (λ (s : State). each (mixed g.D.Direction.column) (each (substituted g.D.Direction.substitute) s)) (c.shift_rows.ensures ∙ ap g.D.Direction.shift_rows c.columns.ensures)
    ∙ ap (each (mixed g.D.Direction.column)) (g.met.D.Direction.substitutes (state_of c.args.s))
    ∙ g.met.D.Direction.mixes (g.D.Direction.substitute_shifted (state_of c.args.s)))
