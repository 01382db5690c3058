use Rattle.std.proofs.Common.{◌≡◌, get_or}
use Rattle.aes_math.specs.Rounds.{add_round_key, state_of}
use Rattle.aes.specs.Schedule.{rounds_by}
use Rattle.aes.proofs.run.Given as goal

abbrev pub invariant-loop-k : goal.invariant-loop-k
invariant-loop-k g l =
    state_of l.s ≡ rounds_by g.D.Direction.mix_columns g.D.Direction.substitute_shifted (λ i. state_of (get_or l.keys i 0)) l.k-index (add_round_key (state_of (get_or l.keys 0 0)) (state_of l.block))
