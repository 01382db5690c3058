use Rattle.std.proofs.Common.{◌≡◌, ℕ, length, get_or, ap, ◌∙◌, arith}
use borrow.Rule.Slice.PartMut.{mid_of, mid_len}
use Rattle.aes_math.specs.Rounds.{State, add_round_key, state_of}
use Rattle.aes_math.proofs.NumLaws.{state_xor}
use Rattle.aes.specs.Schedule.{rounds_by}
use Rattle.aes.proofs.Runs.{between, rounds_none, rounds_more}
use Rattle.aes.proofs.run.Goals as goal

pub loop-k-init : goal.loop-k-init
loop-k-init g c =
    state_xor c.args.block (get_or c.args.keys.now 0 0)
    ∙ rounds_none g.D.Direction.mix_columns g.D.Direction.substitute_shifted (λ i. state_of (get_or c.args.keys.now i 0)) (add_round_key (state_of (get_or c.args.keys.now 0 0)) (state_of c.args.block))

pub loop-k-preserved : goal.loop-k-preserved
loop-k-preserved g c =
    let n : length (mid_of 1 9 c.args.keys.now) ≡ 9 = mid_len 1 10 c.args.keys.now (omega arith) in
    c.round-s.ensures
    ∙ rounds_more g.D.Direction.mix_columns g.D.Direction.substitute_shifted (λ i. state_of (get_or c.args.keys.now i 0)) c.loop-k.k-index _ (state_of c.loop-k.s)
    (add_round_key (state_of (get_or c.args.keys.now 0 0)) (state_of c.args.block))
    (ap state_of (between c.args.keys.now c.loop-k.k-index (omega arith))) c.loop-k.invariant

pub returns : goal.returns
returns g c =
    let n : length (mid_of 1 9 c.args.keys.now) ≡ 9 = mid_len 1 10 c.args.keys.now (omega arith) in
    let e : c.loop-k.k-index ≡ 9 = omega arith in
    let ks : ℕ → State = λ i. state_of (get_or c.args.keys.now i 0) in
    c.last_round.ensures
    ∙ ap (λ (s : State). add_round_key (ks 10) (g.D.Direction.substitute_shifted s))
    (c.loop-k.invariant ∙ ap (λ (i : ℕ). rounds_by g.D.Direction.mix_columns g.D.Direction.substitute_shifted ks i (add_round_key (ks 0) (state_of c.args.block))) e)
