use Rattle.std.proofs.Common.{◌≡◌, ℕ, ◌-◌, ◌*◌, ◌/◌, ◌^◌, ◌<◌, ◌++◌, length, take, drop}
use Rattle.block.specs.Blocks.{walk}
use Rattle.mode.specs.Walks.{Answers, AnswersBoth, walked}
use Rattle.mode.proofs.turns.walk_turns.Given as goal

-- what is done, joined with what is left walked from the state on, is the whole walked
abbrev pub invariant-loop-i : goal.invariant-loop-i
invariant-loop-i g l =
    let n = length l.initial.text / 16 in
    (l.state < 2 ^ 128)
    × ((f : ℕ → ℕ → ℕ) (h : ℕ → ℕ) → AnswersBoth (g.T.Turns.turns l.walk) f → Answers (g.T.Turns.steps l.walk) h
    → take (16 * l.i) l.text ++ (walk f h (n - l.i) l.state (drop (16 * l.i) l.text) ++ drop (16 * n) l.text)
    ≡ walked f h l.start l.initial.text)
