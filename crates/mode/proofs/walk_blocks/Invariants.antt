use Rattle.std.proofs.Common.{◌≡◌, ◌-◌, ◌*◌, ◌/◌, ◌++◌, length, take, drop}
use Rattle.block.specs.Blocks.{walk}
use Rattle.mode.specs.Walks.{walked}
use Rattle.mode.proofs.walk_blocks.Given as goal

-- what is done, joined with what is left walked from the state on, is the whole walked
abbrev pub invariant-loop-i : goal.invariant-loop-i
invariant-loop-i g l =
    let n = length l.initial.text / 16 in
    let f = g.W.Walk.turned l.walk in
    let h = g.W.Walk.stepped l.walk in
    take (16 * l.i) l.text ++ (walk f h (n - l.i) l.state (drop (16 * l.i) l.text) ++ drop (16 * n) l.text) ≡ walked f h l.start l.initial.text
