use Rattle.std.proofs.Common.{◌≡◌, ℕ, ◌<◌, length, get_or}
use Rattle.speck.specs.Speck.{pair_of, scheduled}
use Rattle.speck.proofs.expand.Given as goal

abbrev pub invariant-loop-i : goal.invariant-loop-i
invariant-loop-i l =
    (length l.k-items ≡ 32) × (l.pair ≡ scheduled (pair_of l.key) l.i) × ((j : ℕ) → j < l.i → get_or l.k-items j 0 ≡ (scheduled (pair_of l.key) j).1)
