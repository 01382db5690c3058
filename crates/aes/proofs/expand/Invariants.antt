use Rattle.std.proofs.Common.{◌≡◌, ℕ, ◌+◌, ◌<◌, length, get_or}
use Rattle.aes_math.specs.Rounds.{state_of, num_of}
use Rattle.aes.specs.Aes128.{round_key}
use Rattle.aes.proofs.expand.Given as goal

abbrev pub invariant-loop-i : goal.invariant-loop-i
invariant-loop-i l =
    (length l.enc ≡ 11) × ((k : ℕ) → k < l.i + 1 → get_or l.enc k 0 ≡ num_of (round_key (state_of l.key) k))
