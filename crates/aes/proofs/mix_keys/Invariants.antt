use Rattle.std.proofs.Common.{◌≡◌, ℕ, ◌^◌, ◌<◌, ◌≤◌, length, get_or}
use Rattle.aes_math.specs.Rounds.{state_of, inv_mix_columns}
use Rattle.aes.proofs.mix_keys.Given as goal

-- the keys so far are mixed, and those to come are as they were
abbrev pub invariant-loop-k : goal.invariant-loop-k
invariant-loop-k l = record {
  all : length l.keys ≡ 11;
  mixed : (i : ℕ) → i < l.k-index → state_of (get_or l.keys i 0) ≡ inv_mix_columns (state_of (get_or l.initial.keys i 0));
  fits : (i : ℕ) → get_or l.keys i 0 < 2 ^ 128;
  left : (i : ℕ) → l.k-index ≤ i → get_or l.keys i 0 ≡ get_or l.initial.keys i 0;
}
