-- The round keys that a cipher holds, as blocks, and the rounds that they run in either direction.
use Rattle.std.specs.Prelude.{◌≡◌, ℕ, zero, suc, ◌-◌, ◌<◌, List, slice_index}
use Rattle.aes_math.specs.Rounds.{State, add_round_key, state_of, num_of, inv_mix_columns}
use Rattle.aes.specs.Aes128.{round_key}

-- the round keys 0 to 10 of KeyExpansion
abbrev pub Expanded : ℕ → List ℕ → Type 0
Expanded key enc = (i : ℕ) → i < 11 → slice_index enc i ≡ num_of (round_key (state_of key) i)

-- the same from the last to the first, those of the nine rounds between after InvMixColumns
pub record Reversed (enc dec : List ℕ) : Type 0 where
  pub first : slice_index dec 0 ≡ slice_index enc 10
  pub between : (i : ℕ) → i < 9 → slice_index dec (suc i) ≡ num_of (inv_mix_columns (state_of (slice_index enc (9 - i))))
  pub last : slice_index dec 10 ≡ slice_index enc 0

module _ (mix sub : State → State) where
  -- rounds 1 to n of a direction with its mix of columns and its substitution of bytes in shifted rows
  unfoldable pub rounds_by : (ℕ → State) → ℕ → State → State
  rounds_by ks zero s = s
  rounds_by ks (suc n) s = add_round_key (ks (suc n)) (mix (sub (rounds_by ks n s)))

  -- n rounds, and a last one with no mix
  abbrev pub cipher_by : (ℕ → State) → ℕ → State → State
  cipher_by ks n s = add_round_key (ks (suc n)) (sub (rounds_by ks n (add_round_key (ks 0) s)))
