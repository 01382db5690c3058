-- The transformations of FIPS 197 on words and states, and Cipher and InvCipher over any round keys and any number of rounds.
use Rattle.std.specs.Prelude.{ℕ, zero, suc, ◌+◌, ◌*◌, ◌/◌, ◌%◌, ◌^◌, bit_xor}
use Rattle.aes_math.specs.Field.{mul, sbox, inv_sbox}

-- a word: four bytes, a0 first. A column of the state is a word, the byte of row 0 first.
abbrev pub Word : Type 0
Word = ℕ × ℕ × ℕ × ℕ

-- the state: its four columns
abbrev pub State : Type 0
State = Word × Word × Word × Word

-- ---- words

abbrev pub add_word : Word → Word → Word
add_word v w = (bit_xor v.0 w.0, bit_xor v.1 w.1, bit_xor v.2 w.2, bit_xor v.3 w.3)

abbrev pub sub_word : Word → Word
sub_word w = (sbox w.0, sbox w.1, sbox w.2, sbox w.3)

abbrev pub inv_sub_word : Word → Word
inv_sub_word w = (inv_sbox w.0, inv_sbox w.1, inv_sbox w.2, inv_sbox w.3)

abbrev pub rot_word : Word → Word
rot_word w = (w.1, w.2, w.3, w.0)

abbrev pub sum4 : ℕ → ℕ → ℕ → ℕ → ℕ
sum4 a b c d = bit_xor (bit_xor (bit_xor a b) c) d

-- one column times the matrix of the standard
abbrev pub mix_word : Word → Word
mix_word w = (
  sum4 (mul 2 w.0) (mul 3 w.1) w.2 w.3,
  sum4 w.0 (mul 2 w.1) (mul 3 w.2) w.3,
  sum4 w.0 w.1 (mul 2 w.2) (mul 3 w.3),
  sum4 (mul 3 w.0) w.1 w.2 (mul 2 w.3),
)

abbrev pub inv_mix_word : Word → Word
inv_mix_word w = (
  sum4 (mul 14 w.0) (mul 11 w.1) (mul 13 w.2) (mul 9 w.3),
  sum4 (mul 9 w.0) (mul 14 w.1) (mul 11 w.2) (mul 13 w.3),
  sum4 (mul 13 w.0) (mul 9 w.1) (mul 14 w.2) (mul 11 w.3),
  sum4 (mul 11 w.0) (mul 13 w.1) (mul 9 w.2) (mul 14 w.3),
)

-- ---- the transformations of the state

abbrev pub each : (Word → Word) → State → State
each f s = (f s.0, f s.1, f s.2, f s.3)

unfoldable pub sub_bytes : State → State
sub_bytes s = each sub_word s

unfoldable pub inv_sub_bytes : State → State
inv_sub_bytes s = each inv_sub_word s

-- row r moves left by r places: in column c, row r, stands what stood in column c + r modulo 4
unfoldable pub shift_rows : State → State
shift_rows s = (
  (s.0.0, s.1.1, s.2.2, s.3.3),
  (s.1.0, s.2.1, s.3.2, s.0.3),
  (s.2.0, s.3.1, s.0.2, s.1.3),
  (s.3.0, s.0.1, s.1.2, s.2.3),
)

unfoldable pub inv_shift_rows : State → State
inv_shift_rows s = (
  (s.0.0, s.3.1, s.2.2, s.1.3),
  (s.1.0, s.0.1, s.3.2, s.2.3),
  (s.2.0, s.1.1, s.0.2, s.3.3),
  (s.3.0, s.2.1, s.1.2, s.0.3),
)

unfoldable pub mix_columns : State → State
mix_columns s = each mix_word s

unfoldable pub inv_mix_columns : State → State
inv_mix_columns s = each inv_mix_word s

unfoldable pub add_round_key : State → State → State
add_round_key k s = (add_word s.0 k.0, add_word s.1 k.1, add_word s.2 k.2, add_word s.3 k.3)

-- ---- Cipher and InvCipher, over any round keys

abbrev pub round : State → State → State
round k s = add_round_key k (mix_columns (shift_rows (sub_bytes s)))

abbrev pub inv_round : State → State → State
inv_round k s = inv_mix_columns (add_round_key k (inv_sub_bytes (inv_shift_rows s)))

-- rounds 1 to n
unfoldable pub rounds : (ℕ → State) → ℕ → State → State
rounds ks zero s = s
rounds ks (suc n) s = round (ks (suc n)) (rounds ks n s)

-- rounds n to 1 of InvCipher
unfoldable pub inv_rounds : (ℕ → State) → ℕ → State → State
inv_rounds ks zero s = s
inv_rounds ks (suc n) s = inv_rounds ks n (inv_round (ks (suc n)) s)

-- n rounds, and a last one without MixColumns
unfoldable pub cipher : ℕ → (ℕ → State) → State → State
cipher n ks s = add_round_key (ks (suc n)) (shift_rows (sub_bytes (rounds ks n (add_round_key (ks 0) s))))

unfoldable pub inv_cipher : ℕ → (ℕ → State) → State → State
inv_cipher n ks s = add_round_key (ks 0) (inv_sub_bytes (inv_shift_rows (inv_rounds ks n (add_round_key (ks (suc n)) s))))

-- ---- a block of 16 bytes as a number, its first byte the highest

abbrev pub word_of : ℕ → Word
word_of n = (n / 2 ^ 24 % 256, n / 2 ^ 16 % 256, n / 2 ^ 8 % 256, n % 256)

abbrev pub num_word : Word → ℕ
num_word w = ((w.0 * 256 + w.1) * 256 + w.2) * 256 + w.3

unfoldable pub state_of : ℕ → State
state_of n = (word_of (n / 2 ^ 96), word_of (n / 2 ^ 64), word_of (n / 2 ^ 32), word_of n)

unfoldable pub num_of : State → ℕ
num_of s = ((num_word s.0 * 2 ^ 32 + num_word s.1) * 2 ^ 32 + num_word s.2) * 2 ^ 32 + num_word s.3
