-- The two directions of the cipher: what each makes of a byte, and of a state as FIPS 197 says it.
use Rattle.std.specs.Prelude.{◌≡◌, ℕ, List, get_or, [], refl}
use Rattle.aes_math.specs.Rounds.{Word, State, add_word, each, sub_bytes, inv_sub_bytes, shift_rows, inv_shift_rows, mix_columns, inv_mix_columns, word_of}
use Rattle.aes_math.specs.Field.{sbox, inv_sbox}
use Rattle.aes_math.specs.Parts.{mix0, inv0}

-- the word that an array of four bytes holds, the state of four such arrays, and that of four columns
abbrev pub word_in : List ℕ → Word
word_in b = (get_or b 0 0, get_or b 1 0, get_or b 2 0, get_or b 3 0)

abbrev pub state_in : List (List ℕ) → State
state_in c = (word_in (get_or c 0 []), word_in (get_or c 1 []), word_in (get_or c 2 []), word_in (get_or c 3 []))

abbrev pub state_of_columns : List ℕ → State
state_of_columns c = (word_of (get_or c 0 0), word_of (get_or c 1 0), word_of (get_or c 2 0), word_of (get_or c 3 0))

-- f of each byte
abbrev pub substituted : (ℕ → ℕ) → Word → Word
substituted f w = (f w.0, f w.1, f w.2, f w.3)

-- a word moved down by one row
abbrev pub down : Word → Word
down w = (w.3, w.0, w.1, w.2)

-- a column mixed by what the mix makes of a byte in row 0
abbrev pub mixed : (ℕ → Word) → Word → Word
mixed f w = add_word (add_word (add_word (f w.0) (down (f w.1))) (down (down (f w.2)))) (down (down (down (f w.3))))

pub forward_substitutes : (s : State) → each (substituted sbox) (shift_rows s) ≡ shift_rows (sub_bytes s)
unfolding shift_rows sub_bytes
forward_substitutes s = refl

pub forward_mixes : (s : State) → each (mixed mix0) s ≡ mix_columns s
unfolding mix_columns
forward_mixes s = refl

pub inverse_substitutes : (s : State) → each (substituted inv_sbox) (inv_shift_rows s) ≡ inv_sub_bytes (inv_shift_rows s)
unfolding inv_sub_bytes
inverse_substitutes s = refl

pub inverse_mixes : (s : State) → each (mixed inv0) s ≡ inv_mix_columns s
unfolding inv_mix_columns
inverse_mixes s = refl
