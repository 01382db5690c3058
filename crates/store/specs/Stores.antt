-- What a store means, the laws of every meaning, and what each call answers and leaves.
use Rattle.std.specs.Prelude.{◌≡◌, ℕ, ◌-◌, ◌^◌, ◌<◌, ◌≤◌, Bool, true, cond, List, [], length, ◌==◌, nat_lt, slice_index, slice_index_or, slice_set}
use Rattle.std.specs.Int.Digits.{AllBelowBase}
use Rattle.mode.specs.Modes.{Sealing, sector_size}

-- What a pile holds beside its sectors and their lives, and what no call alters: memory outside them, in rows, and the functions of its modes.
pub data Rest : Type 0 where
  rows : List (List ℕ) → Rest
  functions : Sealing → Rest
  both : Rest → Rest → Rest

pub record Meaning : Type 0 where
  -- the bytes of a sector
  pub size : ℕ
  -- whether every mode in the pile permits the sector size
  pub fits : Bool
  pub sectors : List (List ℕ)
  -- a sector's life is the number of writes that it still bears
  pub lives : List ℕ
  pub rest : Rest

abbrev pub count : Meaning → ℕ
count m = length m.sectors

abbrev pub sector : Meaning → ℕ → List ℕ
sector m k = slice_index_or m.sectors k []

abbrev pub life : Meaning → ℕ → ℕ
life m k = slice_index m.lives k

-- what every meaning obeys
pub record Sound (m : Meaning) : Type 0 where
  pub sized : sector_size m.size ≡ true
  pub few : count m ≤ 2048
  pub lives_length : length m.lives ≡ count m
  pub sector_length : (k : ℕ) → k < count m → length (sector m k) ≡ m.size
  pub sector_bytes : (k : ℕ) → k < count m → AllBelowBase 256 (sector m k)
  pub life_small : (k : ℕ) → k < count m → life m k < 2 ^ 32

-- The tests, each with the answer of those behind it: 3, no such sector; 2, the buffer is not one sector; 7, the life is 0; last 9.
abbrev pub sector_test : Meaning → ℕ → ℕ → ℕ
sector_test m k rest = cond (nat_lt k (count m)) rest 3

abbrev pub buffer_test : Meaning → ℕ → ℕ → ℕ
buffer_test m n rest = cond (n == m.size) rest 2

abbrev pub life_test : Meaning → ℕ → ℕ → ℕ
life_test m k rest = cond (nat_lt 0 (life m k)) rest 7

abbrev pub mode_test : Meaning → ℕ
mode_test m = cond m.fits 0 9

-- what a question for a life, a read and a write answer, by the sector's number and the buffer's length
abbrev pub life_answer : Meaning → ℕ → ℕ
life_answer m k = sector_test m k 0

abbrev pub read_answer : Meaning → ℕ → ℕ → ℕ
read_answer m k n = sector_test m k (buffer_test m n (mode_test m))

abbrev pub write_answer : Meaning → ℕ → ℕ → ℕ
write_answer m k n = sector_test m k (buffer_test m n (life_test m k (mode_test m)))

-- what a read leaves in a buffer that held xs
abbrev pub after_read : Meaning → ℕ → List ℕ → List ℕ
after_read m k xs = cond (read_answer m k (length xs) == 0) (sector m k) xs

-- xs in sector k, at the cost of one life
abbrev pub put : Meaning → ℕ → List ℕ → Meaning
put m k xs =
    record {
      size = m.size;
      fits = m.fits;
      sectors = slice_set m.sectors k xs;
      lives = slice_set m.lives k (life m k - 1);
      rest = m.rest;
    }

-- what a write of xs leaves
abbrev pub after_write : Meaning → ℕ → List ℕ → Meaning
after_write m k xs = cond (write_answer m k (length xs) == 0) (put m k xs) m
