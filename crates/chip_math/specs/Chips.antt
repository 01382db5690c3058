-- What a chip over bytes and lives means, what a write leaves of them, and what the cells of a flash chip can do.
use Rattle.std.specs.Prelude.{◌≡◌, ℕ, ◌-◌, ◌*◌, ◌/◌, ◌<◌, min, true, cond, List, [], ◌∷◌, ◌++◌, map, length, take, drop, ◌==◌, bit_and, slice_index, slice_set}
use Rattle.std.specs.List.{range_with_len}
use Rattle.store.specs.Stores.{Meaning, rows, count, life, sector, write_answer}

-- the least of 2,048, the whole sectors in the bytes, and the number of lives
abbrev pub chip_count : ℕ → List ℕ → List ℕ → ℕ
chip_count size bytes lives = min 2048 (min (length bytes / size) (length lives))

-- the bytes from k times the size on
abbrev pub chip_sector : ℕ → List ℕ → ℕ → List ℕ
chip_sector size bytes k = take size (drop (k * size) bytes)

-- the sectors and their lives, and in the rest what lies beyond them
abbrev pub chip : ℕ → List ℕ → List ℕ → Meaning
chip size bytes lives =
    record {
      size = size;
      fits = true;
      sectors = map (chip_sector size bytes) (range_with_len 0 (chip_count size bytes lives));
      lives = take (chip_count size bytes lives) lives;
      rest = rows (drop (chip_count size bytes lives * size) bytes ∷ (drop (chip_count size bytes lives) lives ∷ []));
    }

-- how a chip lies in the memory that it was handed: sector k is the bytes from k times the size on, its life is life k
pub record Laid (size : ℕ) (bytes lives : List ℕ) (m : Meaning) : Type 0 where
  pub sized : m.size ≡ size
  pub counts : count m ≡ min 2048 (min (length bytes / size) (length lives))
  pub sectors : (k : ℕ) → k < chip_count size bytes lives → sector m k ≡ take size (drop (k * size) bytes)
  pub each_life : (k : ℕ) → k < chip_count size bytes lives → life m k ≡ slice_index lives k

abbrev pub Lays : Type 0
Lays = (size : ℕ) (bytes lives : List ℕ) → Laid size bytes lives (chip size bytes lives)

-- The meaning holds the whole memory, also what lies beyond the last sector.
abbrev pub KeepsAll : Type 0
KeepsAll = (size : ℕ) (b l b' l' : List ℕ) → chip size b l ≡ chip size b' l' → (b ≡ b') × (l ≡ l')

-- xs in place of as many of the bytes, from the place on
abbrev pub overlaid : ℕ → List ℕ → List ℕ → List ℕ
overlaid place bytes xs = take place bytes ++ (xs ++ drop (length xs) (drop place bytes))

-- the whole bytes and the whole lives after a write of xs to sector k
abbrev pub bytes_after : ℕ → List ℕ → List ℕ → ℕ → List ℕ → List ℕ
bytes_after size bytes lives k xs = cond (write_answer (chip size bytes lives) k (length xs) == 0) (overlaid (k * size) bytes xs) bytes

abbrev pub lives_after : ℕ → List ℕ → List ℕ → ℕ → List ℕ → List ℕ
lives_after size bytes lives k xs = cond (write_answer (chip size bytes lives) k (length xs) == 0) (slice_set lives k (slice_index lives k - 1)) lives

-- Programming clears bits and sets none: each byte becomes the old AND the new. Where nothing new comes, the old byte stays.
abbrev pub programmed : List ℕ → List ℕ → List ℕ
programmed [] new = []
programmed (x ∷ xs) [] = x ∷ xs
programmed (x ∷ xs) (y ∷ ys) = bit_and x y ∷ programmed xs ys

-- what a sector's cells hold once they have taken new bytes: those, or what they held where the lengths differ
abbrev pub rewritten : List ℕ → List ℕ → List ℕ
rewritten old new = cond (length new == length old) new old
