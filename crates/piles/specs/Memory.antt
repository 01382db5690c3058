-- What a write of xs to sector k of a sealing layer over a window leaves of the chip's memory: the sealed sector at its place, one life less, and all else as it was.
use Rattle.std.specs.Prelude.{ℕ, ◌+◌, ◌-◌, ◌*◌, Bool, cond, List, length, ◌==◌, slice_index, slice_set}
use Rattle.block.specs.Blocks.{tweak}
use Rattle.mode.specs.Modes.{Sealing}
use Rattle.store.specs.Stores.{Meaning, count, write_answer}
use Rattle.chip_math.specs.Chips.{overlaid}
use Rattle.window.specs.Windows.{first_of, window}
use Rattle.sealed.specs.Overs.{layer}

-- over a store that means m: whether the write is accepted, and which sector of m it goes to
abbrev pub taken : Meaning → ℕ → ℕ → Sealing → ℕ → List ℕ → Bool
taken m f c s k xs = write_answer (layer (window m f c) s) k (length xs) == 0

abbrev pub place : Meaning → ℕ → ℕ → ℕ
place m f k = first_of (count m) f + k

-- the whole bytes and the whole lives of the chip after it
abbrev pub bytes_left : Meaning → ℕ → ℕ → Sealing → ℕ → List ℕ → List ℕ → List ℕ
bytes_left m f c s k xs bytes = cond (taken m f c s k xs) (overlaid (place m f k * m.size) bytes (s.sealed (tweak k) xs)) bytes

abbrev pub lives_left : Meaning → ℕ → ℕ → Sealing → ℕ → List ℕ → List ℕ → List ℕ
lives_left m f c s k xs lives = cond (taken m f c s k xs) (slice_set lives (place m f k) (slice_index lives (place m f k) - 1)) lives
