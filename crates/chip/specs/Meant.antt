-- The words of Chips.antt and Places.antt over a chip as the code holds it.
use Rattle.std.specs.Prelude.{ℕ, List, vec_items}
use Rattle.store.specs.Stores.{Meaning}
use Rattle.chip_math.specs.Chips.{bytes_after, chip, chip_count, lives_after}
use Rattle.chip_math.specs.Places.{Placed, place_answer}
use Rattle.chip.specs.declared.Chip.{Chip}

abbrev pub meant : {C : Type 0} → Chip C → Meaning
meant c = chip c.size.bytes (vec_items c.bytes) (vec_items c.lives)

abbrev pub sectors_of : {C : Type 0} → Chip C → ℕ
sectors_of c = chip_count c.size.bytes (vec_items c.bytes) (vec_items c.lives)

-- the bytes and the lives after a write of xs to sector k
abbrev pub bytes_written : {C : Type 0} → Chip C → ℕ → List ℕ → List ℕ
bytes_written c k xs = bytes_after c.size.bytes (vec_items c.bytes) (vec_items c.lives) k xs

abbrev pub lives_written : {C : Type 0} → Chip C → ℕ → List ℕ → List ℕ
lives_written c k xs = lives_after c.size.bytes (vec_items c.bytes) (vec_items c.lives) k xs

-- whether there is a place for that many bytes in sector k, and where
abbrev pub place_reply : {C : Type 0} → Chip C → ℕ → ℕ → ℕ
place_reply c k len = place_answer c.size.bytes (vec_items c.bytes) (vec_items c.lives) k len

abbrev pub placed : {C : Type 0} → Chip C → ℕ → ℕ → ℕ → Type 0
placed c k len place = Placed c.size.bytes (vec_items c.bytes) (vec_items c.lives) k len place
