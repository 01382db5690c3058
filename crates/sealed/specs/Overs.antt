-- Sealed sectors, seen plain: each sector is opened and sealed by a mode that is chosen for it, under its number.
use Rattle.std.specs.Prelude.{◌≡◌, ℕ, Bool, cond, ◌&&◌, List, length}
use Rattle.block.specs.Blocks.{tweak}
use Rattle.mode.specs.Modes.{Sealing, Lawful, permitted}
use Rattle.store.specs.Stores.{Meaning, Sound, Rest, write_answer, after_write}
use Rattle.store.specs.Stores.Rest.{functions, both}
use Rattle.store.specs.Places.{by_place}

-- sector k under its tweak, by the mode that `pick` chooses for it
abbrev pub opened_at : (ℕ → Sealing) → ℕ → List ℕ → List ℕ
opened_at pick k xs = (pick k).opened (tweak k) xs

abbrev pub sealed_at : (ℕ → Sealing) → ℕ → List ℕ → List ℕ
sealed_at pick k xs = (pick k).sealed (tweak k) xs

-- the book of a chip: the plain contents of its sectors
abbrev pub book_of : (ℕ → Sealing) → List (List ℕ) → List (List ℕ)
book_of pick chip = by_place (opened_at pick) 0 chip

-- The store that shows the sealed sectors of m plain. `permits` says whether its modes permit the sector size; `modes` are their functions.
abbrev pub over : Meaning → (ℕ → Sealing) → Bool → Rest → Meaning
over m pick permits modes =
    record { size = m.size; fits = m.fits && permits; sectors = book_of pick m.sectors; lives = m.lives; rest = both m.rest modes }

-- a sealing layer: one mode for every sector
abbrev pub layer : Meaning → Sealing → Meaning
layer m s = over m (λ _. s) (permitted m.size) (functions s)

-- a mode's refusal, at a layer: 9
abbrev pub layer_answer : ℕ → ℕ
layer_answer n = cond (permitted n) 0 9

-- What a call that seals a sector xs and writes it below answers and leaves.
abbrev pub sealing_answer : Meaning → Sealing → ℕ → List ℕ → ℕ
sealing_answer m s k xs = cond (permitted (length xs)) (write_answer m k (length (s.sealed (tweak k) xs))) 9

abbrev pub after_sealing : Meaning → Sealing → ℕ → List ℕ → Meaning
after_sealing m s k xs = cond (permitted (length xs)) (after_write m k (s.sealed (tweak k) xs)) m

-- What a layer means says all of its mode and of the store below.
abbrev pub SaysAll : Type 0
SaysAll = (m m' : Meaning) (s s' : Sealing) → Sound m → Sound m' → Lawful s → layer m s ≡ layer m' s' → (m ≡ m') × (s ≡ s')
