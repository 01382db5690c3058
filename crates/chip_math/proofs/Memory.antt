-- The whole memory of a chip, read off its meaning.
use Rattle.std.proofs.Common.{◌≡◌, ℕ, zero, suc, ◌+◌, ◌*◌, List, [], ◌++◌, map, get_or, take, drop, sym, ap, ◌∙◌, suc-mul, add_comm, zero-mul, add-one, take-append-drop, drop-drop, take-add}
use Rattle.std.specs.List.{range_with_len, flat_map}
use Rattle.store.specs.Stores.{Meaning, Rest, rows, functions, both}
use Rattle.chip_math.specs.Chips.{KeepsAll, chip_count, chip_sector, chip}

row : Rest → ℕ → List ℕ
row (rows xss) i = get_or xss i []
row (functions f) i = []
row (both r s) i = []

all_bytes : Meaning → List ℕ
all_bytes m = flat_map (λ xs. xs) m.sectors ++ row m.rest 0

all_lives : Meaning → List ℕ
all_lives m = m.lives ++ row m.rest 1

-- sectors one behind the other, from sector a on
side_by_side : (size a n : ℕ) (bytes : List ℕ) → flat_map (λ xs. xs) (map (chip_sector size bytes) (range_with_len a n)) ≡ take (n * size) (drop (a * size) bytes)
side_by_side size a zero bytes = ap (λ (j : ℕ). take j (drop (a * size) bytes)) (sym (zero-mul size))
side_by_side size a (suc n) bytes =
    let next : (a + 1) * size ≡ a * size + size = ap (λ (j : ℕ). j * size) (add-one a) ∙ suc-mul a size in
    let more : size + n * size ≡ suc n * size = add_comm size (n * size) ∙ sym (suc-mul n size) in
    ap (λ (ys : List ℕ). chip_sector size bytes a ++ ys)
    (side_by_side size (a + 1) n bytes
    ∙ ap (λ (j : ℕ). take (n * size) (drop j bytes)) next
    ∙ ap (take (n * size)) (sym (drop-drop size (a * size) bytes)))
    ∙ sym (take-add size (n * size) (drop (a * size) bytes))
    ∙ ap (λ (j : ℕ). take j (drop (a * size) bytes)) more

bytes_are : (size : ℕ) (bytes lives : List ℕ) → all_bytes (chip size bytes lives) ≡ bytes
unfolding all_bytes row
bytes_are size bytes lives =
    let n = chip_count size bytes lives in
    ap (λ (xs : List ℕ). xs ++ drop (n * size) bytes)
    (side_by_side size 0 n bytes ∙ ap (λ (j : ℕ). take (n * size) (drop j bytes)) (zero-mul size))
    ∙ take-append-drop (n * size) bytes

lives_are : (size : ℕ) (bytes lives : List ℕ) → all_lives (chip size bytes lives) ≡ lives
unfolding all_lives row
lives_are size bytes lives = take-append-drop (chip_count size bytes lives) lives

pub keeps_all : KeepsAll
keeps_all size b l b' l' e = (
  sym (bytes_are size b l) ∙ ap all_bytes e ∙ bytes_are size b' l',
  sym (lives_are size b l) ∙ ap all_lives e ∙ lives_are size b' l',
)
