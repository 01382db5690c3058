-- What is shown of a round.
use Rattle.std.specs.Prelude.{ℕ, zero, suc, Bool, true, false, List, [], ◌∷◌, ◌++◌, length, take, drop, map, codes, decimal}
use Rattle.doors.specs.Lines.{line_of}
use Rattle.doors.specs.declared.types.Door.{Door}
use Rattle.hexadecimal.specs.Hex.{encoded}

-- lines, each behind two spaces and ended by LF
abbrev pub indented : List (List ℕ) → List ℕ
indented [] = []
indented (l ∷ ls) = 32 ∷ 32 ∷ l ++ 10 ∷ indented ls

-- the lines of doors
abbrev pub listed : List Door → List ℕ
listed ds = indented (map line_of ds)

-- the first n rows of 32 bytes, fewer where the bytes end before; the last row may be shorter
abbrev pub rows : ℕ → List ℕ → List (List ℕ)
rows zero xs = []
rows (suc n) [] = []
rows (suc n) (x ∷ xs) = take 32 (x ∷ xs) ∷ rows n (drop 32 (x ∷ xs))

-- bytes in rows, in hexadecimal
abbrev pub dumped : List ℕ → List ℕ
dumped xs = indented (map encoded (rows (length xs) xs))

-- a sealed sector under a heading with its number
abbrev pub sector_shown : ℕ → List ℕ → List ℕ
sector_shown k xs = codes "sector " ++ decimal k ++ codes ", sealed under its number:\n" ++ dumped xs

-- what comparing two copies comes to
abbrev pub verdict : Bool → List ℕ
verdict true = codes "the copies are equal"
verdict false = codes "the copies differ"

-- whether doors came back as they were laid
abbrev pub kept : Bool → List ℕ
kept true = codes "as they were laid"
kept false = codes "NOT as they were laid"

-- the doors that came back: how many, whether as they were laid, and their lines
abbrev pub opened_shown : Bool → List Door → List ℕ
opened_shown same ds =
    codes "opened again: " ++ decimal (length ds) ++ codes " doors, " ++ kept same ++ codes ":\n" ++ listed ds
