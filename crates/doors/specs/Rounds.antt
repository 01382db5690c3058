-- A round: forty doors, a line each, and their records one after the other.
use Rattle.std.specs.Prelude.{◌≡◌, ℕ, zero, suc, ◌-◌, ◌*◌, ◌≤◌, ◌⊎◌, List, [], ◌∷◌, ◌++◌, length, take, drop, replicate, ◌≢◌, slice_index_or}
use Rattle.lines.specs.Lines.{ended, lines, unended}
use Rattle.doors.specs.Lines.{Written, Wrong}
use Rattle.doors.specs.Records.{record_bytes}
use Rattle.doors.specs.declared.types.Door.{Door}
use Rattle.doors.specs.declared.types.RoundError.{RoundError}
use Rattle.doors.specs.declared.types.RoundError.TheVariants.{Count, Line, Memory}

-- each text writes the door at its place
abbrev pub Each : List (List ℕ) → List Door → Type 0
Each [] [] = Unit {0}
Each [] (d ∷ ds) = ⊥
Each (t ∷ ts) [] = ⊥
Each (t ∷ ts) (d ∷ ds) = Written t d × Each ts ds

-- the input is the lines of these forty doors
pub record Round (input : List ℕ) (ds : List Door) : Type 0 where
  pub forty : length ds ≡ 40
  pub texts : List (List ℕ)
  pub written : Each texts ds
  pub whole : (input ≡ ended texts) ⊎ (input ≡ unended texts)

abbrev pub NoRound : List ℕ → Type 0
NoRound input = (ds : List Door) → Round input ds → ⊥

-- what an error says of the input
abbrev pub Explains : List ℕ → RoundError → Type 0
Explains input (Count n) = (n ≡ length (lines input)) × (n ≢ 40) × NoRound input
Explains input (Line n f) = (1 ≤ n) × (n ≤ 40) × Wrong (slice_index_or (lines input) (n - 1) []) f × ((ds : List Door) × Each (take (n - 1) (lines input)) ds) × NoRound input
Explains input Memory = Unit {0}

-- the records of doors, one after the other
abbrev pub records : List Door → List ℕ
records [] = []
records (d ∷ ds) = record_bytes d ++ records ds

-- the records, and zero bytes up to 1,024
abbrev pub image_of : List Door → List ℕ
image_of ds = records ds ++ replicate (1024 - 24 * length ds) 0

-- the doors at the first n places of an image, up to the first place that holds none
abbrev pub Holds : ℕ → List ℕ → List Door → Type 0
Holds zero xs [] = Unit {0}
Holds zero xs (d ∷ ds) = ⊥
Holds (suc n) xs [] = (d : Door) → record_bytes d ≢ take 24 xs
Holds (suc n) xs (d ∷ ds) = (record_bytes d ≡ take 24 xs) × Holds n (drop 24 xs) ds
