-- The record of a door: number, badge and time, each highest byte first, and the name.
use Rattle.std.specs.Prelude.{◌≡◌, ℕ, ◌/◌, ◌%◌, ◌^◌, ◌<◌, List, [], ◌∷◌, ◌++◌}
use Rattle.doors.specs.declared.types.Door.{Door}

-- a number in two, four and eight bytes, the highest first
abbrev pub bytes2 : ℕ → List ℕ
bytes2 v = v / 2 ^ 8 % 256 ∷ v % 256 ∷ []

abbrev pub bytes4 : ℕ → List ℕ
bytes4 v = v / 2 ^ 24 % 256 ∷ v / 2 ^ 16 % 256 ∷ bytes2 v

abbrev pub bytes8 : ℕ → List ℕ
bytes8 v = v / 2 ^ 56 % 256 ∷ v / 2 ^ 48 % 256 ∷ v / 2 ^ 40 % 256 ∷ v / 2 ^ 32 % 256 ∷ bytes4 v

-- the four fields, one after the other
unfoldable pub laid : ℕ → ℕ → ℕ → List ℕ → List ℕ
laid number badge time name = bytes2 number ++ (bytes4 badge ++ (bytes8 time ++ name))

abbrev pub record_bytes : Door → List ℕ
record_bytes d = laid d.number d.badge d.time d.name

-- the bytes are these four fields, each of which fits its place
pub record Parted (number badge time : ℕ) (name bytes : List ℕ) : Type 0 where
  pub number_fits : number < 2 ^ 16
  pub badge_fits : badge < 2 ^ 32
  pub time_fits : time < 2 ^ 64
  pub whole : laid number badge time name ≡ bytes
