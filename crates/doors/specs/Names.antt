-- A door's name: characters of A-Z, a-z, 0-9 and '-', filled up with zero bytes.
use Rattle.std.specs.Prelude.{◌≡◌, ℕ, ◌-◌, ◌≤◌, Bool, true, cond, ◌&&◌, ◌||◌, List, [], ◌∷◌, ◌++◌, length, replicate, ◌==◌, nat_le}
use Rattle.std.specs.List.{AllByRecursion}

abbrev pub is_letter : ℕ → Bool
is_letter c = (nat_le 65 c && nat_le c 90) || ((nat_le 97 c && nat_le c 122) || ((nat_le 48 c && nat_le c 57) || c == 45))

abbrev pub Letter : ℕ → Type 0
Letter c = is_letter c ≡ true

abbrev pub zeros : List ℕ → Bool
zeros [] = true
zeros (c ∷ cs) = c == 0 && zeros cs

-- letters, and then zero bytes up to the end
abbrev pub padded : List ℕ → Bool
padded [] = true
padded (c ∷ cs) = cond (c == 0) (zeros cs) (is_letter c && padded cs)

-- the text is one to ten letters, and the name is that, filled up to ten
pub record Named (text name : List ℕ) : Type 0 where
  pub some : 1 ≤ length text
  pub few : length text ≤ 10
  pub letters : AllByRecursion Letter text
  pub filled : name ≡ text ++ replicate (10 - length text) 0

-- the text of a name, without the zero bytes
abbrev pub letters : List ℕ → List ℕ
letters [] = []
letters (c ∷ cs) = cond (c == 0) (letters cs) (c ∷ letters cs)
