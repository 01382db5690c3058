-- Numbers written in decimal, and a text that begins with one.
use Rattle.std.specs.Prelude.{◌≡◌, ℕ, ◌+◌, ◌-◌, ◌*◌, ◌≤◌, List, [], ◌∷◌, ◌++◌, length}

-- the character of a decimal digit
abbrev pub Digit : ℕ → Type 0
Digit c = (48 ≤ c) × (c ≤ 57)

abbrev pub Digits : List ℕ → Type 0
Digits [] = Unit {0}
Digits (c ∷ cs) = Digit c × Digits cs

-- the text does not begin with a digit
abbrev pub NoDigit : List ℕ → Type 0
NoDigit [] = Unit {0}
NoDigit (c ∷ cs) = Digit c → ⊥

-- the number that decimal digits stand for, after those that stand for n
abbrev pub decimal : ℕ → List ℕ → ℕ
decimal n [] = n
decimal n (c ∷ cs) = decimal (n * 10 + (c - 48)) cs

-- ds writes v: one to `most` digits, and v is at most `limit`
pub record Numeral (most limit : ℕ) (ds : List ℕ) (v : ℕ) : Type 0 where
  pub some : 1 ≤ length ds
  pub few : length ds ≤ most
  pub digits : Digits ds
  pub value : decimal 0 ds ≡ v
  pub small : v ≤ limit

-- the text is a numeral of v, followed by the rest, which begins with no digit
pub record Begins (most limit : ℕ) (text : List ℕ) (v : ℕ) (rest : List ℕ) : Type 0 where
  pub ds : List ℕ
  pub whole : text ≡ ds ++ rest
  pub numeral : Numeral most limit ds v
  pub after : NoDigit rest
