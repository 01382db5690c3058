-- Hexadecimal digits of either case, and texts of two digits a byte.
use Rattle.std.specs.Prelude.{◌≡◌, ℕ, ◌+◌, ◌/◌, ◌%◌, ◌<◌, ◌≤◌, cond, ◌⊎◌, List, [], ◌∷◌, nat_lt}

-- the lower-case digit of a value
abbrev pub digit : ℕ → ℕ
digit v = cond (nat_lt v 10) (48 + v) (87 + v)

-- two lower-case digits a byte, the high one first
abbrev pub encoded : List ℕ → List ℕ
encoded [] = []
encoded (b ∷ bs) = digit (b / 16) ∷ digit (b % 16) ∷ encoded bs

-- c is a digit of the value v: 0 to 9, a to f, A to F
abbrev pub Digit : ℕ → ℕ → Type 0
Digit c v = ((v < 10) × (c ≡ 48 + v)) ⊎ ((10 ≤ v) × (v < 16) × ((c ≡ 87 + v) ⊎ (c ≡ 55 + v)))

-- two digits write the byte b
abbrev pub Pair : ℕ → ℕ → ℕ → Type 0
Pair high low b = Digit high (b / 16) × Digit low (b % 16)

-- the text is two digits for each of the bytes, and nothing else
abbrev pub Decodes : List ℕ → List ℕ → Type 0
Decodes [] [] = Unit {0}
Decodes [] (b ∷ bs) = ⊥
Decodes (high ∷ []) [] = ⊥
Decodes (high ∷ []) (b ∷ bs) = ⊥
Decodes (high ∷ low ∷ text) [] = ⊥
Decodes (high ∷ low ∷ text) (b ∷ bs) = Pair high low b × Decodes text bs

abbrev pub Bytes : List ℕ → Type 0
Bytes [] = Unit {0}
Bytes (b ∷ bs) = (b < 256) × Bytes bs
