-- The lines of a text. LF, 10, ends a line; the last one may lack it, and an LF that ends the text begins no further line.
use Rattle.std.specs.Prelude.{◌≡◌, ℕ, cond, ◌⊎◌, List, [], ◌∷◌, ◌++◌, ◌==◌}

-- a character more at the front of the first line
abbrev pub front : ℕ → List (List ℕ) → List (List ℕ)
front c [] = (c ∷ []) ∷ []
front c (l ∷ ls) = (c ∷ l) ∷ ls

-- what stands before each LF, and after the last one if that is not empty
unfoldable pub lines : List ℕ → List (List ℕ)
lines [] = []
lines (c ∷ cs) = cond (c == 10) ([] ∷ lines cs) (front c (lines cs))

-- texts, each ended by LF, and each but the last
abbrev pub ended : List (List ℕ) → List ℕ
ended [] = []
ended (l ∷ ls) = l ++ 10 ∷ ended ls

abbrev pub unended : List (List ℕ) → List ℕ
unended [] = []
unended (l ∷ []) = l
unended (l ∷ m ∷ ls) = l ++ 10 ∷ unended (m ∷ ls)

-- a text is its lines, each ended by LF, or all but the last one
abbrev pub Joined : Type 0
Joined = (s : List ℕ) → (s ≡ ended (lines s)) ⊎ (s ≡ unended (lines s))
