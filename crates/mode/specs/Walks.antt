-- A walk over all whole blocks of a text.
use Rattle.std.specs.Prelude.{◌≡◌, ℕ, ◌*◌, ◌/◌, ◌^◌, ◌<◌, List, ◌++◌, length, drop}
use Rattle.block.specs.Blocks.{walk}

-- a call on blocks answers g
abbrev pub Answers : (ℕ → ℕ → Type 0) → (ℕ → ℕ) → Type 0
Answers post g = (b r : ℕ) → b < 2 ^ 128 → post b r → r ≡ g b

-- a call on two blocks answers g
abbrev pub AnswersBoth : (ℕ → ℕ → ℕ → Type 0) → (ℕ → ℕ → ℕ) → Type 0
AnswersBoth post g = (s b r : ℕ) → s < 2 ^ 128 → b < 2 ^ 128 → post s b r → r ≡ g s b

-- the whole blocks are walked from the state s on; what is left behind them stays
abbrev pub walked : (ℕ → ℕ → ℕ) → (ℕ → ℕ) → ℕ → List ℕ → List ℕ
walked f next s xs = walk f next (length xs / 16) s xs ++ drop (16 * (length xs / 16)) xs
