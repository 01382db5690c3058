-- A round as a wand holds it: two sectors of 512 bytes, each sealed under its number; and what two copies say of the books.
use Rattle.std.specs.Prelude.{◌≡◌, ℕ, Bool, true, List, ◌++◌, length, take, drop}
use Rattle.std.specs.Int.Digits.{AllBelowBase}
use Rattle.block.specs.Blocks.{tweak}
use Rattle.mode.specs.Modes.{Sealing, Lawful, Alike}

-- a book: the plain contents of the two sectors
pub record Book (xs : List ℕ) : Type 0 where
  pub long : length xs ≡ 1024
  pub bytes : AllBelowBase 256 xs

-- sector 0 and sector 1, each through f under its tweak
abbrev pub by_sector : (ℕ → List ℕ → List ℕ) → List ℕ → List ℕ
by_sector f xs = f (tweak 0) (take 512 xs) ++ f (tweak 1) (drop 512 xs)

-- the copy of a book, as a mode seals it, and the book of a copy
abbrev pub copy : Sealing → List ℕ → List ℕ
copy m book = by_sector m.sealed book

abbrev pub book_of : Sealing → List ℕ → List ℕ
book_of m c = by_sector m.opened c

-- Sealed by modes that seal alike, two copies are equal exactly when the two books are.
pub record Matches (one other : List ℕ) (same : Bool) : Type 0 where
  pub yes : (p q : Sealing) → Lawful p → Lawful q → Alike 512 p q → (a b : List ℕ) → Book a → Book b
      → one ≡ copy p a → other ≡ copy q b → same ≡ true → a ≡ b
  pub exactly : (p q : Sealing) → Lawful p → Lawful q → Alike 512 p q → (a b : List ℕ) → Book a → Book b
      → one ≡ copy p a → other ≡ copy q b → a ≡ b → same ≡ true
