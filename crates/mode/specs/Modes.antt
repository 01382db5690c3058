-- What a mode means, and the laws of that meaning.
use Rattle.std.specs.Prelude.{◌≡◌, ℕ, ◌%◌, ◌^◌, ◌<◌, Bool, true, cond, ◌&&◌, List, length, ◌==◌, nat_le}
use Rattle.std.specs.Int.Digits.{AllBelowBase}

-- a length that a mode permits: a multiple of 16 from 32 to 4,096
abbrev pub permitted : ℕ → Bool
permitted n = n % 16 == 0 && (nat_le 32 n && nat_le n 4096)

-- a sector size: a multiple of 16 from 32 to 4,096
abbrev pub sector_size : ℕ → Bool
sector_size n = n % 16 == 0 && (nat_le 32 n && nat_le n 4096)

-- a sealing function and an opening function, of a tweak, which is a block, and a string of bytes
pub record Sealing : Type 0 where
  pub sealed : ℕ → List ℕ → List ℕ
  pub opened : ℕ → List ℕ → List ℕ

-- bytes of a permitted length
pub record Text (xs : List ℕ) : Type 0 where
  pub fits : permitted (length xs) ≡ true
  pub bytes : AllBelowBase 256 xs

-- under every tweak each function undoes the other, and gives bytes of the same length
pub record Lawful (m : Sealing) : Type 0 where
  pub opens : (t : ℕ) (xs : List ℕ) → t < 2 ^ 128 → Text xs → m.opened t (m.sealed t xs) ≡ xs
  pub seals : (t : ℕ) (xs : List ℕ) → t < 2 ^ 128 → Text xs → m.sealed t (m.opened t xs) ≡ xs
  pub sealed_length : (t : ℕ) (xs : List ℕ) → t < 2 ^ 128 → Text xs → length (m.sealed t xs) ≡ length xs
  pub opened_length : (t : ℕ) (xs : List ℕ) → t < 2 ^ 128 → Text xs → length (m.opened t xs) ≡ length xs
  pub sealed_bytes : (t : ℕ) (xs : List ℕ) → t < 2 ^ 128 → Text xs → AllBelowBase 256 (m.sealed t xs)
  pub opened_bytes : (t : ℕ) (xs : List ℕ) → t < 2 ^ 128 → Text xs → AllBelowBase 256 (m.opened t xs)

-- two modes seal alike at a size: the same result for each tweak and each string of that size
pub record Alike (size : ℕ) (p q : Sealing) : Type 0 where
  pub seals : (t : ℕ) (xs : List ℕ) → t < 2 ^ 128 → AllBelowBase 256 xs → length xs ≡ size → p.sealed t xs ≡ q.sealed t xs

-- what a mode's call answers, by the length of what it is handed: 1 exactly where that is not permitted
abbrev pub mode_answer : ℕ → ℕ
mode_answer n = cond (permitted n) 0 1

-- what a call leaves in the handed bytes: on a refusal, what was there
abbrev pub sealed_or : Sealing → ℕ → List ℕ → List ℕ
sealed_or m t xs = cond (permitted (length xs)) (m.sealed t xs) xs

abbrev pub opened_or : Sealing → ℕ → List ℕ → List ℕ
opened_or m t xs = cond (permitted (length xs)) (m.opened t xs) xs
