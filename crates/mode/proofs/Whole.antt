-- A permitted length is whole blocks.
use Rattle.std.proofs.Common.{◌≡◌, ℕ, ◌*◌, ◌/◌, ◌≤◌, true, List, length, ap, rules}
use Rattle.std.specs.Int.Digits.{AllBelowBase}
use Rattle.mode.specs.Modes.{Text, permitted, sector_size}

pub whole_blocks : (n : ℕ) → permitted n ≡ true → n ≡ 16 * (n / 16)
whole_blocks n p = search rules

pub at_least : (n : ℕ) → permitted n ≡ true → 32 ≤ n
at_least n p = search rules

pub at_most : (n : ℕ) → permitted n ≡ true → n ≤ 4096
at_most n p = search rules

-- every mode permits a sector size
pub size_permitted : (n : ℕ) → sector_size n ≡ true → permitted n ≡ true
size_permitted n p = p

-- 512 bytes are a text
pub text_512 : (xs : List ℕ) → length xs ≡ 512 → AllBelowBase 256 xs → Text xs
text_512 xs l u = record { fits = ap permitted l; bytes = u }
