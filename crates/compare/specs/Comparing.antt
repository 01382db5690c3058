-- Two sealed stores compared, and what that says of their books.
use Rattle.std.specs.Prelude.{◌≡◌, ℕ, Bool, cond, ◌&&◌, Decides, ◌==◌}
use Rattle.mode.specs.Modes.{Sealing, Lawful, Alike}
use Rattle.store.specs.Stores.{Meaning, count}
use Rattle.sealed.specs.Overs.{book_of}

-- 9 where a mode in either pile turns its sectors down
abbrev pub modes_test : Meaning → Meaning → ℕ
modes_test a b = cond a.fits (cond b.fits 0 9) 9

-- the sizes are equal, and both working slices, of n and p bytes, are one sector
abbrev pub one_size : Meaning → Meaning → ℕ → ℕ → Bool
one_size a b n p = b.size == a.size && (n == a.size && p == a.size)

-- 2, then 9 once there is a sector to read from both; stores of different counts are not read, they differ
abbrev pub compare_answer : Meaning → Meaning → ℕ → ℕ → ℕ
compare_answer a b n p = cond (one_size a b n p) (cond (count b == count a) (cond (count a == 0) 0 (modes_test a b)) 0) 2

pub record Compared (a b : Meaning) (same : Bool) : Type 0 where
  -- whether all sectors are equal
  pub sectors : Decides same (a.sectors ≡ b.sectors)
  -- The line of the contract: sealed by modes that seal alike, sector for sector, two copies are equal exactly when the two books are.
  pub books : (p q : ℕ → Sealing) → ((k : ℕ) → Lawful (p k)) → ((k : ℕ) → Lawful (q k)) → a.size ≡ b.size → count a ≡ count b
      → ((k : ℕ) → Alike a.size (p k) (q k)) → Decides same (book_of p a.sectors ≡ book_of q b.sectors)
