-- What a copy of sector k of one store to sector j of another answers, and what it leaves of the other.
use Rattle.std.specs.Prelude.{ℕ, cond, ◌==◌}
use Rattle.store.specs.Stores.{Meaning, sector, put, sector_test, buffer_test, life_test, mode_test}

-- through n working bytes: 3 for k, 3 for j, 2 where the sizes differ or the working bytes are not one sector, 7 for j
abbrev pub copy_tests : Meaning → ℕ → Meaning → ℕ → ℕ → ℕ → ℕ
copy_tests from k to j n rest = sector_test from k (sector_test to j (cond (from.size == to.size) (buffer_test to n (life_test to j rest)) 2))

-- last 9, from either store
abbrev pub copy_answer : Meaning → ℕ → Meaning → ℕ → ℕ → ℕ
copy_answer from k to j n = copy_tests from k to j n (cond from.fits (mode_test to) 9)

abbrev pub after_copy : Meaning → ℕ → Meaning → ℕ → ℕ → Meaning
after_copy from k to j n = cond (copy_answer from k to j n == 0) (put to j (sector from k)) to
