-- The making of a sector size: 4 exactly where the number is none.
use Rattle.std.specs.Prelude.{ℕ, cond}
use Rattle.mode.specs.Modes.{sector_size}

abbrev pub size_answer : ℕ → ℕ
size_answer n = cond (sector_size n) 0 4
