-- What one byte of a column gives under MixColumns and InvMixColumns: the columns of the two matrices.
use Rattle.std.specs.Prelude.{ℕ}
use Rattle.aes_math.specs.Field.{mul}
use Rattle.aes_math.specs.Rounds.{Word}

abbrev pub mix0 : ℕ → Word
mix0 a = (mul 2 a, a, a, mul 3 a)

abbrev pub mix1 : ℕ → Word
mix1 a = (mul 3 a, mul 2 a, a, a)

abbrev pub mix2 : ℕ → Word
mix2 a = (a, mul 3 a, mul 2 a, a)

abbrev pub mix3 : ℕ → Word
mix3 a = (a, a, mul 3 a, mul 2 a)

abbrev pub inv0 : ℕ → Word
inv0 a = (mul 14 a, mul 9 a, mul 13 a, mul 11 a)

abbrev pub inv1 : ℕ → Word
inv1 a = (mul 11 a, mul 14 a, mul 9 a, mul 13 a)

abbrev pub inv2 : ℕ → Word
inv2 a = (mul 13 a, mul 11 a, mul 14 a, mul 9 a)

abbrev pub inv3 : ℕ → Word
inv3 a = (mul 9 a, mul 13 a, mul 11 a, mul 14 a)
