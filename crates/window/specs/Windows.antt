-- What a window over a store means: first sector f, count c, both cut to the sectors below.
use Rattle.std.specs.Prelude.{ℕ, ◌+◌, ◌-◌, min, cond, nat_lt}
use Rattle.store.specs.Stores.{Meaning, count}
use Rattle.places.specs.Parts.{part}

-- over n sectors, an f above n stands as n
abbrev pub first_of : ℕ → ℕ → ℕ
first_of n f = min f n

-- c is cut to what is left from there
abbrev pub count_of : ℕ → ℕ → ℕ → ℕ
count_of n f c = min c (n - first_of n f)

-- whether sector k is in the window: 3 where it is not
abbrev pub place_answer : ℕ → ℕ → ℕ → ℕ → ℕ
place_answer n f c k = cond (nat_lt k (count_of n f c)) 0 3

-- sector k is sector f + k below
abbrev pub window : Meaning → ℕ → ℕ → Meaning
window m f c = part m (λ k. first_of (count m) f + k) (count_of (count m) f c)
