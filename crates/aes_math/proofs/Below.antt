-- Functions of the numbers below n, computed once: as a constant table, and against each other.
use Rattle.std.proofs.Common.{◌≡◌, ℕ, ◌<◌, List, get_or, map, sym, ap, ◌∙◌, zero-add}
use Rattle.std.specs.List.{range_with_len}
use Rattle.std.proofs.lemmas.List.FromFn.{get_or-map-range_with_len}

pub entry : {X : Type 0} (f : ℕ → X) (n k : ℕ) (d : X) → k < n → get_or (map f (range_with_len 0 n)) k d ≡ f k
entry f n k d h = get_or-map-range_with_len f 0 n k k d h (zero-add k)

pub agree : {X : Type 0} (f g : ℕ → X) (n : ℕ) → map f (range_with_len 0 n) ≡ map g (range_with_len 0 n) → (k : ℕ) → k < n → f k ≡ g k
agree {X} f g n e k h = sym (entry f n k (f k) h) ∙ ap (λ (l : List X). get_or l k (f k)) e ∙ entry g n k (f k) h
