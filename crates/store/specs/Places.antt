-- Lists by place: a function of the place and the element.
use Rattle.std.specs.Prelude.{ℕ, suc, List, [], ◌∷◌}

-- f i x for the first x, f (i + 1) y for the next y, and so on
abbrev pub by_place : {X Y : Type 0} → (ℕ → X → Y) → ℕ → List X → List Y
by_place f i [] = []
by_place f i (x ∷ xs) = f i x ∷ by_place f (suc i) xs
