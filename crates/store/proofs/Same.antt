-- Two meanings are the same where each part of them is.
use Rattle.std.proofs.Common.{◌≡◌, ℕ, Bool, List, ap, ◌∙◌}
use Rattle.store.specs.Stores.{Meaning, Rest}

pub same_meaning : (m m' : Meaning) → m.size ≡ m'.size → m.fits ≡ m'.fits → m.sectors ≡ m'.sectors → m.lives ≡ m'.lives → m.rest ≡ m'.rest → m ≡ m'
same_meaning m m' a b c d e =
    ap (λ (x : ℕ). record { size = x; fits = m.fits; sectors = m.sectors; lives = m.lives; rest = m.rest }) a
    ∙ ap (λ (x : Bool). record { size = m'.size; fits = x; sectors = m.sectors; lives = m.lives; rest = m.rest }) b
    ∙ ap (λ (x : List (List ℕ)). record { size = m'.size; fits = m'.fits; sectors = x; lives = m.lives; rest = m.rest }) c
    ∙ ap (λ (x : List ℕ). record { size = m'.size; fits = m'.fits; sectors = m'.sectors; lives = x; rest = m.rest }) d
    ∙ ap (λ (x : Rest). record { size = m'.size; fits = m'.fits; sectors = m'.sectors; lives = m'.lives; rest = x }) e
