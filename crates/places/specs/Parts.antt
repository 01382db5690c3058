-- A store that shows some of the sectors of the store below it, in their order: n sectors, of which number k lies at place p k below.
use Rattle.std.specs.Prelude.{◌≡◌, ℕ, zero, suc, ◌<◌, Bool, false, cond, ◌||◌, List, [], ◌∷◌, map, ◌==◌}
use Rattle.std.specs.List.{range_with_len}
use Rattle.store.specs.Stores.{Meaning, Rest, sector, life}
use Rattle.store.specs.Stores.Rest.{rows, both}
use Rattle.store.specs.Places.{by_place}

-- the places rise, and lie within the c sectors below
pub record Rising (p : ℕ → ℕ) (n c : ℕ) : Type 0 where
  pub within : (k : ℕ) → k < n → p k < c
  pub rises : (j k : ℕ) → j < k → k < n → p j < p k

-- whether place i is one of p 0 to p (n - 1)
abbrev pub shown : (ℕ → ℕ) → ℕ → ℕ → Bool
shown p zero i = false
shown p (suc n) i = i == p n || shown p n i

-- a list with d in every shown place: what is left of it is what a part does not show
abbrev pub hidden : {X : Type 0} → X → (ℕ → ℕ) → ℕ → List X → List X
hidden d p n xs = by_place (λ i x. cond (shown p n i) d x) 0 xs

-- what a part does not show: the other sectors, the places of its own, and the other lives
abbrev pub left_out : Meaning → (ℕ → ℕ) → ℕ → Rest
left_out m p n = both (rows (hidden [] p n m.sectors)) (rows (map p (range_with_len 0 n) ∷ (hidden 0 p n m.lives ∷ [])))

abbrev pub part : Meaning → (ℕ → ℕ) → ℕ → Meaning
part m p n =
    record {
      size = m.size;
      fits = m.fits;
      sectors = map (λ k. sector m (p k)) (range_with_len 0 n);
      lives = map (λ k. life m (p k)) (range_with_len 0 n);
      rest = both m.rest (left_out m p n);
    }

-- What a part means says all of the store below: two stores with the same part mean the same.
abbrev pub SaysAll : Type 0
SaysAll = (p p' : ℕ → ℕ) (n n' : ℕ) (m m' : Meaning) → part m p n ≡ part m' p' n' → m ≡ m'
