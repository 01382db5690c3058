-- Lists by place: their length, an element, and one element exchanged.
use Rattle.std.proofs.Common.{◌≡◌, ℕ, zero, suc, ◌+◌, ◌<◌, List, [], ◌∷◌, map, length, get_or, set, sym, refl, ap, ◌∙◌, subst, ⊎_elim, le_of_suc-le-suc, not-suc-le-zero, add-zero, add-suc, suc-add, zero-add, arith, length-set, get_or-set_other, get_or-set_same}
use Rattle.std.specs.List.{range_with_len}
use Rattle.std.proofs.lemmas.List.{same_lists}
use Rattle.std.proofs.lemmas.List.FromFn.{length-map-range_with_len, get_or-map-range_with_len}
use Rattle.std.proofs.lemmas.Bool.{cases_eq}
use Rattle.store.specs.Places.{by_place}

pub length-by_place : {X Y : Type 0} (f : ℕ → X → Y) (i : ℕ) (xs : List X) → length (by_place f i xs) ≡ length xs
length-by_place f i [] = refl
length-by_place f i (x ∷ xs) = ap suc (length-by_place f (suc i) xs)

-- an element of a list that is made by a function of the place
pub get_or_counted : {X : Type 0} (f : ℕ → X) (n k : ℕ) (d : X) → k < n → get_or (map f (range_with_len 0 n)) k d ≡ f k
get_or_counted f n k d h = get_or-map-range_with_len f 0 n k k d h (zero-add k)

-- the elements of such lists, and how many they are
pub ruleset in_places = (length-by_place, length-map-range_with_len, get_or_counted)

pub get_or_by_place : {X Y : Type 0} (f : ℕ → X → Y) (i : ℕ) (xs : List X) (k j : ℕ) (d : X) (e : Y) → k < length xs → i + k ≡ j → get_or (by_place f i xs) k e ≡ f j (get_or xs k d)
get_or_by_place f i [] k j d e h a = absurd (not-suc-le-zero h)
get_or_by_place f i (x ∷ xs) zero j d e h a = ap (λ (n : ℕ). f n x) (sym (add-zero i) ∙ a)
get_or_by_place f i (x ∷ xs) (suc k) j d e h a = get_or_by_place f (suc i) xs k j d e (le_of_suc-le-suc h) (suc-add i k ∙ sym (add-suc i k) ∙ a)

pub by_place-set : {X Y : Type 0} (f : ℕ → X → Y) (i : ℕ) (xs : List X) (k j : ℕ) (v : X) → i + k ≡ j → by_place f i (set xs k v) ≡ set (by_place f i xs) k (f j v)
by_place-set f i [] zero j v a = refl
by_place-set f i [] (suc k) j v a = refl
by_place-set f i (x ∷ xs) zero j v a = ap (λ (n : ℕ). f n v ∷ by_place f (suc i) xs) (sym (add-zero i) ∙ a)
by_place-set f i (x ∷ xs) (suc k) j v a = ap (λ ys. f i x ∷ ys) (by_place-set f (suc i) xs k j v (suc-add i k ∙ sym (add-suc i k) ∙ a))

-- a list made by a function of the place, and the same with the value at one place exchanged
pub counted_set : {X : Type 0} (f g : ℕ → X) (n k : ℕ) (v : X) → g k ≡ v → ((j : ℕ) → j < n → (j ≡ k → ⊥) → g j ≡ f j) → map g (range_with_len 0 n) ≡ set (map f (range_with_len 0 n)) k v
counted_set f g n k v here there =
    same_lists _ _ (length-map-range_with_len g 0 n ∙ sym (length-set (map f (range_with_len 0 n)) k v ∙ length-map-range_with_len f 0 n))
    (λ j d h.
    let e = length-map-range_with_len g 0 n in
    let e' = length-map-range_with_len f 0 n in
    let l : j < n = omega arith in
    get_or-map-range_with_len g 0 n j j d l (zero-add j)
    ∙ ⊎_elim
    (λ (same : j ≡ k). ap g same ∙ here ∙ sym (get_or-set_same (map f (range_with_len 0 n)) k v d (subst (λ (i : ℕ). i < length (map f (range_with_len 0 n))) same (omega arith)))
    ∙ ap (λ (i : ℕ). get_or (set (map f (range_with_len 0 n)) k v) i d) (sym same))
    (λ (ne : j ≡ k → ⊥). there j l ne ∙ sym (get_or-map-range_with_len f 0 n j j d l (zero-add j)) ∙ sym (get_or-set_other (map f (range_with_len 0 n)) k j v d ne))
    (cases_eq j k))
