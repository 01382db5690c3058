-- Which places a part shows, and what it leaves of a list.
use Rattle.std.proofs.Common.{◌≡◌, ℕ, zero, suc, ◌<◌, Bool, true, false, cond, ◌||◌, eqb, List, [], ◌∷◌, length, get_or, set, sym, refl, ap, ◌∙◌, ⊎_elim, zero-add, arith}
use Rattle.std.proofs.lemmas.List.{same_lists, get_or_default, set-get_or}
use Rattle.std.proofs.lemmas.Bool.{eqb-true, eq-eqb, or_cases, or_left, or_right, cases_Bool, cases_lt, cond-true, cond-false}
use Rattle.store.specs.Places.{by_place}
use Rattle.store.proofs.Placed.{length-by_place, get_or_by_place, by_place-set}
use Rattle.places.specs.Parts.{shown, hidden}

pub shown_at : (p : ℕ → ℕ) (n k : ℕ) → k < n → shown p n (p k) ≡ true
shown_at p zero k h = absurd (omega arith)
shown_at p (suc n) k h =
    ⊎_elim
    (λ (l : k < n). or_right (eqb (p k) (p n)) (shown p n (p k)) (shown_at p n k l))
    (λ l. let e : k ≡ n = omega arith in or_left (eqb (p k) (p n)) (shown p n (p k)) (eq-eqb (p k) (p n) (ap p e)))
    (cases_lt k n)

pub place_of : (p : ℕ → ℕ) (n i : ℕ) → shown p n i ≡ true → (k : ℕ) × ((k < n) × (i ≡ p k))
place_of p zero i e = absurd (let z : ◌≡◌ {A = ℕ} 0 1 = cc in omega arith)
place_of p (suc n) i e =
    ⊎_elim
    (λ (t : eqb i (p n) ≡ true). (n, (omega arith, eqb-true i (p n) t)))
    (λ (t : shown p n i ≡ true). let r = place_of p n i t in let l = r.1.0 in (r.0, (omega arith, r.1.1)))
    (or_cases (eqb i (p n)) (shown p n i) e)

-- places that are the same show and hide the same
same_shown : (p q : ℕ → ℕ) (n i : ℕ) → ((k : ℕ) → k < n → p k ≡ q k) → shown p n i ≡ shown q n i
same_shown p q zero i same = refl
same_shown p q (suc n) i same =
    ap (λ (j : ℕ). eqb i j || shown p n i) (same n (omega arith))
    ∙ ap (λ (b : Bool). eqb i (q n) || b) (same_shown p q n i (λ k h. same k (omega arith)))

by_places : {X : Type 0} (d : X) (p q : ℕ → ℕ) (n i : ℕ) (xs : List X) → ((k : ℕ) → k < n → p k ≡ q k)
    → by_place (λ j x. cond (shown p n j) d x) i xs ≡ by_place (λ j x. cond (shown q n j) d x) i xs
by_places d p q n i [] same = refl
by_places d p q n i (x ∷ xs) same =
    ap (λ (b : Bool). cond b d x ∷ by_place (λ j y. cond (shown p n j) d y) (suc i) xs) (same_shown p q n i same)
    ∙ ap (λ ys. cond (shown q n i) d x ∷ ys) (by_places d p q n (suc i) xs same)

pub same_hidden : {X : Type 0} (d : X) (p q : ℕ → ℕ) (n : ℕ) (xs : List X) → ((k : ℕ) → k < n → p k ≡ q k) → hidden d p n xs ≡ hidden d q n xs
same_hidden d p q n xs same = by_places d p q n 0 xs same

module _ {X : Type 0} (d : X) (p : ℕ → ℕ) (n : ℕ) where
  -- a list is what a part shows of it and what it hides
  pub same_by_part : (xs ys : List X) → hidden d p n xs ≡ hidden d p n ys → ((k : ℕ) → k < n → get_or xs (p k) d ≡ get_or ys (p k) d) → xs ≡ ys
  same_by_part xs ys e same =
      let long : length xs ≡ length ys = sym (length-by_place _ 0 xs) ∙ ap length e ∙ length-by_place _ 0 ys in
      same_lists xs ys long
      (λ i d' h.
      let h' : i < length ys = omega arith in
      get_or_default xs i d' d h ∙ at i h h' ∙ get_or_default ys i d d' h')
    where
      f : ℕ → X → X
      f i x = cond (shown p n i) d x

      at : (i : ℕ) → i < length xs → i < length ys → get_or xs i d ≡ get_or ys i d
      at i h h' =
          ⊎_elim
          (λ (t : shown p n i ≡ true).
          let r = place_of p n i t in
          ap (λ (j : ℕ). get_or xs j d) r.1.1 ∙ same r.0 r.1.0 ∙ ap (λ (j : ℕ). get_or ys j d) (sym r.1.1))
          (λ (t : shown p n i ≡ false).
          sym (cond-false (shown p n i) d (get_or xs i d) t)
          ∙ sym (get_or_by_place (λ j x. cond (shown p n j) d x) 0 xs i i d d h (zero-add i))
          ∙ ap (λ (zs : List X). get_or zs i d) e
          ∙ get_or_by_place (λ j x. cond (shown p n j) d x) 0 ys i i d d h' (zero-add i)
          ∙ cond-false (shown p n i) d (get_or ys i d) t)
          (cases_Bool (shown p n i))

  -- a shown place may change: what is hidden stays
  pub hidden_set : (xs : List X) (k : ℕ) (v : X) → k < n → p k < length xs → hidden d p n (set xs (p k) v) ≡ hidden d p n xs
  hidden_set xs k v h l =
      let t = shown_at p n k h in
      by_place-set (λ j x. cond (shown p n j) d x) 0 xs (p k) (p k) v (zero-add (p k))
      ∙ ap (set (hidden d p n xs) (p k))
      (cond-true (shown p n (p k)) d v t
      ∙ sym (get_or_by_place (λ j x. cond (shown p n j) d x) 0 xs (p k) (p k) d d l (zero-add (p k)) ∙ cond-true (shown p n (p k)) d (get_or xs (p k) d) t))
      ∙ set-get_or (hidden d p n xs) (p k) d
