-- A part of a sound store at rising places is a sound store, and each of its calls is the call below at the sector's place.
use Rattle.std.proofs.Common.{◌≡◌, ℕ, zero, suc, ◌-◌, ◌<◌, ◌≤◌, Bool, true, false, cond, eqb, ltb, List, [], ◌∷◌, map, length, get_or, set, sym, refl, ap, ◌∙◌, subst, ⊎_elim, zero-add, arith, get_or-set_other, get_or-set_same}
use Rattle.std.specs.List.{range_with_len}
use Rattle.std.specs.Int.Digits.{AllBelowBase}
use Rattle.std.proofs.lemmas.List.FromFn.{length-map-range_with_len, get_or-map-range_with_len}
use Rattle.std.proofs.lemmas.Bool.{cases_order, lt-ltb, cond-true}
use Rattle.store.specs.Stores.{Meaning, Sound, count, sector, life, put, life_answer, read_answer, write_answer, after_read, after_write}
use Rattle.store.specs.Stores.Rest.{rows, both}
use Rattle.store.proofs.Placed.{counted_set}
use Rattle.store.proofs.Same.{same_meaning}
use Rattle.places.specs.Parts.{Rising, SaysAll, hidden, part}
use Rattle.places.proofs.Shown.{same_hidden, same_by_part, hidden_set}

module _ (m : Meaning) (p : ℕ → ℕ) (n : ℕ) where
  pub part_count : count (part m p n) ≡ n
  part_count = length-map-range_with_len (λ j. sector m (p j)) 0 n

  pub part_sector : (k : ℕ) → k < n → sector (part m p n) k ≡ sector m (p k)
  part_sector k h = get_or-map-range_with_len (λ j. sector m (p j)) 0 n k k [] h (zero-add k)

  pub part_life : (k : ℕ) → k < n → life (part m p n) k ≡ life m (p k)
  part_life k h = get_or-map-range_with_len (λ j. life m (p j)) 0 n k k 0 h (zero-add k)

pub says_all : SaysAll
says_all p p' n n' m m' e =
    let long : n ≡ n' = sym (part_count m p n) ∙ ap count e ∙ part_count m' p' n' in
    let e' : part m p n ≡ part m' p' n = e ∙ ap (part m' p') (sym long) in
    let rests : (part m p n).rest ≡ (part m' p' n).rest = ap (λ (x : Meaning). x.rest) e' in
    let r₀ : m.rest ≡ m'.rest = cc in
    let r₁ : hidden [] p n m.sectors ≡ hidden [] p' n m'.sectors = cc in
    let r₂ : map p (range_with_len 0 n) ≡ map p' (range_with_len 0 n) = cc in
    let r₃ : hidden 0 p n m.lives ≡ hidden 0 p' n m'.lives = cc in
    let at : (k : ℕ) → k < n → p' k ≡ p k =
    λ k h. sym (get_or-map-range_with_len p' 0 n k k 0 h (zero-add k)) ∙ ap (λ (xs : List ℕ). get_or xs k 0) (sym r₂) ∙ get_or-map-range_with_len p 0 n k k 0 h (zero-add k) in
    same_meaning m m' (ap (λ (x : Meaning). x.size) e') (ap (λ (x : Meaning). x.fits) e')
    (same_by_part [] p n m.sectors m'.sectors (r₁ ∙ same_hidden [] p' p n m'.sectors at)
    (λ k h. sym (part_sector m p n k h) ∙ ap (λ (x : Meaning). sector x k) e' ∙ part_sector m' p' n k h ∙ ap (sector m') (at k h)))
    (same_by_part 0 p n m.lives m'.lives (r₃ ∙ same_hidden 0 p' p n m'.lives at)
    (λ k h. sym (part_life m p n k h) ∙ ap (λ (x : Meaning). life x k) e' ∙ part_life m' p' n k h ∙ ap (life m') (at k h)))
    r₀

-- a place is not below its number, so there are no more of them than sectors below
behind : (p : ℕ → ℕ) (n c : ℕ) → Rising p n c → (k : ℕ) → k < n → k ≤ p k
behind p n c r zero h = omega arith
behind p n c r (suc k) h = let i = behind p n c r k (omega arith) in let l = r.rises k (suc k) (omega arith) h in omega arith

at_most_below : (p : ℕ → ℕ) (n c : ℕ) → Rising p n c → n ≤ c
at_most_below p zero c r = omega arith
at_most_below p (suc n) c r = let i = behind p (suc n) c r n (omega arith) in let l = r.within n (omega arith) in omega arith

module _ (m : Meaning) (p : ℕ → ℕ) (n : ℕ) (s : Sound m) (r : Rising p n (count m)) where
  pub part_sound : Sound (part m p n)
  part_sound =
      let e = part_count m p n in
      let few = s.few in
      let fewer = at_most_below p n (count m) r in
      record {
        sized = s.sized;
        few = omega arith;
        lives_length = length-map-range_with_len (λ j. life m (p j)) 0 n ∙ sym e;
        sector_length = λ k h.
            let h' : k < n = omega arith in
            ap length (part_sector m p n k h') ∙ s.sector_length (p k) (r.within k h');
        sector_bytes = λ k h.
            let h' : k < n = omega arith in
            subst (AllBelowBase 256) (sym (part_sector m p n k h')) (s.sector_bytes (p k) (r.within k h'));
        life_small = λ k h.
            let h' : k < n = omega arith in
            let l = part_life m p n k h' in
            let small = s.life_small (p k) (r.within k h') in
            omega arith;
      }

  apart : (j k : ℕ) → j < n → k < n → (j ≡ k → ⊥) → p j ≡ p k → ⊥
  apart j k hj hk ne e =
      ⊎_elim ne
      (⊎_elim
      (λ (l : j < k). let x = r.rises j k l hk in omega arith)
      (λ (l : k < j). let x = r.rises k j l hj in omega arith))
      (cases_order j k)

  module _ (k : ℕ) (h : k < n) where
    near : ltb k (count (part m p n)) ≡ true
    near = let e = part_count m p n in lt-ltb k (count (part m p n)) (omega arith)

    below : ltb (p k) (count m) ≡ true
    below = lt-ltb (p k) (count m) (r.within k h)

    pub part_life_answer : life_answer m (p k) ≡ life_answer (part m p n) k
    part_life_answer = cond-true _ 0 3 below ∙ sym (cond-true _ 0 3 near)

    pub part_read_answer : (l : ℕ) → read_answer m (p k) l ≡ read_answer (part m p n) k l
    part_read_answer l = cond-true _ _ 3 below ∙ sym (cond-true _ _ 3 near)

    pub part_write_answer : (l : ℕ) → write_answer m (p k) l ≡ write_answer (part m p n) k l
    part_write_answer l =
        cond-true _ _ 3 below
        ∙ ap (λ (x : ℕ). cond (eqb l m.size) (cond (ltb 0 x) (cond m.fits 0 9) 7) 2) (sym (part_life m p n k h))
        ∙ sym (cond-true _ _ 3 near)

    pub part_read : (xs : List ℕ) → after_read m (p k) xs ≡ after_read (part m p n) k xs
    part_read xs =
        ap (λ (a : ℕ). cond (eqb a 0) (sector m (p k)) xs) (part_read_answer (length xs))
        ∙ ap (λ (x : List ℕ). cond (eqb (read_answer (part m p n) k (length xs)) 0) x xs) (sym (part_sector m p n k h))

    -- one row exchanged below, seen at its number
    row : {X : Type 0} (d : X) (ys : List X) (v : X) → p k < length ys
        → map (λ j. get_or (set ys (p k) v) (p j) d) (range_with_len 0 n) ≡ set (map (λ j. get_or ys (p j) d) (range_with_len 0 n)) k v
    row d ys v l =
        counted_set (λ j. get_or ys (p j) d) (λ j. get_or (set ys (p k) v) (p j) d) n k v
        (get_or-set_same ys (p k) v d l)
        (λ j hj ne. get_or-set_other ys (p k) (p j) v d (apart j k hj h ne))

    pub part_put : (xs : List ℕ) → part (put m (p k) xs) p n ≡ put (part m p n) k xs
    part_put xs =
        let l = r.within k h in
        let l' : p k < length m.lives = let e = s.lives_length in omega arith in
        same_meaning (part (put m (p k) xs) p n) (put (part m p n) k xs) refl refl
        (row [] m.sectors xs l)
        (row 0 m.lives (life m (p k) - 1) l' ∙ ap (λ (x : ℕ). set (part m p n).lives k (x - 1)) (sym (part_life m p n k h)))
        (ap (λ (x : List (List ℕ)). both m.rest (both (rows x) (rows (map p (range_with_len 0 n) ∷ (hidden 0 p n (set m.lives (p k) (life m (p k) - 1)) ∷ []))))) (hidden_set [] p n m.sectors k xs h l)
        ∙ ap (λ (x : List ℕ). both m.rest (both (rows (hidden [] p n m.sectors)) (rows (map p (range_with_len 0 n) ∷ (x ∷ []))))) (hidden_set 0 p n m.lives k (life m (p k) - 1) h l'))

    pub part_write : (xs : List ℕ) → part (after_write m (p k) xs) p n ≡ after_write (part m p n) k xs
    part_write xs =
        spread (eqb (write_answer m (p k) (length xs)) 0)
        ∙ ap (λ (a : ℕ). cond (eqb a 0) (part (put m (p k) xs) p n) (part m p n)) (part_write_answer (length xs))
        ∙ ap (λ (x : Meaning). cond (eqb (write_answer (part m p n) k (length xs)) 0) x (part m p n)) (part_put xs)
      where
        spread : (b : Bool) → part (cond b (put m (p k) xs) m) p n ≡ cond b (part (put m (p k) xs) p n) (part m p n)
        spread true = refl
        spread false = refl
