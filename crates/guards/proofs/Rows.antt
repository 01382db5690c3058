-- The rows of bytes, one after the other.
use Rattle.std.proofs.Common.{◌≡◌, ℕ, zero, suc, ◌<◌, ◌≤◌, List, [], ◌∷◌, ◌++◌, length, take, drop, refl, ap, arith, length-drop, append_assoc, min, sym, ◌∙◌, ap₂}
use Rattle.std.proofs.lemmas.List.{append-nil, drop_min, take_min}
use Rattle.std.proofs.Math.Seq.{drop-append_seam, take-append_seam}
use Rattle.hexadecimal.specs.Hex.{encoded}
use Rattle.guards.specs.Report.{dumped, indented, rows}

-- a count that is large enough makes no difference
rows_enough : (n m : ℕ) (xs : List ℕ) → length xs ≤ n → length xs ≤ m → rows n xs ≡ rows m xs
rows_enough zero zero [] h k = refl
rows_enough zero (suc m) [] h k = refl
rows_enough (suc n) zero [] h k = refl
rows_enough (suc n) (suc m) [] h k = refl
rows_enough zero m (x ∷ xs) h k = absurd (omega arith)
rows_enough (suc n) zero (x ∷ xs) h k = absurd (omega arith)
rows_enough (suc n) (suc m) (x ∷ xs) h k =
    let l = length-drop 32 (x ∷ xs) in
    ap (λ (r : List (List ℕ)). take 32 (x ∷ xs) ∷ r) (rows_enough n m (drop 32 (x ∷ xs)) (omega arith) (omega arith))

first_row : (xs : List ℕ) → 0 < length xs → dumped xs ≡ indented (encoded (take 32 xs) ∷ []) ++ dumped (drop 32 xs)
first_row [] h = absurd (omega arith)
first_row (x ∷ xs) h =
    let l = length-drop 31 xs in
    let e : rows (length xs) (drop 31 xs) ≡ rows (length (drop 31 xs)) (drop 31 xs) = rows_enough (length xs) (length (drop 31 xs)) (drop 31 xs) (omega arith) (omega arith) in
    simp (append_assoc, e)

-- a row off the front, as `chunks` hands it out, moves to the text
pub row_more : (size : ℕ) (xs row rest text new whole : List ℕ) → text ++ dumped xs ≡ whole → size ≡ 32 → xs ≡ row ++ rest → length row ≡ min size (length xs) → 0 < length xs
    → new ≡ text ++ indented (encoded row ∷ []) → new ++ dumped rest ≡ whole
row_more size xs row rest text new whole i z e l h n =
    let m : length row ≡ min 32 (length xs) = l ∙ ap (λ (k : ℕ). min k (length xs)) z in
    let f : take 32 xs ≡ row = sym (take_min 32 xs) ∙ ap (λ (k : ℕ). take k xs) (sym m) ∙ ap (take (length row)) e ∙ take-append_seam row rest in
    let b : drop 32 xs ≡ rest = sym (drop_min 32 xs) ∙ ap (λ (k : ℕ). drop k xs) (sym m) ∙ ap (drop (length row)) e ∙ drop-append_seam row rest in
    ap (λ (t : List ℕ). t ++ dumped rest) n
    ∙ append_assoc text (indented (encoded row ∷ [])) (dumped rest)
    ∙ ap₂ (λ (r ys : List ℕ). text ++ (indented (encoded r ∷ []) ++ dumped ys)) (sym f) (sym b)
    ∙ ap (λ (ys : List ℕ). text ++ ys) (sym (first_row xs h)) ∙ i

-- once no row is left
pub no_more : (text rest before bytes : List ℕ) → length rest ≡ 0 → text ++ dumped rest ≡ before ++ dumped bytes → text ≡ before ++ dumped bytes
no_more text [] before bytes h e = sym (append-nil text) ∙ e
no_more text (x ∷ rest) before bytes h e = absurd (omega arith)
