-- Two sectors in place, one after the other.
use Rattle.std.proofs.Common.{◌≡◌, ℕ, cond, List, [], ◌++◌, length, take, drop, ap, ◌∙◌, arith, length-drop, take_at, drop_at}
use borrow.Rule.Slice.PartMut.{put_mid, post_of}
use Rattle.std.proofs.lemmas.List.{length-take-le, take_all, nil_from_length, append-nil}
use Rattle.block.specs.Blocks.{tweak}
use Rattle.mode.specs.Modes.{permitted, mode_answer}
use Rattle.copies.specs.Copies.{by_sector}

-- a sector of 512 bytes is not refused
turned : (f : ℕ → List ℕ → List ℕ) (t : ℕ) (xs : List ℕ) → length xs ≡ 512 → cond (permitted (length xs)) (f t xs) xs ≡ f t xs
turned f t xs l = ap (λ (n : ℕ). cond (permitted n) (f t xs) xs) l

module _ (f : ℕ → List ℕ → List ℕ) (t₀ t₁ : ℕ) (xs left right : List ℕ) (long : length xs ≡ 1024) (kept : length left ≡ 512)
    (e₀ : t₀ ≡ tweak 0) (e₁ : t₁ ≡ tweak 1) where
  pub round_is : left ≡ cond (permitted (length (take 512 xs))) (f t₀ (take 512 xs)) (take 512 xs)
      → right ≡ cond (permitted (length (take 512 (drop 512 (left ++ drop 512 xs))))) (f t₁ (take 512 (drop 512 (left ++ drop 512 xs)))) (take 512 (drop 512 (left ++ drop 512 xs)))
      → put_mid 512 512 (left ++ drop 512 xs) right ≡ by_sector f xs
  round_is h₀ h₁ =
      let lr : length (drop 512 xs) ≡ 512 = length-drop 512 xs ∙ omega arith in
      let second : take 512 (drop 512 (left ++ drop 512 xs)) ≡ drop 512 xs =
      ap (take 512) (drop_at left (drop 512 xs) 512 kept) ∙ take_all 512 (drop 512 xs) (omega arith) in
      let a : left ≡ f (tweak 0) (take 512 xs) = h₀ ∙ turned f t₀ (take 512 xs) (length-take-le 512 xs (omega arith)) ∙ ap (λ (t : ℕ). f t (take 512 xs)) e₀ in
      let b : right ≡ f (tweak 1) (drop 512 xs) =
      h₁ ∙ ap (λ (ys : List ℕ). cond (permitted (length ys)) (f t₁ ys) ys) second ∙ turned f t₁ (drop 512 xs) lr ∙ ap (λ (t : ℕ). f t (drop 512 xs)) e₁ in
      let none : drop 512 (drop 512 (left ++ drop 512 xs)) ≡ [] =
      ap (drop 512) (drop_at left (drop 512 xs) 512 kept) ∙ nil_from_length (drop 512 (drop 512 xs)) (length-drop 512 (drop 512 xs) ∙ omega arith) in
      ap (λ (ys : List ℕ). ys ++ (right ++ post_of 512 512 (left ++ drop 512 xs))) (take_at left (drop 512 xs) 512 kept)
      ∙ ap (λ (ys : List ℕ). left ++ (right ++ ys)) none
      ∙ ap (λ (ys : List ℕ). left ++ ys) (append-nil right)
      ∙ ap (λ (ys : List ℕ). ys ++ right) a
      ∙ ap (λ (ys : List ℕ). f (tweak 0) (take 512 xs) ++ ys) b

pub second_answer : (xs left : List ℕ) → length xs ≡ 1024 → length left ≡ 512 → mode_answer (length (take 512 (drop 512 (left ++ drop 512 xs)))) ≡ 0
second_answer xs left long kept =
    let lr : length (drop 512 xs) ≡ 512 = length-drop 512 xs ∙ omega arith in
    ap (λ (ys : List ℕ). mode_answer (length (take 512 ys))) (drop_at left (drop 512 xs) 512 kept)
    ∙ ap (λ (ys : List ℕ). mode_answer (length ys)) (take_all 512 (drop 512 xs) (omega arith)) ∙ ap mode_answer lr
