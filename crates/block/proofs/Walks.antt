-- A walk over the blocks of a string.
use Rattle.std.proofs.Common.{◌≡◌, ℕ, zero, suc, ◌+◌, ◌-◌, ◌*◌, ◌^◌, ◌<◌, ◌≤◌, List, ◌++◌, length, take, drop, sym, refl, ap, ◌∙◌, append_assoc, arith, length-append, length-drop, take-append-drop, take_at, drop_at}
use borrow.Rule.Slice.PartMut.{put_mid}
use Rattle.std.specs.Int.Digits.{AllBelowBase}
use Rattle.std.proofs.lemmas.List.{length-take-le, drop-drop, nil_from_length}
use Rattle.std.proofs.lemmas.Slice.{take-put_mid, drop-put_mid}
use Rattle.std.proofs.ByRecursion.{All-append, All-take, All-drop}
use Rattle.block.specs.Blocks.{walk, to_bytes, to_block, loaded, stored}
use Rattle.block.proofs.Bytes.{length-to_bytes, under_to_bytes, block_bytes, bytes_block, block_below}
use Rattle.block.proofs.Parts.{loaded_is, stored_is}

-- block i of n is there
pub part_long : (n i w : ℕ) (xs : List ℕ) → i < n → length xs ≡ 16 * n → w ≡ 16 → length (take w (drop (16 * i) xs)) ≡ 16
part_long n i w xs h l wide = length-take-le w (drop (16 * i) xs) (let d = length-drop (16 * i) xs in omega arith) ∙ wide

module _ {S : Type 0} where
  pub length-walk : (f : S → ℕ → ℕ) (next : S → S) (n : ℕ) (s : S) (xs : List ℕ) → length (walk f next n s xs) ≡ 16 * n
  length-walk f next zero s xs = refl
  length-walk f next (suc n) s xs =
      let e = length-walk f next n (next s) (drop 16 xs) in
      let b = length-to_bytes (f s (to_block (take 16 xs))) in
      length-append (to_bytes (f s (to_block (take 16 xs)))) (walk f next n (next s) (drop 16 xs)) ∙ omega arith

  pub under_walk : (f : S → ℕ → ℕ) (next : S → S) (n : ℕ) (s : S) (xs : List ℕ) → AllBelowBase 256 (walk f next n s xs)
  under_walk f next zero s xs = tt
  under_walk f next (suc n) s xs =
      All-append (λ d. d < 256) (to_bytes (f s (to_block (take 16 xs)))) (walk f next n (next s) (drop 16 xs))
      (under_to_bytes (f s (to_block (take 16 xs)))) (under_walk f next n (next s) (drop 16 xs))

  -- where g undoes f at each block, the walk of g undoes that of f; I n s says what is known of the state s with n blocks to come
  pub walk-walk : (f g : S → ℕ → ℕ) (next : S → S) (I : ℕ → S → Type 0)
      → ((n : ℕ) (s : S) → I (suc n) s → I n (next s))
      → ((n : ℕ) (s : S) (b : ℕ) → I (suc n) s → b < 2 ^ 128 → f s b < 2 ^ 128)
      → ((n : ℕ) (s : S) (b : ℕ) → I (suc n) s → b < 2 ^ 128 → g s (f s b) ≡ b)
      → (n : ℕ) (s : S) (xs : List ℕ) → I n s → AllBelowBase 256 xs → length xs ≡ 16 * n
      → walk g next n s (walk f next n s xs) ≡ xs
  walk-walk f g next I keeps fits undoes zero s xs i u l = sym (nil_from_length xs (omega arith))
  walk-walk f g next I keeps fits undoes (suc n) s xs i u l =
      let b : ℕ = to_block (take 16 xs) in
      let front : List ℕ = to_bytes (f s b) in
      let rest : List ℕ = walk f next n (next s) (drop 16 xs) in
      let lt : length (take 16 xs) ≡ 16 = length-take-le 16 xs (omega arith) in
      let ut : AllBelowBase 256 (take 16 xs) = All-take (λ d. d < 256) 16 xs u in
      let small : b < 2 ^ 128 = block_below (take 16 xs) ut lt in
      let t : take 16 (front ++ rest) ≡ front = take_at front rest 16 (length-to_bytes (f s b)) in
      let d : drop 16 (front ++ rest) ≡ rest = drop_at front rest 16 (length-to_bytes (f s b)) in
      let back : g s (to_block (take 16 (front ++ rest))) ≡ b =
      ap (λ (ys : List ℕ). g s (to_block ys)) t ∙ ap (g s) (block_bytes (f s b) (fits n s b i small)) ∙ undoes n s b i small in
      let ld : length (drop 16 xs) ≡ 16 * n = length-drop 16 xs ∙ omega arith in
      let ih : walk g next n (next s) rest ≡ drop 16 xs = walk-walk f g next I keeps fits undoes n (next s) (drop 16 xs) (keeps n s i) (All-drop (λ d. d < 256) 16 xs u) ld in
      ap (λ (y : ℕ). to_bytes y ++ walk g next n (next s) (drop 16 (front ++ rest))) back
      ∙ ap (λ (ys : List ℕ). to_bytes b ++ walk g next n (next s) ys) d
      ∙ ap (λ (ys : List ℕ). ys ++ walk g next n (next s) rest) (bytes_block (take 16 xs) ut lt)
      ∙ ap (λ (ys : List ℕ). take 16 xs ++ ys) ih
      ∙ take-append-drop 16 xs

  -- a part of one block, loaded, changed and stored
  pub walked_part : (f : S → ℕ → ℕ) (n i w : ℕ) (s : S) (xs ys : List ℕ) → i < n → length xs ≡ 16 * n → w ≡ 16
      → ys ≡ stored (take w (drop (16 * i) xs)) (f s (loaded (take w (drop (16 * i) xs))))
      → ys ≡ to_bytes (f s (to_block (take w (drop (16 * i) xs))))
  walked_part f n i w s xs ys h l wide e =
      let part : List ℕ = take w (drop (16 * i) xs) in
      let long : length part ≡ 16 = part_long n i w xs h l wide in
      e ∙ stored_is part (f s (loaded part)) long ∙ ap (λ (b : ℕ). to_bytes (f s b)) (loaded_is part long)

  -- one block more, in place: block i of xs is overwritten by its successor
  pub walk_more : (f : S → ℕ → ℕ) (next : S → S) (n i w : ℕ) (s : S) (xs ys : List ℕ) → i < n → length xs ≡ 16 * n → w ≡ 16
      → ys ≡ to_bytes (f s (to_block (take w (drop (16 * i) xs))))
      → take (16 * (i + 1)) (put_mid (16 * i) w xs ys) ++ walk f next (n - (i + 1)) (next s) (drop (16 * (i + 1)) (put_mid (16 * i) w xs ys))
      ≡ take (16 * i) xs ++ walk f next (n - i) s (drop (16 * i) xs)
  walk_more f next n i w s xs ys h l wide e =
      let ly : length ys ≡ w = ap length e ∙ length-to_bytes (f s (to_block (take w (drop (16 * i) xs)))) ∙ sym wide in
      let e16 : ys ≡ to_bytes (f s (to_block (take 16 (drop (16 * i) xs)))) = e ∙ ap (λ (k : ℕ). to_bytes (f s (to_block (take k (drop (16 * i) xs))))) wide in
      let t : take (16 * (i + 1)) (put_mid (16 * i) w xs ys) ≡ take (16 * i) xs ++ ys = take-put_mid (16 * i) w xs ys (16 * (i + 1)) (omega arith) (omega arith) in
      let d : drop (16 * (i + 1)) (put_mid (16 * i) w xs ys) ≡ drop (16 * (i + 1)) xs = drop-put_mid (16 * i) w xs ys (16 * (i + 1)) (omega arith) (omega arith) ly in
      let dd : drop 16 (drop (16 * i) xs) ≡ drop (16 * (i + 1)) xs = drop-drop 16 (16 * i) xs ∙ ap (λ (k : ℕ). drop k xs) (omega arith) in
      let k : n - i ≡ suc (n - (i + 1)) = omega arith in
      let W : List ℕ → List ℕ = walk f next (n - (i + 1)) (next s) in
      ap (λ (zs : List ℕ). zs ++ W (drop (16 * (i + 1)) (put_mid (16 * i) w xs ys))) t
      ∙ ap (λ (zs : List ℕ). (take (16 * i) xs ++ ys) ++ W zs) (d ∙ sym dd)
      ∙ append_assoc (take (16 * i) xs) ys (W (drop 16 (drop (16 * i) xs)))
      ∙ ap (λ (zs : List ℕ). take (16 * i) xs ++ (zs ++ W (drop 16 (drop (16 * i) xs)))) e16
      ∙ ap (λ (m : ℕ). take (16 * i) xs ++ walk f next m s (drop (16 * i) xs)) (sym k)

  -- at the end nothing is left
  pub walk_all : (f : S → ℕ → ℕ) (next : S → S) (n i : ℕ) (s : S) (xs : List ℕ) → n ≤ i → length xs ≡ 16 * n
      → take (16 * i) xs ++ walk f next (n - i) s (drop (16 * i) xs) ≡ xs
  walk_all f next n i s xs h l =
      let k : n - i ≡ 0 = omega arith in
      ap (λ (m : ℕ). take (16 * i) xs ++ walk f next m s (drop (16 * i) xs)) k
      ∙ ap (λ (zs : List ℕ). take (16 * i) xs ++ zs) (sym (nil_from_length (drop (16 * i) xs) (length-drop (16 * i) xs ∙ omega arith)))
      ∙ take-append-drop (16 * i) xs
