-- A walk in place: a block more, and the end.
use Rattle.std.proofs.Common.{◌≡◌, ℕ, suc, ◌+◌, ◌-◌, ◌*◌, ◌/◌, ◌<◌, ◌≤◌, List, [], ◌++◌, length, take, drop, sym, ap, ◌∙◌, append_assoc, arith, length-drop}
use borrow.Rule.Slice.PartMut.{put_mid}
use Rattle.std.proofs.lemmas.List.{length-take-le, drop-drop, nil_from_length, append-nil}
use Rattle.std.proofs.lemmas.Slice.{take-put_mid, drop-put_mid}
use Rattle.block.specs.Blocks.{walk, to_bytes, to_block, loaded, stored}
use Rattle.mode.specs.Walks.{walked}
use Rattle.block.proofs.Bytes.{length-to_bytes}
use Rattle.block.proofs.Parts.{loaded_is, stored_is}

-- block i is there
pub part_long : (n i w : ℕ) (xs : List ℕ) → i < n → 16 * n ≤ length xs → w ≡ 16 → length (take w (drop (16 * i) xs)) ≡ 16
part_long n i w xs h l wide = length-take-le w (drop (16 * i) xs) (let d = length-drop (16 * i) xs in omega arith) ∙ wide

-- block i of xs is overwritten by its successor
pub walked_more : (f : ℕ → ℕ → ℕ) (next : ℕ → ℕ) (n i w s : ℕ) (xs ys : List ℕ) → i < n → 16 * n ≤ length xs → w ≡ 16
    → ys ≡ stored (take w (drop (16 * i) xs)) (f s (loaded (take w (drop (16 * i) xs))))
    → take (16 * (i + 1)) (put_mid (16 * i) w xs ys)
    ++ (walk f next (n - (i + 1)) (next s) (drop (16 * (i + 1)) (put_mid (16 * i) w xs ys)) ++ drop (16 * n) (put_mid (16 * i) w xs ys))
    ≡ take (16 * i) xs ++ (walk f next (n - i) s (drop (16 * i) xs) ++ drop (16 * n) xs)
walked_more f next n i w s xs ys h l wide e =
    let part : List ℕ = take w (drop (16 * i) xs) in
    let long : length part ≡ 16 = part_long n i w xs h l wide in
    let b : ℕ = to_block (take 16 (drop (16 * i) xs)) in
    let e16 : ys ≡ to_bytes (f s b) =
    e ∙ stored_is part (f s (loaded part)) long ∙ ap (λ (b : ℕ). to_bytes (f s b)) (loaded_is part long ∙ ap (λ (k : ℕ). to_block (take k (drop (16 * i) xs))) wide) in
    let ly : length ys ≡ w = ap length e16 ∙ length-to_bytes (f s b) ∙ sym wide in
    let t : take (16 * (i + 1)) (put_mid (16 * i) w xs ys) ≡ take (16 * i) xs ++ ys = take-put_mid (16 * i) w xs ys (16 * (i + 1)) (omega arith) (omega arith) in
    let d : drop (16 * (i + 1)) (put_mid (16 * i) w xs ys) ≡ drop (16 * (i + 1)) xs = drop-put_mid (16 * i) w xs ys (16 * (i + 1)) (omega arith) (omega arith) ly in
    let z : drop (16 * n) (put_mid (16 * i) w xs ys) ≡ drop (16 * n) xs = drop-put_mid (16 * i) w xs ys (16 * n) (omega arith) (omega arith) ly in
    let dd : drop 16 (drop (16 * i) xs) ≡ drop (16 * (i + 1)) xs = drop-drop 16 (16 * i) xs ∙ ap (λ (k : ℕ). drop k xs) (omega arith) in
    let k : n - i ≡ suc (n - (i + 1)) = omega arith in
    let W : List ℕ → List ℕ = walk f next (n - (i + 1)) (next s) in
    ap (λ (zs : List ℕ). zs ++ (W (drop (16 * (i + 1)) (put_mid (16 * i) w xs ys)) ++ drop (16 * n) (put_mid (16 * i) w xs ys))) t
    ∙ ap (λ (zs : List ℕ). (take (16 * i) xs ++ ys) ++ (W zs ++ drop (16 * n) (put_mid (16 * i) w xs ys))) (d ∙ sym dd)
    ∙ ap (λ (zs : List ℕ). (take (16 * i) xs ++ ys) ++ (W (drop 16 (drop (16 * i) xs)) ++ zs)) z
    ∙ append_assoc (take (16 * i) xs) ys (W (drop 16 (drop (16 * i) xs)) ++ drop (16 * n) xs)
    ∙ ap (λ (zs : List ℕ). take (16 * i) xs ++ zs) (sym (append_assoc ys (W (drop 16 (drop (16 * i) xs))) (drop (16 * n) xs)))
    ∙ ap (λ (zs : List ℕ). take (16 * i) xs ++ ((zs ++ W (drop 16 (drop (16 * i) xs))) ++ drop (16 * n) xs)) e16
    ∙ ap (λ (m : ℕ). take (16 * i) xs ++ (walk f next m s (drop (16 * i) xs) ++ drop (16 * n) xs)) (sym k)

-- all of a text of n blocks
pub walked_whole : (f : ℕ → ℕ → ℕ) (next : ℕ → ℕ) (n s : ℕ) (xs : List ℕ) → length xs ≡ 16 * n → walked f next s xs ≡ walk f next n s xs
walked_whole f next n s xs l =
    let k : length xs / 16 ≡ n = omega arith in
    let end : drop (16 * (length xs / 16)) xs ≡ [] = nil_from_length (drop (16 * (length xs / 16)) xs) (length-drop (16 * (length xs / 16)) xs ∙ omega arith) in
    ap (λ (zs : List ℕ). walk f next (length xs / 16) s xs ++ zs) end
    ∙ append-nil (walk f next (length xs / 16) s xs) ∙ ap (λ (m : ℕ). walk f next m s xs) k
