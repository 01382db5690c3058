-- Bytes and blocks: the laws.
use Rattle.std.proofs.Common.{◌≡◌, ℕ, zero, suc, ◌+◌, ◌*◌, ◌/◌, ◌%◌, ◌^◌, ◌<◌, List, [], ◌∷◌, length, get_or, take, refl, ap, ◌∙◌, subst, mod-eq_of_lt, mul_assoc, add-mul, arith, w8, Fits}
use native.Mathlib.Nat.{pow-succ', mod-one, one-le-pow}
use lib.Arith.{mod-mul, digits_div, digits_mod}
use Rattle.std.specs.Int.Digits.{number_from_digits, number_from_digits_after, AllBelowBase}
use Rattle.std.proofs.lemmas.Int.Digits.{number_more, number_lt}
use Rattle.std.proofs.lemmas.List.{take_all}
use Rattle.std.proofs.ByRecursion.{All-from_get_or}
use Rattle.block.specs.Blocks.{bytes_of, to_bytes, to_block}

step : (xs : List ℕ) (i : ℕ) → length xs ≡ 16 → i < 16 → number_from_digits 256 (take (i + 1) xs) ≡ number_from_digits 256 (take i xs) * 256 + get_or xs i 0
step xs i h k = number_more 256 xs i (omega arith)

pub number_16 : (xs : List ℕ) → length xs ≡ 16 → number_from_digits 256 xs ≡ get_or xs 0 0 * 1329227995784915872903807060280344576 + get_or xs 1 0 * 5192296858534827628530496329220096 + get_or xs 2 0 * 20282409603651670423947251286016 + get_or xs 3 0 * 79228162514264337593543950336 + get_or xs 4 0 * 309485009821345068724781056 + get_or xs 5 0 * 1208925819614629174706176 + get_or xs 6 0 * 4722366482869645213696 + get_or xs 7 0 * 18446744073709551616 + get_or xs 8 0 * 72057594037927936 + get_or xs 9 0 * 281474976710656 + get_or xs 10 0 * 1099511627776 + get_or xs 11 0 * 4294967296 + get_or xs 12 0 * 16777216 + get_or xs 13 0 * 65536 + get_or xs 14 0 * 256 + get_or xs 15 0
number_16 xs h =
    let e : number_from_digits 256 (take 16 xs) ≡ number_from_digits 256 xs = ap (number_from_digits 256) (take_all 16 xs (omega arith)) in
    let s : (i : ℕ) → i < 16 → number_from_digits 256 (take (i + 1) xs) ≡ number_from_digits 256 (take i xs) * 256 + get_or xs i 0 = λ i k. step xs i h k in
    omega (arith, e, s 0 (omega arith), s 1 (omega arith), s 2 (omega arith), s 3 (omega arith), s 4 (omega arith), s 5 (omega arith), s 6 (omega arith), s 7 (omega arith), s 8 (omega arith), s 9 (omega arith), s 10 (omega arith), s 11 (omega arith), s 12 (omega arith), s 13 (omega arith), s 14 (omega arith), s 15 (omega arith))

-- what a slice of bytes holds are bytes
pub under_typed : (xs : List ℕ) → ((i : ℕ) → Fits w8 (get_or xs i 0)) → AllBelowBase 256 xs
under_typed xs f = All-from_get_or (λ d. d < 256) xs 0 (λ i h. (f i).fits)

pub length-bytes_of : (k n : ℕ) → length (bytes_of k n) ≡ k
length-bytes_of zero n = refl
length-bytes_of (suc k) n = ap suc (length-bytes_of k n)

pub under_bytes_of : (k n : ℕ) → AllBelowBase 256 (bytes_of k n)
under_bytes_of zero n = tt
under_bytes_of (suc k) n = (omega arith, under_bytes_of k n)

number_after_bytes_of : (k m n : ℕ) → number_from_digits_after 256 m (bytes_of k n) ≡ m * 256 ^ k + n % 256 ^ k
number_after_bytes_of zero m n = let e = mod-one n in omega arith
number_after_bytes_of (suc k) m n =
    let p : 0 < 256 ^ k = one-le-pow k 256 (omega arith) in
    let d : n % (256 * 256 ^ k) ≡ (n / 256 ^ k % 256) * 256 ^ k + n % 256 ^ k = mod-mul n (omega arith) p in
    let a : (m * 256 + n / 256 ^ k % 256) * 256 ^ k ≡ m * 256 * 256 ^ k + (n / 256 ^ k % 256) * 256 ^ k = add-mul (m * 256) (n / 256 ^ k % 256) (256 ^ k) in
    let b : m * 256 * 256 ^ k ≡ m * (256 * 256 ^ k) = mul_assoc m 256 (256 ^ k) in
    number_after_bytes_of k (m * 256 + n / 256 ^ k % 256) n ∙ rw (pow-succ' 256 k) (omega (arith, a, b, d))

-- a block comes back from its bytes
pub number_bytes_of : (k n : ℕ) → n < 256 ^ k → number_from_digits 256 (bytes_of k n) ≡ n
number_bytes_of k n h = let e = number_after_bytes_of k 0 n in let m = mod-eq_of_lt h in omega arith

number_after_split : (n : ℕ) (ds : List ℕ) → number_from_digits_after 256 n ds ≡ n * 256 ^ length ds + number_from_digits 256 ds
number_after_split n [] = omega arith
number_after_split n (d ∷ ds) =
    let P : ℕ = 256 ^ length ds in
    let a : (n * 256 + d) * P ≡ n * 256 * P + d * P = add-mul (n * 256) d P in
    let b : n * 256 * P ≡ n * (256 * P) = mul_assoc n 256 P in
    let z : (0 * 256 + d) * P ≡ d * P = ap (λ (x : ℕ). x * P) (omega arith) in
    let e = number_after_split (n * 256 + d) ds in
    let e0 = number_after_split (0 * 256 + d) ds in
    rw (pow-succ' 256 (length ds)) (omega (arith, a, b, z, e, e0))

bytes_of_number_after : (m : ℕ) (ds : List ℕ) → AllBelowBase 256 ds → bytes_of (length ds) (number_from_digits_after 256 m ds) ≡ ds
bytes_of_number_after m [] u = refl
bytes_of_number_after m (d ∷ ds) u =
    let P : ℕ = 256 ^ length ds in
    let s : number_from_digits_after 256 (m * 256 + d) ds ≡ (m * 256 + d) * P + number_from_digits 256 ds = number_after_split (m * 256 + d) ds in
    let q : number_from_digits_after 256 (m * 256 + d) ds / P ≡ m * 256 + d = ap (λ (x : ℕ). x / P) s ∙ digits_div (m * 256 + d) (number_lt 256 ds u.1) in
    let h : number_from_digits_after 256 (m * 256 + d) ds / P % 256 ≡ d = ap (λ (x : ℕ). x % 256) q ∙ digits_mod m u.0 in
    ap (λ (x : ℕ). x ∷ bytes_of (length ds) (number_from_digits_after 256 (m * 256 + d) ds)) h ∙ ap (λ (xs : List ℕ). d ∷ xs) (bytes_of_number_after (m * 256 + d) ds u.1)

-- bytes come back from their block
pub bytes_of_number : (k : ℕ) (ds : List ℕ) → AllBelowBase 256 ds → length ds ≡ k → bytes_of k (number_from_digits 256 ds) ≡ ds
bytes_of_number k ds u e = subst (λ (n : ℕ). bytes_of n (number_from_digits 256 ds) ≡ ds) e (bytes_of_number_after 0 ds u)

pub number_below : (k : ℕ) (ds : List ℕ) → AllBelowBase 256 ds → length ds ≡ k → number_from_digits 256 ds < 256 ^ k
number_below k ds u e = subst (λ (n : ℕ). number_from_digits 256 ds < 256 ^ n) e (number_lt 256 ds u)

pub length-to_bytes : (n : ℕ) → length (to_bytes n) ≡ 16
unfolding to_bytes
length-to_bytes n = length-bytes_of 16 n

pub under_to_bytes : (n : ℕ) → AllBelowBase 256 (to_bytes n)
unfolding to_bytes
under_to_bytes n = under_bytes_of 16 n

pub block_bytes : (n : ℕ) → n < 2 ^ 128 → to_block (to_bytes n) ≡ n
unfolding to_bytes to_block
block_bytes n h = number_bytes_of 16 n h

pub bytes_block : (bs : List ℕ) → AllBelowBase 256 bs → length bs ≡ 16 → to_bytes (to_block bs) ≡ bs
unfolding to_bytes to_block
bytes_block bs u l = bytes_of_number 16 bs u l

pub block_below : (bs : List ℕ) → AllBelowBase 256 bs → length bs ≡ 16 → to_block bs < 2 ^ 128
unfolding to_block
block_below bs u l = number_below 16 bs u l
