-- Programming byte by byte, and programming what was erased.
use Rattle.std.proofs.Common.{◌≡◌, ℕ, zero, suc, ◌+◌, ◌<◌, List, [], ◌∷◌, ◌++◌, length, get_or, take, drop, set, replicate, sym, refl, ap, ◌∙◌, mod-eq_of_lt, add-one, arith}
use lib.Bits.{bit_and, and_mask, and_comm}
use lib.Seq.{drop-nil}
use Rattle.chip_math.specs.Chips.{programmed}

-- one more byte
one_more : (s b : List ℕ) (i : ℕ) → i < length s → i < length b
    → take (suc i) (set s i (bit_and (get_or s i 0) (get_or b i 0))) ++ programmed (drop (suc i) (set s i (bit_and (get_or s i 0) (get_or b i 0)))) (drop (suc i) b) ≡ take i s ++ programmed (drop i s) (drop i b)
one_more [] b i h g = absurd (omega arith)
one_more (x ∷ xs) [] i h g = absurd (omega arith)
one_more (x ∷ xs) (y ∷ ys) zero h g = refl
one_more (x ∷ xs) (y ∷ ys) (suc i) h g = ap (λ (zs : List ℕ). x ∷ zs) (one_more xs ys i (omega arith) (omega arith))

pub program_more : (s b : List ℕ) (i : ℕ) → i < length s → i < length b
    → take (i + 1) (set s i (bit_and (get_or s i 0) (get_or b i 0))) ++ programmed (drop (i + 1) (set s i (bit_and (get_or s i 0) (get_or b i 0)))) (drop (i + 1) b) ≡ take i s ++ programmed (drop i s) (drop i b)
program_more s b i h g = rw add-one (one_more s b i h g)

-- nothing is left
pub program_all : (s b : List ℕ) (i : ℕ) → (i < length s → i < length b → ⊥) → take i s ++ programmed (drop i s) (drop i b) ≡ s
program_all [] b zero h = refl
program_all [] b (suc i) h = refl
program_all (x ∷ xs) [] zero h = refl
program_all (x ∷ xs) (y ∷ ys) zero h = absurd (h (omega arith) (omega arith))
program_all (x ∷ xs) [] (suc i) h =
    ap (λ (zs : List ℕ). x ∷ zs) (ap (λ (zs : List ℕ). take i xs ++ programmed (drop i xs) zs) (sym (drop-nil i)) ∙ program_all xs [] i (λ p q. absurd (omega arith)))
program_all (x ∷ xs) (y ∷ ys) (suc i) h = ap (λ (zs : List ℕ). x ∷ zs) (program_all xs ys i (λ p q. h (omega arith) (omega arith)))

-- what was erased takes any bytes
pub program_erased : (new : List ℕ) → ((i : ℕ) → get_or new i 0 < 256) → programmed (replicate (length new) 255) new ≡ new
program_erased [] small = refl
program_erased (y ∷ ys) small =
    ap (λ (x : ℕ). x ∷ programmed (replicate (length ys) 255) ys) (and_comm 255 y ∙ and_mask y 8 ∙ mod-eq_of_lt (small 0))
    ∙ ap (λ (zs : List ℕ). y ∷ zs) (program_erased ys (λ i. small (suc i)))
