-- The round keys are the words of KeyExpansion, four by four.
use Rattle.std.proofs.Common.{◌≡◌, ℕ, zero, suc, ◌+◌, ◌*◌, ◌/◌, ◌%◌, sym, refl, ap, ◌∙◌, arith}
use lib.Bits.{xor_assoc}
use Rattle.aes_math.specs.Rounds.{Word, State, add_word, sub_word, rot_word}
use Rattle.aes.specs.Aes128.{rcon, next_key, round_key}
use Rattle.aes.specs.Facts.{temp, w, Words}
use Rattle.aes_math.proofs.StateLaws.{quad}

assoc : (a b c : Word) → add_word a (add_word b c) ≡ add_word (add_word a b) c
assoc a b c =
    sym (quad (xor_assoc a.0 b.0 c.0) (xor_assoc a.1 b.1 c.1) (xor_assoc a.2 b.2 c.2) (xor_assoc a.3 b.3 c.3))

first : (n i : ℕ) (x : Word) → n % 4 ≡ 0 → n / 4 ≡ i → temp n (n % 4) x ≡ add_word (sub_word (rot_word x)) (rcon i, 0, 0, 0)
first n i x e f = ap (λ (m : ℕ). temp n m x) e ∙ ap (λ (m : ℕ). add_word (sub_word (rot_word x)) (rcon m, 0, 0, 0)) f

other : (n r : ℕ) (x : Word) → n % 4 ≡ suc r → temp n (n % 4) x ≡ x
other n r x e = ap (λ (m : ℕ). temp n m x) e

four_words : State → ℕ → State
four_words k j = (w k j, w k (suc j), w k (suc (suc j)), w k (suc (suc (suc j))))

step : (k : State) (i j : ℕ) → j ≡ 4 * i → four_words k (suc (suc (suc (suc j)))) ≡ next_key (rcon (suc i)) (four_words k j)
unfolding four_words next_key w
step k i j e =
    let x : Word = w k (suc (suc (suc j))) in
    let a : Word = add_word (add_word (w k j) (sub_word (rot_word x))) (rcon (suc i), 0, 0, 0) in
    let ea : w k (suc (suc (suc (suc j)))) ≡ a =
    ap (add_word (w k j)) (first (suc (suc (suc (suc j)))) (suc i) x (omega arith) (omega arith))
    ∙ assoc (w k j) (sub_word (rot_word x)) (rcon (suc i), 0, 0, 0) in
    let b : Word = add_word (w k (suc j)) a in
    let eb : w k (suc (suc (suc (suc (suc j))))) ≡ b =
    ap (add_word (w k (suc j))) (other (suc (suc (suc (suc (suc j))))) 0 (w k (suc (suc (suc (suc j))))) (omega arith) ∙ ea) in
    let c : Word = add_word (w k (suc (suc j))) b in
    let ec : w k (suc (suc (suc (suc (suc (suc j)))))) ≡ c =
    ap (add_word (w k (suc (suc j)))) (other (suc (suc (suc (suc (suc (suc j)))))) 1 (w k (suc (suc (suc (suc (suc j)))))) (omega arith) ∙ eb) in
    quad ea eb ec
    (ap (add_word x) (other (suc (suc (suc (suc (suc (suc (suc j))))))) 2 (w k (suc (suc (suc (suc (suc (suc j))))))) (omega arith) ∙ ec))

from : (k : State) (i j : ℕ) → j ≡ 4 * i → round_key k i ≡ four_words k j
unfolding round_key four_words w
from k zero j e = ap (four_words k) (sym e)
from k (suc i) j e =
    let e' : suc (suc (suc (suc (4 * i)))) ≡ j = omega arith in
    ap (next_key (rcon (suc i))) (from k i (4 * i) refl)
    ∙ sym (step k i (4 * i) refl) ∙ ap (four_words k) e'

pub words : Words
unfolding four_words
words k i =
    let e₁ : suc (4 * i) ≡ 4 * i + 1 = omega arith in
    let e₂ : suc (suc (4 * i)) ≡ 4 * i + 2 = omega arith in
    let e₃ : suc (suc (suc (4 * i))) ≡ 4 * i + 3 = omega arith in
    from k i (4 * i) refl ∙ quad refl (ap (w k) e₁) (ap (w k) e₂) (ap (w k) e₃)
