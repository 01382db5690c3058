-- Words and blocks as numbers.
use Rattle.std.proofs.Common.{◌≡◌, ℕ, ◌+◌, ◌*◌, ◌/◌, ◌%◌, ◌^◌, ◌<◌, sym, refl, ap, ◌∙◌, mod-eq_of_lt, zero-add, arith}
use Rattle.std.proofs.lemmas.Nat.{mod-pow-add, shr-shr, xor_shr, xor_mod}
use lib.Bits.{bit_xor, bit_or, or_shifted_r}
use Rattle.aes_math.specs.Rounds.{Word, State, add_word, add_round_key, word_of, num_word, state_of, num_of}
use Rattle.aes_math.specs.Facts.{Bytes, ByteState}
use Rattle.aes_math.proofs.StateLaws.{quad}

-- ---- blocks as numbers

pub word_bytes : (n : ℕ) → Bytes (word_of n)
word_bytes n = (omega arith, omega arith, omega arith, omega arith)

pub state_bytes : (n : ℕ) → ByteState (state_of n)
unfolding state_of
state_bytes n = (word_bytes (n / 2 ^ 96), word_bytes (n / 2 ^ 64), word_bytes (n / 2 ^ 32), word_bytes n)

pub num_word_lt : (w : Word) → Bytes w → num_word w < 2 ^ 32
num_word_lt w h = omega arith

pub word_num : (w : Word) (m : ℕ) → Bytes w → word_of (m * 2 ^ 32 + num_word w) ≡ w
word_num w m h = quad (omega arith) (omega arith) (omega arith) (omega arith)

-- the four low digits of n in base 2^w make up n modulo 2^(4w)
four : (w n : ℕ) → ((n / 2 ^ (w + w + w) % 2 ^ w * 2 ^ w + n / 2 ^ (w + w) % 2 ^ w) * 2 ^ w + n / 2 ^ w % 2 ^ w) * 2 ^ w + n % 2 ^ w ≡ n % 2 ^ (w + w + w + w)
four w n =
    sym
    (mod-pow-add n (w + w + w) w
    ∙ ap (λ (x : ℕ). x * 2 ^ w + n % 2 ^ w)
    (mod-pow-add (n / 2 ^ w) (w + w) w
    ∙ ap (λ (x : ℕ). x * 2 ^ w + n / 2 ^ w % 2 ^ w)
    (ap (λ (x : ℕ). x % 2 ^ (w + w)) (shr-shr n w w)
    ∙ mod-pow-add (n / 2 ^ (w + w)) w w
    ∙ ap (λ (x : ℕ). x % 2 ^ w * 2 ^ w + n / 2 ^ (w + w) % 2 ^ w) (shr-shr n (w + w) w))))

pub num_word_lem : (n : ℕ) → num_word (word_of n) ≡ n % 2 ^ 32
num_word_lem n = four 8 n

pub high4 : (a b c d : ℕ) → a < 2 ^ 32 → b < 2 ^ 32 → c < 2 ^ 32 → d < 2 ^ 32
    → ((((a * 2 ^ 32 + b) * 2 ^ 32 + c) * 2 ^ 32 + d) / 2 ^ 96 ≡ 0 * 2 ^ 32 + a)
    × ((((a * 2 ^ 32 + b) * 2 ^ 32 + c) * 2 ^ 32 + d) / 2 ^ 64 ≡ a * 2 ^ 32 + b)
    × ((((a * 2 ^ 32 + b) * 2 ^ 32 + c) * 2 ^ 32 + d) / 2 ^ 32 ≡ (a * 2 ^ 32 + b) * 2 ^ 32 + c)
high4 a b c d ha hb hc hd = (omega arith, omega arith, omega arith)

pub state_num : (s : State) → ByteState s → state_of (num_of s) ≡ s
unfolding state_of num_of
state_num s h =
    let a : ℕ = num_word s.0 in
    let b : ℕ = num_word s.1 in
    let c : ℕ = num_word s.2 in
    let d : ℕ = num_word s.3 in
    let e = high4 a b c d (num_word_lt s.0 h.0) (num_word_lt s.1 h.1) (num_word_lt s.2 h.2) (num_word_lt s.3 h.3) in
    quad
    (ap word_of e.0 ∙ word_num s.0 0 h.0)
    (ap word_of e.1 ∙ word_num s.1 a h.1)
    (ap word_of e.2 ∙ word_num s.2 (a * 2 ^ 32 + b) h.2)
    (word_num s.3 ((a * 2 ^ 32 + b) * 2 ^ 32 + c) h.3)

pub num_state : (n : ℕ) → n < 2 ^ 128 → num_of (state_of n) ≡ n
unfolding state_of num_of
num_state n h =
    join (num_word_lem (n / 2 ^ 96)) (num_word_lem (n / 2 ^ 64)) (num_word_lem (n / 2 ^ 32)) (num_word_lem n)
    ∙ four 32 n ∙ mod-eq_of_lt h
  where
    join : {a b c d a' b' c' d' : ℕ} → a ≡ a' → b ≡ b' → c ≡ c' → d ≡ d'
        → ((a * 2 ^ 32 + b) * 2 ^ 32 + c) * 2 ^ 32 + d ≡ ((a' * 2 ^ 32 + b') * 2 ^ 32 + c') * 2 ^ 32 + d'
    join p q r s = λ i. ((p i * 2 ^ 32 + q i) * 2 ^ 32 + r i) * 2 ^ 32 + s i

pub word_of_num : (w : Word) → Bytes w → word_of (num_word w) ≡ w
word_of_num w h = ap word_of (sym (zero-add (num_word w))) ∙ word_num w 0 h

-- ---- sums

xor_byte : (a b k : ℕ) → bit_xor a b / 2 ^ k % 256 ≡ bit_xor (a / 2 ^ k % 256) (b / 2 ^ k % 256)
xor_byte a b k = ap (λ (x : ℕ). x % 256) (xor_shr a b k) ∙ xor_mod (a / 2 ^ k) (b / 2 ^ k) 8

pub word_xor : (a b : ℕ) → word_of (bit_xor a b) ≡ add_word (word_of a) (word_of b)
word_xor a b = quad (xor_byte a b 24) (xor_byte a b 16) (xor_byte a b 8) (xor_mod a b 8)

-- ---- what the code computes

-- `w.rotate_right(8)`, of a word by its bytes, and so on
bytes8 : (a b c d : ℕ) → a < 256 → b < 256 → c < 256 → d < 256
    → bit_or (num_word (a, b, c, d) / 2 ^ 8) (num_word (a, b, c, d) * 2 ^ 24 % 2 ^ 32) ≡ num_word (d, a, b, c)
bytes8 a b c d ha hb hc hd =
    let e : num_word (a, b, c, d) * 2 ^ 24 % 2 ^ 32 ≡ d * 2 ^ 24 = omega arith in
    ap (bit_or (num_word (a, b, c, d) / 2 ^ 8)) e ∙ or_shifted_r d 24 (num_word (a, b, c, d) / 2 ^ 8) (omega arith) ∙ omega arith

bytes16 : (a b c d : ℕ) → a < 256 → b < 256 → c < 256 → d < 256
    → bit_or (num_word (a, b, c, d) / 2 ^ 16) (num_word (a, b, c, d) * 2 ^ 16 % 2 ^ 32) ≡ num_word (c, d, a, b)
bytes16 a b c d ha hb hc hd =
    let e : num_word (a, b, c, d) * 2 ^ 16 % 2 ^ 32 ≡ (c * 256 + d) * 2 ^ 16 = omega arith in
    ap (bit_or (num_word (a, b, c, d) / 2 ^ 16)) e ∙ or_shifted_r (c * 256 + d) 16 (num_word (a, b, c, d) / 2 ^ 16) (omega arith) ∙ omega arith

bytes24 : (a b c d : ℕ) → a < 256 → b < 256 → c < 256 → d < 256
    → bit_or (num_word (a, b, c, d) / 2 ^ 24) (num_word (a, b, c, d) * 2 ^ 8 % 2 ^ 32) ≡ num_word (b, c, d, a)
bytes24 a b c d ha hb hc hd =
    let e : num_word (a, b, c, d) * 2 ^ 8 % 2 ^ 32 ≡ ((b * 256 + c) * 256 + d) * 2 ^ 8 = omega arith in
    ap (bit_or (num_word (a, b, c, d) / 2 ^ 24)) e ∙ or_shifted_r ((b * 256 + c) * 256 + d) 8 (num_word (a, b, c, d) / 2 ^ 24) (omega arith) ∙ omega arith

whole : (w : ℕ) → w < 2 ^ 32 → w ≡ num_word (word_of w)
whole w h = sym (num_word_lem w ∙ mod-eq_of_lt h)

pub turn8 : (w : ℕ) → w < 2 ^ 32 → word_of (bit_or (w / 2 ^ 8) (w * 2 ^ 24 % 2 ^ 32)) ≡ ((word_of w).3, (word_of w).0, (word_of w).1, (word_of w).2)
turn8 w lt =
    let h : Bytes (word_of w) = word_bytes w in
    ap word_of (ap (λ (x : ℕ). bit_or (x / 2 ^ 8) (x * 2 ^ 24 % 2 ^ 32)) (whole w lt) ∙ bytes8 (word_of w).0 (word_of w).1 (word_of w).2 (word_of w).3 h.0 h.1 h.2 h.3)
    ∙ word_of_num ((word_of w).3, (word_of w).0, (word_of w).1, (word_of w).2) (h.3, h.0, h.1, h.2)

pub turn16 : (w : ℕ) → w < 2 ^ 32 → word_of (bit_or (w / 2 ^ 16) (w * 2 ^ 16 % 2 ^ 32)) ≡ ((word_of w).2, (word_of w).3, (word_of w).0, (word_of w).1)
turn16 w lt =
    let h : Bytes (word_of w) = word_bytes w in
    ap word_of (ap (λ (x : ℕ). bit_or (x / 2 ^ 16) (x * 2 ^ 16 % 2 ^ 32)) (whole w lt) ∙ bytes16 (word_of w).0 (word_of w).1 (word_of w).2 (word_of w).3 h.0 h.1 h.2 h.3)
    ∙ word_of_num ((word_of w).2, (word_of w).3, (word_of w).0, (word_of w).1) (h.2, h.3, h.0, h.1)

pub turn24 : (w : ℕ) → w < 2 ^ 32 → word_of (bit_or (w / 2 ^ 24) (w * 2 ^ 8 % 2 ^ 32)) ≡ ((word_of w).1, (word_of w).2, (word_of w).3, (word_of w).0)
turn24 w lt =
    let h : Bytes (word_of w) = word_bytes w in
    ap word_of (ap (λ (x : ℕ). bit_or (x / 2 ^ 24) (x * 2 ^ 8 % 2 ^ 32)) (whole w lt) ∙ bytes24 (word_of w).0 (word_of w).1 (word_of w).2 (word_of w).3 h.0 h.1 h.2 h.3)
    ∙ word_of_num ((word_of w).1, (word_of w).2, (word_of w).3, (word_of w).0) (h.1, h.2, h.3, h.0)

pub low_word : (n : ℕ) → word_of (n % 2 ^ 32) ≡ word_of n
low_word n = quad (omega arith) (omega arith) (omega arith) (omega arith)

pub of_columns : (n : ℕ) → (word_of (n / 2 ^ 96), word_of (n / 2 ^ 64 % 2 ^ 32), word_of (n / 2 ^ 32 % 2 ^ 32), word_of (n % 2 ^ 32)) ≡ state_of n
unfolding state_of
of_columns n = quad refl (low_word (n / 2 ^ 64)) (low_word (n / 2 ^ 32)) (low_word n)

high_word : (m a : ℕ) → a < 2 ^ 32 → word_of (m * 2 ^ 32 + a) ≡ word_of a
high_word m a h = quad (omega arith) (omega arith) (omega arith) (omega arith)

pub of_block : (a b c d : ℕ) → a < 2 ^ 32 → b < 2 ^ 32 → c < 2 ^ 32 → d < 2 ^ 32
    → state_of (((a * 2 ^ 32 + b) * 2 ^ 32 + c) * 2 ^ 32 + d) ≡ (word_of a, word_of b, word_of c, word_of d)
unfolding state_of
of_block a b c d ha hb hc hd =
    let e = high4 a b c d ha hb hc hd in
    quad
    (ap word_of e.0 ∙ high_word 0 a ha)
    (ap word_of e.1 ∙ high_word a b hb)
    (ap word_of e.2 ∙ high_word (a * 2 ^ 32 + b) c hc)
    (high_word ((a * 2 ^ 32 + b) * 2 ^ 32 + c) d hd)

pub state_xor : (n k : ℕ) → state_of (bit_xor n k) ≡ add_round_key (state_of k) (state_of n)
unfolding state_of add_round_key
state_xor n k =
    quad (part 96) (part 64) (part 32) (word_xor n k)
  where
    part : (j : ℕ) → word_of (bit_xor n k / 2 ^ j) ≡ add_word (word_of (n / 2 ^ j)) (word_of (k / 2 ^ j))
    part j = ap word_of (xor_shr n k j) ∙ word_xor (n / 2 ^ j) (k / 2 ^ j)

-- a block by its state
pub num_is : (n : ℕ) (s : State) → n < 2 ^ 128 → state_of n ≡ s → n ≡ num_of s
num_is n s h e = sym (num_state n h) ∙ ap num_of e
