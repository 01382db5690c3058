-- Rounds and blocks are undone both ways.
use Rattle.std.specs.Prelude.{◌≡◌, ℕ, zero, suc, ◌+◌, ◌*◌, ◌/◌, ◌%◌, ◌^◌, ◌<◌, bit_xor}
use Rattle.std.proofs.Common.{arith, ◌∙◌}
use Rattle.std.proofs.Math.Path.{refl, ap}
use Rattle.std.proofs.lemmas.Nat.{xor_lt}
use Rattle.block.specs.Blocks.{swapped}
use Rattle.block.proofs.Swaps.{swapped_below, swapped-twice}
use Rattle.block.proofs.Xor.{xor_back}
use Rattle.speck.specs.Speck.{Pair, right8, left8, right3, left3, plus, minus, mixed, unmixed, round_of, unround_of, scheduled, rounds, unrounds, pair_of, block_of, round_key, sealed, opened}
use Rattle.speck.specs.Facts.{Words, Rounds, Undone}

-- ---- rotations and sums

right3_left3 : (x : ℕ) → x < 2 ^ 64 → right3 (left3 x) ≡ x
right3_left3 x h = omega arith

left3_right3 : (x : ℕ) → x < 2 ^ 64 → left3 (right3 x) ≡ x
left3_right3 x h = omega arith

left8_right8 : (x : ℕ) → x < 2 ^ 64 → left8 (right8 x) ≡ x
left8_right8 x h = omega arith

right8_left8 : (x : ℕ) → x < 2 ^ 64 → right8 (left8 x) ≡ x
right8_left8 x h = omega arith

minus_plus : (a b : ℕ) → a < 2 ^ 64 → b < 2 ^ 64 → minus (plus a b) b ≡ a
minus_plus a b h k = omega arith

plus_minus : (a b : ℕ) → a < 2 ^ 64 → b < 2 ^ 64 → plus (minus a b) b ≡ a
plus_minus a b h k = omega arith

right3_lt : (x : ℕ) → x < 2 ^ 64 → right3 x < 2 ^ 64
right3_lt x h = omega arith

left8_lt : (x : ℕ) → x < 2 ^ 64 → left8 x < 2 ^ 64
left8_lt x h = omega arith

minus_lt : (a b : ℕ) → minus a b < 2 ^ 64
minus_lt a b = omega arith

-- ---- a round

round_opens : (k : ℕ) (p : Pair) → k < 2 ^ 64 → Words p → unround_of k (round_of k p) ≡ p
round_opens k p hk h =
    let b : unmixed (round_of k p) ≡ p.1 = ap right3 (xor_back (left3 p.1) (mixed k p.0 p.1)) ∙ right3_left3 p.1 h.1 in
    let r : right8 p.0 < 2 ^ 64 = omega arith in
    let a : left8 (minus (bit_xor (mixed k p.0 p.1) k) (unmixed (round_of k p))) ≡ p.0 =
    ap (λ (n : ℕ). left8 (minus n (unmixed (round_of k p)))) (xor_back (plus (right8 p.0) p.1) k)
    ∙ ap (λ (n : ℕ). left8 (minus (plus (right8 p.0) p.1) n)) b
    ∙ ap left8 (minus_plus (right8 p.0) p.1 r h.1)
    ∙ left8_right8 p.0 h.0 in
    λ i. (a i, b i)

round_seals : (k : ℕ) (p : Pair) → k < 2 ^ 64 → Words p → round_of k (unround_of k p) ≡ p
round_seals k p hk h =
    let y : ℕ = unmixed p in
    let hx : bit_xor p.1 p.0 < 2 ^ 64 = xor_lt 64 p.1 p.0 h.1 h.0 in
    let hy : y < 2 ^ 64 = right3_lt (bit_xor p.1 p.0) hx in
    let w : ℕ = bit_xor p.0 k in
    let hw : w < 2 ^ 64 = xor_lt 64 p.0 k h.0 hk in
    let a : mixed k (left8 (minus w y)) y ≡ p.0 =
    ap (λ (n : ℕ). bit_xor (plus n y) k) (right8_left8 (minus w y) (minus_lt w y))
    ∙ ap (λ (n : ℕ). bit_xor n k) (plus_minus w y hw hy) ∙ xor_back p.0 k in
    let b : bit_xor (left3 y) (mixed k (left8 (minus w y)) y) ≡ p.1 =
    ap (bit_xor (left3 y)) a ∙ ap (λ (n : ℕ). bit_xor n p.0) (left3_right3 (bit_xor p.1 p.0) hx) ∙ xor_back p.1 p.0 in
    λ i. (a i, b i)

pub round_laws : Rounds
round_laws = record { opens = round_opens; seals = round_seals }

pub round_words : (k : ℕ) (p : Pair) → k < 2 ^ 64 → Words p → Words (round_of k p)
round_words k p hk h =
    let a : plus (right8 p.0) p.1 < 2 ^ 64 = omega arith in
    let m : mixed k p.0 p.1 < 2 ^ 64 = xor_lt 64 (plus (right8 p.0) p.1) k a hk in
    let l : left3 p.1 < 2 ^ 64 = omega arith in
    (m, xor_lt 64 (left3 p.1) (mixed k p.0 p.1) l m)

unround_words : (k : ℕ) (p : Pair) → k < 2 ^ 64 → Words p → Words (unround_of k p)
unround_words k p hk h =
    let hx : bit_xor p.1 p.0 < 2 ^ 64 = xor_lt 64 p.1 p.0 h.1 h.0 in
    (left8_lt (minus (bit_xor p.0 k) (unmixed p)) (minus_lt (bit_xor p.0 k) (unmixed p)), right3_lt (bit_xor p.1 p.0) hx)

-- ---- all rounds

module _ (ks : ℕ → ℕ) (fits : (i : ℕ) → i < 32 → ks i < 2 ^ 64) where
  rounds_words : (n : ℕ) (p : Pair) → n < 33 → Words p → Words (rounds ks n p)
  unfolding rounds
  rounds_words zero p l h = h
  rounds_words (suc n) p l h = round_words (ks n) (rounds ks n p) (fits n (omega arith)) (rounds_words n p (omega arith) h)

  unrounds_words : (n : ℕ) (p : Pair) → n < 33 → Words p → Words (unrounds ks n p)
  unfolding unrounds
  unrounds_words zero p l h = h
  unrounds_words (suc n) p l h = unrounds_words n (unround_of (ks n) p) (omega arith) (unround_words (ks n) p (fits n (omega arith)) h)

  rounds_open : (n : ℕ) (p : Pair) → n < 33 → Words p → unrounds ks n (rounds ks n p) ≡ p
  unfolding rounds unrounds
  rounds_open zero p l h = refl
  rounds_open (suc n) p l h =
      ap (unrounds ks n) (round_opens (ks n) (rounds ks n p) (fits n (omega arith)) (rounds_words n p (omega arith) h)) ∙ rounds_open n p (omega arith) h

  rounds_seal : (n : ℕ) (p : Pair) → n < 33 → Words p → rounds ks n (unrounds ks n p) ≡ p
  unfolding rounds unrounds
  rounds_seal zero p l h = refl
  rounds_seal (suc n) p l h =
      ap (round_of (ks n)) (rounds_seal n (unround_of (ks n) p) (omega arith) (unround_words (ks n) p (fits n (omega arith)) h)) ∙ round_seals (ks n) p (fits n (omega arith)) h

-- ---- blocks

pub pair_words : (n : ℕ) → Words (pair_of n)
pair_words n = let h = swapped_below n in (omega arith, omega arith)

pair_block : (p : Pair) → Words p → pair_of (block_of p) ≡ p
pair_block p h =
    let a = h.0 in
    let b = h.1 in
    let s : swapped (block_of p) ≡ p.0 * 2 ^ 64 + p.1 = swapped-twice (p.0 * 2 ^ 64 + p.1) (omega arith) in
    let l : swapped (block_of p) / 2 ^ 64 ≡ p.0 = omega arith in
    let r : swapped (block_of p) % 2 ^ 64 ≡ p.1 = omega arith in
    λ i. (l i, r i)

block_pair : (n : ℕ) → n < 2 ^ 128 → block_of (pair_of n) ≡ n
block_pair n h = ap swapped (let e : swapped n / 2 ^ 64 * 2 ^ 64 + swapped n % 2 ^ 64 ≡ swapped n = omega arith in e) ∙ swapped-twice n h

scheduled_words : (key i : ℕ) → i < 33 → Words (scheduled (pair_of key) i)
unfolding scheduled
scheduled_words key zero h = pair_words key
scheduled_words key (suc i) h = round_words i (scheduled (pair_of key) i) (omega arith) (scheduled_words key i (omega arith))

pub key_fits : (key i : ℕ) → i < 33 → round_key key i < 2 ^ 64
key_fits key i h = (scheduled_words key i h).1

pub undone : Undone
unfolding sealed opened
undone key =
    let ks : ℕ → ℕ = round_key key in
    let fits : (i : ℕ) → i < 32 → ks i < 2 ^ 64 = λ i h. key_fits key i (omega arith) in
    record {
      sealed_below = λ n h. swapped_below _;
      opened_below = λ n h. swapped_below _;
      opens = λ n h.
          ap (λ (p : Pair). block_of (unrounds ks 32 p)) (pair_block (rounds ks 32 (pair_of n)) (rounds_words ks fits 32 (pair_of n) (omega arith) (pair_words n)))
          ∙ ap block_of (rounds_open ks fits 32 (pair_of n) (omega arith) (pair_words n)) ∙ block_pair n h;
      seals = λ n h.
          ap (λ (p : Pair). block_of (rounds ks 32 p)) (pair_block (unrounds ks 32 (pair_of n)) (unrounds_words ks fits 32 (pair_of n) (omega arith) (pair_words n)))
          ∙ ap block_of (rounds_seal ks fits 32 (pair_of n) (omega arith) (pair_words n)) ∙ block_pair n h;
    }
