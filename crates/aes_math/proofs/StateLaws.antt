-- Each transformation of the state, and its inverse; then Cipher and InvCipher.
use Rattle.std.proofs.Common.{◌≡◌, ℕ, zero, suc, ◌<◌, sym, refl, ap, ◌∙◌, subst}
use lib.Bits.{bit_xor, xor_lt, xor_zero_r}
use Rattle.aes_math.specs.Field.{xtime, scale, mul_bits, mul}
use Rattle.aes_math.specs.Rounds.{Word, State, add_word, sub_word, inv_sub_word, sum4, mix_word, inv_mix_word, sub_bytes, inv_sub_bytes, shift_rows, inv_shift_rows, mix_columns, inv_mix_columns, add_round_key, round, inv_round, rounds, inv_rounds, cipher, inv_cipher}
use Rattle.aes_math.specs.Facts.{Bytes, ByteState}
use Rattle.aes_math.specs.Parts.{mix0, mix1, mix2, mix3, inv0, inv1, inv2, inv3}
use Rattle.aes_math.proofs.Below.{agree}
use Rattle.aes_math.proofs.FieldLaws.{swap, undo, mul_xor, mul_lt}
use Rattle.aes_math.proofs.ByteLaws.{inv_sbox-sbox, sbox-inv_sbox, sbox_lt, inv_sbox_lt}

pub quad : {A : Type 0} {a b c d a' b' c' d' : A} → a ≡ a' → b ≡ b' → c ≡ c' → d ≡ d' → ◌≡◌ {A = A × A × A × A} (a, b, c, d) (a', b', c', d')
quad p q r s = λ i. (p i, q i, r i, s i)

-- ---- sums

pub sum4_path : {a b c d a' b' c' d' : ℕ} → a ≡ a' → b ≡ b' → c ≡ c' → d ≡ d' → sum4 a b c d ≡ sum4 a' b' c' d'
sum4_path p q r s = λ i. sum4 (p i) (q i) (r i) (s i)

pub sum4_xor : (a b c d a' b' c' d' : ℕ) → sum4 (bit_xor a a') (bit_xor b b') (bit_xor c c') (bit_xor d d') ≡ bit_xor (sum4 a b c d) (sum4 a' b' c' d')
sum4_xor a b c d a' b' c' d' =
    ap (λ (x : ℕ). bit_xor (bit_xor x (bit_xor c c')) (bit_xor d d')) (swap a a' b b')
    ∙ ap (λ (x : ℕ). bit_xor x (bit_xor d d')) (swap (bit_xor a b) (bit_xor a' b') c c')
    ∙ swap (bit_xor (bit_xor a b) c) (bit_xor (bit_xor a' b') c') d d'

pub sum4_lt : (a b c d : ℕ) → a < 256 → b < 256 → c < 256 → d < 256 → sum4 a b c d < 256
sum4_lt a b c d ha hb hc hd = xor_lt 8 (bit_xor (bit_xor a b) c) d (xor_lt 8 (bit_xor a b) c (xor_lt 8 a b ha hb) hc) hd

pub add_bytes : (v w : Word) → Bytes v → Bytes w → Bytes (add_word v w)
add_bytes v w p q = (
  xor_lt 8 v.0 w.0 p.0 q.0,
  xor_lt 8 v.1 w.1 p.1 q.1,
  xor_lt 8 v.2 w.2 p.2 q.2,
  xor_lt 8 v.3 w.3 p.3 q.3,
)

-- ---- MixColumns

stay : (a : ℕ) → a ≡ a
stay a = refl

pub mix_add : (v w : Word) → mix_word (add_word v w) ≡ add_word (mix_word v) (mix_word w)
mix_add v w =
    quad
    (sum4_path (mul_xor 2 v.0 w.0) (mul_xor 3 v.1 w.1) (stay (bit_xor v.2 w.2)) (stay (bit_xor v.3 w.3)) ∙ sum4_xor (mul 2 v.0) (mul 3 v.1) v.2 v.3 (mul 2 w.0) (mul 3 w.1) w.2 w.3)
    (sum4_path (stay (bit_xor v.0 w.0)) (mul_xor 2 v.1 w.1) (mul_xor 3 v.2 w.2) (stay (bit_xor v.3 w.3)) ∙ sum4_xor v.0 (mul 2 v.1) (mul 3 v.2) v.3 w.0 (mul 2 w.1) (mul 3 w.2) w.3)
    (sum4_path (stay (bit_xor v.0 w.0)) (stay (bit_xor v.1 w.1)) (mul_xor 2 v.2 w.2) (mul_xor 3 v.3 w.3) ∙ sum4_xor v.0 v.1 (mul 2 v.2) (mul 3 v.3) w.0 w.1 (mul 2 w.2) (mul 3 w.3))
    (sum4_path (mul_xor 3 v.0 w.0) (stay (bit_xor v.1 w.1)) (stay (bit_xor v.2 w.2)) (mul_xor 2 v.3 w.3) ∙ sum4_xor (mul 3 v.0) v.1 v.2 (mul 2 v.3) (mul 3 w.0) w.1 w.2 (mul 2 w.3))

row_add : (p q r s : ℕ) (v w : Word)
    → sum4 (mul p (bit_xor v.0 w.0)) (mul q (bit_xor v.1 w.1)) (mul r (bit_xor v.2 w.2)) (mul s (bit_xor v.3 w.3))
    ≡ bit_xor (sum4 (mul p v.0) (mul q v.1) (mul r v.2) (mul s v.3)) (sum4 (mul p w.0) (mul q w.1) (mul r w.2) (mul s w.3))
row_add p q r s v w =
    sum4_path (mul_xor p v.0 w.0) (mul_xor q v.1 w.1) (mul_xor r v.2 w.2) (mul_xor s v.3 w.3)
    ∙ sum4_xor (mul p v.0) (mul q v.1) (mul r v.2) (mul s v.3) (mul p w.0) (mul q w.1) (mul r w.2) (mul s w.3)

pub inv_mix_add : (v w : Word) → inv_mix_word (add_word v w) ≡ add_word (inv_mix_word v) (inv_mix_word w)
inv_mix_add v w = quad (row_add 14 11 13 9 v w) (row_add 9 14 11 13 v w) (row_add 13 9 14 11 v w) (row_add 11 13 9 14 v w)

-- what one byte of a column gives: the four columns of either matrix
abbrev pub total : Word → Word → Word → Word → Word
total p q r s = add_word (add_word (add_word p q) r) s

pub mix_total : (p q r s : Word) → mix_word (total p q r s) ≡ total (mix_word p) (mix_word q) (mix_word r) (mix_word s)
mix_total p q r s =
    mix_add (add_word (add_word p q) r) s
    ∙ ap (λ (x : Word). add_word x (mix_word s)) (mix_add (add_word p q) r ∙ ap (λ (x : Word). add_word x (mix_word r)) (mix_add p q))

pub inv_mix_total : (p q r s : Word) → inv_mix_word (total p q r s) ≡ total (inv_mix_word p) (inv_mix_word q) (inv_mix_word r) (inv_mix_word s)
inv_mix_total p q r s =
    inv_mix_add (add_word (add_word p q) r) s
    ∙ ap (λ (x : Word). add_word x (inv_mix_word s)) (inv_mix_add (add_word p q) r ∙ ap (λ (x : Word). add_word x (inv_mix_word r)) (inv_mix_add p q))

total_path : {p q r s p' q' r' s' : Word} → p ≡ p' → q ≡ q' → r ≡ r' → s ≡ s' → total p q r s ≡ total p' q' r' s'
total_path a b c d = λ i. total (a i) (b i) (c i) (d i)

pub units : (a b c d : ℕ) → total (a, 0, 0, 0) (0, b, 0, 0) (0, 0, c, 0) (0, 0, 0, d) ≡ (a, b, c, d)
units a b c d =
    quad (xor_zero_r (bit_xor (bit_xor a 0) 0) ∙ xor_zero_r (bit_xor a 0) ∙ xor_zero_r a)
    (xor_zero_r (bit_xor b 0) ∙ xor_zero_r b) (xor_zero_r c) refl

inv_mix_mix0 : (a : ℕ) → a < 256 → inv_mix_word (mix0 a) ≡ (a, 0, 0, 0)
unfolding mul mul_bits scale xtime
inv_mix_mix0 = agree (λ a. inv_mix_word (mix0 a)) (λ a. (a, 0, 0, 0)) 256 refl

mix_inv0 : (a : ℕ) → a < 256 → mix_word (inv0 a) ≡ (a, 0, 0, 0)
unfolding mul mul_bits scale xtime
mix_inv0 = agree (λ a. mix_word (inv0 a)) (λ a. (a, 0, 0, 0)) 256 refl

inv_mix_mix1 : (a : ℕ) → a < 256 → inv_mix_word (mix1 a) ≡ (0, a, 0, 0)
unfolding mul mul_bits scale xtime
inv_mix_mix1 = agree (λ a. inv_mix_word (mix1 a)) (λ a. (0, a, 0, 0)) 256 refl

mix_inv1 : (a : ℕ) → a < 256 → mix_word (inv1 a) ≡ (0, a, 0, 0)
unfolding mul mul_bits scale xtime
mix_inv1 = agree (λ a. mix_word (inv1 a)) (λ a. (0, a, 0, 0)) 256 refl

inv_mix_mix2 : (a : ℕ) → a < 256 → inv_mix_word (mix2 a) ≡ (0, 0, a, 0)
unfolding mul mul_bits scale xtime
inv_mix_mix2 = agree (λ a. inv_mix_word (mix2 a)) (λ a. (0, 0, a, 0)) 256 refl

mix_inv2 : (a : ℕ) → a < 256 → mix_word (inv2 a) ≡ (0, 0, a, 0)
unfolding mul mul_bits scale xtime
mix_inv2 = agree (λ a. mix_word (inv2 a)) (λ a. (0, 0, a, 0)) 256 refl

inv_mix_mix3 : (a : ℕ) → a < 256 → inv_mix_word (mix3 a) ≡ (0, 0, 0, a)
unfolding mul mul_bits scale xtime
inv_mix_mix3 = agree (λ a. inv_mix_word (mix3 a)) (λ a. (0, 0, 0, a)) 256 refl

mix_inv3 : (a : ℕ) → a < 256 → mix_word (inv3 a) ≡ (0, 0, 0, a)
unfolding mul mul_bits scale xtime
mix_inv3 = agree (λ a. mix_word (inv3 a)) (λ a. (0, 0, 0, a)) 256 refl

pub inv_mix_mix : (w : Word) → Bytes w → inv_mix_word (mix_word w) ≡ w
inv_mix_mix w h =
    inv_mix_total (mix0 w.0) (mix1 w.1) (mix2 w.2) (mix3 w.3)
    ∙ total_path (inv_mix_mix0 w.0 h.0) (inv_mix_mix1 w.1 h.1) (inv_mix_mix2 w.2 h.2) (inv_mix_mix3 w.3 h.3)
    ∙ units w.0 w.1 w.2 w.3

pub mix_inv_mix : (w : Word) → Bytes w → mix_word (inv_mix_word w) ≡ w
mix_inv_mix w h =
    mix_total (inv0 w.0) (inv1 w.1) (inv2 w.2) (inv3 w.3)
    ∙ total_path (mix_inv0 w.0 h.0) (mix_inv1 w.1 h.1) (mix_inv2 w.2 h.2) (mix_inv3 w.3 h.3)
    ∙ units w.0 w.1 w.2 w.3

mix_bytes : (w : Word) → Bytes w → Bytes (mix_word w)
mix_bytes w h = (
  sum4_lt (mul 2 w.0) (mul 3 w.1) w.2 w.3 (mul_lt 2 w.0 h.0) (mul_lt 3 w.1 h.1) h.2 h.3,
  sum4_lt w.0 (mul 2 w.1) (mul 3 w.2) w.3 h.0 (mul_lt 2 w.1 h.1) (mul_lt 3 w.2 h.2) h.3,
  sum4_lt w.0 w.1 (mul 2 w.2) (mul 3 w.3) h.0 h.1 (mul_lt 2 w.2 h.2) (mul_lt 3 w.3 h.3),
  sum4_lt (mul 3 w.0) w.1 w.2 (mul 2 w.3) (mul_lt 3 w.0 h.0) h.1 h.2 (mul_lt 2 w.3 h.3),
)

row_lt : (p q r s : ℕ) (w : Word) → Bytes w → sum4 (mul p w.0) (mul q w.1) (mul r w.2) (mul s w.3) < 256
row_lt p q r s w h =
    sum4_lt (mul p w.0) (mul q w.1) (mul r w.2) (mul s w.3)
    (mul_lt p w.0 h.0) (mul_lt q w.1 h.1) (mul_lt r w.2 h.2) (mul_lt s w.3 h.3)

inv_mix_bytes : (w : Word) → Bytes w → Bytes (inv_mix_word w)
inv_mix_bytes w h = (row_lt 14 11 13 9 w h, row_lt 9 14 11 13 w h, row_lt 13 9 14 11 w h, row_lt 11 13 9 14 w h)

-- ---- the transformations of the state

pub record Inverse (f g : State → State) : Type 0 where
  pub keeps : (s : State) → ByteState s → ByteState (f s)
  pub back : (s : State) → ByteState s → g (f s) ≡ s

sub_inverse : Inverse sub_bytes inv_sub_bytes
unfolding sub_bytes inv_sub_bytes
sub_inverse = record {
  keeps = λ s h. (
    (sbox_lt s.0.0 h.0.0, sbox_lt s.0.1 h.0.1, sbox_lt s.0.2 h.0.2, sbox_lt s.0.3 h.0.3),
    (sbox_lt s.1.0 h.1.0, sbox_lt s.1.1 h.1.1, sbox_lt s.1.2 h.1.2, sbox_lt s.1.3 h.1.3),
    (sbox_lt s.2.0 h.2.0, sbox_lt s.2.1 h.2.1, sbox_lt s.2.2 h.2.2, sbox_lt s.2.3 h.2.3),
    (sbox_lt s.3.0 h.3.0, sbox_lt s.3.1 h.3.1, sbox_lt s.3.2 h.3.2, sbox_lt s.3.3 h.3.3),
  );
  back = λ s h. quad (word s.0 h.0) (word s.1 h.1) (word s.2 h.2) (word s.3 h.3);
}
  where
    word : (w : Word) → Bytes w → inv_sub_word (sub_word w) ≡ w
    word w h = quad (inv_sbox-sbox w.0 h.0) (inv_sbox-sbox w.1 h.1) (inv_sbox-sbox w.2 h.2) (inv_sbox-sbox w.3 h.3)

inv_sub_inverse : Inverse inv_sub_bytes sub_bytes
unfolding sub_bytes inv_sub_bytes
inv_sub_inverse = record {
  keeps = λ s h. (bytes s.0 h.0, bytes s.1 h.1, bytes s.2 h.2, bytes s.3 h.3);
  back = λ s h. quad (word s.0 h.0) (word s.1 h.1) (word s.2 h.2) (word s.3 h.3);
}
  where
    bytes : (w : Word) → Bytes w → Bytes (inv_sub_word w)
    bytes w h = (inv_sbox_lt w.0 h.0, inv_sbox_lt w.1 h.1, inv_sbox_lt w.2 h.2, inv_sbox_lt w.3 h.3)

    word : (w : Word) → Bytes w → sub_word (inv_sub_word w) ≡ w
    word w h = quad (sbox-inv_sbox w.0 h.0) (sbox-inv_sbox w.1 h.1) (sbox-inv_sbox w.2 h.2) (sbox-inv_sbox w.3 h.3)

shift_inverse : Inverse shift_rows inv_shift_rows
unfolding shift_rows inv_shift_rows
shift_inverse = record {
  keeps = λ s h. (
    (h.0.0, h.1.1, h.2.2, h.3.3),
    (h.1.0, h.2.1, h.3.2, h.0.3),
    (h.2.0, h.3.1, h.0.2, h.1.3),
    (h.3.0, h.0.1, h.1.2, h.2.3),
  );
  back = λ s h. refl;
}

inv_shift_inverse : Inverse inv_shift_rows shift_rows
unfolding shift_rows inv_shift_rows
inv_shift_inverse = record {
  keeps = λ s h. (
    (h.0.0, h.3.1, h.2.2, h.1.3),
    (h.1.0, h.0.1, h.3.2, h.2.3),
    (h.2.0, h.1.1, h.0.2, h.3.3),
    (h.3.0, h.2.1, h.1.2, h.0.3),
  );
  back = λ s h. refl;
}

mix_inverse : Inverse mix_columns inv_mix_columns
unfolding mix_columns inv_mix_columns
mix_inverse = record {
  keeps = λ s h. (mix_bytes s.0 h.0, mix_bytes s.1 h.1, mix_bytes s.2 h.2, mix_bytes s.3 h.3);
  back = λ s h. quad (inv_mix_mix s.0 h.0) (inv_mix_mix s.1 h.1) (inv_mix_mix s.2 h.2) (inv_mix_mix s.3 h.3);
}

pub inv_mix_inverse : Inverse inv_mix_columns mix_columns
unfolding mix_columns inv_mix_columns
inv_mix_inverse = record {
  keeps = λ s h. (inv_mix_bytes s.0 h.0, inv_mix_bytes s.1 h.1, inv_mix_bytes s.2 h.2, inv_mix_bytes s.3 h.3);
  back = λ s h. quad (mix_inv_mix s.0 h.0) (mix_inv_mix s.1 h.1) (mix_inv_mix s.2 h.2) (mix_inv_mix s.3 h.3);
}

add_inverse : (k : State) → ByteState k → Inverse (add_round_key k) (add_round_key k)
unfolding add_round_key
add_inverse k hk = record {
  keeps = λ s h. (add_bytes s.0 k.0 h.0 hk.0, add_bytes s.1 k.1 h.1 hk.1, add_bytes s.2 k.2 h.2 hk.2, add_bytes s.3 k.3 h.3 hk.3);
  back = λ s h. quad (word s.0 k.0) (word s.1 k.1) (word s.2 k.2) (word s.3 k.3);
}
  where
    word : (v w : Word) → add_word (add_word v w) w ≡ v
    word v w = quad (undo v.0 w.0) (undo v.1 w.1) (undo v.2 w.2) (undo v.3 w.3)

-- ---- chains

then : (f g f' g' : State → State) → Inverse f g → Inverse f' g' → Inverse (λ s. f' (f s)) (λ s. g (g' s))
then f g f' g' p q = record {
  keeps = λ s h. q.keeps (f s) (p.keeps s h);
  back = λ s h. ap g (q.back (f s) (p.keeps s h)) ∙ p.back s h;
}

abbrev mixed : State → State
mixed s = mix_columns (shift_rows (sub_bytes s))

abbrev unmixed : State → State
unmixed s = inv_sub_bytes (inv_shift_rows (inv_mix_columns s))

abbrev subbed : State → State
subbed s = shift_rows (sub_bytes s)

abbrev unsubbed : State → State
unsubbed s = inv_sub_bytes (inv_shift_rows s)

subbed_inverse : Inverse subbed unsubbed
subbed_inverse = then sub_bytes inv_sub_bytes shift_rows inv_shift_rows sub_inverse shift_inverse

unsubbed_inverse : Inverse unsubbed subbed
unsubbed_inverse = then inv_shift_rows shift_rows inv_sub_bytes sub_bytes inv_shift_inverse inv_sub_inverse

module _ (ks : ℕ → State) (bytes : (i : ℕ) → ByteState (ks i)) where
  -- a round and what undoes it
  round-inverse : (i : ℕ) → Inverse (round (ks i)) (λ s. unsubbed (inv_mix_columns (add_round_key (ks i) s)))
  round-inverse i =
      then mixed unmixed (add_round_key (ks i)) (add_round_key (ks i))
      (then subbed unsubbed mix_columns inv_mix_columns subbed_inverse mix_inverse) (add_inverse (ks i) (bytes i))

  unround_inverse : (i : ℕ) → Inverse (λ s. unsubbed (inv_mix_columns (add_round_key (ks i) s))) (round (ks i))
  unround_inverse i =
      then (λ s. inv_mix_columns (add_round_key (ks i) s)) (λ s. add_round_key (ks i) (mix_columns s)) unsubbed subbed
      (then (add_round_key (ks i)) (add_round_key (ks i)) inv_mix_columns mix_columns (add_inverse (ks i) (bytes i)) inv_mix_inverse)
      unsubbed_inverse

  -- InvCipher's rounds, and then the inverse of SubBytes and ShiftRows: undo the rounds one by one
  unrounds : ℕ → State → State
  unrounds zero s = s
  unrounds (suc n) s = unrounds n (unsubbed (inv_mix_columns (add_round_key (ks (suc n)) s)))

  same_rounds : (n : ℕ) (s : State) → unsubbed (inv_rounds ks n s) ≡ unrounds n (unsubbed s)
  unfolding inv_rounds unrounds
  same_rounds zero s = refl
  same_rounds (suc n) s = same_rounds n (inv_round (ks (suc n)) s)

  rounds-inverse : (n : ℕ) → Inverse (rounds ks n) (unrounds n)
  unfolding rounds unrounds
  rounds-inverse zero = record { keeps = λ s h. h; back = λ s h. refl }
  rounds-inverse (suc n) =
      then (rounds ks n) (unrounds n) (round (ks (suc n))) (λ s. unsubbed (inv_mix_columns (add_round_key (ks (suc n)) s)))
      (rounds-inverse n) (round-inverse (suc n))

  unrounds-inverse : (n : ℕ) → Inverse (unrounds n) (rounds ks n)
  unfolding rounds unrounds
  unrounds-inverse zero = record { keeps = λ s h. h; back = λ s h. refl }
  unrounds-inverse (suc n) =
      then (λ s. unsubbed (inv_mix_columns (add_round_key (ks (suc n)) s))) (round (ks (suc n))) (unrounds n) (rounds ks n)
      (unround_inverse (suc n)) (unrounds-inverse n)

  undone : ℕ → State → State
  undone n s = add_round_key (ks 0) (unrounds n (unsubbed (add_round_key (ks (suc n)) s)))

  inv_is_undone : (n : ℕ) (s : State) → inv_cipher n ks s ≡ undone n s
  unfolding inv_cipher undone
  inv_is_undone n s = ap (add_round_key (ks 0)) (same_rounds n (add_round_key (ks (suc n)) s))

  cipher-undone : (n : ℕ) → Inverse (cipher n ks) (undone n)
  unfolding cipher undone
  cipher-undone n =
      then (add_round_key (ks 0)) (add_round_key (ks 0)) (λ s. add_round_key (ks (suc n)) (subbed (rounds ks n s))) (λ s. unrounds n (unsubbed (add_round_key (ks (suc n)) s)))
      (add_inverse (ks 0) (bytes 0))
      (then (rounds ks n) (unrounds n) (λ s. add_round_key (ks (suc n)) (subbed s)) (λ s. unsubbed (add_round_key (ks (suc n)) s))
      (rounds-inverse n)
      (then subbed unsubbed (add_round_key (ks (suc n))) (add_round_key (ks (suc n))) subbed_inverse (add_inverse (ks (suc n)) (bytes (suc n)))))

  undone-cipher : (n : ℕ) → Inverse (undone n) (cipher n ks)
  unfolding cipher undone
  undone-cipher n =
      then (λ s. unrounds n (unsubbed (add_round_key (ks (suc n)) s))) (λ s. add_round_key (ks (suc n)) (subbed (rounds ks n s))) (add_round_key (ks 0)) (add_round_key (ks 0))
      (then (λ s. unsubbed (add_round_key (ks (suc n)) s)) (λ s. add_round_key (ks (suc n)) (subbed s)) (unrounds n) (rounds ks n)
      (then (add_round_key (ks (suc n))) (add_round_key (ks (suc n))) unsubbed subbed (add_inverse (ks (suc n)) (bytes (suc n))) unsubbed_inverse)
      (unrounds-inverse n))
      (add_inverse (ks 0) (bytes 0))

  pub cipher_bytes : (n : ℕ) (s : State) → ByteState s → ByteState (cipher n ks s)
  cipher_bytes n s h = (cipher-undone n).keeps s h

  pub inv_cipher_bytes : (n : ℕ) (s : State) → ByteState s → ByteState (inv_cipher n ks s)
  inv_cipher_bytes n s h = subst ByteState (sym (inv_is_undone n s)) ((undone-cipher n).keeps s h)

  pub inv_cipher-cipher : (n : ℕ) (s : State) → ByteState s → inv_cipher n ks (cipher n ks s) ≡ s
  inv_cipher-cipher n s h = inv_is_undone n (cipher n ks s) ∙ (cipher-undone n).back s h

  pub cipher-inv_cipher : (n : ℕ) (s : State) → ByteState s → cipher n ks (inv_cipher n ks s) ≡ s
  cipher-inv_cipher n s h = ap (cipher n ks) (inv_is_undone n s) ∙ (undone-cipher n).back s h
