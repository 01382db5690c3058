-- The rounds of either direction, and the two ciphers that they are.
use Rattle.std.proofs.Common.{◌≡◌, ℕ, zero, suc, ◌+◌, ◌-◌, ◌<◌, List, get_or, take, drop, sym, refl, ap, ◌∙◌, ap₂, add-one, arith}
use Rattle.std.proofs.lemmas.List.{get_or-take, get_or-drop}
use Rattle.aes_math.specs.Rounds.{State, add_round_key, shift_rows, sub_bytes, mix_columns, inv_mix_columns, inv_shift_rows, inv_sub_bytes, round, inv_round, rounds, inv_rounds, cipher, inv_cipher}
use Rattle.aes.specs.Schedule.{rounds_by, cipher_by}
use Rattle.aes_math.proofs.StateLaws.{quad, inv_mix_add}

-- ---- the loop

-- the round keys of the rounds between
pub between : (keys : List ℕ) (i : ℕ) → i < 9 → get_or (take 9 (drop 1 keys)) i 0 ≡ get_or keys (suc i) 0
between keys i h = get_or-take 9 (drop 1 keys) i 0 h ∙ get_or-drop 1 keys i 0 ∙ ap (λ (j : ℕ). get_or keys j 0) (omega arith)

module _ (mix sub : State → State) where
  pub rounds_none : (ks : ℕ → State) (x : State) → x ≡ rounds_by mix sub ks 0 x
  unfolding rounds_by
  rounds_none ks x = refl

  pub rounds_more : (ks : ℕ → State) (i : ℕ) (k s x : State) → k ≡ ks (suc i) → s ≡ rounds_by mix sub ks i x → add_round_key k (mix (sub s)) ≡ rounds_by mix sub ks (i + 1) x
  unfolding rounds_by
  rounds_more ks i k s x ek es =
      ap₂ (λ (l t : State). add_round_key l (mix (sub t))) ek es ∙ ap (λ (m : ℕ). rounds_by mix sub ks m x) (sym (add-one i))

-- ---- forward

abbrev subbed : State → State
subbed s = shift_rows (sub_bytes s)

same_rounds : (js ks : ℕ → State) → ((i : ℕ) → i < 11 → js i ≡ ks i) → (n : ℕ) → n < 10 → (x : State) → rounds_by mix_columns subbed js n x ≡ rounds ks n x
unfolding rounds_by rounds
same_rounds js ks e zero h x = refl
same_rounds js ks e (suc n) h x = ap₂ round (e (suc n) (omega arith)) (same_rounds js ks e n (omega arith) x)

pub forward : (js ks : ℕ → State) (s : State) → ((i : ℕ) → i < 11 → js i ≡ ks i) → cipher_by mix_columns subbed js 9 s ≡ cipher 9 ks s
unfolding cipher
forward js ks s e =
    ap₂ (λ (k x : State). add_round_key k (subbed x)) (e 10 (omega arith))
    (same_rounds js ks e 9 (omega arith) (add_round_key (js 0) s) ∙ ap (λ (k : State). rounds ks 9 (add_round_key k s)) (e 0 (omega arith)))

-- ---- the inverse

abbrev unsubbed : State → State
unsubbed s = inv_sub_bytes (inv_shift_rows s)

-- InvMixColumns passes over AddRoundKey
equivalent : (k s : State) → add_round_key (inv_mix_columns k) (inv_mix_columns s) ≡ inv_mix_columns (add_round_key k s)
unfolding add_round_key inv_mix_columns
equivalent k s = sym (quad (inv_mix_add s.0 k.0) (inv_mix_add s.1 k.1) (inv_mix_add s.2 k.2) (inv_mix_add s.3 k.3))

-- after j rounds, those of InvCipher that are left
left : (js ks : ℕ → State) → ((i : ℕ) → i < 9 → js (suc i) ≡ inv_mix_columns (ks (9 - i))) → (j : ℕ) → j < 10 → (x : State)
    → inv_rounds ks (9 - j) (rounds_by inv_mix_columns unsubbed js j x) ≡ inv_rounds ks 9 x
unfolding rounds_by inv_rounds
left js ks e zero h x = refl
left js ks e (suc j) h x =
    let y : State = rounds_by inv_mix_columns unsubbed js j x in
    let d : 9 - j ≡ suc (9 - suc j) = omega arith in
    ap (inv_rounds ks (9 - suc j))
    (ap (λ (k : State). add_round_key k (inv_mix_columns (unsubbed y))) (e j (omega arith))
    ∙ equivalent (ks (9 - j)) (unsubbed y)
    ∙ ap (λ (m : ℕ). inv_round (ks m) y) d)
    ∙ ap (λ (m : ℕ). inv_rounds ks m y) (sym d) ∙ left js ks e j (omega arith) x

none_left : (ks : ℕ → State) (x : State) → x ≡ inv_rounds ks 0 x
unfolding inv_rounds
none_left ks x = refl

pub inverse : (js ks : ℕ → State) (s : State) → js 0 ≡ ks 10 → ((i : ℕ) → i < 9 → js (suc i) ≡ inv_mix_columns (ks (9 - i))) → js 10 ≡ ks 0
    → cipher_by inv_mix_columns unsubbed js 9 s ≡ inv_cipher 9 ks s
unfolding inv_cipher
inverse js ks s first e last =
    ap₂ (λ (k x : State). add_round_key k (unsubbed x)) last
    (none_left ks _ ∙ left js ks e 9 (omega arith) (add_round_key (js 0) s) ∙ ap (λ (k : State). inv_rounds ks 9 (add_round_key k s)) first)
