-- Making the round keys, and what they are.
use Rattle.std.proofs.Common.{◌≡◌, ℕ, zero, suc, ◌+◌, ◌-◌, ◌^◌, ◌<◌, ◌≢◌, List, length, get_or, set, replicate, sym, ap, ◌∙◌, ap₂, add-one, arith, length-set, get_or-set_other, get_or-set_same, below_more}
use Rattle.aes_math.specs.Rounds.{inv_mix_columns, state_of, num_of}
use Rattle.aes.specs.Aes128.{round_key, next_key, rcon}
use Rattle.aes.specs.Schedule.{Expanded, Reversed}
use Rattle.aes_math.proofs.StateLaws.{inv_mix_inverse}
use Rattle.aes_math.proofs.NumLaws.{state_bytes, state_num, num_state, num_is}
use Rattle.aes.specs.BlockLaws.{round_key_bytes}

pub first_key : (key : ℕ) (enc : List ℕ) → key < 2 ^ 128 → Expanded key enc → get_or enc 0 0 ≡ key
unfolding round_key
first_key key enc h e = e 0 (omega arith) ∙ num_state key h

pub expand_start : (key : ℕ) → key < 2 ^ 128 → (k : ℕ) → k < 0 + 1 → get_or (replicate 11 key) k 0 ≡ num_of (round_key (state_of key) k)
unfolding round_key
expand_start key h zero l = sym (num_state key h)
expand_start key h (suc k) l = let no : ⊥ = omega arith in absurd no

pub expand_step : (key : ℕ) (enc : List ℕ) (i : ℕ) → i < 10 → length enc ≡ 11 → ((k : ℕ) → k < i + 1 → get_or enc k 0 ≡ num_of (round_key (state_of key) k))
    → (x v : ℕ) → v < 2 ^ 128 → x ≡ rcon (i + 1) → state_of v ≡ next_key x (state_of (get_or enc i 0))
    → (length (set enc (i + 1) v) ≡ 11) × ((k : ℕ) → k < i + 1 + 1 → get_or (set enc (i + 1) v) k 0 ≡ num_of (round_key (state_of key) k))
unfolding round_key
expand_step key enc i h len all x v hv ex ev = (
  simp length-set len,
  below_more (λ (k : ℕ). get_or (set enc (i + 1) v) k 0 ≡ num_of (round_key (state_of key) k)) (i + 1)
      (λ k l. let ne : k ≢ i + 1 = omega arith in rw get_or-set_other (all k l))
      (let lt : i + 1 < length enc = omega arith in rw get_or-set_same here),
)
  where
    old : state_of (get_or enc i 0) ≡ round_key (state_of key) i
    old = ap state_of (all i (omega arith)) ∙ state_num (round_key (state_of key) i) (round_key_bytes (state_of key) (state_bytes key) i)

    here : v ≡ num_of (round_key (state_of key) (i + 1))
    here =
        num_is v _ hv
        (ev ∙ ap₂ next_key (ex ∙ ap rcon (add-one i)) old)
        ∙ ap (λ (m : ℕ). num_of (round_key (state_of key) m)) (sym (add-one i))

-- the round keys in the order of opening, from the columns mixed one by one
pub reversed : (enc dec rev : List ℕ) → length rev ≡ 11 → ((i : ℕ) → i < 11 → get_or rev i 0 ≡ get_or dec (11 - 1 - i) 0) → ((i : ℕ) → get_or dec i 0 < 2 ^ 128)
    → ((i : ℕ) → i < 11 → state_of (get_or dec i 0) ≡ inv_mix_columns (state_of (get_or enc i 0)))
    → Reversed enc (set (set rev 0 (get_or enc 10 0)) 10 (get_or enc 0 0))
reversed enc dec rev len back fits mixed = record {
  first = get_or-set_other (set rev 0 (get_or enc 10 0)) 10 0 (get_or enc 0 0) 0 (omega arith) ∙ get_or-set_same rev 0 (get_or enc 10 0) 0 (omega arith);
  between = λ i h.
      let e : 11 - 1 - suc i ≡ 9 - i = omega arith in
      get_or-set_other (set rev 0 (get_or enc 10 0)) 10 (suc i) (get_or enc 0 0) 0 (omega arith) ∙ get_or-set_other rev 0 (suc i) (get_or enc 10 0) 0 (omega arith)
      ∙ back (suc i) (omega arith) ∙ ap (λ (j : ℕ). get_or dec j 0) e
      ∙ num_is (get_or dec (9 - i) 0) _ (fits (9 - i)) (mixed (9 - i) (omega arith));
  last = get_or-set_same (set rev 0 (get_or enc 10 0)) 10 (get_or enc 0 0) 0 (omega (arith, length-set {A = ℕ}));
}

-- ---- the round keys held

module _ (enc : List ℕ) (e : Expanded (get_or enc 0 0) enc) where
  pub key_at : (i : ℕ) → i < 11 → state_of (get_or enc i 0) ≡ round_key (state_of (get_or enc 0 0)) i
  key_at i h =
      ap state_of (e i h)
      ∙ state_num (round_key (state_of (get_or enc 0 0)) i) (round_key_bytes (state_of (get_or enc 0 0)) (state_bytes (get_or enc 0 0)) i)

  pub inv_key_at : (dec : List ℕ) → Reversed enc dec → (i : ℕ) → i < 9 → state_of (get_or dec (suc i) 0) ≡ inv_mix_columns (round_key (state_of (get_or enc 0 0)) (9 - i))
  inv_key_at dec r i h =
      ap state_of (r.between i h) ∙ state_num (inv_mix_columns (state_of (get_or enc (9 - i) 0))) (inv_mix_inverse.keeps (state_of (get_or enc (9 - i) 0)) (state_bytes (get_or enc (9 - i) 0)))
      ∙ ap inv_mix_columns (key_at (9 - i) (omega arith))
