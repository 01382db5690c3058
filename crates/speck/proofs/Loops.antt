-- The loops over the rounds and the round keys.
use Rattle.std.proofs.Common.{◌≡◌, ℕ, zero, suc, ◌+◌, ◌<◌, List, [], ◌∷◌, length, get_or, set, sym, refl, ap, ◌∙◌, add-one, arith, below_more, length-append}
use Rattle.std.proofs.lemmas.List.{get_or-set_same, get_or-set_other}
use Rattle.std.proofs.Math.ListN.{get_or-append}
use Rattle.std.proofs.Math.Seq.{get_or-append_seam}
use Rattle.std.specs.List.{push}
use Rattle.speck.specs.Speck.{Pair, round_of, unround_of, scheduled, rounds, unrounds}

pub scheduled_none : (p : Pair) → p ≡ scheduled p 0
unfolding scheduled
scheduled_none p = refl

pub scheduled_more : (p : Pair) (i : ℕ) → scheduled p (i + 1) ≡ round_of i (scheduled p i)
unfolding scheduled
scheduled_more p i = rw add-one refl

pub rounds_none : (ks : ℕ → ℕ) (p : Pair) → p ≡ rounds ks 0 p
unfolding rounds
rounds_none ks p = refl

pub rounds_more : (ks : ℕ → ℕ) (n k : ℕ) (p q : Pair) → k ≡ ks n → q ≡ rounds ks n p → round_of k q ≡ rounds ks (n + 1) p
unfolding rounds
rounds_more ks n k p q e h = ap (λ (x : ℕ). round_of x q) e ∙ ap (round_of (ks n)) h ∙ rw add-one refl

-- what is left of the inverse rounds, one taken off
pub unrounds_less : (ks : ℕ → ℕ) (n m k : ℕ) (p : Pair) → n ≡ m + 1 → k ≡ ks m → unrounds ks m (unround_of k p) ≡ unrounds ks n p
unfolding unrounds
unrounds_less ks n m k p h e = ap (λ (x : ℕ). unrounds ks m (unround_of x p)) e ∙ ap (λ (j : ℕ). unrounds ks j p) (sym (h ∙ add-one m))

pub unrounds_none : (ks : ℕ → ℕ) (p : Pair) → unrounds ks 0 p ≡ p
unfolding unrounds
unrounds_none ks p = refl

-- one entry more of a table that holds F
pub table_more : (F : ℕ → ℕ) (ks : List ℕ) (i y : ℕ) → i < length ks → y ≡ F i → ((j : ℕ) → j < i → get_or ks j 0 ≡ F j) → (j : ℕ) → j < i + 1 → get_or (set ks i y) j 0 ≡ F j
table_more F ks i y lt e h =
    below_more (λ (j : ℕ). get_or (set ks i y) j 0 ≡ F j) i (λ j l. get_or-set_other ks i j y 0 (omega arith) ∙ h j l) (get_or-set_same ks i y 0 lt ∙ e)

-- the last of the first round keys, taken off
module _ (keys rest new : List ℕ) (k : ℕ) (e : rest ≡ push new k) where
  pub one_more : length rest ≡ length new + 1
  one_more = ap length e ∙ length-append new (k ∷ [])

  pub taken : ((i : ℕ) → i < length rest → get_or rest i 0 ≡ get_or keys i 0) → k ≡ get_or keys (length new) 0
  taken h =
      let n = one_more in
      sym (ap (λ (l : List ℕ). get_or l (length new) 0) e ∙ get_or-append_seam new k [] 0) ∙ h (length new) (omega arith)

  pub fewer : ((i : ℕ) → i < length rest → get_or rest i 0 ≡ get_or keys i 0) → (i : ℕ) → i < length new → get_or new i 0 ≡ get_or keys i 0
  fewer h i l =
      let n = one_more in
      sym (ap (λ (l : List ℕ). get_or l i 0) e ∙ get_or-append new (k ∷ []) 0 i l) ∙ h i (omega arith)

-- the rounds look at their own keys alone
pub rounds_same : (ks js : ℕ → ℕ) (n : ℕ) (p : Pair) → ((i : ℕ) → i < n → ks i ≡ js i) → rounds ks n p ≡ rounds js n p
unfolding rounds
rounds_same ks js zero p e = refl
rounds_same ks js (suc n) p e =
    ap (λ (k : ℕ). round_of k (rounds ks n p)) (e n (omega arith)) ∙ ap (round_of (js n)) (rounds_same ks js n p (λ i h. e i (omega arith)))

pub unrounds_same : (ks js : ℕ → ℕ) (n : ℕ) (p : Pair) → ((i : ℕ) → i < n → ks i ≡ js i) → unrounds ks n p ≡ unrounds js n p
unfolding unrounds
unrounds_same ks js zero p e = refl
unrounds_same ks js (suc n) p e =
    ap (λ (k : ℕ). unrounds ks n (unround_of k p)) (e n (omega arith)) ∙ unrounds_same ks js n (unround_of (js n) p) (λ i h. e i (omega arith))
