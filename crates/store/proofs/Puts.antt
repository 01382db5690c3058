-- A sound store stays sound when a sector is put into it.
use Rattle.std.proofs.Common.{◌≡◌, ℕ, ◌-◌, ◌^◌, ◌<◌, ◌≤◌, List, [], length, get_or, set, sym, ap, ◌∙◌, subst, ⊎_elim, arith, length-set, get_or-set_other, get_or-set_same}
use Rattle.std.specs.Int.Digits.{AllBelowBase}
use Rattle.std.proofs.lemmas.List.{get_or_past}
use Rattle.std.proofs.lemmas.Bool.{cases_eq, cases_lt}
use Rattle.store.specs.Stores.{Meaning, Sound, count, life, put}

module _ (m : Meaning) (s : Sound m) (k : ℕ) (xs : List ℕ) (long : length xs ≡ m.size) (u : AllBelowBase 256 xs) where
  -- what holds of every old value and of the new one holds of every value
  kept : {X : Type 0} (P : X → Type 0) (ys : List X) (v d : X) → P v → ((j : ℕ) → j < length ys → P (get_or ys j d)) → (j : ℕ) → j < length ys → P (get_or (set ys k v) j d)
  kept P ys v d new old j h =
      ⊎_elim
      (λ (e : j ≡ k).
      let h' : k < length ys = omega arith in
      subst P (sym (ap (λ (i : ℕ). get_or (set ys k v) i d) e ∙ get_or-set_same ys k v d h')) new)
      (λ (ne : j ≡ k → ⊥). subst P (sym (get_or-set_other ys k j v d ne)) (old j h))
      (cases_eq j k)

  pub put_sound : Sound (put m k xs)
  put_sound =
      let c = length-set m.sectors k xs in
      let l = length-set m.lives k (life m k - 1) in
      let few = s.few in
      let same = s.lives_length in
      record {
        sized = s.sized;
        few = omega arith;
        lives_length = l ∙ same ∙ sym c;
        sector_length = λ j h. kept (λ ys. length ys ≡ m.size) m.sectors xs [] long (λ i hi. s.sector_length i hi) j (omega arith);
        sector_bytes = λ j h. kept (AllBelowBase 256) m.sectors xs [] u (λ i hi. s.sector_bytes i hi) j (omega arith);
        life_small = λ j h. kept (λ n. n < 2 ^ 32) m.lives (life m k - 1) 0 spent (λ i hi. s.life_small i (omega arith)) j (omega arith);
      }
    where
      spent : life m k - 1 < 2 ^ 32
      spent = ⊎_elim
          (λ (h : k < count m). let small = s.life_small k h in omega arith)
          (λ (h : count m ≤ k). let e = s.lives_length in let z = get_or_past m.lives k 0 (omega arith) in omega arith)
          (cases_lt k (count m))
