-- The places of a window rise within the sectors below, so its calls are those of a part.
use Rattle.std.specs.Prelude.{◌≡◌, ℕ, ◌+◌, ◌<◌, ◌≤◌, List, length, ◌≢◌}
use Rattle.std.proofs.Common.{sym, ap, ◌∙◌, arith}
use Rattle.std.proofs.lemmas.Bool.Decides.{nat_tests}
use Rattle.std.proofs.lemmas.Grind.{common_steps}
use Rattle.store.specs.Stores.{Meaning, Sound, count, life, life_answer, read_answer, write_answer, after_read, after_write}
use Rattle.places.specs.Parts.{Rising, part}
use Rattle.places.proofs.Parted as parted
use Rattle.window.specs.Windows.{first_of, count_of, place_answer, window}

pub rising : (n f c : ℕ) → Rising (λ k. first_of n f + k) (count_of n f c) n
rising n f c = record { within = λ k h. omega arith; rises = λ j k l h. omega arith }

module _ (m : Meaning) (f c : ℕ) where
  pub window_count : count (window m f c) ≡ count_of (count m) f c
  window_count = parted.part_count m (λ k. first_of (count m) f + k) (count_of (count m) f c)

  pub window_sound : Sound m → Sound (window m f c)
  window_sound s = parted.part_sound m (λ k. first_of (count m) f + k) (count_of (count m) f c) s (rising (count m) f c)

  module _ (k : ℕ) where
    -- a sector that is not placed is not there
    pub absent : (a : ℕ) → (a ≢ 0) → a ≡ place_answer (count m) f c k → record { far : count_of (count m) f c ≤ k; three : a ≡ 3 }
    absent a no-0 e = record { far = grind (arith, nat_tests); three = grind (arith, nat_tests) }

    -- and a call that tests for it first refuses it so
    pub read_refused : (a n : ℕ) → (a ≡ 0 → ⊥) → a ≡ place_answer (count m) f c k → a ≡ read_answer (window m f c) k n
    read_refused a n no-0 e = let all = window_count in grind (arith, nat_tests)

    -- one that is placed is
    pub there : 0 ≡ place_answer (count m) f c k → k < count_of (count m) f c
    there e = grind (arith, nat_tests)

    module _ (h : count_of (count m) f c ≤ k) where
      pub life_absent : 3 ≡ life_answer (window m f c) k
      life_absent = let e = window_count in grind (arith, nat_tests)

      pub read_absent : (xs : List ℕ) → record { reply : 3 ≡ read_answer (window m f c) k (length xs); bytes : xs ≡ after_read (window m f c) k xs }
      read_absent xs = let e = window_count in record { reply = grind (arith, nat_tests); bytes = grind (arith, nat_tests) }

      pub write_absent : (xs : List ℕ) → record { reply : 3 ≡ write_answer (window m f c) k (length xs); after : window m f c ≡ after_write (window m f c) k xs }
      write_absent xs = let e = window_count in record { reply = grind (arith, nat_tests); after = grind (arith, nat_tests) }

    module _ (s : Sound m) (j : ℕ) (at : j ≡ first_of (count m) f + k) (h : k < count_of (count m) f c) where
      abbrev p : ℕ → ℕ
      p i = first_of (count m) f + i

      pub life_there : life_answer m j ≡ life_answer (window m f c) k
      life_there = let e = window_count in let below = (rising (count m) f c).within k h in grind (arith, nat_tests)

      pub life_is : life m j ≡ life (window m f c) k
      life_is = ap (life m) at ∙ sym (parted.part_life m p (count_of (count m) f c) k h)

      pub read_there : (xs : List ℕ) → record { reply : read_answer m j (length xs) ≡ read_answer (window m f c) k (length xs); bytes : after_read m j xs ≡ after_read (window m f c) k xs }
      read_there xs =
          record {
            reply = ap (λ (i : ℕ). read_answer m i (length xs)) at ∙ parted.part_read_answer m p (count_of (count m) f c) s (rising (count m) f c) k h (length xs);
            bytes = ap (λ (i : ℕ). after_read m i xs) at ∙ parted.part_read m p (count_of (count m) f c) s (rising (count m) f c) k h xs;
          }

      -- a write below leaves the count, and so the cuts
      count_stays : (xs : List ℕ) → count (after_write m j xs) ≡ count m
      count_stays xs = grind (arith, common_steps)

      pub write_there : (xs : List ℕ) (m' : Meaning) → m' ≡ after_write m j xs
          → record { reply : write_answer m j (length xs) ≡ write_answer (window m f c) k (length xs); after : window m' f c ≡ after_write (window m f c) k xs }
      write_there xs m' e =
          record {
            reply = ap (λ (i : ℕ). write_answer m i (length xs)) at ∙ parted.part_write_answer m p (count_of (count m) f c) s (rising (count m) f c) k h (length xs);
            after =
                ap (λ (n : ℕ). part m' (λ i. first_of n f + i) (count_of n f c)) (ap count e ∙ count_stays xs)
                ∙ ap (λ (x : Meaning). part x p (count_of (count m) f c)) (e ∙ ap (λ (i : ℕ). after_write m i xs) at)
                ∙ parted.part_write m p (count_of (count m) f c) s (rising (count m) f c) k h xs;
          }
