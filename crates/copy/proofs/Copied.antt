-- A copy against the read and the write that it makes.
use Rattle.std.proofs.Common.{◌≡◌, ℕ, Bool, true, false, cond, eqb, ltb, List, length, sym, refl, ap, ◌∙◌, arith}
use Rattle.std.proofs.lemmas.Bool.{ltb-true, eqb-true, cond-true, cond-false, ne_eqb}
use Rattle.store.specs.Stores.{Meaning, count, sector, life, put, sector_test, mode_test, read_answer, write_answer, after_read, after_write}
use Rattle.store.proofs.Tests as tests
use Rattle.copy.specs.Copying.{copy_tests, copy_answer, after_copy}

module _ (from : Meaning) (k : ℕ) (to : Meaning) (j n : ℕ) where
  pub second_absent : (a : ℕ) → (a ≡ 0 → ⊥) → 0 ≡ sector_test from k 0 → a ≡ sector_test to j 0 → a ≡ copy_tests from k to j n 0
  second_absent a no-0 e f = go (ltb k (count from)) (ltb j (count to)) _ e f
    where
      go : (p q : Bool) (x : ℕ) → ◌≡◌ {A = ℕ} 0 (cond p 0 3) → a ≡ cond q 0 3 → a ≡ cond p (cond q x 3) 3
      go true true x e f = absurd (no-0 f)
      go true false x e f = f
      go false q x e f = absurd (omega arith)

  refused : (a : ℕ) → (a ≡ 0 → ⊥) → a ≡ copy_answer from k to j n → to ≡ after_copy from k to j n
  refused a no-0 e = sym (cond-false _ _ to (ne_eqb (copy_answer from k to j n) 0 (λ z. no-0 (e ∙ z))))

  pub tests_refuse : (a : ℕ) → (a ≡ 0 → ⊥) → a ≡ copy_tests from k to j n 0 → record { reply : a ≡ copy_answer from k to j n; after : to ≡ after_copy from k to j n }
  tests_refuse a no-0 e =
      let r = go (ltb k (count from)) (ltb j (count to)) (eqb from.size to.size) (eqb n to.size) (ltb 0 (life to j)) (cond from.fits (mode_test to) 9) e in
      record { reply = r; after = refused a no-0 r }
    where
      go : (p q r s t : Bool) (x : ℕ) → a ≡ cond p (cond q (cond r (cond s (cond t 0 7) 2) 2) 3) 3 → a ≡ cond p (cond q (cond r (cond s (cond t x 7) 2) 2) 3) 3
      go true true true true true x e = absurd (no-0 e)
      go true true true true false x e = e
      go true true true false t x e = e
      go true true false s t x e = e
      go true false r s t x e = e
      go false q r s t x e = e

  module _ (passed : 0 ≡ copy_tests from k to j n 0) where
    parts : (p q r s t : Bool) → ◌≡◌ {A = ℕ} 0 (cond p (cond q (cond r (cond s (cond t 0 7) 2) 2) 3) 3)
        → (p ≡ true) × (q ≡ true) × (r ≡ true) × (s ≡ true) × (t ≡ true)
    parts true true true true true e = (refl, refl, refl, refl, refl)
    parts true true true true false e = absurd (omega arith)
    parts true true true false t e = absurd (omega arith)
    parts true true false s t e = absurd (omega arith)
    parts true false r s t e = absurd (omega arith)
    parts false q r s t e = absurd (omega arith)

    all : (ltb k (count from) ≡ true) × (ltb j (count to) ≡ true) × (eqb from.size to.size ≡ true) × (eqb n to.size ≡ true) × (ltb 0 (life to j) ≡ true)
    all = parts (ltb k (count from)) (ltb j (count to)) (eqb from.size to.size) (eqb n to.size) (ltb 0 (life to j)) passed

    long : n ≡ to.size
    long = eqb-true n to.size all.3

    sizes : from.size ≡ to.size
    sizes = eqb-true from.size to.size all.2

    -- only the modes are left to ask
    last : copy_answer from k to j n ≡ cond from.fits (mode_test to) 9
    last = cond-true _ _ 3 all.0 ∙ cond-true _ _ 3 all.1 ∙ cond-true _ _ 2 all.2 ∙ cond-true _ _ 2 all.3 ∙ cond-true _ _ 7 all.4

    read_last : read_answer from k n ≡ cond from.fits 0 9
    read_last = tests.read_last from k n (ltb-true k (count from) all.0) (long ∙ sym sizes)

    pub read_refused : (a : ℕ) → (a ≡ 0 → ⊥) → a ≡ read_answer from k n → record { reply : a ≡ copy_answer from k to j n; after : to ≡ after_copy from k to j n }
    read_refused a no-0 e = let r = go from.fits (e ∙ read_last) ∙ sym last in record { reply = r; after = refused a no-0 r }
      where
        go : (b : Bool) → a ≡ cond b 0 9 → a ≡ cond b (mode_test to) 9
        go true e = absurd (no-0 e)
        go false e = e

    pub read_then_written : (xs ys : List ℕ) → length xs ≡ n → length ys ≡ n → 0 ≡ read_answer from k (length xs) → ys ≡ after_read from k xs
        → record { reply : write_answer to j (length ys) ≡ copy_answer from k to j n; after : after_write to j ys ≡ after_copy from k to j n }
    read_then_written xs ys long-x long-y e f =
        let fits : from.fits ≡ true = (tests.read_accepted from k (length xs) (sym e)).fits in
        let is : ys ≡ sector from k = f ∙ tests.read_fills from k xs (sym e) in
        let w : write_answer to j (length ys) ≡ mode_test to =
        tests.write_last to j (length ys) (ltb-true j (count to) all.1) (long-y ∙ long) (ltb-true 0 (life to j) all.4) in
        let same : write_answer to j (length ys) ≡ copy_answer from k to j n = w ∙ sym (last ∙ cond-true _ _ 9 fits) in
        record {
          reply = same;
          after =
              ap (λ (a : ℕ). cond (eqb a 0) (put to j ys) to) same
              ∙ ap (λ (zs : List ℕ). cond (eqb (copy_answer from k to j n) 0) (put to j zs) to) is;
        }
