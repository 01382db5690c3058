-- What a call that was accepted or refused says of the tests behind its answer.
use Rattle.std.proofs.Common.{◌≡◌, ℕ, ◌<◌, ◌≤◌, true, cond, List, length, Result, ap, ◌∙◌, arith}
use Rattle.std.specs.Result.{IsErrAnd}
use Rattle.std.proofs.lemmas.Bool.{lt-ltb, le-ltb, eq-eqb, ne_eqb, cond-true, cond-false}
use Rattle.std.proofs.lemmas.Bool.Decides.{nat_tests}
use Rattle.std.proofs.lemmas.Result.{err_from_is_err_and}
use Rattle.refusal.specs.declared.Refusal.{Refusal}
use Rattle.refusal.specs.Refusals.{answer, number_of}
use Rattle.store.specs.Stores.{Meaning, count, life, sector, put, read_answer, write_answer, after_read, after_write}

-- a refusal that a call passes on keeps its number
pub passed_on : {T : Type 0} (r : Result T Refusal) (e : Refusal) → IsErrAnd r (λ d. d ≡ e) → answer r ≡ number_of e
passed_on r e h = let err = err_from_is_err_and r h in ap answer err.1 ∙ ap number_of err.2

module _ (m : Meaning) (k : ℕ) where
  -- an accepted read, an accepted write
  pub read_accepted : (n : ℕ) → read_answer m k n ≡ 0 → record { there : k < count m; long : n ≡ m.size; fits : m.fits ≡ true }
  read_accepted n e = record { there = grind (arith, nat_tests); long = grind (arith, nat_tests); fits = grind (arith, nat_tests) }

  pub write_accepted : (n : ℕ) → write_answer m k n ≡ 0 → record { there : k < count m; long : n ≡ m.size; alive : 0 < life m k; fits : m.fits ≡ true }
  write_accepted n e =
      record { there = grind (arith, nat_tests); long = grind (arith, nat_tests); alive = grind (arith, nat_tests); fits = grind (arith, nat_tests) }

  -- what an accepted read and an accepted write leave, and what refused ones leave
  pub read_fills : (xs : List ℕ) → read_answer m k (length xs) ≡ 0 → after_read m k xs ≡ sector m k
  read_fills xs e = grind (arith, nat_tests)

  pub read_keeps : (xs : List ℕ) → (read_answer m k (length xs) ≡ 0 → ⊥) → after_read m k xs ≡ xs
  read_keeps xs f = cond-false _ _ xs (ne_eqb _ 0 f)

  pub write_puts : (xs : List ℕ) → write_answer m k (length xs) ≡ 0 → after_write m k xs ≡ put m k xs
  write_puts xs e = grind (arith, nat_tests)

  pub write_keeps : (xs : List ℕ) → (write_answer m k (length xs) ≡ 0 → ⊥) → after_write m k xs ≡ m
  write_keeps xs f = cond-false _ _ m (ne_eqb _ 0 f)

  -- the answers, test by test: the sector is not there
  pub absent_read : (n : ℕ) → count m ≤ k → read_answer m k n ≡ 3
  absent_read n h = cond-false _ _ 3 (le-ltb k (count m) h)

  pub absent_write : (n : ℕ) → count m ≤ k → write_answer m k n ≡ 3
  absent_write n h = cond-false _ _ 3 (le-ltb k (count m) h)

  -- the bytes are not one sector, the modes alone are left to ask of a read, the sector is worn out
  module _ (n : ℕ) (h : k < count m) where
    pub long_read : (n ≡ m.size → ⊥) → read_answer m k n ≡ 2
    long_read f = cond-true _ _ 3 (lt-ltb k (count m) h) ∙ cond-false _ _ 2 (ne_eqb n m.size f)

    pub long_write : (n ≡ m.size → ⊥) → write_answer m k n ≡ 2
    long_write f = cond-true _ _ 3 (lt-ltb k (count m) h) ∙ cond-false _ _ 2 (ne_eqb n m.size f)

    pub read_last : n ≡ m.size → read_answer m k n ≡ cond m.fits 0 9
    read_last e = cond-true _ _ 3 (lt-ltb k (count m) h) ∙ cond-true _ _ 2 (eq-eqb n m.size e)

    pub worn_write : n ≡ m.size → life m k ≡ 0 → write_answer m k n ≡ 7
    worn_write e z = cond-true _ _ 3 (lt-ltb k (count m) h) ∙ cond-true _ _ 2 (eq-eqb n m.size e) ∙ cond-false _ _ 7 (le-ltb 0 (life m k) (omega arith))

  -- only the modes are left to ask
  pub write_last : (n : ℕ) → k < count m → n ≡ m.size → 0 < life m k → write_answer m k n ≡ cond m.fits 0 9
  write_last n h e z = grind (arith, nat_tests)
