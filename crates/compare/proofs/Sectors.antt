-- Stores that are compared sector by sector.
use Rattle.std.proofs.Common.{◌≡◌, ℕ, ◌+◌, ◌<◌, ◌≤◌, Bool, true, false, cond, eqb, List, [], length, get_or, Decides, sym, refl, ap, ◌∙◌, subst, ⊎_elim, arith}
use Rattle.std.proofs.lemmas.List.{same_lists, get_or_default}
use Rattle.std.proofs.lemmas.Bool.{eq-eqb, ne_eqb, cond-true, cond-false, cases_eq, cases_lt}
use Rattle.store.specs.Stores.{Meaning, Sound, count, sector}
use Rattle.sealed.proofs.Likes.{equal_books, equal_sectors}
use Rattle.compare.specs.Comparing.{modes_test, one_size, compare_answer, Compared}

-- the first k sectors are equal, and were read
pub record Same (a b : Meaning) (k : ℕ) : Type 0 where
  pub equal : (j : ℕ) → j < k → sector a j ≡ sector b j
  pub fits : 0 < k → modes_test a b ≡ 0

pub same_none : (a b : Meaning) → Same a b 0
same_none a b = record { equal = λ j h. absurd (omega arith); fits = λ h. absurd (omega arith) }

-- one sector more
pub same_more : (a b : Meaning) (k : ℕ) → Same a b k → sector a k ≡ sector b k → modes_test a b ≡ 0 → Same a b (k + 1)
same_more a b k s e f =
    record {
      equal = λ j h. ⊎_elim (λ (l : j < k). s.equal j l) (λ (l : k ≤ j). let same : j ≡ k = omega arith in subst (λ (i : ℕ). sector a i ≡ sector b i) (sym same) e) (cases_lt j k);
      fits = λ _. f;
    }

module _ (a b : Meaning) (sa : Sound a) (sb : Sound b) where
  -- what is decided of the sectors is decided of the books
  pub compared : (v : Bool) → Decides v (a.sectors ≡ b.sectors) → Compared a b v
  compared v d =
      record {
        sectors = d;
        books = λ p q lp lq sizes counts like. (
          λ t. equal_books a b sa sb p q lp lq sizes counts like (d.0 t),
          λ e. d.1 (equal_sectors a b sa sb p q lp lq sizes counts like e),
        );
      }

  pub differ_at : (k : ℕ) → (sector a k ≡ sector b k → ⊥) → Compared a b false
  differ_at k ne = compared false (λ t. absurd (cc), λ e. absurd (ne (ap (λ (ss : List (List ℕ)). get_or ss k []) e)))

  pub same_all : (k : ℕ) → count b ≡ count a → count a ≤ k → Same a b k → Compared a b true
  same_all k counts h s =
      compared true (
        λ _. same_lists _ _ (sym counts) (λ j d l. get_or_default _ j d [] l ∙ s.equal j (omega arith) ∙ get_or_default _ j [] d (omega arith)),
        λ _. refl,
      )

-- the answers, where the sizes and the working slices are right
module _ (a b : Meaning) (sa : Sound a) (sb : Sound b) (n p : ℕ) (sized : one_size a b n p ≡ true) where
  -- stores of different counts differ, and are not read
  pub differ_count : (count b ≡ count a → ⊥) → record { reply : 0 ≡ compare_answer a b n p; value : Compared a b false }
  differ_count ne =
      record {
        reply = sym (cond-true _ _ 2 sized ∙ cond-false _ _ 0 (ne_eqb (count b) (count a) ne));
        value = compared a b sa sb false (λ t. absurd (cc), λ e. absurd (ne (sym (ap length e))));
      }

  module _ (counts : count b ≡ count a) where
    answer_is : compare_answer a b n p ≡ cond (eqb (count a) 0) 0 (modes_test a b)
    answer_is = cond-true _ _ 2 sized ∙ cond-true _ _ 0 (eq-eqb (count b) (count a) counts)

    -- a sector to read from both leaves the modes to ask
    pub refused : (k r : ℕ) → k < count a → r ≡ modes_test a b → r ≡ compare_answer a b n p
    refused k r h e = e ∙ sym (cond-false _ 0 _ (ne_eqb (count a) 0 (λ z. omega arith))) ∙ sym answer_is

    -- a sector that differs, and none: the answer and the value
    pub differ_told : (k : ℕ) → k < count a → modes_test a b ≡ 0 → (sector a k ≡ sector b k → ⊥) → record { reply : 0 ≡ compare_answer a b n p; value : Compared a b false }
    differ_told k h f ne = record { reply = refused k 0 h (sym f); value = differ_at a b sa sb k ne }

    pub same_told : (k : ℕ) → count a ≤ k → Same a b k → record { reply : 0 ≡ compare_answer a b n p; value : Compared a b true }
    same_told k h s =
        record {
          reply = ⊎_elim
              (λ (z : count a ≡ 0). sym (answer_is ∙ cond-true _ _ _ (eq-eqb (count a) 0 z)))
              (λ (nz : count a ≡ 0 → ⊥). refused 0 0 (omega arith) (sym (s.fits (omega arith))))
              (cases_eq (count a) 0);
          value = same_all a b sa sb k counts h s;
        }
