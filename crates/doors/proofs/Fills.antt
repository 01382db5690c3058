-- Names that are filled up with zero bytes.
use Rattle.std.proofs.Common.{◌≡◌, ℕ, zero, suc, ◌+◌, ◌-◌, ◌≤◌, Bool, true, false, cond, ◌&&◌, ◌==◌, one-add, List, [], ◌∷◌, ◌++◌, length, get_or, drop, replicate, sym, refl, ap, ◌∙◌, not-suc-le-zero, arith, length-append}
use lib.ListN.{length-replicate}
use Rattle.std.proofs.lemmas.Bool.Decides.{nat_tests}
use Rattle.std.specs.List.{AllByRecursion, list_all, prefix_len}
use Rattle.doors.specs.Names.{Letter, Named, is_letter, padded, zeros}

zeros-replicate : (n : ℕ) → zeros (replicate n 0) ≡ true
zeros-replicate zero = refl
zeros-replicate (suc n) = zeros-replicate n

padded_filled : (text : List ℕ) (n : ℕ) → AllByRecursion Letter text → padded (text ++ replicate n 0) ≡ true
padded_filled [] zero h = refl
padded_filled [] (suc n) h = zeros-replicate n
padded_filled (c ∷ text) n h = let r = padded_filled text n h.1 in let l : is_letter c ≡ true = h.0 in grind (arith, nat_tests)

first_some : (text : List ℕ) (n : ℕ) → AllByRecursion Letter text → 1 ≤ length text → 1 ≤ get_or (text ++ replicate n 0) 0 0
first_some [] n h k = absurd (not-suc-le-zero k)
first_some (c ∷ text) n h k = let l : is_letter c ≡ true = h.0 in grind (arith, nat_tests)

module _ (text name : List ℕ) (h : Named text name) where
  pub named_padded : padded name ≡ true
  named_padded = ap padded h.filled ∙ padded_filled text (10 - length text) h.letters

  pub named_long : length name ≡ 10
  named_long = let few = h.few in ap length h.filled ∙ length-append text (replicate (10 - length text) 0) ∙ rw (length-replicate) (omega arith)

  pub named_some : 1 ≤ get_or name 0 0
  named_some = let e = h.filled in rw e (first_some text (10 - length text) h.letters h.some)

zeros_are : (xs : List ℕ) → zeros xs ≡ list_all (λ c. c == 0) xs
zeros_are [] = refl
zeros_are (x ∷ xs) = ap (λ (b : Bool). x == 0 && b) (zeros_are xs)

pub padded-letters : (name : List ℕ) → padded name ≡ list_all (λ c. c == 0) (drop (prefix_len is_letter name) name)
padded-letters [] = refl
padded-letters (c ∷ cs) = go (is_letter c) refl (padded-letters cs)
  where
    go : (b : Bool) → is_letter c ≡ b → padded cs ≡ list_all (λ c. c == 0) (drop (prefix_len is_letter cs) cs)
        → padded (c ∷ cs) ≡ list_all (λ c. c == 0) (drop (cond b (1 + prefix_len is_letter cs) 0) (c ∷ cs))
    go true l h = rw one-add (rw (sym h) (grind (arith, nat_tests)))
    go false l h = rw (sym (zeros_are cs)) (grind (arith, nat_tests))
