-- A name and its text: the text is what stands before the zero bytes.
use Rattle.std.proofs.Common.{◌≡◌, ℕ, zero, suc, ◌-◌, ◌<◌, ◌≤◌, Bool, true, false, cond, ◌&&◌, eqb, List, [], ◌∷◌, ◌++◌, length, get_or, take, replicate, one-add, sym, refl, ap, ◌∙◌, subst, not-suc-le-zero, arith}
use mathlib.Core.Bool.{false≢true}
use Rattle.std.proofs.lemmas.List.{get_or-take, get_or_past}
use Rattle.std.proofs.lemmas.List.Folds.{length-prefix_len}
use Rattle.std.proofs.lemmas.List.Sums.{prefix_len_passes}
use Rattle.std.proofs.lemmas.Bool.Decides.{nat_tests}
use Rattle.std.specs.List.{AllByRecursion, prefix_len}
use Rattle.std.specs.Str.{IsAscii}
use Rattle.doors.specs.Names.{Letter, Named, is_letter, letters, padded, zeros}

not_zero : (n : ℕ) → eqb (suc n) 0 ≡ false
not_zero n = grind (arith, nat_tests)

letters_suc : (n : ℕ) (xs : List ℕ) → letters (suc n ∷ xs) ≡ suc n ∷ letters xs
letters_suc n xs = ap (λ (b : Bool). cond b (letters xs) (suc n ∷ letters xs)) (not_zero n)

padded_suc : (n : ℕ) (xs : List ℕ) → padded (suc n ∷ xs) ≡ true → (is_letter (suc n) ≡ true) × (padded xs ≡ true)
padded_suc n xs h = let z = not_zero n in grind (arith, nat_tests)

zeros_suc : (n : ℕ) (xs : List ℕ) → zeros (suc n ∷ xs) ≡ true → ⊥
zeros_suc n xs h = false≢true (sym (ap (λ (b : Bool). b && zeros xs) (not_zero n)) ∙ h)

zeros_all : (xs : List ℕ) → zeros xs ≡ true → (letters xs ≡ []) × (xs ≡ replicate (length xs) 0)
zeros_all [] h = (refl, refl)
zeros_all (zero ∷ xs) h = let r = zeros_all xs h in (r.0, ap (λ (t : List ℕ). 0 ∷ t) r.1)
zeros_all (suc n ∷ xs) h = absurd (zeros_suc n xs h)

ascii_letter : (c : ℕ) → is_letter c ≡ true → c < 128
ascii_letter c h = grind (arith, nat_tests)

-- the letters of a padded name are those at its front
pub letters-padded : (name : List ℕ) → padded name ≡ true → take (prefix_len is_letter name) name ≡ letters name
letters-padded [] h = refl
letters-padded (zero ∷ xs) h = sym (zeros_all xs h).0
letters-padded (suc n ∷ xs) h =
    let k = padded_suc n xs h in
    rw (k.0, one-add, letters_suc n xs) (ap (λ (t : List ℕ). suc n ∷ t) (letters-padded xs k.1))

pub ascii_front : (name : List ℕ) → IsAscii (take (prefix_len is_letter name) name)
ascii_front name i =
    let passes = prefix_len_passes is_letter name i 0 in
    let letter = ascii_letter (get_or name i 0) in
    let at = get_or-take (prefix_len is_letter name) name i 0 in
    let past = get_or_past (take (prefix_len is_letter name) name) i 0 in
    let long = length-prefix_len is_letter name in
    grind arith

-- a padded name is its letters, filled up
record Split (name text : List ℕ) : Type 0 where
  all : AllByRecursion Letter text
  short : length text ≤ length name
  whole : name ≡ text ++ replicate (length name - length text) 0

split : (name : List ℕ) → padded name ≡ true → Split name (letters name)
split [] h = record { all = tt; short = omega arith; whole = refl }
split (zero ∷ xs) h =
    let r = zeros_all xs h in
    let n : suc (length xs) ≡ suc (length xs) - 0 = omega arith in
    subst (Split (0 ∷ xs)) (sym r.0) (record { all = tt; short = omega arith; whole = ap (λ (t : List ℕ). 0 ∷ t) r.1 ∙ ap (λ (k : ℕ). replicate k 0) n })
split (suc n ∷ xs) h =
    let k = padded_suc n xs h in
    let r = split xs k.1 in
    let short : length (letters xs) ≤ length xs = r.short in
    let m : length xs - length (letters xs) ≡ suc (length xs) - suc (length (letters xs)) = omega arith in
    subst (Split (suc n ∷ xs)) (sym (letters_suc n xs)) (record {
      all = (k.0, r.all);
      short = omega arith;
      whole = ap (λ (t : List ℕ). suc n ∷ t) r.whole ∙ ap (λ (j : ℕ). suc n ∷ (letters xs ++ replicate j 0)) m;
    })

some_letter : (name : List ℕ) → 1 ≤ get_or name 0 0 → 1 ≤ length (letters name)
some_letter [] h = absurd (not-suc-le-zero h)
some_letter (zero ∷ xs) h = absurd (not-suc-le-zero h)
some_letter (suc n ∷ xs) h = let e : length (letters (suc n ∷ xs)) ≡ suc (length (letters xs)) = ap length (letters_suc n xs) in omega arith

pub named_letters : (name : List ℕ) → padded name ≡ true → length name ≡ 10 → 1 ≤ get_or name 0 0 → Named (letters name) name
named_letters name h l k =
    let s = split name h in
    let short : length (letters name) ≤ length name = s.short in
    record {
      some = some_letter name k;
      few = omega arith;
      letters = s.all;
      filled = s.whole ∙ ap (λ (n : ℕ). letters name ++ replicate (n - length (letters name)) 0) l;
    }
