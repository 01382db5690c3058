-- Runs of digits, and the number that they write.
use Rattle.std.proofs.Common.{◌≡◌, ℕ, Bool, true, false, cond, one-add, zero, suc, ◌+◌, ◌-◌, ◌*◌, ◌<◌, ◌≤◌, List, [], ◌∷◌, ◌++◌, length, get_or, take, drop, sym, refl, ap, ◌∙◌, subst, le_of_suc-le-suc, not-suc-le-zero, arith}
use Rattle.std.proofs.lemmas.List.{take_more, take-append-drop}
use Rattle.std.proofs.lemmas.Bool.Decides.{nat_tests}
use Rattle.std.proofs.lemmas.List.Sums.{prefix_len-le-length}
use Rattle.std.proofs.lemmas.List.Folds.{length-prefix_len}
use Rattle.std.specs.Char.{is_ascii_digit}
use Rattle.std.specs.List.{prefix_len}
use Rattle.decimal.specs.Decimal.{Begins, Digit, Digits, NoDigit, Numeral, decimal}

front_digits : (s : List ℕ) → Digits (take (prefix_len is_ascii_digit s) s)
front_digits [] = tt
front_digits (c ∷ s) = go (is_ascii_digit c) refl (front_digits s)
  where
    go : (b : Bool) → is_ascii_digit c ≡ b → Digits (take (prefix_len is_ascii_digit s) s) → Digits (take (cond b (1 + prefix_len is_ascii_digit s) 0) (c ∷ s))
    go false e h = tt
    go true e h = rw one-add (grind (arith, nat_tests), h)

no_digit_behind : (s : List ℕ) → NoDigit (drop (prefix_len is_ascii_digit s) s)
no_digit_behind [] = tt
no_digit_behind (c ∷ s) = go (is_ascii_digit c) refl (no_digit_behind s)
  where
    go : (b : Bool) → is_ascii_digit c ≡ b → NoDigit (drop (prefix_len is_ascii_digit s) s) → NoDigit (drop (cond b (1 + prefix_len is_ascii_digit s) 0) (c ∷ s))
    go false e h = λ d. grind (arith, nat_tests)
    go true e h = rw one-add h

-- the run of digits at the front
pub record Run (s : List ℕ) (n : ℕ) : Type 0 where
  pub within : n ≤ length s
  pub long : length (take n s) ≡ n
  pub front : Digits (take n s)
  pub rest : NoDigit (drop n s)

pub run : {s : List ℕ} {n : ℕ} → n ≡ prefix_len is_ascii_digit s → Run s n
run {s} e = subst (Run s) (sym e) (record {
  within = prefix_len-le-length is_ascii_digit s;
  long = length-prefix_len is_ascii_digit s;
  front = front_digits s;
  rest = no_digit_behind s;
})

pub decimal_push : (n : ℕ) (xs : List ℕ) (c : ℕ) → decimal n (xs ++ c ∷ []) ≡ decimal n xs * 10 + (c - 48)
decimal_push n [] c = refl
decimal_push n (x ∷ xs) c = decimal_push (n * 10 + (x - 48)) xs c

pub decimal_more : (s : List ℕ) (i : ℕ) → i < length s → decimal 0 (take (i + 1) s) ≡ decimal 0 (take i s) * 10 + (get_or s i 0 - 48)
decimal_more s i l = ap (decimal 0) (take_more s i 0 l) ∙ decimal_push 0 (take i s) (get_or s i 0)

pub digit_at : (s : List ℕ) (i : ℕ) → Digits s → i < length s → Digit (get_or s i 0)
digit_at [] i d h = absurd (not-suc-le-zero h)
digit_at (x ∷ xs) zero d h = d.0
digit_at (x ∷ xs) (suc i) d h = digit_at xs i d.1 (le_of_suc-le-suc h)

-- a run of digits before what is no digit is one and the same run
pub same_run : (ds es p q : List ℕ) → Digits ds → Digits es → NoDigit p → NoDigit q → ds ++ p ≡ es ++ q → (ds ≡ es) × (p ≡ q)
same_run [] [] p q d e n m h = (refl, h)
same_run [] (y ∷ es) [] q d e n m h = let z : ◌≡◌ {A = ℕ} 0 1 = cc in absurd (let w : ⊥ = omega arith in w)
same_run [] (y ∷ es) (x ∷ p) q d e n m h = let z : y ≡ x = cc in absurd (n (subst Digit z e.0))
same_run (x ∷ ds) [] p [] d e n m h = let z : ◌≡◌ {A = ℕ} 0 1 = cc in absurd (let w : ⊥ = omega arith in w)
same_run (x ∷ ds) [] p (y ∷ q) d e n m h = let z : x ≡ y = cc in absurd (m (subst Digit z d.0))
same_run (x ∷ ds) (y ∷ es) p q d e n m h =
    let z : x ≡ y = cc in
    let t : ds ++ p ≡ es ++ q = cc in
    let r = same_run ds es p q d.1 e.1 n m t in
    let a : ds ≡ es = r.0 in
    ((cc), r.1)

-- a numeral at the front is the run of digits there
pub begins_run : {most limit v n : ℕ} {text rest : List ℕ} → Run text n → Begins most limit text v rest → Numeral most limit (take n text) v
begins_run {most} {limit} {v} {n} {text} {rest} r b =
    subst (λ (ds : List ℕ). Numeral most limit ds v) (same_run b.ds (take n text) rest (drop n text) b.numeral.digits r.front b.after r.rest (sym b.whole ∙ sym (take-append-drop n text))).0 b.numeral

pub run_begins : {most limit v n : ℕ} {text : List ℕ} → Run text n → 1 ≤ n → n ≤ most → v ≡ decimal 0 (take n text) → v ≤ limit → Begins most limit text v (drop n text)
run_begins {most} {limit} {v} {n} {text} r some few e small =
    let long = r.long in
    record {
      ds = take n text;
      whole = sym (take-append-drop n text);
      numeral = record { some = omega arith; few = omega arith; digits = r.front; value = sym e; small = small };
      after = r.rest;
    }

pub decimal_append : (n : ℕ) (xs ys : List ℕ) → decimal n (xs ++ ys) ≡ decimal (decimal n xs) ys
decimal_append n [] ys = refl
decimal_append n (x ∷ xs) ys = decimal_append (n * 10 + (x - 48)) xs ys

pub decimal_grows : (n : ℕ) (xs : List ℕ) → n ≤ decimal n xs
decimal_grows n [] = omega arith
decimal_grows n (x ∷ xs) = let h = decimal_grows (n * 10 + (x - 48)) xs in omega arith

-- a front of some digits stands for no more than all of them
pub decimal-front : (s : List ℕ) (i : ℕ) → decimal 0 (take i s) ≤ decimal 0 s
decimal-front s i =
    let e : decimal 0 s ≡ decimal (decimal 0 (take i s)) (drop i s) = ap (decimal 0) (sym (take-append-drop i s)) ∙ decimal_append 0 (take i s) (drop i s) in
    let h = decimal_grows (decimal 0 (take i s)) (drop i s) in
    omega arith

-- with the digit at i the number is at most that of all the digits
pub decimal-next : (s : List ℕ) (i v : ℕ) → i < length s → v ≡ decimal 0 (take i s) → v * 10 + (get_or s i 0 - 48) ≤ decimal 0 s
decimal-next s i v l e = let m = decimal_more s i l in let f = decimal-front s (i + 1) in omega arith

-- a text begins with one numeral at most
pub same_begins : (most limit : ℕ) (text : List ℕ) (v w : ℕ) (r s : List ℕ) → Begins most limit text v r → Begins most limit text w s → (v ≡ w) × (r ≡ s)
same_begins most limit text v w r s a b =
    let h = same_run a.ds b.ds r s a.numeral.digits b.numeral.digits a.after b.after (sym a.whole ∙ b.whole) in
    (sym a.numeral.value ∙ ap (decimal 0) h.0 ∙ b.numeral.value, h.1)
