-- A text is its lines, and lines are found again in their text.
use Rattle.std.proofs.Common.{◌≡◌, ℕ, suc, ◌+◌, ◌<◌, ◌≤◌, Bool, true, false, cond, eqb, ◌⊎◌, List, [], ◌∷◌, ◌++◌, length, get_or, take, drop, Some, None, not, ◌==◌, sym, refl, ap, ◌∙◌, subst, inl, inr, not-suc-le-zero, arith}
use Rattle.std.proofs.ByRecursion.{All-from_get_or}
use Rattle.std.proofs.lemmas.List.{drop_more, get_or-take, length-take-le, take_all, take-append-drop}
use Rattle.std.proofs.lemmas.Bool.Decides.{eqb_tells, nat_tests}
use Rattle.std.proofs.lemmas.List.Quantifiers.{position-Some}
use Rattle.std.proofs.lemmas.List.Sums.{prefix_len_passes}
use Rattle.std.specs.List.{AllByRecursion, position, position_or_len}
use Rattle.lines.specs.Lines.{ended, front, lines, unended}

abbrev pub NotLf : ℕ → Type 0
NotLf c = c ≡ 10 → ⊥

-- not empty, and without LF
abbrev pub Clean : List ℕ → Type 0
Clean t = AllByRecursion NotLf t × (1 ≤ length t)

pub lines_nil : lines [] ≡ []
unfolding lines
lines_nil = refl

lines_lf : (cs : List ℕ) → lines (10 ∷ cs) ≡ [] ∷ lines cs
unfolding lines
lines_lf cs = refl

lines_more : (c : ℕ) (cs : List ℕ) → NotLf c → lines (c ∷ cs) ≡ front c (lines cs)
unfolding lines
lines_more c cs n = let e : eqb c 10 ≡ false = grind (arith, nat_tests) in ap (λ (b : Bool). cond b ([] ∷ lines cs) (front c (lines cs))) e

pub lines_line : (l rest : List ℕ) → AllByRecursion NotLf l → lines (l ++ 10 ∷ rest) ≡ l ∷ lines rest
lines_line [] rest h = lines_lf rest
lines_line (c ∷ l) rest h = lines_more c (l ++ 10 ∷ rest) h.0 ∙ ap (front c) (lines_line l rest h.1)

pub lines_last : (l : List ℕ) → Clean l → lines l ≡ l ∷ []
lines_last [] h = absurd (not-suc-le-zero h.1)
lines_last (c ∷ []) h = lines_more c [] h.0.0 ∙ ap (front c) lines_nil
lines_last (c ∷ d ∷ l) h = lines_more c (d ∷ l) h.0.0 ∙ ap (front c) (lines_last (d ∷ l) (h.0.1, omega arith))

pub lines-ended : (ts : List (List ℕ)) → AllByRecursion Clean ts → lines (ended ts) ≡ ts
lines-ended [] h = lines_nil
lines-ended (t ∷ ts) h = lines_line t (ended ts) h.0.0 ∙ ap (λ (r : List (List ℕ)). t ∷ r) (lines-ended ts h.1)

pub lines-unended : (ts : List (List ℕ)) → AllByRecursion Clean ts → lines (unended ts) ≡ ts
lines-unended [] h = lines_nil
lines-unended (t ∷ []) h = lines_last t h.0
lines-unended (t ∷ u ∷ ts) h = lines_line t (unended (u ∷ ts)) h.0.0 ∙ ap (λ (r : List (List ℕ)). t ∷ r) (lines-unended (u ∷ ts) h.1)

front_few : (c : ℕ) (ls : List (List ℕ)) → length (front c ls) ≤ suc (length ls)
front_few c [] = omega arith
front_few c (l ∷ ls) = omega arith

-- a text has no more lines than characters
pub lines_few : (s : List ℕ) → length (lines s) ≤ length s
lines_few [] = let e = ap length lines_nil in omega arith
lines_few (c ∷ cs) = go (eqb_tells c 10) (lines_few cs)
  where
    go : ((eqb c 10 ≡ true) × (c ≡ 10)) ⊎ ((eqb c 10 ≡ false) × (c ≡ 10 → ⊥)) → length (lines cs) ≤ length cs → length (lines (c ∷ cs)) ≤ suc (length cs)
    go (inl p) h = let e = ap length (ap (λ (x : ℕ). lines (x ∷ cs)) p.1 ∙ lines_lf cs) in omega arith
    go (inr p) h = let e = ap length (lines_more c cs p.1) in let f = front_few c (lines cs) in omega arith

-- a text is its lines, each ended by LF, or all but the last one
abbrev Joins : List ℕ → List (List ℕ) → Type 0
Joins s ls = (s ≡ ended ls) ⊎ (s ≡ unended ls)

joins_lf : (cs : List ℕ) (ls : List (List ℕ)) → Joins cs ls → Joins (10 ∷ cs) ([] ∷ ls)
joins_lf cs ls (inl e) = inl (ap (λ (t : List ℕ). 10 ∷ t) e)
joins_lf cs [] (inr e) = inl (ap (λ (t : List ℕ). 10 ∷ t) e)
joins_lf cs (u ∷ us) (inr e) = inr (ap (λ (t : List ℕ). 10 ∷ t) e)

joins_more : (c : ℕ) (cs : List ℕ) (ls : List (List ℕ)) → Joins cs ls → Joins (c ∷ cs) (front c ls)
joins_more c cs [] (inl e) = inr (ap (λ (t : List ℕ). c ∷ t) e)
joins_more c cs [] (inr e) = inr (ap (λ (t : List ℕ). c ∷ t) e)
joins_more c cs (l ∷ ls) (inl e) = inl (ap (λ (t : List ℕ). c ∷ t) e)
joins_more c cs (l ∷ []) (inr e) = inr (ap (λ (t : List ℕ). c ∷ t) e)
joins_more c cs (l ∷ m ∷ ls) (inr e) = inr (ap (λ (t : List ℕ). c ∷ t) e)

pub joins_lines : (s : List ℕ) → (s ≡ ended (lines s)) ⊎ (s ≡ unended (lines s))
joins_lines [] = inl (ap ended (sym lines_nil))
joins_lines (c ∷ cs) = go (eqb_tells c 10) (joins_lines cs)
  where
    go : ((eqb c 10 ≡ true) × (c ≡ 10)) ⊎ ((eqb c 10 ≡ false) × (c ≡ 10 → ⊥)) → Joins cs (lines cs) → Joins (c ∷ cs) (lines (c ∷ cs))
    go (inl p) h = subst (λ (x : ℕ). Joins (x ∷ cs) (lines (x ∷ cs))) (sym p.1) (subst (Joins (10 ∷ cs)) (sym (lines_lf cs)) (joins_lf cs (lines cs) h))
    go (inr p) h = subst (Joins (c ∷ cs)) (sym (lines_more c cs p.1)) (joins_more c cs (lines cs) h)

-- the first line of a text, by the place of its first LF
module _ (s : List ℕ) where
  front_clean : (n : ℕ) → n ≤ length s → ((k : ℕ) → k < n → eqb (get_or s k 0) 10 ≡ false) → AllByRecursion NotLf (take n s)
  front_clean n w before =
      let l : length (take n s) ≡ n = length-take-le n s w in
      All-from_get_or NotLf (take n s) 0 (λ i h e. let k : i < n = omega arith in let b = before i k in let g = get_or-take n s i 0 k in grind (arith, nat_tests))

  pub line_cut : {end : ℕ} → Some end ≡ position (λ b. b == 10) s → (end < length s) × (lines s ≡ take end s ∷ lines (drop (end + 1) s))
  line_cut {end} p =
      let f = position-Some (λ b. b == 10) s end 0 (sym p) in
      let lf : get_or s end 0 ≡ 10 = grind (arith, nat_tests, f.1) in
      let d : drop end s ≡ 10 ∷ drop (end + 1) s = drop_more s end 0 f.0 ∙ ap (λ (c : ℕ). c ∷ drop (end + 1) s) lf in
      (f.0, ap lines (sym (take-append-drop end s) ∙ ap (λ (t : List ℕ). take end s ++ t) d) ∙ lines_line (take end s) (drop (end + 1) s) (front_clean end (omega arith) f.2))

  pub line_all : None ≡ position (λ b. b == 10) s → 1 ≤ length s → lines s ≡ s ∷ lines []
  line_all p h =
      let t : take (length s) s ≡ s = take_all (length s) s (omega arith) in
      let no : length s ≤ position_or_len (λ b. b == 10) s = grind (arith, nat_tests, p) in
      let before : (k : ℕ) → k < length s → eqb (get_or s k 0) 10 ≡ false = λ k l. let q = prefix_len_passes (λ b. not (b == 10)) s k 0 (omega arith) in grind (arith, nat_tests) in
      lines_last s (subst (AllByRecursion NotLf) t (front_clean (length s) (omega arith) before), h) ∙ ap (λ (r : List (List ℕ)). s ∷ r) (sym lines_nil)
