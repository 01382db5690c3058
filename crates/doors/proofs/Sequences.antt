-- Doors and their lines, one after the other.
use Rattle.std.proofs.Common.{◌≡◌, ℕ, zero, suc, ◌+◌, ◌-◌, ◌<◌, ◌⊎◌, List, [], ◌∷◌, ◌++◌, length, get_or, take, drop, sym, refl, ap, ◌∙◌, subst, inl, inr, le_of_suc-le-suc, not-suc-le-zero, arith, length-drop, Result, Ok, Err, MatchResult}
use Rattle.std.proofs.lemmas.List.{drop_more, take_all, take_more}
use Rattle.std.specs.List.{AllByRecursion}
use Rattle.doors.specs.Lines.{NoDoor, Written, Wrong}
use Rattle.lines.specs.Lines.{ended, lines, unended}
use Rattle.doors.specs.Rounds.{Each, NoRound, Explains, Round}
use Rattle.doors.specs.declared.types.Door.{Door}
use Rattle.doors.specs.declared.types.Fault.{Fault}
use Rattle.doors.specs.declared.types.RoundError.{RoundError}
use Rattle.doors.specs.declared.types.RoundError.TheVariants.{Line}
use Rattle.doors.proofs.Fields.{one_door}
use Rattle.lines.proofs.Splits.{Clean, joins_lines, lines-ended, lines-unended}
use Rattle.doors.proofs.Clean.{written_clean}

each_clean : (ts : List (List ℕ)) (ds : List Door) → Each ts ds → AllByRecursion Clean ts
each_clean [] ds h = tt
each_clean (t ∷ ts) [] h = absurd h
each_clean (t ∷ ts) (d ∷ ds) h = (written_clean t d h.0, each_clean ts ds h.1)

pub each_length : (ts : List (List ℕ)) (ds : List Door) → Each ts ds → length ts ≡ length ds
each_length [] [] h = refl
each_length [] (d ∷ ds) h = absurd h
each_length (t ∷ ts) [] h = absurd h
each_length (t ∷ ts) (d ∷ ds) h = ap suc (each_length ts ds h.1)

each_at : (ts : List (List ℕ)) (ds : List Door) (k : ℕ) → k < length ts → Each ts ds → (d : Door) × Written (get_or ts k []) d
each_at [] ds k l h = absurd (not-suc-le-zero l)
each_at (t ∷ ts) [] k l h = absurd h
each_at (t ∷ ts) (d ∷ ds) zero l h = (d, h.0)
each_at (t ∷ ts) (d ∷ ds) (suc k) l h = each_at ts ds k (le_of_suc-le-suc l) h.1

each_push : (ts : List (List ℕ)) (ds : List Door) (t : List ℕ) (d : Door) → Each ts ds → Written t d → Each (ts ++ t ∷ []) (ds ++ d ∷ [])
each_push [] [] t d h w = (w, tt)
each_push [] (e ∷ ds) t d h w = absurd h
each_push (u ∷ ts) [] t d h w = absurd h
each_push (u ∷ ts) (e ∷ ds) t d h w = (h.0, each_push ts ds t d h.1 w)

-- the lines of a round's input are those of its doors
round_each : (input : List ℕ) (ds : List Door) → Round input ds → Each (lines input) ds
round_each input ds r = subst (λ (ts : List (List ℕ)). Each ts ds) (sym (same r.whole)) r.written
  where
    same : (input ≡ ended r.texts) ⊎ (input ≡ unended r.texts) → lines input ≡ r.texts
    same (inl e) = ap lines e ∙ lines-ended r.texts (each_clean r.texts ds r.written)
    same (inr e) = ap lines e ∙ lines-unended r.texts (each_clean r.texts ds r.written)

each_same : (ts : List (List ℕ)) (ds es : List Door) → Each ts ds → Each ts es → ds ≡ es
each_same [] [] [] h k = refl
each_same [] [] (e ∷ es) h k = absurd k
each_same [] (d ∷ ds) es h k = absurd h
each_same (t ∷ ts) [] es h k = absurd h
each_same (t ∷ ts) (d ∷ ds) [] h k = absurd k
each_same (t ∷ ts) (d ∷ ds) (e ∷ es) h k = λ i. one_door t d e h.0 k.0 i ∷ each_same ts ds es h.1 k.1 i

pub one_round : (input : List ℕ) (ds es : List Door) → Round input ds → Round input es → ds ≡ es
one_round input ds es r q = each_same (lines input) ds es (round_each input ds r) (round_each input es q)

pub count_no_round : (input : List ℕ) (n : ℕ) → n ≡ length (lines input) → (n ≡ 40 → ⊥) → NoRound input
count_no_round input n e h ds r = h (e ∙ each_length (lines input) ds (round_each input ds r) ∙ r.forty)

-- what is left of the lines begins with this one
pub record Next (ls : List (List ℕ)) (k : ℕ) (line : List ℕ) (rest : List (List ℕ)) : Type 0 where
  pub within : k < length ls
  pub here : get_or ls k [] ≡ line
  pub after : drop (k + 1) ls ≡ rest

pub next : (ls : List (List ℕ)) (k : ℕ) (line : List ℕ) (rest : List (List ℕ)) → drop k ls ≡ line ∷ rest → Next ls k line rest
next ls k line rest e =
    let n : length ls - k ≡ suc (length rest) = sym (length-drop k ls) ∙ ap length e in
    let w : k < length ls = omega arith in
    let m : get_or ls k [] ∷ drop (k + 1) ls ≡ line ∷ rest = sym (drop_more ls k [] w) ∙ e in
    record { within = w; here = cc; after = cc }

pub line_no_round : (input : List ℕ) (k : ℕ) (line : List ℕ) (rest : List (List ℕ)) → drop k (lines input) ≡ line ∷ rest → NoDoor line → NoRound input
line_no_round input k line rest e h ds r =
    let n = next (lines input) k line rest e in
    let p = each_at (lines input) ds k n.within (round_each input ds r) in
    h p.0 (subst (λ (t : List ℕ). Written t p.0) n.here p.1)

-- the line after k lines of doors is wrong
pub line_refused : (input : List ℕ) (k j : ℕ) (line : List ℕ) (rest : List (List ℕ)) (ds : List Door) (f : Fault) → j ≡ k → length (lines input) ≡ 40 → Each (take k (lines input)) ds
    → drop k (lines input) ≡ line ∷ rest → Wrong line f × NoDoor line → Explains input (Line (j + 1) f)
line_refused input k j line rest ds f p l h e w =
    let n = next (lines input) k line rest e in
    let within : k < length (lines input) = n.within in
    let i : k ≡ j + 1 - 1 = omega arith in (
      omega arith,
      omega arith,
      subst (λ (t : List ℕ). Wrong t f) (sym n.here ∙ ap (λ (x : ℕ). get_or (lines input) x []) i) w.0,
      (ds, subst (λ (x : ℕ). Each (take x (lines input)) ds) i h),
      line_no_round input k line rest e w.1,
    )

-- a line that is no door ends with its fault
pub line_error : {line : List ℕ} {g : RoundError} {n : ℕ} {Q : Fault → Type 0} (r : Result Door Fault) → MatchResult r (λ (d : Door). ◌≡◌ {A = Result Door RoundError} (Err g) (Ok d)) Q
    → ((f : Fault) → Q f → g ≡ Line n f) → MatchResult r (λ (d : Door). Written line d) (λ (f : Fault). Wrong line f × NoDoor line) → (f : Fault) × (g ≡ Line n f) × (Wrong line f × NoDoor line)
line_error (Ok d) h k m = absurd (let z : ⊥ = cc in z)
line_error (Err f) h k m = (f, k f h, m)

-- one line and its door more
pub each_more : (ls rest : List (List ℕ)) (k j : ℕ) (line : List ℕ) (ds es : List Door) (d : Door) → Each (take k ls) ds → drop k ls ≡ line ∷ rest → Written line d → j ≡ k + 1 → es ≡ ds ++ d ∷ []
    → Each (take j ls) es × (drop j ls ≡ rest)
each_more ls rest k j line ds es d h e w p q =
    let n = next ls k line rest e in
    let t : take j ls ≡ take k ls ++ line ∷ [] = ap (λ (i : ℕ). take i ls) p ∙ take_more ls k [] n.within ∙ ap (λ (x : List ℕ). take k ls ++ x ∷ []) n.here in
    let g : Each (take k ls ++ line ∷ []) (ds ++ d ∷ []) = each_push (take k ls) ds line d h w in
    (subst (λ (x : List (List ℕ)). Each x es) (sym t) (subst (Each (take k ls ++ line ∷ [])) (sym q) g), ap (λ (i : ℕ). drop i ls) p ∙ n.after)

-- no line is left
pub round_end : (input : List ℕ) (k : ℕ) (ds : List Door) → length (lines input) ≡ 40 → Each (take k (lines input)) ds → drop k (lines input) ≡ [] → Round input ds
round_end input k ds l h e =
    let n : length (lines input) - k ≡ 0 = sym (length-drop k (lines input)) ∙ ap length e in
    let w : Each (lines input) ds = subst (λ (ts : List (List ℕ)). Each ts ds) (take_all k (lines input) (omega arith)) h in
    record { forty = sym (each_length (lines input) ds w) ∙ l; texts = lines input; written = w; whole = joins_lines input }
