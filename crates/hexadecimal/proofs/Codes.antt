-- Encoding and decoding a byte at a time.
use Rattle.std.proofs.Common.{◌≡◌, ℕ, zero, suc, ◌+◌, ◌*◌, ◌/◌, ◌%◌, ◌<◌, List, [], ◌∷◌, ◌++◌, length, get_or, take, drop, sym, refl, ap, ◌∙◌, append_assoc, not-suc-le-zero, arith}
use Rattle.std.proofs.lemmas.Bool.Decides.{nat_tests}
use Rattle.std.proofs.lemmas.List.{get_or-drop, get_or-take, take_more}
use Rattle.std.specs.Simd.{first_chunks}
use Rattle.hexadecimal.specs.Hex.{Bytes, Decodes, Digit, Pair, digit, encoded}

pub encoded_push : (xs : List ℕ) (b : ℕ) → encoded (xs ++ b ∷ []) ≡ encoded xs ++ digit (b / 16) ∷ digit (b % 16) ∷ []
encoded_push [] b = refl
encoded_push (x ∷ xs) b = ap (λ (t : List ℕ). digit (x / 16) ∷ digit (x % 16) ∷ t) (encoded_push xs b)

pub encoded_more : (s : List ℕ) (i : ℕ) → i < length s → encoded (take (i + 1) s) ≡ (encoded (take i s) ++ digit (get_or s i 0 / 16) ∷ []) ++ digit (get_or s i 0 % 16) ∷ []
encoded_more s i h = ap encoded (take_more s i 0 h) ∙ encoded_push (take i s) (get_or s i 0) ∙ sym (append_assoc (encoded (take i s)) (digit (get_or s i 0 / 16) ∷ []) (digit (get_or s i 0 % 16) ∷ []))

decodes_push : (text bs : List ℕ) (h l b : ℕ) → Decodes text bs → Pair h l b → Decodes (text ++ h ∷ l ∷ []) (bs ++ b ∷ [])
decodes_push [] [] h l b d p = (p, tt)
decodes_push [] (x ∷ bs) h l b d p = absurd d
decodes_push (y ∷ []) [] h l b d p = absurd d
decodes_push (y ∷ []) (x ∷ bs) h l b d p = absurd d
decodes_push (y ∷ z ∷ text) [] h l b d p = absurd d
decodes_push (y ∷ z ∷ text) (x ∷ bs) h l b d p = (d.0, decodes_push text bs h l b d.1 p)

-- a text that decodes has two digits at each even place
decodes_at : (text bs : List ℕ) (k : ℕ) → k % 2 ≡ 0 → Decodes text bs → k < length text → (b : ℕ) × Pair (get_or text k 0) (get_or text (suc k) 0) b
decodes_at [] bs k e d h = absurd (not-suc-le-zero h)
decodes_at (x ∷ []) [] k e d h = absurd d
decodes_at (x ∷ []) (b ∷ bs) k e d h = absurd d
decodes_at (x ∷ y ∷ text) [] k e d h = absurd d
decodes_at (x ∷ y ∷ text) (b ∷ bs) zero e d h = (b, d.0)
decodes_at (x ∷ y ∷ text) (b ∷ bs) (suc zero) e d h = absurd (let z : ⊥ = omega arith in z)
decodes_at (x ∷ y ∷ text) (b ∷ bs) (suc (suc k)) e d h = decodes_at text bs k (omega arith) d.1 (omega arith)

-- the digits of a chunk are those at its places in the text
chunk_at : (k : ℕ) (text : List ℕ) (i j n : ℕ) → i < k → j < 2 → n ≡ 2 * i + j → get_or (get_or (first_chunks 2 k text) i []) j 0 ≡ get_or text n 0
chunk_at zero text i j n h l e = absurd (not-suc-le-zero h)
chunk_at (suc k) text zero j n h l e = get_or-take 2 text j 0 l ∙ ap (λ (m : ℕ). get_or text m 0) (omega arith)
chunk_at (suc k) text (suc i) j n h l e = chunk_at k (drop 2 text) i j (2 * i + j) (omega arith) l refl ∙ get_or-drop 2 text (2 * i + j) 0 ∙ ap (λ (m : ℕ). get_or text m 0) (omega arith)

-- the chunk at i writes b
abbrev pub PairAt : List (List ℕ) → ℕ → ℕ → Type 0
PairAt pairs i b = Pair (get_or (get_or pairs i []) 0 0) (get_or (get_or pairs i []) 1 0) b

pub decodes_pair : (text bs : List ℕ) (i : ℕ) {pairs : List (List ℕ)} → pairs ≡ first_chunks 2 (length text / 2) text → i < length text / 2 → Decodes text bs → (b : ℕ) × PairAt pairs i b
decodes_pair text bs i f h d =
    let k = length text / 2 in
    let p = decodes_at text bs (2 * i) (omega arith) d (omega arith) in
    (p.0, rw (f, chunk_at k text i 0 (2 * i) h (omega arith) (omega arith), chunk_at k text i 1 (suc (2 * i)) h (omega arith) (omega arith)) p.1)

take_two : (text : List ℕ) (k : ℕ) → k + 1 < length text → take (k + 2) text ≡ take k text ++ get_or text k 0 ∷ get_or text (k + 1) 0 ∷ []
take_two text k h =
    let e : k + 2 ≡ k + 1 + 1 = omega arith in
    ap (λ (n : ℕ). take n text) e ∙ take_more text (k + 1) 0 h
    ∙ ap (λ (t : List ℕ). t ++ get_or text (k + 1) 0 ∷ []) (take_more text k 0 (omega arith))
    ∙ append_assoc (take k text) (get_or text k 0 ∷ []) (get_or text (k + 1) 0 ∷ [])

pub decodes_more : (text bs : List ℕ) (i b : ℕ) {pairs : List (List ℕ)} {cs : List ℕ} → pairs ≡ first_chunks 2 (length text / 2) text → i < length text / 2
    → Decodes (take (2 * i) text) bs → PairAt pairs i b → cs ≡ bs ++ b ∷ [] → Decodes (take (2 * (i + 1)) text) cs
decodes_more text bs i b f h d p e =
    let k = length text / 2 in
    let two : 2 * (i + 1) ≡ 2 * i + 2 = omega arith in
    let t : take (2 * (i + 1)) text ≡ take (2 * i) text ++ get_or text (2 * i) 0 ∷ get_or text (2 * i + 1) 0 ∷ [] = ap (λ (n : ℕ). take n text) two ∙ take_two text (2 * i) (omega arith) in
    let q : Pair (get_or text (2 * i) 0) (get_or text (2 * i + 1) 0) b =
    rw (f, chunk_at k text i 0 (2 * i) h (omega arith) (omega arith), chunk_at k text i 1 (2 * i + 1) h (omega arith) (omega arith)) at p in
    rw (t, e) (decodes_push (take (2 * i) text) bs (get_or text (2 * i) 0) (get_or text (2 * i + 1) 0) b d q)

pub decodes_even : (text bs : List ℕ) → Decodes text bs → length text % 2 ≡ 0
decodes_even [] bs d = refl
decodes_even (x ∷ []) [] d = absurd d
decodes_even (x ∷ []) (b ∷ bs) d = absurd d
decodes_even (x ∷ y ∷ text) [] d = absurd d
decodes_even (x ∷ y ∷ text) (b ∷ bs) d = let h = decodes_even text bs d.1 in omega arith

digit_is : (v : ℕ) → v < 16 → Digit (digit v) v
digit_is v h = grind (arith, nat_tests)

pub back : (bs : List ℕ) → Bytes bs → Decodes (encoded bs) bs
back [] h = tt
back (b ∷ bs) h = ((digit_is (b / 16) (omega arith), digit_is (b % 16) (omega arith)), back bs h.1)

same_digit : (c v w : ℕ) → Digit c v → Digit c w → v ≡ w
same_digit c v w a b = grind arith

same_byte : (a b : ℕ) → a / 16 ≡ b / 16 → a % 16 ≡ b % 16 → a ≡ b
same_byte a b p q = omega arith

pub only : (text bs cs : List ℕ) → Decodes text bs → Decodes text cs → bs ≡ cs
only [] [] [] d e = refl
only [] [] (c ∷ cs) d e = absurd e
only [] (b ∷ bs) cs d e = absurd d
only (x ∷ []) [] cs d e = absurd d
only (x ∷ []) (b ∷ bs) cs d e = absurd d
only (x ∷ y ∷ text) [] cs d e = absurd d
only (x ∷ y ∷ text) (b ∷ bs) [] d e = absurd e
only (x ∷ y ∷ text) (b ∷ bs) (c ∷ cs) d e =
    let p : b ≡ c = same_byte b c (same_digit x (b / 16) (c / 16) d.0.0 e.0.0) (same_digit y (b % 16) (c % 16) d.0.1 e.0.1) in
    let q : bs ≡ cs = only text bs cs d.1 e.1 in
    cc
