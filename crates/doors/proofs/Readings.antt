-- The doors that an image holds: those that were laid, and no others.
use Rattle.std.proofs.Common.{◌≡◌, ℕ, zero, suc, ◌+◌, ◌-◌, ◌*◌, ◌/◌, ◌<◌, ◌≤◌, List, [], ◌∷◌, ◌++◌, length, get_or, take, drop, replicate, sym, refl, ap, ◌∙◌, subst, ap₂, arith}
use Rattle.std.proofs.lemmas.List.{append_assoc, append-nil, drop_all, drop_at, drop_more, take_at}
use Rattle.std.specs.Simd.{first_chunks}
use Rattle.doors.specs.Records.{Parted, laid, record_bytes}
use Rattle.doors.specs.Rounds.{Holds, image_of, records}
use Rattle.doors.specs.declared.types.Door.{Door}
use Rattle.doors.proofs.Doors.{same_badge, same_door, same_name, same_number, same_time}
use Rattle.doors.proofs.Images.{length_record}

-- a record is one door's
same_record : (d e : Door) → record_bytes d ≡ record_bytes e → d ≡ e
same_record d e h =
    let n = e.numbered in
    let b = e.badged in
    let t = e.timed in
    let w : Parted e.number e.badge e.time e.name (record_bytes e) = record { number_fits = omega arith; badge_fits = omega arith; time_fits = omega arith; whole = refl } in
    same_door d e (same_number w d h) (same_badge w d h) (same_time w d h) (same_name w d h)

-- zero bytes are none
zeros_are_none : (d : Door) → record_bytes d ≡ replicate 24 0 → ⊥
unfolding laid
zeros_are_none d h =
    let w : Parted 0 0 0 (replicate 10 0) (replicate 24 0) = record { number_fits = omega arith; badge_fits = omega arith; time_fits = omega arith; whole = refl } in
    let z : d.number ≡ 0 = same_number w d h in
    let n = d.numbered in
    omega arith

abbrev zero_bytes : ℕ → List ℕ
zero_bytes n = replicate n 0

split_zeros : (k m : ℕ) → zero_bytes (k + m) ≡ zero_bytes k ++ zero_bytes m
split_zeros zero m = ap zero_bytes (let e : 0 + m ≡ m = omega arith in e)
split_zeros (suc k) m = ap zero_bytes (let e : suc k + m ≡ suc (k + m) = omega arith in e) ∙ ap (λ (t : List ℕ). 0 ∷ t) (split_zeros k m)

take-zeros : (z : ℕ) → 24 ≤ z → take 24 (zero_bytes z) ≡ zero_bytes 24
take-zeros z h =
    ap (λ (n : ℕ). take 24 (zero_bytes n)) (let e : z ≡ 24 + (z - 24) = omega arith in e)
    ∙ ap (take 24) (split_zeros 24 (z - 24)) ∙ take_at (zero_bytes 24) (zero_bytes (z - 24)) 24 refl

-- what records and zero bytes hold
held : (n z : ℕ) (ds es : List Door) → length ds ≤ n → 24 * n ≤ 24 * length ds + z → Holds n (records ds ++ replicate z 0) es → es ≡ ds
held zero z [] [] l m h = refl
held zero z [] (e ∷ es) l m h = absurd h
held zero z (d ∷ ds) es l m h = let no : ⊥ = omega arith in absurd no
held (suc n) z [] [] l m h = refl
held (suc n) z [] (e ∷ es) l m h = absurd (zeros_are_none e (h.0 ∙ take-zeros z (omega arith)))
held (suc n) z (d ∷ ds) [] l m h = absurd (h d (sym (first_record d ds z)))
  where
    first_record : (d : Door) (ds : List Door) (z : ℕ) → take 24 ((record_bytes d ++ records ds) ++ replicate z 0) ≡ record_bytes d
    first_record d ds z = ap (take 24) (append_assoc (record_bytes d) (records ds) (replicate z 0)) ∙ take_at (record_bytes d) (records ds ++ replicate z 0) 24 (length_record d)
held (suc n) z (d ∷ ds) (e ∷ es) l m h =
    let rest : List ℕ = records ds ++ replicate z 0 in
    let whole : (record_bytes d ++ records ds) ++ replicate z 0 ≡ record_bytes d ++ rest = append_assoc (record_bytes d) (records ds) (replicate z 0) in
    let first : take 24 ((record_bytes d ++ records ds) ++ replicate z 0) ≡ record_bytes d = ap (take 24) whole ∙ take_at (record_bytes d) rest 24 (length_record d) in
    let behind : drop 24 ((record_bytes d ++ records ds) ++ replicate z 0) ≡ rest = ap (drop 24) whole ∙ drop_at (record_bytes d) rest 24 (length_record d) in
    ap₂ (λ (x : Door) (xs : List Door). x ∷ xs) (same_record e d (h.0 ∙ first)) (held n z ds es (omega arith) (omega arith) (subst (λ (t : List ℕ). Holds n t es) behind h.1))

pub held_image : (image : List ℕ) (es : List Door) → Holds 42 image es → (ds : List Door) → length ds ≤ 42 → image ≡ image_of ds → es ≡ ds
held_image image es h ds l e = held 42 (1024 - 24 * length ds) ds es l (omega arith) (subst (λ (t : List ℕ). Holds 42 t es) e h)

-- the doors of some places, up to the first that holds none
abbrev pub HoldsEach : List (List ℕ) → List Door → Type 0
HoldsEach [] [] = Unit {0}
HoldsEach [] (d ∷ ds) = ⊥
HoldsEach (p ∷ ps) [] = (d : Door) → record_bytes d ≡ p → ⊥
HoldsEach (p ∷ ps) (d ∷ ds) = (record_bytes d ≡ p) × HoldsEach ps ds

holds_chunks : (n : ℕ) (xs : List ℕ) (ds : List Door) → HoldsEach (first_chunks 24 n xs) ds → Holds n xs ds
holds_chunks zero xs [] h = tt
holds_chunks zero xs (d ∷ ds) h = absurd h
holds_chunks (suc n) xs [] h = h
holds_chunks (suc n) xs (d ∷ ds) h = (h.0, holds_chunks n (drop 24 xs) ds h.1)

-- reading on: what the places from i on hold, behind the doors before them, is what all places hold
abbrev pub Reading : ℕ → List (List ℕ) → List Door → Type 0
Reading i places ds = (rest : List Door) → HoldsEach (drop i places) rest → HoldsEach places (ds ++ rest)

module _ (places : List (List ℕ)) (ds : List Door) (i : ℕ) where
  pub reading_none : i < length places → ((d : Door) → record_bytes d ≡ get_or places i [] → ⊥) → Reading i places ds → HoldsEach places ds
  reading_none h none inv =
      subst (λ (t : List Door). HoldsEach places t) (append-nil ds) (inv [] (subst (λ (t : List (List ℕ)). HoldsEach t []) (sym (drop_more places i [] h)) none))

  pub reading_end : length places ≤ i → Reading i places ds → HoldsEach places ds
  reading_end h inv = subst (λ (t : List Door). HoldsEach places t) (append-nil ds) (inv [] (subst (λ (t : List (List ℕ)). HoldsEach t []) (sym (drop_all i places h)) tt))

-- what the places hold is what the image holds
pub held_places : (image : List ℕ) {places : List (List ℕ)} (ds : List Door) → length image ≡ 1024 → places ≡ first_chunks 24 (length image / 24) image → HoldsEach places ds → Holds 42 image ds
held_places image ds l e h =
    subst (λ (n : ℕ). Holds n image ds) (ap (λ (k : ℕ). k / 24) l) (holds_chunks (length image / 24) image ds (subst (λ (t : List (List ℕ)). HoldsEach t ds) e h))
