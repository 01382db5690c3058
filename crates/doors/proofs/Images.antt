-- Records are laid one after the other.
use Rattle.std.proofs.Common.{◌≡◌, ℕ, ◌+◌, ◌-◌, ◌*◌, ◌<◌, List, [], ◌∷◌, ◌++◌, length, get_or, take, drop, replicate, sym, refl, ap, ◌∙◌, arith, length-append}
use borrow.Rule.Slice.PartMut.{put_mid}
use Rattle.std.proofs.lemmas.List.{append_assoc, append-nil, drop_at, drop-replicate, length-take-le, take_at, take_more}
use Rattle.doors.specs.Records.{laid, record_bytes}
use Rattle.doors.specs.Rounds.{records}
use Rattle.doors.specs.declared.types.Door.{Door}

pub length_record : (d : Door) → length (record_bytes d) ≡ 24
unfolding laid
length_record d = let h = d.long in omega arith

length-records : (ds : List Door) → length (records ds) ≡ 24 * length ds
length-records [] = refl
length-records (d ∷ ds) = let a = length_record d in let b = length-records ds in length-append (record_bytes d) (records ds) ∙ omega arith

records_push : (ds : List Door) (d : Door) → records (ds ++ d ∷ []) ≡ records ds ++ record_bytes d
records_push [] d = append-nil (record_bytes d)
records_push (e ∷ ds) d = ap (λ (t : List ℕ). record_bytes e ++ t) (records_push ds d) ∙ sym (append_assoc (record_bytes e) (records ds) (record_bytes d))

less : (i : ℕ) → 1024 - 24 * i - 24 ≡ 1024 - 24 * (i + 1)
less i = omega arith

pub laid_more : (ds : List Door) (i : ℕ) (d : Door) (image bytes : List ℕ) → i < length ds → d ≡ get_or ds i d → i < 42 → image ≡ records (take i ds) ++ replicate (1024 - 24 * i) 0 → bytes ≡ record_bytes d
    → put_mid (24 * i) 24 image bytes ≡ records (take (i + 1) ds) ++ replicate (1024 - 24 * (i + 1)) 0
laid_more ds i d image bytes h k m e b =
    let p : List ℕ = records (take i ds) in
    let z : List ℕ = replicate (1024 - 24 * i) 0 in
    let n : length p ≡ 24 * i = length-records (take i ds) ∙ ap (λ (j : ℕ). 24 * j) (length-take-le i ds (omega arith)) in
    let first : take (24 * i) image ≡ p = ap (take (24 * i)) e ∙ take_at p z (24 * i) n in
    let behind : drop (24 * i) image ≡ z = ap (drop (24 * i)) e ∙ drop_at p z (24 * i) n in
    let last : drop 24 (drop (24 * i) image) ≡ replicate (1024 - 24 * (i + 1)) 0 = ap (λ (t : List ℕ). drop 24 t) behind ∙ drop-replicate 24 (1024 - 24 * i) 0 ∙ ap (λ (x : ℕ). replicate x 0) (less i) in
    let more : records (take (i + 1) ds) ≡ p ++ record_bytes d = ap records (take_more ds i d h ∙ ap (λ (x : Door). take i ds ++ x ∷ []) (sym k)) ∙ records_push (take i ds) d in
    let put : put_mid (24 * i) 24 image bytes ≡ p ++ (record_bytes d ++ replicate (1024 - 24 * (i + 1)) 0) = λ q. first q ++ (b q ++ last q) in
    let group : (p ++ record_bytes d) ++ replicate (1024 - 24 * (i + 1)) 0 ≡ p ++ (record_bytes d ++ replicate (1024 - 24 * (i + 1)) 0) = append_assoc p (record_bytes d) (replicate (1024 - 24 * (i + 1)) 0) in
    put ∙ sym group ∙ ap (λ (t : List ℕ). t ++ replicate (1024 - 24 * (i + 1)) 0) (sym more)
