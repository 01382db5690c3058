-- Doors with equal fields are equal, and a record is that of one door at most.
use Rattle.std.proofs.Common.{◌≡◌, ℕ, ◌+◌, ◌^◌, ◌<◌, ◌≤◌, true, List, ◌++◌, length, get_or, take, drop, sym, ap, ◌∙◌, arith, length-drop}
use native.Mathlib.Bridge.{le_prop}
use native.Mathlib.Nat.{ℕ_set}
use mathlib.Core.Bool.{Bool-set}
use mathlib.Core.HLevel.{is_prop→PathP, ×_prop}
use Rattle.std.proofs.lemmas.List.{drop-drop, take_all, take-append-drop}
use Rattle.std.proofs.lemmas.Grind.{common_steps}
use Rattle.std.proofs.lemmas.Nat.{be_bytes_2, be_bytes_4, be_bytes_8, from_be_bytes-to_be_bytes_2, from_be_bytes-to_be_bytes_4, from_be_bytes-to_be_bytes_8}
use Rattle.std.specs.Int.{from_be_bytes, w16, w32, w64}
use Rattle.doors.specs.Names.{padded}
use Rattle.doors.specs.Records.{Parted, bytes2, bytes4, bytes8, laid, record_bytes}
use Rattle.doors.specs.declared.types.Door.{Door}

-- the facts that a door carries are propositions
pub same_door : (d e : Door) → d.number ≡ e.number → d.badge ≡ e.badge → d.time ≡ e.time → d.name ≡ e.name → d ≡ e
same_door d e p q r s = λ i. record {
  number = p i;
  badge = q i;
  time = r i;
  name = s i;
  numbered = is_prop→PathP (λ j. (1 ≤ p j) × (p j ≤ 65535)) (λ j. ×_prop le_prop le_prop) d.numbered e.numbered i;
  badged = is_prop→PathP (λ j. q j ≤ 999999) (λ j. le_prop) d.badged e.badged i;
  timed = is_prop→PathP (λ j. r j ≤ 9999999999) (λ j. le_prop) d.timed e.timed i;
  long = is_prop→PathP (λ j. length (s j) ≡ 10) (λ j. ℕ_set (length (s j)) 10) d.long e.long i;
  some = is_prop→PathP (λ j. 1 ≤ get_or (s j) 0 0) (λ j. le_prop) d.some e.some i;
  named = is_prop→PathP (λ j. padded (s j) ≡ true) (λ j. Bool-set (padded (s j)) true) d.named e.named i;
}

module _ {n b t : ℕ} {name bytes : List ℕ} (w : Parted n b t name bytes) (d : Door) (e : record_bytes d ≡ bytes) where
  same : bytes2 d.number ++ (bytes4 d.badge ++ (bytes8 d.time ++ d.name)) ≡ bytes2 n ++ (bytes4 b ++ (bytes8 t ++ name))
  unfolding laid
  same = e ∙ sym w.whole

  pub same_number : d.number ≡ n
  same_number = let f = d.numbered in sym (from_be_bytes-to_be_bytes_2 d.number (omega arith)) ∙ ap (λ (s : List ℕ). from_be_bytes w16 (take 2 s)) same ∙ from_be_bytes-to_be_bytes_2 n w.number_fits

  pub same_badge : d.badge ≡ b
  same_badge = let f = d.badged in sym (from_be_bytes-to_be_bytes_4 d.badge (omega arith)) ∙ ap (λ (s : List ℕ). from_be_bytes w32 (take 4 (drop 2 s))) same ∙ from_be_bytes-to_be_bytes_4 b w.badge_fits

  pub same_time : d.time ≡ t
  same_time = let f = d.timed in sym (from_be_bytes-to_be_bytes_8 d.time (omega arith)) ∙ ap (λ (s : List ℕ). from_be_bytes w64 (take 8 (drop 6 s))) same ∙ from_be_bytes-to_be_bytes_8 t w.time_fits

  pub same_name : d.name ≡ name
  same_name = ap (drop 14) same

module _ (bytes : List ℕ) (long : length bytes ≡ 24) (fits : (i : ℕ) → get_or bytes i 0 < 256) where
  part_long : (k m : ℕ) → m + k ≤ 24 → length (take k (drop m bytes)) ≡ k
  part_long k m h = grind (arith, common_steps)

  part_fits : (k m i : ℕ) → get_or (take k (drop m bytes)) i 0 < 256
  part_fits k m i = let f = fits (m + i) in grind (arith, common_steps)

  pub parted : {n b t : ℕ} {x y z name : List ℕ} → n < 2 ^ 16 → b < 2 ^ 32 → t < 2 ^ 64 → x ≡ take 2 (drop 0 bytes) → n ≡ from_be_bytes w16 x → y ≡ take 4 (drop 2 bytes) → b ≡ from_be_bytes w32 y
      → z ≡ take 8 (drop 6 bytes) → t ≡ from_be_bytes w64 z → name ≡ take 10 (drop 14 bytes) → Parted n b t name bytes
  unfolding laid
  parted {n} {b} {t} {x} {y} {z} {name} hn hb ht ex en ey eb ez et em =
      let first : bytes2 n ≡ take 2 bytes = be_bytes_2 (take 2 (drop 0 bytes)) n (part_long 2 0 (omega arith)) (part_fits 2 0) (en ∙ ap (from_be_bytes w16) ex) in
      let second : bytes4 b ≡ take 4 (drop 2 bytes) = be_bytes_4 (take 4 (drop 2 bytes)) b (part_long 4 2 (omega arith)) (part_fits 4 2) (eb ∙ ap (from_be_bytes w32) ey) in
      let third : bytes8 t ≡ take 8 (drop 6 bytes) = be_bytes_8 (take 8 (drop 6 bytes)) t (part_long 8 6 (omega arith)) (part_fits 8 6) (et ∙ ap (from_be_bytes w64) ez) in
      let last : name ≡ drop 14 bytes = em ∙ take_all 10 (drop 14 bytes) (simp length-drop (omega arith)) in
      let from6 : bytes8 t ++ name ≡ drop 6 bytes = (λ i. third i ++ (last ∙ sym (drop-drop 8 6 bytes)) i) ∙ take-append-drop 8 (drop 6 bytes) in
      let from2 : bytes4 b ++ (bytes8 t ++ name) ≡ drop 2 bytes = (λ i. second i ++ (from6 ∙ sym (drop-drop 4 2 bytes)) i) ∙ take-append-drop 4 (drop 2 bytes) in
      record { number_fits = hn; badge_fits = hb; time_fits = ht; whole = (λ i. first i ++ from2 i) ∙ take-append-drop 2 bytes }
