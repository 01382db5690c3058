-- A chip's count, sectors and lives, and its laws as a store.
use Rattle.std.proofs.Common.{◌≡◌, ℕ, suc, ◌+◌, ◌*◌, ◌/◌, ◌^◌, ◌<◌, ◌≤◌, min, true, List, [], length, get_or, take, drop, sym, refl, ap, ◌∙◌, subst, mul-le-mul_right, suc-mul, zero-add, div-mul-le_self, arith, length-drop, length-take, get_or-take}
use native.Mathlib.Nat.{min-le_left, min-le_right}
use Rattle.std.specs.Int.Digits.{AllBelowBase}
use Rattle.std.proofs.lemmas.List.FromFn.{length-map-range_with_len, get_or-map-range_with_len}
use Rattle.std.proofs.ByRecursion.{All-from_get_or, All-take, All-drop}
use Rattle.mode.specs.Modes.{sector_size}
use Rattle.store.specs.Stores.{Sound, count, life, sector}
use Rattle.chip_math.specs.Chips.{Laid, chip_count, chip_sector, chip}

module _ (size : ℕ) (bytes lives : List ℕ) where
  abbrev n : ℕ
  n = chip_count size bytes lives

  pub count_is : count (chip size bytes lives) ≡ n
  count_is = length-map-range_with_len (chip_sector size bytes) 0 n

  -- the sectors lie within the bytes, and their lives within the lives
  pub whole_bytes : n * size ≤ length bytes
  whole_bytes =
      let a = min-le_right 2048 (min (length bytes / size) (length lives)) in
      let b = min-le_left (length bytes / size) (length lives) in
      let c : n ≤ length bytes / size = omega arith in
      let d = mul-le-mul_right size c in
      let e = div-mul-le_self (length bytes) size in
      omega arith

  pub whole_lives : n ≤ length lives
  whole_lives =
      let a = min-le_right 2048 (min (length bytes / size) (length lives)) in
      let b = min-le_right (length bytes / size) (length lives) in
      omega arith

  -- a sector ends where those up to it do
  pub ends : (k : ℕ) → k < n → k * size + size ≤ n * size
  ends k h =
      let d = mul-le-mul_right {m = suc k} {n = n} size h in
      let f = suc-mul k size in
      omega arith

  pub in_bytes : (k : ℕ) → k < n → k * size + size ≤ length bytes
  in_bytes k h = omega (arith, ends k h, whole_bytes)

  pub in_lives : (k : ℕ) → k < n → k < length lives
  in_lives k h = omega (arith, whole_lives)

  pub sector_is : (k : ℕ) → k < n → sector (chip size bytes lives) k ≡ chip_sector size bytes k
  sector_is k h = get_or-map-range_with_len (chip_sector size bytes) 0 n k k [] h (zero-add k)

  pub life_is : (k : ℕ) → k < n → life (chip size bytes lives) k ≡ get_or lives k 0
  life_is k h = get_or-take n lives k 0 h

  pub laid : Laid size bytes lives (chip size bytes lives)
  laid = record { sized = refl; counts = count_is; sectors = sector_is; each_life = life_is }

  pub chip_sound : sector_size size ≡ true → ((i : ℕ) → get_or bytes i 0 < 256) → ((i : ℕ) → get_or lives i 0 < 2 ^ 32) → Sound (chip size bytes lives)
  chip_sound p small fits =
      let e = count_is in
      let w = whole_lives in
      let l : length (take n lives) ≡ n = simp length-take (omega arith) in
      let u : AllBelowBase 256 bytes = All-from_get_or (λ x. x < 256) bytes 0 (λ i _. small i) in
      record {
        sized = p;
        few = let a = min-le_left 2048 (min (length bytes / size) (length lives)) in omega arith;
        lives_length = l ∙ sym e;
        sector_length = λ k h.
            let h' : k < n = omega arith in
            let r = in_bytes k h' in
            ap length (sector_is k h') ∙ simp (length-take, length-drop) (omega arith);
        sector_bytes = λ k h.
            let h' : k < n = omega arith in
            subst (AllBelowBase 256) (sym (sector_is k h')) (All-take (λ x. x < 256) size (drop (k * size) bytes) (All-drop (λ x. x < 256) (k * size) bytes u));
        life_small = λ k h.
            let h' : k < n = omega arith in
            let r = life_is k h' in
            let s = fits k in
            omega arith;
      }
