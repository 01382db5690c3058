-- Over a sound store, sectors opened by any choice of lawful modes are those of a sound store; a sector sealed below is a sector put above.
use Rattle.std.proofs.Common.{◌≡◌, ℕ, ◌^◌, ◌<◌, Bool, true, false, cond, ◌&&◌, eqb, ltb, List, [], length, set, sym, refl, ap, ◌∙◌, subst, zero-add, arith}
use Rattle.std.specs.Int.Digits.{AllBelowBase}
use Rattle.std.proofs.lemmas.List.{same_lists, get_or_default}
use Rattle.block.specs.Blocks.{tweak}
use Rattle.block.proofs.Swaps.{swapped_below}
use Rattle.mode.specs.Modes.{Sealing, Text, Lawful, permitted}
use Rattle.mode.proofs.Whole.{size_permitted}
use Rattle.store.specs.Stores.{Meaning, Sound, Rest, count, sector, life, put, read_answer, write_answer}
use Rattle.store.specs.Stores.Rest.{functions}
use Rattle.store.proofs.Placed.{length-by_place, get_or_by_place, by_place-set}
use Rattle.store.proofs.Same.{same_meaning}
use Rattle.sealed.specs.Overs.{opened_at, sealed_at, book_of, over, layer, SaysAll}

and_true : (b p : Bool) → p ≡ true → (b && p) ≡ b
and_true true p e = e
and_true false p e = refl

pub tweak_below : (k : ℕ) → tweak k < 2 ^ 128
tweak_below k = swapped_below k

pub size_text : (m : Meaning) → Sound m → (xs : List ℕ) → length xs ≡ m.size → AllBelowBase 256 xs → Text xs
size_text m s xs long u = record { fits = ap permitted long ∙ size_permitted m.size s.sized; bytes = u }

pub sector_text : (m : Meaning) → Sound m → (k : ℕ) → k < count m → Text (sector m k)
sector_text m s k h = size_text m s (sector m k) (s.sector_length k h) (s.sector_bytes k h)

module _ (m : Meaning) (s : Sound m) (pick : ℕ → Sealing) (law : (k : ℕ) → Lawful (pick k)) (ok : Bool) (yes : ok ≡ true) (modes : Rest) where
  pub over_count : count (over m pick ok modes) ≡ count m
  over_count = length-by_place (opened_at pick) 0 m.sectors

  pub over_fits : (over m pick ok modes).fits ≡ m.fits
  over_fits = and_true m.fits ok yes

  pub over_sector : (k : ℕ) → k < count m → sector (over m pick ok modes) k ≡ opened_at pick k (sector m k)
  over_sector k h = get_or_by_place (opened_at pick) 0 m.sectors k k [] [] h (zero-add k)

  -- each sector below is that of the book, sealed
  pub sealed_sector : (k : ℕ) → k < count m → sector m k ≡ sealed_at pick k (sector (over m pick ok modes) k)
  sealed_sector k h = sym (ap (sealed_at pick k) (over_sector k h) ∙ (law k).seals (tweak k) (sector m k) (tweak_below k) (sector_text m s k h))

  pub over_sound : Sound (over m pick ok modes)
  over_sound =
      let e = over_count in
      let few = s.few in
      record {
        sized = s.sized;
        few = omega arith;
        lives_length = s.lives_length ∙ sym e;
        sector_length = λ k h.
            let h' : k < count m = omega arith in
            ap length (over_sector k h') ∙ (law k).opened_length (tweak k) (sector m k) (tweak_below k) (sector_text m s k h') ∙ s.sector_length k h';
        sector_bytes = λ k h.
            let h' : k < count m = omega arith in
            subst (AllBelowBase 256) (sym (over_sector k h')) ((law k).opened_bytes (tweak k) (sector m k) (tweak_below k) (sector_text m s k h'));
        life_small = λ k h. s.life_small k (omega arith);
      }

  pub over_read_answer : (k n : ℕ) → read_answer m k n ≡ read_answer (over m pick ok modes) k n
  over_read_answer k n =
      ap (λ (c : ℕ). cond (ltb k c) (cond (eqb n m.size) (cond m.fits 0 9) 2) 3) (sym over_count)
      ∙ ap (λ (b : Bool). cond (ltb k (count (over m pick ok modes))) (cond (eqb n m.size) (cond b 0 9) 2) 3) (sym over_fits)

  pub over_write_answer : (k n : ℕ) → write_answer m k n ≡ write_answer (over m pick ok modes) k n
  over_write_answer k n =
      ap (λ (c : ℕ). cond (ltb k c) (cond (eqb n m.size) (cond (ltb 0 (life m k)) (cond m.fits 0 9) 7) 2) 3) (sym over_count)
      ∙ ap (λ (b : Bool). cond (ltb k (count (over m pick ok modes))) (cond (eqb n m.size) (cond (ltb 0 (life m k)) (cond b 0 9) 7) 2) 3) (sym over_fits)

  -- a sector sealed and put below is that sector put into the book
  pub over_put : (k : ℕ) (xs : List ℕ) → Text xs → over (put m k (sealed_at pick k xs)) pick ok modes ≡ put (over m pick ok modes) k xs
  over_put k xs t =
      same_meaning (over (put m k (sealed_at pick k xs)) pick ok modes) (put (over m pick ok modes) k xs) refl refl
      (by_place-set (opened_at pick) 0 m.sectors k k (sealed_at pick k xs) (zero-add k)
      ∙ ap (set (book_of pick m.sectors) k) ((law k).opens (tweak k) xs (tweak_below k) t))
      refl refl

-- the book and the lives say all of the sealed store
says_below : (m m' : Meaning) (s : Sealing) → Sound m → Sound m' → Lawful s → layer m s ≡ layer m' s → m ≡ m'
says_below m m' s sm sm' l e =
    let p = size_permitted m.size sm.sized in
    let p' = size_permitted m'.size sm'.sized in
    let counts : count m ≡ count m' =
    sym (over_count m sm (λ _. s) (λ _. l) (permitted m.size) p (functions s)) ∙ ap count e ∙ over_count m' sm' (λ _. s) (λ _. l) (permitted m'.size) p' (functions s) in
    let rests : (layer m s).rest ≡ (layer m' s).rest = ap (λ (x : Meaning). x.rest) e in
    same_meaning m m' (ap (λ (x : Meaning). x.size) e)
    (sym (over_fits m sm (λ _. s) (λ _. l) (permitted m.size) p (functions s)) ∙ ap (λ (x : Meaning). x.fits) e ∙ over_fits m' sm' (λ _. s) (λ _. l) (permitted m'.size) p' (functions s))
    (same_lists m.sectors m'.sectors counts
    (λ k d h.
    let h' : k < count m' = omega arith in
    get_or_default m.sectors k d [] h
    ∙ sealed_sector m sm (λ _. s) (λ _. l) (permitted m.size) p (functions s) k h
    ∙ ap (λ (x : Meaning). s.sealed (tweak k) (sector x k)) e
    ∙ sym (sealed_sector m' sm' (λ _. s) (λ _. l) (permitted m'.size) p' (functions s) k h')
    ∙ get_or_default m'.sectors k [] d h'))
    (ap (λ (x : Meaning). x.lives) e) (cc)

pub says_all : SaysAll
says_all m m' s s' sm sm' l e =
    let rests : (layer m s).rest ≡ (layer m' s').rest = ap (λ (x : Meaning). x.rest) e in
    let same : s ≡ s' = cc in
    (says_below m m' s sm sm' l (e ∙ ap (layer m') (sym same)), same)
