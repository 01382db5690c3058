-- What is left of the store below, and of a chip's memory, from what the pile means at the end.
use Rattle.std.proofs.Common.{◌≡◌, ℕ, ◌+◌, ◌<◌, true, false, List, length, sym, ap, ◌∙◌, ⊎_elim, arith, length-set}
use Rattle.std.specs.Int.Digits.{AllBelowBase}
use Rattle.std.proofs.lemmas.Bool.{cases_Bool, cond-true, cond-false, eqb-true}
use Rattle.block.specs.Blocks.{tweak}
use Rattle.mode.specs.Modes.{Sealing, Lawful, Text, permitted}
use Rattle.mode.proofs.Whole.{size_permitted}
use Rattle.store.specs.Stores.{Meaning, Sound, count, life, put, write_answer, after_write}
use Rattle.store.specs.Stores.Rest.{functions}
use Rattle.store.proofs.Tests.{write_accepted, write_puts}
use Rattle.store.proofs.Puts.{put_sound}
use Rattle.chip_math.specs.Chips.{chip, chip_count}
use Rattle.chip_math.proofs.Chipped.{count_is, life_is}
use Rattle.chip_math.proofs.Memory.{keeps_all}
use Rattle.chip_math.proofs.Written.{write_done}
use Rattle.places.specs.Parts.{part}
use Rattle.places.proofs.Parted as parted
use Rattle.window.specs.Windows.{first_of, count_of, window}
use Rattle.window.specs.Windowed.{rising, window_count, window_sound}
use Rattle.sealed.specs.Overs.{layer}
use Rattle.sealed.proofs.Books as books
use Rattle.sealed.proofs.Layers.{layer_count}
use Rattle.piles.specs.Memory.{taken, place, bytes_left, lives_left}

-- the store below, under a layer over a window
module _ (m m' : Meaning) (sm : Sound m) (sm' : Sound m') (f c f' c' : ℕ) (s s' : Sealing) (l : Lawful s) (l' : Lawful s') (k : ℕ) (xs : List ℕ) (u : AllBelowBase 256 xs)
    (e : layer (window m' f' c') s' ≡ after_write (layer (window m f c) s) k xs) where
  abbrev w : Meaning
  w = window m f c

  -- the pile says all of it
  same_below : (m₂ : Meaning) → Sound m₂ → layer (window m' f' c') s' ≡ layer (window m₂ f c) s → m' ≡ m₂
  same_below m₂ s₂ h =
      parted.says_all (λ i. first_of (count m') f' + i) (λ i. first_of (count m₂) f + i) (count_of (count m') f' c') (count_of (count m₂) f c) m' m₂
      (books.says_all (window m' f' c') (window m₂ f c) s' s (window_sound m' f' c' sm') (window_sound m₂ f c s₂) l' h).0

  pub left_as_it_was : taken m f c s k xs ≡ false → m' ≡ m
  left_as_it_was refused = same_below m sm (e ∙ cond-false _ _ _ refused)

  module _ (took : taken m f c s k xs ≡ true) where
    accepted : record { there : k < count (layer w s); long : length xs ≡ m.size; alive : 0 < life w k; fits : (layer w s).fits ≡ true }
    accepted =
        let a = write_accepted (layer w s) k (length xs) (eqb-true _ 0 took) in
        record { there = a.there; long = a.long; alive = a.alive; fits = a.fits }

    sw : Sound w
    sw = window_sound m f c sm

    pub shown : k < count_of (count m) f c
    shown =
        let a = accepted.there in
        let d = layer_count w s sw l in
        let b = window_count m f c in
        omega arith

    text : Text xs
    text = books.size_text m sm xs accepted.long u

    pub sealed_long : length (s.sealed (tweak k) xs) ≡ m.size
    sealed_long = l.sealed_length (tweak k) xs (books.tweak_below k) text ∙ accepted.long

    put_window : window (put m (place m f k) (s.sealed (tweak k) xs)) f c ≡ put w k (s.sealed (tweak k) xs)
    put_window =
        ap (λ (n : ℕ). part (put m (place m f k) (s.sealed (tweak k) xs)) (λ i. first_of n f + i) (count_of n f c)) (length-set m.sectors (place m f k) (s.sealed (tweak k) xs))
        ∙ parted.part_put m (λ i. first_of (count m) f + i) (count_of (count m) f c) sm (rising (count m) f c) k shown (s.sealed (tweak k) xs)

    put_layer : layer (put w k (s.sealed (tweak k) xs)) s ≡ put (layer w s) k xs
    put_layer = books.over_put w sw (λ _. s) (λ _. l) (permitted m.size) (size_permitted m.size sm.sized) (functions s) k xs text

    pub left_with_one : m' ≡ put m (place m f k) (s.sealed (tweak k) xs)
    left_with_one =
        same_below (put m (place m f k) (s.sealed (tweak k) xs))
        (put_sound m sm (place m f k) (s.sealed (tweak k) xs) sealed_long (l.sealed_bytes (tweak k) xs (books.tweak_below k) text))
        (e ∙ cond-true _ _ _ took ∙ sym (ap (λ (x : Meaning). layer x s) put_window ∙ put_layer))

    pub alive_below : 0 < life m (place m f k)
    alive_below =
        let a = accepted.alive in
        let b = parted.part_life m (λ i. first_of (count m) f + i) (count_of (count m) f c) k shown in
        omega arith

    pub there_below : place m f k < count m
    there_below = (rising (count m) f c).within k shown

-- a chip's memory, whole
module _ (size : ℕ) (b ls : List ℕ) (size' : ℕ) (b' ls' : List ℕ) (sm : Sound (chip size b ls)) (sm' : Sound (chip size' b' ls')) (f c f' c' : ℕ)
    (s s' : Sealing) (l : Lawful s) (l' : Lawful s') (k : ℕ) (xs : List ℕ) (u : AllBelowBase 256 xs)
    (e : layer (window (chip size' b' ls') f' c') s' ≡ after_write (layer (window (chip size b ls) f c) s) k xs) where
  abbrev m : Meaning
  m = chip size b ls

  -- chips that mean the same hold the same
  same_memory : (b₂ ls₂ : List ℕ) → chip size' b' ls' ≡ chip size b₂ ls₂ → record { size : size' ≡ size; bytes : b' ≡ b₂; lives : ls' ≡ ls₂ }
  same_memory b₂ ls₂ h =
      let sizes : size' ≡ size = ap (λ (x : Meaning). x.size) h in
      let r = keeps_all size b' ls' b₂ ls₂ (ap (λ (n : ℕ). chip n b' ls') (sym sizes) ∙ h) in
      record { size = sizes; bytes = r.0; lives = r.1 }

  pub memory_left : record { size : size' ≡ size; bytes : b' ≡ bytes_left m f c s k xs b; lives : ls' ≡ lives_left m f c s k xs ls }
  memory_left =
      ⊎_elim
      (λ (took : taken m f c s k xs ≡ true).
      let there = there_below m (chip size' b' ls') sm sm' f c f' c' s s' l l' k xs u e took in
      let counts = count_is size b ls in
      let h : place m f k < chip_count size b ls = omega arith in
      let long = sealed_long m (chip size' b' ls') sm sm' f c f' c' s s' l l' k xs u e took in
      let alive = alive_below m (chip size' b' ls') sm sm' f c f' c' s s' l l' k xs u e took in
      let life-at = life_is size b ls (place m f k) h in
      let done = write_done size b ls (place m f k) (s.sealed (tweak k) xs) h long (omega arith) in
      let zero : write_answer m (place m f k) (length (s.sealed (tweak k) xs)) ≡ 0 = sym done.reply in
      let r =
      same_memory _ _
      (left_with_one m (chip size' b' ls') sm sm' f c f' c' s s' l l' k xs u e took
      ∙ sym (done.after ∙ write_puts m (place m f k) (s.sealed (tweak k) xs) zero)) in
      record { size = r.size; bytes = r.bytes ∙ sym (cond-true _ _ b took); lives = r.lives ∙ sym (cond-true _ _ ls took) })
      (λ (refused : taken m f c s k xs ≡ false).
      let r = same_memory b ls (left_as_it_was m (chip size' b' ls') sm sm' f c f' c' s s' l l' k xs u e refused) in
      record { size = r.size; bytes = r.bytes ∙ sym (cond-false _ _ b refused); lives = r.lives ∙ sym (cond-false _ _ ls refused) })
      (cases_Bool (taken m f c s k xs))
