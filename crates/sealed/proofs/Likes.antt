-- Two sealed stores whose modes seal alike at each sector: their sectors are equal exactly when their books are.
use Rattle.std.proofs.Common.{◌≡◌, ℕ, ◌<◌, List, [], length, get_or, sym, ap, ◌∙◌, zero-add, arith}
use Rattle.std.proofs.lemmas.List.{same_lists, get_or_default}
use Rattle.block.specs.Blocks.{tweak}
use Rattle.mode.specs.Modes.{Sealing, Lawful, Alike, Text}
use Rattle.store.specs.Stores.{Meaning, Sound, count, sector}
use Rattle.store.proofs.Placed.{length-by_place, get_or_by_place}
use Rattle.sealed.specs.Overs.{opened_at, sealed_at, book_of}
use Rattle.sealed.proofs.Books.{tweak_below, size_text, sector_text}

module _ (m m' : Meaning) (s : Sound m) (s' : Sound m') (p q : ℕ → Sealing) (lp : (k : ℕ) → Lawful (p k)) (lq : (k : ℕ) → Lawful (q k))
    (sizes : m.size ≡ m'.size) (counts : count m ≡ count m') (like : (k : ℕ) → Alike m.size (p k) (q k)) where
  -- what q opens of a sector, p opens too
  same_opening : (k : ℕ) (xs : List ℕ) → Text xs → length xs ≡ m.size → opened_at q k xs ≡ opened_at p k xs
  same_opening k xs t long =
      let ys = opened_at q k xs in
      let long' : length ys ≡ m.size = (lq k).opened_length (tweak k) xs (tweak_below k) t ∙ long in
      let u = (lq k).opened_bytes (tweak k) xs (tweak_below k) t in
      sym ((lp k).opens (tweak k) ys (tweak_below k) (size_text m s ys long' u))
      ∙ ap (opened_at p k) ((like k).seals (tweak k) ys (tweak_below k) u long' ∙ (lq k).seals (tweak k) xs (tweak_below k) t)

  same_books : (k : ℕ) (d : List ℕ) (h : k < count m) → get_or (book_of p m.sectors) k d ≡ opened_at p k (sector m k)
  same_books k d h = get_or_by_place (opened_at p) 0 m.sectors k k [] d h (zero-add k)

  other_books : (k : ℕ) (d : List ℕ) (h : k < count m') → get_or (book_of q m'.sectors) k d ≡ opened_at p k (sector m' k)
  other_books k d h =
      get_or_by_place (opened_at q) 0 m'.sectors k k [] d h (zero-add k)
      ∙ same_opening k (sector m' k) (sector_text m' s' k h) (s'.sector_length k h ∙ sym sizes)

  pub equal_books : m.sectors ≡ m'.sectors → book_of p m.sectors ≡ book_of q m'.sectors
  equal_books e =
      same_lists _ _ (length-by_place (opened_at p) 0 m.sectors ∙ counts ∙ sym (length-by_place (opened_at q) 0 m'.sectors))
      (λ k d h.
      let l = length-by_place (opened_at p) 0 m.sectors in
      let h₁ : k < count m = omega arith in
      let h₂ : k < count m' = omega arith in
      same_books k d h₁ ∙ ap (λ (ss : List (List ℕ)). opened_at p k (get_or ss k [])) e ∙ sym (other_books k d h₂))

  pub equal_sectors : book_of p m.sectors ≡ book_of q m'.sectors → m.sectors ≡ m'.sectors
  equal_sectors e =
      same_lists _ _ counts
      (λ k d h.
      let h' : k < count m' = omega arith in
      let opened : opened_at p k (sector m k) ≡ opened_at p k (sector m' k) =
      sym (same_books k [] h) ∙ ap (λ (ss : List (List ℕ)). get_or ss k []) e ∙ other_books k [] h' in
      let t' = size_text m s (sector m' k) (s'.sector_length k h' ∙ sym sizes) (s'.sector_bytes k h') in
      get_or_default m.sectors k d [] h
      ∙ sym ((lp k).seals (tweak k) (sector m k) (tweak_below k) (sector_text m s k h))
      ∙ ap (sealed_at p k) opened
      ∙ (lp k).seals (tweak k) (sector m' k) (tweak_below k) t'
      ∙ get_or_default m'.sectors k [] d h')
