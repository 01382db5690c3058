-- A sealing layer: the same mode for every sector.
use Rattle.std.proofs.Common.{◌≡◌, ℕ, ◌≤◌, Bool, true, false, cond, eqb, ltb, List, length, sym, refl, ap, ◌∙◌}
use Rattle.std.proofs.lemmas.Bool.{ne_eqb, cond-false}
use Rattle.std.specs.Int.Digits.{AllBelowBase}
use Rattle.mode.specs.Modes.{Sealing, Lawful, permitted}
use Rattle.mode.proofs.Whole.{size_permitted, at_most}
use Rattle.block.specs.Blocks.{tweak}
use Rattle.store.specs.Stores.{Meaning, Sound, count, put, life_answer, read_answer, write_answer, after_read, after_write}
use Rattle.store.specs.Stores.Rest.{functions}
use Rattle.sealed.specs.Overs.{over, layer, sealing_answer, after_sealing}
use Rattle.sealed.proofs.Books.{over_count, over_sound, over_read_answer, over_write_answer}
use Rattle.sealed.proofs.Calls as calls
use Rattle.sealed.proofs.Calls.{checked}

-- sealing and writing leave the sector size
sealing_size : (m : Meaning) (s : Sealing) (k : ℕ) (xs : List ℕ) → (after_sealing m s k xs).size ≡ m.size
sealing_size m s k xs = go (permitted (length xs)) (eqb (write_answer m k (length (s.sealed (tweak k) xs))) 0)
  where
    go : (a b : Bool) → (cond a (cond b (put m k (s.sealed (tweak k) xs)) m) m).size ≡ m.size
    go true true = refl
    go true false = refl
    go false b = refl

module _ (m : Meaning) (s : Sealing) (sm : Sound m) (l : Lawful s) where
  permits : permitted m.size ≡ true
  permits = size_permitted m.size sm.sized

  pub at_most_4096 : m.size ≤ 4096
  at_most_4096 = at_most m.size permits

  pub layer_count : count m ≡ count (layer m s)
  layer_count = sym (over_count m sm (λ _. s) (λ _. l) (permitted m.size) permits (functions s))

  pub layer_life : (k : ℕ) → life_answer m k ≡ life_answer (layer m s) k
  layer_life k = ap (λ (n : ℕ). cond (ltb k n) 0 3) layer_count

  pub layer_read : (k n : ℕ) → read_answer m k n ≡ read_answer (layer m s) k n
  layer_read k n = over_read_answer m sm (λ _. s) (λ _. l) (permitted m.size) permits (functions s) k n

  -- a refused read leaves the bytes, here as below
  pub refused_read : (k a : ℕ) (xs ys : List ℕ) → (a ≡ 0 → ⊥) → a ≡ read_answer m k (length xs) → ys ≡ after_read m k xs → ys ≡ after_read (layer m s) k xs
  refused_read k a xs ys no-0 e f =
      f ∙ cond-false _ _ xs (ne_eqb _ 0 (λ z. no-0 (e ∙ z))) ∙ sym (cond-false _ _ xs (ne_eqb _ 0 (λ z. no-0 (e ∙ layer_read k (length xs) ∙ z))))

  pub layer_write : (k n : ℕ) → write_answer m k n ≡ write_answer (layer m s) k n
  layer_write k n = over_write_answer m sm (λ _. s) (λ _. l) (permitted m.size) permits (functions s) k n

  pub layer_sound : Sound (layer m s)
  layer_sound = over_sound m sm (λ _. s) (λ _. l) (permitted m.size) permits (functions s)

  -- a write that is refused before any byte is sealed leaves the store
  pub write_refused : (k a n : ℕ) → (a ≡ 0 → ⊥) → a ≡ checked m k n → (xs : List ℕ) → n ≡ length xs
      → record { reply : a ≡ write_answer (layer m s) k (length xs); after : layer m s ≡ after_write (layer m s) k xs }
  write_refused k a n no-0 e xs long = calls.write_refused m sm (λ _. s) (λ _. l) (permitted m.size) permits (functions s) k a n no-0 e xs long

  pub write_sealed : (k : ℕ) (xs : List ℕ) → length xs ≡ m.size → AllBelowBase 256 xs → (m' : Meaning) → m' ≡ after_sealing m s k xs
      → record { reply : sealing_answer m s k xs ≡ write_answer (layer m s) k (length xs); after : layer m' s ≡ after_write (layer m s) k xs }
  write_sealed k xs long u m' e =
      let r = calls.write_sealed m sm (λ _. s) (λ _. l) (permitted m.size) permits (functions s) k xs long u in
      record {
        reply = r.reply;
        after =
            ap (λ (n : ℕ). over m' (λ _. s) (permitted n) (functions s)) (ap (λ (x : Meaning). x.size) e ∙ sealing_size m s k xs)
            ∙ ap (λ (x : Meaning). over x (λ _. s) (permitted m.size) (functions s)) e
            ∙ r.after;
      }
