-- Two copies are equal exactly when the two books are.
use Rattle.std.proofs.Common.{◌≡◌, ℕ, ◌^◌, ◌<◌, List, ◌++◌, length, take, drop, sym, ap, ◌∙◌, ap₂, arith, length-drop, take-append-drop, take_at, drop_at}
use Rattle.std.proofs.lemmas.List.{length-take-le}
use Rattle.std.proofs.ByRecursion.{All-take, All-drop}
use Rattle.block.specs.Blocks.{tweak}
use Rattle.block.proofs.Swaps.{swapped_below}
use Rattle.mode.specs.Modes.{Sealing, Lawful, Alike, Text}
use Rattle.mode.proofs.Whole.{text_512}
use Rattle.copies.specs.Copies.{Book, copy}

module _ (a : List ℕ) (k : Book a) where
  first_long : length (take 512 a) ≡ 512
  first_long = let l = k.long in length-take-le 512 a (omega arith)

  second_long : length (drop 512 a) ≡ 512
  second_long = let l = k.long in length-drop 512 a ∙ omega arith

  first_text : Text (take 512 a)
  first_text = text_512 (take 512 a) first_long (All-take (λ d. d < 256) 512 a k.bytes)

  second_text : Text (drop 512 a)
  second_text = text_512 (drop 512 a) second_long (All-drop (λ d. d < 256) 512 a k.bytes)

module _ (p q : Sealing) (lp : Lawful p) (lq : Lawful q) (like : Alike 512 p q) (a b : List ℕ) (ka : Book a) (kb : Book b) where
  small₀ : tweak 0 < 2 ^ 128
  small₀ = swapped_below 0

  small₁ : tweak 1 < 2 ^ 128
  small₁ = swapped_below 1

  -- b's copy by q is its copy by p
  same_mode : copy p b ≡ copy q b
  same_mode =
      ap₂ (λ (xs ys : List ℕ). xs ++ ys)
      (like.seals (tweak 0) (take 512 b) small₀ (first_text b kb).bytes (first_long b kb))
      (like.seals (tweak 1) (drop 512 b) small₁ (second_text b kb).bytes (second_long b kb))

  pub equal_books : a ≡ b → copy p a ≡ copy q b
  equal_books e = ap (copy p) e ∙ same_mode

  pub equal_copies : copy p a ≡ copy q b → a ≡ b
  equal_copies e =
      let both : copy p a ≡ copy p b = e ∙ sym same_mode in
      let la : length (p.sealed (tweak 0) (take 512 a)) ≡ 512 = lp.sealed_length (tweak 0) (take 512 a) small₀ (first_text a ka) ∙ first_long a ka in
      let lb : length (p.sealed (tweak 0) (take 512 b)) ≡ 512 = lp.sealed_length (tweak 0) (take 512 b) small₀ (first_text b kb) ∙ first_long b kb in
      let s₀ : p.sealed (tweak 0) (take 512 a) ≡ p.sealed (tweak 0) (take 512 b) =
      sym (take_at (p.sealed (tweak 0) (take 512 a)) (p.sealed (tweak 1) (drop 512 a)) 512 la) ∙ ap (take 512) both
      ∙ take_at (p.sealed (tweak 0) (take 512 b)) (p.sealed (tweak 1) (drop 512 b)) 512 lb in
      let s₁ : p.sealed (tweak 1) (drop 512 a) ≡ p.sealed (tweak 1) (drop 512 b) =
      sym (drop_at (p.sealed (tweak 0) (take 512 a)) (p.sealed (tweak 1) (drop 512 a)) 512 la) ∙ ap (drop 512) both
      ∙ drop_at (p.sealed (tweak 0) (take 512 b)) (p.sealed (tweak 1) (drop 512 b)) 512 lb in
      let o₀ : take 512 a ≡ take 512 b =
      sym (lp.opens (tweak 0) (take 512 a) small₀ (first_text a ka)) ∙ ap (p.opened (tweak 0)) s₀ ∙ lp.opens (tweak 0) (take 512 b) small₀ (first_text b kb) in
      let o₁ : drop 512 a ≡ drop 512 b =
      sym (lp.opens (tweak 1) (drop 512 a) small₁ (second_text a ka)) ∙ ap (p.opened (tweak 1)) s₁ ∙ lp.opens (tweak 1) (drop 512 b) small₁ (second_text b kb) in
      sym (take-append-drop 512 a) ∙ ap₂ (λ (xs ys : List ℕ). xs ++ ys) o₀ o₁ ∙ take-append-drop 512 b
