-- Each call of a store that shows sealed sectors plain, against the call below.
use Rattle.std.proofs.Common.{◌≡◌, ℕ, ◌<◌, Bool, true, false, cond, eqb, List, length, sym, refl, ap, ◌∙◌, arith}
use Rattle.std.specs.Int.Digits.{AllBelowBase}
use Rattle.std.proofs.lemmas.Bool.{cond-true}
use Rattle.std.proofs.lemmas.Bool.Decides.{nat_tests}
use Rattle.block.specs.Blocks.{tweak}
use Rattle.mode.specs.Modes.{Sealing, Lawful, permitted, opened_or, sealed_or}
use Rattle.store.specs.Stores.{Meaning, Sound, Rest, count, sector, life, put, sector_test, buffer_test, life_test, read_answer, write_answer, after_read, after_write}
use Rattle.store.proofs.Tests as tests
use Rattle.sealed.specs.Overs.{opened_at, sealed_at, over, layer_answer, sealing_answer, after_sealing}
use Rattle.sealed.proofs.Books.{tweak_below, size_text, sector_text, over_sector, over_read_answer, over_write_answer, over_put}

-- what the tests before a write answer, and what they say where they pass
abbrev pub checked : Meaning → ℕ → ℕ → ℕ
checked m k n = sector_test m k (buffer_test m n (life_test m k 0))

pub checks_passed : (m : Meaning) (k n : ℕ) → checked m k n ≡ 0 → record { there : k < count m; long : n ≡ m.size; alive : 0 < life m k }
checks_passed m k n e = record { there = grind (arith, nat_tests); long = grind (arith, nat_tests); alive = grind (arith, nat_tests) }

pub checks_refuse : (m : Meaning) (k n a : ℕ) → (a ≡ 0 → ⊥) → a ≡ checked m k n → a ≡ write_answer m k n
checks_refuse m k n a no-0 e = grind (arith, nat_tests)

module _ (m : Meaning) (s : Sound m) (pick : ℕ → Sealing) (law : (k : ℕ) → Lawful (pick k)) (ok : Bool) (yes : ok ≡ true) (modes : Rest) (k : ℕ) where
  abbrev o : Meaning
  o = over m pick ok modes

  -- a read that is refused below leaves the bytes, here as below
  pub read_refused : (a : ℕ) (xs ys : List ℕ) → (a ≡ 0 → ⊥) → a ≡ read_answer m k (length xs) → ys ≡ after_read m k xs
      → record { reply : a ≡ read_answer o k (length xs); bytes : ys ≡ after_read o k xs }
  read_refused a xs ys no-0 e f =
      let above : a ≡ read_answer o k (length xs) = e ∙ over_read_answer m s pick law ok yes modes k (length xs) in
      record { reply = above; bytes = f ∙ tests.read_keeps m k xs (λ z. no-0 (e ∙ z)) ∙ sym (tests.read_keeps o k xs (λ z. no-0 (above ∙ z))) }

  pub read_opened : (xs ys : List ℕ) → 0 ≡ read_answer m k (length xs) → ys ≡ after_read m k xs
      → record { permits : permitted (length ys) ≡ true; reply : 0 ≡ read_answer o k (length xs); bytes : opened_or (pick k) (tweak k) ys ≡ after_read o k xs }
  read_opened xs ys e f =
      let was = tests.read_accepted m k (length xs) (sym e) in
      let is : ys ≡ sector m k = f ∙ tests.read_fills m k xs (sym e) in
      let p : permitted (length ys) ≡ true = ap (λ (x : List ℕ). permitted (length x)) is ∙ (sector_text m s k was.there).fits in
      let above : 0 ≡ read_answer o k (length xs) = e ∙ over_read_answer m s pick law ok yes modes k (length xs) in
      record {
        permits = p;
        reply = above;
        bytes = cond-true _ _ _ p ∙ ap (opened_at pick k) is ∙ sym (over_sector m s pick law ok yes modes k was.there) ∙ sym (tests.read_fills o k xs (sym above));
      }

  -- a write that is refused before any byte is sealed leaves the store
  pub write_refused : (a n : ℕ) → (a ≡ 0 → ⊥) → a ≡ checked m k n → (xs : List ℕ) → n ≡ length xs
      → record { reply : a ≡ write_answer o k (length xs); after : o ≡ after_write o k xs }
  write_refused a n no-0 e xs long =
      let above : a ≡ write_answer o k (length xs) =
      checks_refuse m k n a no-0 e ∙ ap (write_answer m k) long ∙ over_write_answer m s pick law ok yes modes k (length xs) in
      record { reply = above; after = sym (tests.write_keeps o k xs (λ z. no-0 (above ∙ z))) }

  pub write_sealed : (xs : List ℕ) → length xs ≡ m.size → AllBelowBase 256 xs
      → record { reply : sealing_answer m (pick k) k xs ≡ write_answer o k (length xs); after : over (after_sealing m (pick k) k xs) pick ok modes ≡ after_write o k xs }
  write_sealed xs long u =
      let t = size_text m s xs long u in
      let zs = sealed_at pick k xs in
      let l : length zs ≡ length xs = (law k).sealed_length (tweak k) xs (tweak_below k) t in
      let same : write_answer m k (length zs) ≡ write_answer o k (length xs) = ap (write_answer m k) l ∙ over_write_answer m s pick law ok yes modes k (length xs) in
      record {
        reply = cond-true _ _ 9 t.fits ∙ same;
        after =
            ap (λ (x : Meaning). over x pick ok modes) (cond-true _ _ m t.fits)
            ∙ spread zs (eqb (write_answer m k (length zs)) 0)
            ∙ ap (λ (a : ℕ). cond (eqb a 0) (over (put m k zs) pick ok modes) o) same
            ∙ ap (λ (x : Meaning). cond (eqb (write_answer o k (length xs)) 0) x o) (over_put m s pick law ok yes modes k xs t);
      }
    where
      spread : (zs : List ℕ) (b : Bool) → over (cond b (put m k zs) m) pick ok modes ≡ cond b (over (put m k zs) pick ok modes) o
      spread zs true = refl
      spread zs false = refl

-- sealing and then writing below, by whether the mode permits the length
module _ (m : Meaning) (s : Sealing) (k : ℕ) (xs : List ℕ) where
  pub seal_refused : (a : ℕ) → (a ≡ 0 → ⊥) → a ≡ layer_answer (length xs) → record { reply : a ≡ sealing_answer m s k xs; after : m ≡ after_sealing m s k xs }
  seal_refused a no-0 e = go (permitted (length xs)) e
    where
      go : (b : Bool) → a ≡ cond b 0 9
          → record { reply : a ≡ cond b (write_answer m k (length (s.sealed (tweak k) xs))) 9; after : m ≡ cond b (after_write m k (s.sealed (tweak k) xs)) m }
      go true e = absurd (no-0 e)
      go false e = record { reply = e; after = refl }

  pub seal_passed : (ys : List ℕ) → 0 ≡ layer_answer (length xs) → ys ≡ sealed_or s (tweak k) xs
      → record { reply : write_answer m k (length ys) ≡ sealing_answer m s k xs; after : after_write m k ys ≡ after_sealing m s k xs }
  seal_passed ys e f = go (permitted (length xs)) e f
    where
      go : (b : Bool) → ◌≡◌ {A = ℕ} 0 (cond b 0 9) → ys ≡ cond b (s.sealed (tweak k) xs) xs
          → record {
            reply : write_answer m k (length ys) ≡ cond b (write_answer m k (length (s.sealed (tweak k) xs))) 9;
            after : after_write m k ys ≡ cond b (after_write m k (s.sealed (tweak k) xs)) m;
          }
      go true e f = record { reply = ap (λ (zs : List ℕ). write_answer m k (length zs)) f; after = ap (after_write m k) f }
      go false e f = absurd (omega arith)
