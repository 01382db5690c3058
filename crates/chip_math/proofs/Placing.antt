-- What a chip answers to a call, from its place and its life.
use Rattle.std.proofs.Common.{◌≡◌, ℕ, ◌+◌, ◌-◌, ◌*◌, ◌<◌, ◌≤◌, cond, eqb, ltb, List, length, get_or, take, drop, set, sym, refl, ap, ◌∙◌, subst, arith, length-append, length-drop, length-take}
use borrow.Rule.Slice.PartMut.{put_mid}
use Rattle.std.proofs.lemmas.Bool.{eq-eqb, cond-true}
use Rattle.std.proofs.lemmas.Bool.Decides.{nat_tests}
use Rattle.store.specs.Stores.{Meaning, count, read_answer, write_answer, after_read}
use Rattle.chip_math.specs.Chips.{chip_count, chip, overlaid, rewritten}
use Rattle.chip_math.specs.Places.{place_answer, Placed}
use Rattle.chip_math.proofs.Chipped.{count_is, in_bytes, in_lives, life_is}
use Rattle.chip_math.proofs.Written.{Unread, unread, read_done, Refused, refused, Written, write_done}

module _ (size : ℕ) (bytes lives : List ℕ) (k : ℕ) where
  abbrev m : Meaning
  m = chip size bytes lives

  abbrev n : ℕ
  n = chip_count size bytes lives

  -- what a read is answered, by its place
  pub read_place : (len : ℕ) → read_answer m k len ≡ place_answer size bytes lives k len
  read_place len = ap (λ (c : ℕ). cond (ltb k c) (cond (eqb len size) 0 2) 3) (count_is size bytes lives)

  pub placed : (len : ℕ) → k < n → len ≡ size → Placed size bytes lives k len (k * size)
  placed len h e =
      let r = in_bytes size bytes lives k h in
      record { there = h; long = e; begins = refl; in_bytes = omega arith; in_lives = in_lives size bytes lives k h }

  -- a write that is refused for its place
  pub refused_place : (a n : ℕ) → a ≡ place_answer size bytes lives k n → (a ≡ 0 → ⊥) → a ≡ write_answer m k n
  refused_place a n e f = let count = count_is size bytes lives in grind (arith, nat_tests)

  -- a read that is refused for its place leaves the bytes, and a write the store and the memory
  pub unread_place : (a : ℕ) (xs : List ℕ) → a ≡ place_answer size bytes lives k (length xs) → (a ≡ 0 → ⊥) → Unread size bytes lives k a xs
  unread_place a xs e f = unread size bytes lives k a xs (read_place (length xs) ∙ sym e) (omega arith)

  pub unwritten_place : (a : ℕ) (xs : List ℕ) → a ≡ place_answer size bytes lives k (length xs) → (a ≡ 0 → ⊥) → Refused size bytes lives k a xs
  unwritten_place a xs e f = refused size bytes lives k a xs (sym (refused_place a (length xs) e f)) (omega arith)

  -- a call that has its place
  module _ (xs : List ℕ) (place : ℕ) (p : Placed size bytes lives k (length xs) place) where
    pub read_placed : (ys : List ℕ) → ys ≡ take (place + length xs - place) (drop place bytes) → record { reply : 0 ≡ read_answer m k (length xs); bytes : ys ≡ after_read m k xs }
    read_placed ys is =
        let r = read_done size bytes lives k xs p.there p.long in
        let e : place + length xs - place ≡ size = omega (arith, p.long) in
        record {
          reply = r.reply;
          bytes = is ∙ ap (λ (j : ℕ). take j (drop place bytes)) e ∙ ap (λ (j : ℕ). take size (drop j bytes)) p.begins ∙ r.bytes;
        }

    -- a write that is refused for its life
    pub refused_worn : (a : ℕ) → a ≡ cond (ltb 0 (get_or lives k 0)) 0 7 → (a ≡ 0 → ⊥) → a ≡ write_answer m k (length xs)
    refused_worn a e f =
        let there : k < count m = omega (arith, count_is size bytes lives, p.there) in
        let long = p.long in
        let life = life_is size bytes lives k p.there in
        grind (arith, nat_tests)

    -- a write that is refused for its life leaves the store and the memory
    pub unwritten_worn : (a : ℕ) → a ≡ cond (ltb 0 (get_or lives k 0)) 0 7 → (a ≡ 0 → ⊥) → Refused size bytes lives k a xs
    unwritten_worn a e f = refused size bytes lives k a xs (sym (refused_worn a e f)) (omega arith)

    pub write_placed : (left : ℕ) → 0 < get_or lives k 0 → left ≡ get_or lives k 0 - 1 → Written size bytes lives k xs (overlaid place bytes xs) (set lives k left)
    write_placed left alive e =
        let done = write_done size bytes lives k xs p.there p.long alive in
        subst (λ (at : ℕ). Written size bytes lives k xs (overlaid at bytes xs) (set lives k left)) (sym p.begins)
        (subst (λ (life : ℕ). Written size bytes lives k xs (overlaid (k * size) bytes xs) (set lives k life)) (sym e) done)

-- the bytes, once a part of them has taken xs
pub overlay : (place : ℕ) (old now part xs : List ℕ) → now ≡ old → place + length xs ≤ length old → part ≡ rewritten (take (place + length xs - place) (drop place now)) xs
    → put_mid place (place + length xs - place) now part ≡ overlaid place old xs
overlay place old now part xs same room is =
    let e : place + length xs - place ≡ length xs = omega arith in
    let long : length xs ≡ length (take (place + length xs - place) (drop place now)) = rw same (simp (length-take, length-drop) (omega arith)) in
    let taken : part ≡ xs = is ∙ cond-true _ xs _ (eq-eqb (length xs) _ long) in
    ap (λ (ys : List ℕ). put_mid place (place + length xs - place) now ys) taken
    ∙ ap (λ (ys : List ℕ). put_mid place (place + length xs - place) ys xs) same
    ∙ ap (λ (j : ℕ). put_mid place j old xs) e

pub length-overlaid : (place : ℕ) (old xs : List ℕ) → place + length xs ≤ length old → length (overlaid place old xs) ≡ length old
length-overlaid place old xs room = simp (length-append, length-take, length-drop) (omega arith)
