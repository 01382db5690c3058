-- The calls of a chip against the meaning of a store: facts over plain values.
use Rattle.std.proofs.Common.{◌≡◌, ℕ, zero, suc, ◌+◌, ◌-◌, ◌*◌, ◌/◌, ◌^◌, ◌<◌, ◌≤◌, min, true, false, eqb, List, [], ◌∷◌, map, length, get_or, take, drop, set, sym, ap, ◌∙◌, ⊎_elim, mul-le-mul_right, suc-mul, arith, length-append, length-drop, length-set, length-take, drop-set-lt}
use lib.Seq.{take-set-lt}
use borrow.Rule.Slice.PartMut.{put_mid}
use Rattle.std.specs.List.{range_with_len}
use Rattle.std.specs.Int.Digits.{AllBelowBase}
use Rattle.std.proofs.lemmas.List.{get_or_default}
use Rattle.std.proofs.ByRecursion.{All-from_get_or, All-take, All-drop, All-append}
use Rattle.std.proofs.lemmas.Slice.{between_is, take-put_mid_below, drop-put_mid, between-put_mid}
use Rattle.std.proofs.lemmas.Grind.{common_steps}
use Rattle.std.proofs.lemmas.Bool.Decides.{nat_tests}
use Rattle.std.proofs.lemmas.Bool.{cases_order, le-ltb, lt-ltb, eq-eqb, ne_eqb, cond-true, cond-false}
use Rattle.store.specs.Stores.{Meaning, rows, count, life, life_answer, read_answer, write_answer, after_read, after_write}
use Rattle.store.proofs.Placed.{counted_set}
use Rattle.store.proofs.Tests.{read_last, read_fills, read_keeps, write_last, write_puts, write_keeps}
use Rattle.chip_math.specs.Chips.{chip_count, chip_sector, chip, overlaid, bytes_after, lives_after}
use Rattle.chip_math.proofs.Chipped.{count_is, ends, in_bytes, in_lives, sector_is, life_is}

length-put_mid : (a n : ℕ) (xs ys : List ℕ) → length ys ≡ n → a + n ≤ length xs → length (put_mid a n xs ys) ≡ length xs
length-put_mid a n xs ys e h = simp (length-append, length-take, length-drop) (omega arith)

-- a sector of the bytes, after the same one or another was written
written_same : (size k : ℕ) (bs ys : List ℕ) → length ys ≡ size → k * size + size ≤ length bs → take size (drop (k * size) (put_mid (k * size) size bs ys)) ≡ ys
written_same size k bs ys e h =
    let room : k * size ≤ length bs = omega arith in
    let n : k * size + size - k * size ≡ size = omega arith in
    ap (λ (m : ℕ). take m (drop (k * size) (put_mid (k * size) size bs ys))) (sym n)
    ∙ between-put_mid (k * size) size bs ys (k * size + size) room (e ∙ sym n)

part_is : (a n : ℕ) (xs : List ℕ) → take n (drop a xs) ≡ drop a (take (a + n) xs)
part_is a n xs =
    let e : a + n - a ≡ n = omega arith in
    ap (λ (m : ℕ). take m (drop a xs)) (sym e) ∙ between_is xs a (a + n)

written_other : (size k j : ℕ) (bs ys : List ℕ) → length ys ≡ size → k * size + size ≤ length bs → (j ≡ k → ⊥)
    → take size (drop (j * size) (put_mid (k * size) size bs ys)) ≡ take size (drop (j * size) bs)
written_other size k j bs ys e h ne =
    let room : k * size ≤ length bs = omega arith in
    ⊎_elim (λ (same : j ≡ k). absurd (ne same))
    (⊎_elim
    (λ (l : j < k).
    let m = mul-le-mul_right size l in
    let s = suc-mul j size in
    let below : j * size + size ≤ k * size = omega arith in
    part_is (j * size) size (put_mid (k * size) size bs ys)
    ∙ ap (drop (j * size)) (take-put_mid_below (k * size) size bs ys (j * size + size) below room)
    ∙ sym (part_is (j * size) size bs))
    (λ (l : k < j).
    let m = mul-le-mul_right size l in
    let s = suc-mul k size in
    let above : k * size + size ≤ j * size = omega arith in
    ap (take size) (drop-put_mid (k * size) size bs ys (j * size) above room e)))
    (cases_order j k)

-- bytes and lives stay in their ranges
pub small_overlaid : (place : ℕ) (bs xs : List ℕ) → ((i : ℕ) → get_or bs i 0 < 256) → ((i : ℕ) → get_or xs i 0 < 256) → (i : ℕ) → get_or (overlaid place bs xs) i 0 < 256
small_overlaid place bs xs hb hx i =
    let P = λ (x : ℕ). x < 256 in
    let ub : AllBelowBase 256 bs = All-from_get_or P bs 0 (λ j _. hb j) in
    let ux : AllBelowBase 256 xs = All-from_get_or P xs 0 (λ j _. hx j) in
    under_at (overlaid place bs xs) (All-append P (take place bs) _ (All-take P place bs ub) (All-append P xs _ ux (All-drop P (length xs) (drop place bs) (All-drop P place bs ub)))) i
  where
    under_at : (ys : List ℕ) → AllBelowBase 256 ys → (i : ℕ) → get_or ys i 0 < 256
    under_at [] u i = omega arith
    under_at (y ∷ ys) u zero = u.0
    under_at (y ∷ ys) u (suc i) = under_at ys u.1 i

pub small_set : (ls : List ℕ) (k v : ℕ) → ((i : ℕ) → get_or ls i 0 < 2 ^ 32) → v < 2 ^ 32 → (i : ℕ) → get_or (set ls k v) i 0 < 2 ^ 32
small_set ls k v h hv i = let old = h i in grind (arith, common_steps)

module _ (size : ℕ) (bytes lives : List ℕ) (k : ℕ) where
  abbrev m : Meaning
  m = chip size bytes lives

  abbrev n : ℕ
  n = chip_count size bytes lives

  abbrev meant : List (List ℕ) → List ℕ → List ℕ → List ℕ → Meaning
  meant ss ls bs beyond = record { size = size; fits = true; sectors = ss; lives = ls; rest = rows (bs ∷ (beyond ∷ [])) }

  alike : {ss ss' : List (List ℕ)} {ls ls' bs bs' beyond beyond' : List ℕ} → ss ≡ ss' → ls ≡ ls' → bs ≡ bs' → beyond ≡ beyond' → meant ss ls bs beyond ≡ meant ss' ls' bs' beyond'
  alike p q r s = cc

  far : n ≤ k → count m ≤ k
  far h = omega (arith, count_is size bytes lives)

  near : k < n → k < count m
  near h = omega (arith, count_is size bytes lives)

  -- the life of a sector that is not there, and of one that is
  pub life_absent : n ≤ k → 3 ≡ life_answer m k
  life_absent h = sym (cond-false _ 0 3 (le-ltb k (count m) (far h)))

  pub life_done : (x : ℕ) → k < n → x ≡ get_or lives k x → record { reply : 0 ≡ life_answer m k; value : x ≡ life m k }
  life_done x h e =
      record {
        reply = sym (cond-true _ 0 3 (lt-ltb k (count m) (near h)));
        value = e ∙ get_or_default lives k x 0 (in_lives size bytes lives k h) ∙ sym (life_is size bytes lives k h);
      }

  -- a read that is refused leaves the bytes
  abbrev pub Unread : ℕ → List ℕ → Type 0
  Unread a xs = record { reply : a ≡ read_answer m k (length xs); bytes : xs ≡ after_read m k xs }

  pub unread : (a : ℕ) (xs : List ℕ) → read_answer m k (length xs) ≡ a → 0 < a → Unread a xs
  unread a xs e l = record { reply = sym e; bytes = sym (read_keeps m k xs (λ z. omega arith)) }

  -- a read of a sector that is there
  pub read_done : (xs : List ℕ) → k < n → length xs ≡ size → record { reply : 0 ≡ read_answer m k (length xs); bytes : chip_sector size bytes k ≡ after_read m k xs }
  read_done xs h long =
      let e = read_last m k (length xs) (near h) long in
      record { reply = sym e; bytes = sym (sector_is size bytes lives k h) ∙ sym (read_fills m k xs e) }

  -- a write that is refused leaves the store, and the memory
  abbrev pub Refused : ℕ → List ℕ → Type 0
  Refused a xs =
      record {
        reply : a ≡ write_answer m k (length xs);
        after : m ≡ after_write m k xs;
        raw_bytes : bytes ≡ bytes_after size bytes lives k xs;
        raw_lives : lives ≡ lives_after size bytes lives k xs;
      }

  pub refused : (a : ℕ) (xs : List ℕ) → write_answer m k (length xs) ≡ a → 0 < a → Refused a xs
  refused a xs e l =
      let no : eqb (write_answer m k (length xs)) 0 ≡ false = ne_eqb (write_answer m k (length xs)) 0 (λ z. omega arith) in
      record {
        reply = sym e;
        after = sym (write_keeps m k xs (λ z. omega arith));
        raw_bytes = sym (cond-false _ _ bytes no);
        raw_lives = sym (cond-false _ _ lives no);
      }

  -- a refused write leaves the bytes
  pub bytes_kept : (xs : List ℕ) → (write_answer m k (length xs) ≡ 0 → ⊥) → bytes ≡ bytes_after size bytes lives k xs
  bytes_kept xs f = grind (arith, nat_tests)

  -- an accepted write of xs, by the memory that it leaves
  abbrev pub Written : List ℕ → List ℕ → List ℕ → Type 0
  Written xs new-bytes new-lives =
      record {
        reply : 0 ≡ write_answer m k (length xs);
        after : chip size new-bytes new-lives ≡ after_write m k xs;
        raw_bytes : new-bytes ≡ bytes_after size bytes lives k xs;
        raw_lives : new-lives ≡ lives_after size bytes lives k xs;
      }

  pub write_done : (xs : List ℕ) → k < n → length xs ≡ size → 0 < get_or lives k 0 → Written xs (overlaid (k * size) bytes xs) (set lives k (get_or lives k 0 - 1))
  write_done xs h long alive =
      let l = life_is size bytes lives k h in
      let e = write_last m k (length xs) (near h) long (omega arith) in
      let yes = eq-eqb (write_answer m k (length xs)) 0 e in
      let room = in_bytes size bytes lives k h in
      let room' : k * size ≤ length bytes = omega arith in
      let new = put_mid (k * size) size bytes xs in
      let new_is : overlaid (k * size) bytes xs ≡ new = ap (λ (j : ℕ). put_mid (k * size) j bytes xs) long in
      let used = set lives k (get_or lives k 0 - 1) in
      let count_same : chip_count size new used ≡ n =
      ap (λ (j : ℕ). min 2048 (min (j / size) (length used))) (length-put_mid (k * size) size bytes xs long room)
      ∙ ap (λ (j : ℕ). min 2048 (min (length bytes / size) j)) (length-set lives k (get_or lives k 0 - 1)) in
      let sectors-are : map (chip_sector size new) (range_with_len 0 n) ≡ set m.sectors k xs =
      counted_set (chip_sector size bytes) (chip_sector size new) n k xs (written_same size k bytes xs long room) (λ j _ ne. written_other size k j bytes xs long room ne) in
      let lives_are : take n used ≡ set m.lives k (life m k - 1) =
      take-set-lt n lives k (get_or lives k 0 - 1) h ∙ ap (λ (j : ℕ). set (take n lives) k (j - 1)) (sym l) in
      let bytes-beyond : drop (n * size) new ≡ drop (n * size) bytes = drop-put_mid (k * size) size bytes xs (n * size) (ends size bytes lives k h) room' long in
      let lives-beyond : drop n used ≡ drop n lives = drop-set-lt n lives k (get_or lives k 0 - 1) h in
      record {
        reply = sym e;
        after =
            ap (λ (x : List ℕ). chip size x used) new_is
            ∙ ap (λ (c : ℕ). meant (map (chip_sector size new) (range_with_len 0 c)) (take c used) (drop (c * size) new) (drop c used)) count_same
            ∙ alike sectors-are lives_are bytes-beyond lives-beyond
            ∙ sym (write_puts m k xs e);
        raw_bytes = sym (cond-true _ _ bytes yes);
        raw_lives = sym (cond-true _ _ lives yes);
      }
