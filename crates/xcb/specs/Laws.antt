-- XCB opens what it sealed, by the cipher's laws and XOR alone.
use Rattle.std.specs.Prelude.{◌≡◌, ℕ, ◌+◌, ◌-◌, ◌*◌, ◌/◌, ◌^◌, ◌<◌, ◌≤◌, true, List, ◌++◌, length, take, drop, bit_xor}
use Rattle.std.proofs.Common.{sym, ◌∙◌, length-append}
use Rattle.std.proofs.Math.Path.{ap}
use native.Mathlib.Omega.{arith}
use Rattle.std.specs.Int.Bits.{xor_lt}
use Rattle.std.proofs.Math.ListN.{length-drop, take-append-drop}
use Rattle.std.proofs.Math.Seq.{take_at, drop_at}
use Rattle.std.specs.Int.Digits.{AllBelowBase}
use Rattle.std.proofs.lemmas.List.{length-take-le}
use Rattle.std.proofs.ByRecursion.{All-append, All-take, All-drop}
use Rattle.block.specs.Blocks.{blocks_of, to_bytes, to_block}
use Rattle.block.proofs.Bytes.{length-to_bytes, under_to_bytes, block_bytes, bytes_block, block_below}
use Rattle.block.proofs.Walks.{walk-walk, length-walk, under_walk}
use Rattle.block.proofs.Xor.{xor_back}
use Rattle.field.proofs.Below.{hash_below}
use Rattle.mode.specs.Modes.{permitted}
use Rattle.mode.proofs.Whole.{whole_blocks, at_least, at_most}
use Rattle.cipher.specs.Ciphers.{Undoing}
use Rattle.xcb.specs.declared.Frame.{Frame}
use Rattle.xcb.specs.declared.Frames.{Frames}
use Rattle.xcb.specs.Facts.{Undone}
use Rattle.xcb.specs.Xcb.{counted, next, in_frame, digest, streamed, middle, finished, passed, turned, outer, inner, sealing_frames, opening_frames}

digest_below : (h : ℕ) (f : Frame) (bs : List ℕ) → digest h f bs < 2 ^ 128
unfolding digest
digest_below h f bs = hash_below h (in_frame f bs)

abbrev pair : Frame → Frame → Frames
pair p f = record { before = p; after = f }

-- the stream undoes itself
streamed_back : (q : ℕ → ℕ) → ((x : ℕ) → x < 2 ^ 128 → q x < 2 ^ 128) → (z n : ℕ) (xs : List ℕ) → z < 2 ^ 128 → n ≤ 255 → AllBelowBase 256 xs → length xs ≡ 16 * n → streamed q z n (streamed q z n xs) ≡ xs
streamed_back q fits z n xs hz hn u l =
    walk-walk (counted q z) (counted q z) next (λ k j. j + k ≤ 255)
    (λ k j i. omega arith)
    (λ k j b i hb. xor_lt 128 b (q (bit_xor z j)) hb (fits (bit_xor z j) (xor_lt 128 z j hz (omega arith))))
    (λ k j b i hb. xor_back b (q (bit_xor z j)))
    n 0 xs (omega arith) u l

module _ (e e⁻ d d⁻ q : ℕ → ℕ)
    (e-fits : (x : ℕ) → x < 2 ^ 128 → e x < 2 ^ 128) (d⁻-fits : (x : ℕ) → x < 2 ^ 128 → d⁻ x < 2 ^ 128) (q-fits : (x : ℕ) → x < 2 ^ 128 → q x < 2 ^ 128)
    (e-back : (x : ℕ) → x < 2 ^ 128 → e⁻ (e x) ≡ x) (d-back : (x : ℕ) → x < 2 ^ 128 → d (d⁻ x) ≡ x)
    (h : ℕ) (p f : Frame) (n : ℕ) (hn : n ≤ 255) (xs : List ℕ) (u : AllBelowBase 256 xs) (long : length xs ≡ 16 * n + 16) where
  pub passed_back : passed d e⁻ q h (pair f p) n (passed e d⁻ q h (pair p f) n xs) ≡ xs
  unfolding passed finished middle
  passed_back =
      let L : List ℕ = take (16 * n) xs in
      let R : List ℕ = drop (16 * n) xs in
      let r : ℕ = to_block R in
      let lr : length R ≡ 16 = length-drop (16 * n) xs ∙ omega arith in
      let ur : AllBelowBase 256 R = All-drop (λ x. x < 256) (16 * n) xs u in
      let hr : r < 2 ^ 128 = block_below R ur lr in
      let D1 : ℕ = digest h p (blocks_of n L) in
      let Z : ℕ = bit_xor (e r) D1 in
      let hz : Z < 2 ^ 128 = xor_lt 128 (e r) D1 (e-fits r hr) (digest_below h p (blocks_of n L)) in
      let L' : List ℕ = streamed q Z n L in
      let D2 : ℕ = digest h f (blocks_of n L') in
      let W : ℕ = bit_xor Z D2 in
      let hw : W < 2 ^ 128 = xor_lt 128 Z D2 hz (digest_below h f (blocks_of n L')) in
      let R' : List ℕ = to_bytes (d⁻ W) in
      let ll' : length L' ≡ 16 * n = length-walk (counted q Z) next n 0 L in
      let t : take (16 * n) (L' ++ R') ≡ L' = take_at L' R' (16 * n) ll' in
      let dr : drop (16 * n) (L' ++ R') ≡ R' = drop_at L' R' (16 * n) ll' in
      let z : middle d h f n (L' ++ R') ≡ Z =
      ap (λ (ys : List ℕ). bit_xor (d (to_block ys)) (digest h f (blocks_of n (take (16 * n) (L' ++ R'))))) dr
      ∙ ap (λ (ys : List ℕ). bit_xor (d (to_block R')) (digest h f (blocks_of n ys))) t
      ∙ ap (λ (x : ℕ). bit_xor (d x) D2) (block_bytes (d⁻ W) (d⁻-fits W hw))
      ∙ ap (λ (x : ℕ). bit_xor x D2) (d-back W hw)
      ∙ xor_back Z D2 in
      let back : streamed q Z n L' ≡ L = streamed_back q q-fits Z n L hz hn (All-take (λ x. x < 256) (16 * n) xs u) (length-take-le (16 * n) xs (omega arith)) in
      let last : to_bytes (e⁻ (bit_xor Z (digest h p (blocks_of n (streamed q Z n L'))))) ≡ R =
      ap (λ (ys : List ℕ). to_bytes (e⁻ (bit_xor Z (digest h p (blocks_of n ys))))) back
      ∙ ap (λ (x : ℕ). to_bytes (e⁻ x)) (xor_back (e r) D1)
      ∙ ap (to_bytes) (e-back r hr)
      ∙ bytes_block R ur lr in
      ap (λ (x : ℕ). finished e⁻ q h p n x (take (16 * n) (L' ++ R'))) z
      ∙ ap (finished e⁻ q h p n Z) t
      ∙ ap (λ (ys : List ℕ). ys ++ to_bytes (e⁻ (bit_xor Z (digest h p (blocks_of n (streamed q Z n L')))))) back
      ∙ ap (λ (ys : List ℕ). L ++ ys) last
      ∙ take-append-drop (16 * n) xs

pub passed_is : (e d q : ℕ → ℕ) (h : ℕ) (fs : Frames) (n : ℕ) (xs : List ℕ) → AllBelowBase 256 (passed e d q h fs n xs) × (length (passed e d q h fs n xs) ≡ 16 * n + 16)
unfolding passed finished
passed_is e d q h fs n xs =
    let Z : ℕ = middle e h fs.before n xs in
    let L' : List ℕ = streamed q Z n (take (16 * n) xs) in
    let w : ℕ = d (bit_xor Z (digest h fs.after (blocks_of n L'))) in
    let l1 : length L' ≡ 16 * n = length-walk (counted q Z) next n 0 (take (16 * n) xs) in (
      All-append (λ x. x < 256) L' (to_bytes w) (under_walk (counted q Z) next n 0 (take (16 * n) xs)) (under_to_bytes w),
      length-append L' (to_bytes w) ∙ ap (λ (k : ℕ). k + length (to_bytes w)) l1 ∙ ap (λ (k : ℕ). 16 * n + k) (length-to_bytes w),
    )

-- the blocks of a permitted length but the last
pub blocks_but_last : (m : ℕ) → permitted m ≡ true → (m ≡ 16 * (m / 16 - 1) + 16) × (m / 16 - 1 ≤ 255)
blocks_but_last m p = let a = whole_blocks m p in let b = at_least m p in let c = at_most m p in (omega arith, omega arith)

pub turned_is : (e d q : ℕ → ℕ) (h : ℕ) (fs : ℕ → ℕ → Frames) (t : ℕ) (xs : List ℕ) → permitted (length xs) ≡ true
    → AllBelowBase 256 (turned e d q h fs t xs) × (length (turned e d q h fs t xs) ≡ length xs)
turned_is e d q h fs t xs ok =
    let n : ℕ = length xs / 16 - 1 in
    let a = passed_is e d q h (fs t n) n xs in
    (a.0, a.1 ∙ sym (blocks_but_last (length xs) ok).0)

-- exchanged frames, exchanged functions: the way back
module _ (e e⁻ d d⁻ q q⁻ : ℕ → ℕ) (le : Undoing e e⁻) (ld : Undoing d d⁻) (lq : Undoing q q⁻)
    (h : ℕ) (p f : ℕ → ℕ → Frame) (t : ℕ) (xs : List ℕ) (u : AllBelowBase 256 xs) (ok : permitted (length xs) ≡ true) where
  turned_back : turned d e⁻ q h (λ s n. pair (f s n) (p s n)) t (turned e d⁻ q h (λ s n. pair (p s n) (f s n)) t xs) ≡ xs
  turned_back =
      let n : ℕ = length xs / 16 - 1 in
      let ys : List ℕ = passed e d⁻ q h (pair (p t n) (f t n)) n xs in
      let w = blocks_but_last (length xs) ok in
      let same : length ys ≡ length xs = (passed_is e d⁻ q h (pair (p t n) (f t n)) n xs).1 ∙ sym w.0 in
      ap (λ (m : ℕ). passed d e⁻ q h (pair (f t (m / 16 - 1)) (p t (m / 16 - 1))) (m / 16 - 1) ys) same
      ∙ passed_back e e⁻ d d⁻ q le.sealed_below ld.opened_below lq.sealed_below le.opens ld.seals h (p t n) (f t n) n w.1 xs u w.0

pub undone : Undone
undone e e⁻ d d⁻ q q⁻ h le ld lq =
    let sealed = turned_is e d⁻ q h sealing_frames in
    let opened = turned_is d e⁻ q h opening_frames in
    record {
      opens = λ t xs s x. turned_back e e⁻ d d⁻ q q⁻ le ld lq h (λ s n. outer s) inner t xs x.bytes x.fits;
      seals = λ t xs s x. turned_back d d⁻ e e⁻ q q⁻ ld le lq h inner (λ s n. outer s) t xs x.bytes x.fits;
      sealed_length = λ t xs s x. (sealed t xs x.fits).1;
      opened_length = λ t xs s x. (opened t xs x.fits).1;
      sealed_bytes = λ t xs s x. (sealed t xs x.fits).0;
      opened_bytes = λ t xs s x. (opened t xs x.fits).0;
    }
