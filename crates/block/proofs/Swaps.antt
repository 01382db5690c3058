-- The bytes of a block in the other order.
use Rattle.std.proofs.Common.{◌≡◌, ℕ, ◌^◌, ◌<◌, List, [], ◌∷◌, reverse, sym, ap, ◌∙◌, subst}
use mathlib.Core.List.{reverse-cons, reverse-reverse}
use Rattle.std.specs.Int.Digits.{AllBelowBase}
use Rattle.std.proofs.lemmas.List.{length-reverse}
use Rattle.std.proofs.ByRecursion.{All-push}
use Rattle.block.specs.Blocks.{to_bytes, to_block, swapped}
use Rattle.block.proofs.Bytes.{length-to_bytes, under_to_bytes, block_below, block_bytes, bytes_block}

under_reverse : (xs : List ℕ) → AllBelowBase 256 xs → AllBelowBase 256 (reverse xs)
under_reverse [] u = tt
under_reverse (x ∷ xs) u = subst (AllBelowBase 256) (sym (reverse-cons x xs)) (All-push (λ d. d < 256) (reverse xs) x (under_reverse xs u.1) u.0)

pub swapped_below : (n : ℕ) → swapped n < 2 ^ 128
unfolding swapped
swapped_below n = block_below (reverse (to_bytes n)) (under_reverse (to_bytes n) (under_to_bytes n)) (length-reverse (to_bytes n) ∙ length-to_bytes n)

pub bytes_swapped : (n : ℕ) → to_bytes (swapped n) ≡ reverse (to_bytes n)
unfolding swapped
bytes_swapped n = bytes_block (reverse (to_bytes n)) (under_reverse (to_bytes n) (under_to_bytes n)) (length-reverse (to_bytes n) ∙ length-to_bytes n)

pub swapped-twice : (n : ℕ) → n < 2 ^ 128 → swapped (swapped n) ≡ n
unfolding swapped
swapped-twice n h = ap (λ (bs : List ℕ). to_block (reverse bs)) (bytes_swapped n) ∙ ap to_block (reverse-reverse (to_bytes n)) ∙ block_bytes n h
