use Rattle.std.proofs.Common.{◌≡◌, ℕ, ◌<◌, get_or, length}
use Rattle.speck.specs.Speck.{pair_of, unrounds}
use Rattle.speck.proofs.Speck128Cipher.open.Given as goal

abbrev pub invariant-loop-k : goal.invariant-loop-k
invariant-loop-k l =
    ((i : ℕ) → i < length l.k-iterator.iter.rest.now → get_or l.k-iterator.iter.rest.now i 0 ≡ get_or l.self.keys i 0)
    × (unrounds (λ i. get_or l.self.keys i 0) (length l.k-iterator.iter.rest.now) l.pair ≡ unrounds (λ i. get_or l.self.keys i 0) 32 (pair_of l.block))
