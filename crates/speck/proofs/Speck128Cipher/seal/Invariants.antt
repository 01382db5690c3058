use Rattle.std.proofs.Common.{◌≡◌, get_or}
use Rattle.speck.specs.Speck.{pair_of, rounds}
use Rattle.speck.proofs.Speck128Cipher.seal.Given as goal

abbrev pub invariant-loop-k : goal.invariant-loop-k
invariant-loop-k l = l.pair ≡ rounds (λ i. get_or l.self.keys i 0) l.k-index (pair_of l.block)
