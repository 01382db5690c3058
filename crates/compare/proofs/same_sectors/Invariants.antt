use Rattle.compare.proofs.Sectors.{Same}
use Rattle.compare.proofs.same_sectors.Given as goal

abbrev pub invariant-loop-k : goal.invariant-loop-k
invariant-loop-k g l = Same (g.A.Store.meaning l.one) (g.B.Store.meaning l.other) l.k
