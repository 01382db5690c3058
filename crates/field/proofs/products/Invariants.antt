use Rattle.std.proofs.Common.{◌≡◌, ℕ, ◌<◌, [], length, get_or}
use Rattle.field.specs.Steps.{Row}
use Rattle.field.proofs.products.Given as goal

-- the rows so far, and the one to come
abbrev pub invariant-loop-r : goal.invariant-loop-r
invariant-loop-r l = record {
  all : length l.r-items ≡ 32;
  made : (i : ℕ) → i < l.r-index → Row l.fn.h i (get_or l.r-items i []);
  next : l.r-index < 32 → Row l.fn.h l.r-index l.row;
}
