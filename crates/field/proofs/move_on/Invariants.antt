use Rattle.std.proofs.Common.{◌≡◌, ℕ, ◌<◌, ◌≤◌, length, get_or}
use Rattle.field.specs.Steps.{halved}
use Rattle.field.proofs.move_on.Given as goal

-- the entries so far are moved on, and those to come are as they were
abbrev pub invariant-loop-entry : goal.invariant-loop-entry
invariant-loop-entry l = record {
  all : length l.row ≡ 16;
  moved : (k : ℕ) → k < l.entry-index → get_or l.row k 0 ≡ halved (halved (halved (halved (get_or l.initial.row k 0))));
  left : (k : ℕ) → l.entry-index ≤ k → get_or l.row k 0 ≡ get_or l.initial.row k 0;
}
