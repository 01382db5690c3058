-- A turn takes one digit more; a value that passes the limit stays past it.
use Rattle.std.proofs.Common.{arith}
use Rattle.decimal.proofs.Runs.{digit_at, decimal_more, decimal-next}
use Rattle.decimal.proofs.value.Goals as goal

pub overflow_sub-b : goal.overflow_sub-b
overflow_sub-b c = (digit_at c.args.s.now c.loop-b.b-index c.requires (omega arith)).0

pub returns-in_err-v : goal.returns-in_err-v
returns-in_err-v c =
    let m = decimal-next c.args.s.now c.loop-b.b-index c.loop-b.v (omega arith) c.loop-b.invariant.0 in
    grind arith

pub loop-b-preserved : goal.loop-b-preserved
loop-b-preserved c =
    let m = decimal_more c.args.s.now c.loop-b.b-index (omega arith) in
    grind arith
