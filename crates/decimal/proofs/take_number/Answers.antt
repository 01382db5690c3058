-- A numeral at the front is the run of digits that was counted.
use Rattle.std.proofs.Common.{sym, subst, arith}
use Rattle.decimal.specs.Decimal.{Begins, Digits}
use Rattle.decimal.proofs.Runs.{begins_run, run, run_begins}
use Rattle.decimal.proofs.take_number.Goals as goal

pub split_at-requires : goal.split_at-requires
split_at-requires c = (run c.count_digits-n.ensures).within

pub value-requires : goal.value-requires
value-requires c = subst Digits (sym c.split_at.ensures.front) (run c.count_digits-n.ensures).front

pub returns-then-n-eq0 : goal.returns-then-n-eq0
returns-then-n-eq0 c = record { cases = λ v rest b. let r = run c.count_digits-n.ensures in let n = begins_run r b in omega (arith, c.then-n-eq0.either, r.long, n.some, n.few) }

pub returns-in_err-value : goal.returns-in_err-value
returns-in_err-value c = record {
  cases = rw c.from_residual.ensures (λ v rest b.
      let n = begins_run (run c.count_digits-n.ensures) b in
      let above = rw c.split_at.ensures.front at c.in_err-value.ensures in
      omega (arith, above, n.value, n.small));
}

pub returns : goal.returns
returns c =
    let v = rw c.split_at.ensures.front at c.in_ok-value.ensures in
    record { cases = subst (Begins _ _ _ _) (sym c.split_at.ensures.back) (run_begins (run c.count_digits-n.ensures) (omega arith) (omega arith) v.0 v.1) }
