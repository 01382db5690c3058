-- A field is a numeral at the front and a space after it.
use Rattle.std.proofs.Common.{◌∷◌, arith}
use Rattle.decimal.proofs.Runs.{same_begins}
use Rattle.doors.proofs.Fields.{begins}
use Rattle.doors.proofs.line.take_field.Goals as goal

pub returns-in_err-v : goal.returns-in_err-v
returns-in_err-v c = rw c.from_residual.ensures (λ v rest f. c.in_err-v.ensures.cases v (32 ∷ rest) (begins f))

pub returns-then-v-low : goal.returns-then-v-low
returns-then-v-low c v rest f =
    let e = (same_begins _ _ _ _ _ _ _ (begins f) c.in_ok-v.ensures.cases).0 in
    omega (arith, f.least)

pub returns-in_err-take_space : goal.returns-in_err-take_space
returns-in_err-take_space c = rw c.from_residual-in_err-take_space.ensures (λ v rest f. c.in_err-take_space.ensures.cases rest (same_begins _ _ _ _ _ _ _ c.in_ok-v.ensures.cases (begins f)).1)
