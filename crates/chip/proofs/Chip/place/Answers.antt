use Rattle.std.proofs.Common.{ℕ, ◌*◌, sym, ◌∙◌, subst, arith, rules}
use Rattle.chip_math.specs.Places.{Placed}
use Rattle.chip_math.proofs.Placing.{placed}
use Rattle.chip.proofs.Chip.place.Goals as goal

pub returns : goal.returns
returns g c =
    let s = c.args.self.now in
    let k = c.args.sector in
    let p = placed s.size.bytes s.bytes.items s.lives.items k c.args.len (omega arith) (c.if-len-size.false ∙ c.bytes-size.ensures) in
    record {
      reply = search rules;
      value = subst (λ (size : ℕ). Placed s.size.bytes s.bytes.items s.lives.items k c.args.len (k * size)) (sym c.bytes-size.ensures) p;
    }
