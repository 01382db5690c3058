use Rattle.std.proofs.Common.{ℕ, ◌+◌, List, ◌++◌, take, drop, get_or, set, sym, ap, ◌∙◌, arith}
use lib.Bits.{bit_and}
use Rattle.std.proofs.lemmas.List.{set-get_or}
use Rattle.chip_math.specs.Chips.{programmed}
use Rattle.chip_math.proofs.Programmed.{program_more, program_all, program_erased}
use Rattle.chip.proofs.flash.program.Goals.{in-Some, in_default}
use Rattle.chip.proofs.flash.program.Goals as goal

pub loop-i-preserved : goal.loop-i-preserved
loop-i-preserved c =
    let s = c.loop-i.sector in
    let b = c.args.bytes.now in
    let i = c.loop-i.i in
    let next : List ℕ → List ℕ = λ t. take (i + 1) t ++ programmed (drop (i + 1) t) (drop (i + 1) b) in
    elim c.match-get.branch [
      | in-Some w ↦
          let found = w.in-Some.ensures.lookup.3 in
          ap next w.sector-is ∙ ap (λ (x : ℕ). next (set s i (bit_and (get_or s i 0) x))) (found.1 0) ∙ program_more s b i (omega arith) found.0 ∙ c.loop-i.invariant
      | in_default w ↦
          let past = w.in_default.ensures.lookup.3 in
          ap next (w.sector-is ∙ set-get_or s i 0) ∙ program_all s b (i + 1) (λ p q. omega arith) ∙ sym (program_all s b i (λ p q. omega arith)) ∙ c.loop-i.invariant
    ]

pub returns-clause-fills : goal.returns-clause-fills
returns-clause-fills c =
    let s = c.loop-i.sector in
    let b = c.args.bytes.now in
    λ e. sym (program_all s b c.loop-i.i (λ p q. omega arith)) ∙ c.loop-i.invariant ∙ ap (λ (old : List ℕ). programmed old b) e ∙ program_erased b (λ i. (c.type_inv.bytes i).fits)
