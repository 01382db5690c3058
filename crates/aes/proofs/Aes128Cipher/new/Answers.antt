use Rattle.std.proofs.Common.{ℕ, sym, ap, ◌∙◌, subst, arith}
use Rattle.keys.specs.Cards.{whole_key}
use Rattle.aes.specs.Schedule.{Expanded}
use Rattle.aes.proofs.Keys.{first_key}
use Rattle.aes.proofs.Aes128Cipher.new.Goals as goal

pub invariant_of-result : goal.invariant_of-result
invariant_of-result c = record {
  expanded = subst (λ (k : ℕ). Expanded k c.expand-enc.result) (sym (first_key c.into_block.result c.expand-enc.result (omega arith) c.expand-enc.ensures)) c.expand-enc.ensures;
  reversed = c.inv_expand-dec.ensures;
}

pub returns : goal.returns
returns c = ap whole_key (first_key c.into_block.result c.expand-enc.result (omega arith) c.expand-enc.ensures ∙ c.into_block.ensures)
