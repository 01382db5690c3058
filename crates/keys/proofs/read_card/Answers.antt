use Rattle.std.proofs.Common.{◌≡◌, Ok, Err, Some, Result, ap, subst, sym, ◌∙◌}
use Rattle.std.specs.Result.{MatchResult, result_ok}
use Rattle.block.specs.Blocks.{to_bytes, to_block}
use Rattle.block.proofs.Bytes.{bytes_block}
use Rattle.keys.proofs.read_card.Goals as goal

-- what the `Ok` of a conversion says of the value that `ok` took out
at_some : {T E : Type 0} (r : Result T E) (P : T → Type 0) (Q : E → Type 0) (x : T) → Some x ≡ result_ok r → MatchResult r P Q → P x
at_some (Ok y) P Q x e m = let s : y ≡ x = cc in subst P s m
at_some (Err y) P Q x e m = absurd (cc)

pub returns : goal.returns
returns c =
    let w = at_some _ _ _ c.in_ok-bytes.bytes (sym c.in_ok-bytes.was ∙ c.ok.ensures.value) c.try_from.ensures.1 in
    record {
      long = w.long;
      bytes = ap to_bytes (c.from_bytes.ensures ∙ ap to_block w.same) ∙ bytes_block c.args.card.now c.known_bytes.ensures w.long;
    }
