-- A turn reads the two digits of one byte more; where they are no digits, no bytes are read from the text.
use Rattle.std.proofs.Common.{◌≡◌, ◌/◌, ◌%◌, ◌*◌, length, vec_items, subst, arith}
use Rattle.std.proofs.lemmas.List.{take_all}
use Rattle.hexadecimal.specs.Hex.{Decodes}
use Rattle.hexadecimal.proofs.Codes.{decodes_even, decodes_pair, decodes_more}
use Rattle.hexadecimal.proofs.decode.Goals as goal

pub returns-then-not-is_empty : goal.returns-then-not-is_empty
returns-then-not-is_empty c = record { made = λ bs d. let even = decodes_even c.args.text.now bs d in let odd : length c.as_chunks.result.1.now ≡ length c.args.text.now % 2 = c.as_chunks.ensures.back_len in grind arith }

pub returns-in_default : goal.returns-in_default
returns-in_default c = record {
  made = λ bs d.
      let n : length c.as_chunks.result.0.now ≡ length c.args.text.now / 2 = c.as_chunks.ensures.front_len in
      let p = decodes_pair c.args.text.now bs c.loop-high.high-index c.as_chunks.ensures.front (omega arith) d in
      c.in_default.ensures p.0 p.1;
}

pub loop-high-preserved : goal.loop-high-preserved
loop-high-preserved c =
    let n : length c.as_chunks.result.0.now ≡ length c.args.text.now / 2 = c.as_chunks.ensures.front_len in
    decodes_more c.args.text.now (vec_items c.loop-high.bytes) c.loop-high.high-index c.in-Some.b c.as_chunks.ensures.front (omega arith) c.loop-high.invariant c.in-Some.ensures
    c.in_ok-push.ensures.items

pub returns : goal.returns
returns c =
    let n : length c.as_chunks.result.0.now ≡ length c.args.text.now / 2 = c.as_chunks.ensures.front_len in
    let odd : length c.as_chunks.result.1.now ≡ length c.args.text.now % 2 = c.as_chunks.ensures.back_len in
    let z = c.is_empty.ensures in
    let even : length c.as_chunks.result.1.now ≡ 0 = grind arith in
    record { made = subst (λ t. Decodes t (vec_items c.loop-high.bytes)) (take_all (2 * c.loop-high.high-index) c.args.text.now (omega arith)) c.loop-high.invariant }
