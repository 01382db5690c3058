-- A turn writes the two digits of one byte more.
use Rattle.std.proofs.Common.{ap, ◌∙◌, arith}
use Rattle.std.proofs.lemmas.List.{take_all}
use Rattle.hexadecimal.specs.Hex.{encoded}
use Rattle.hexadecimal.proofs.Codes.{encoded_more}
use Rattle.hexadecimal.proofs.encode.Goals as goal

pub loop-b-preserved : goal.loop-b-preserved
loop-b-preserved c =
    let high = c.in_ok-push.ensures.bytes in
    let high_is = c.in_ok-push.ensures.ascii c.digit_of.ensures.ascii in
    let low = c.in_ok-push-2.ensures.bytes in
    let low-is = c.in_ok-push-2.ensures.ascii c.digit_of-in-loop-b.ensures.ascii in
    let more = encoded_more c.args.bytes.now c.loop-b.b-index (omega arith) in
    cc

pub returns : goal.returns
returns c = record { made = c.loop-b.invariant ∙ ap encoded (take_all c.loop-b.b-index c.args.bytes.now (omega arith)) }
