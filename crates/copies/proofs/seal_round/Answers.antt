use Rattle.std.proofs.Common.{◌≡◌, length, ◌∙◌, rules}
use Rattle.copies.proofs.Rounds.{round_is, second_answer}
use Rattle.copies.proofs.seal_round.Goals as goal

pub returns : goal.returns
returns g c =
    let m = g.M.Mode.sealing c.args.mode.now in
    let long : length c.args.image.now ≡ 1024 = search rules in
    let kept : length c.seal.new.text ≡ 512 = search rules in
    record {
      reply = c.seal-2.ensures.reply ∙ second_answer c.args.image.now c.seal.new.text long kept;
      bytes = round_is m.sealed c.sector_tweak.result c.sector_tweak-2.result c.args.image.now c.seal.new.text c.seal-2.new.text long kept c.sector_tweak.ensures c.sector_tweak-2.ensures c.seal.ensures.bytes c.seal-2.ensures.bytes;
    }
