use Rattle.std.proofs.Common.{◌≡◌, length, ◌∙◌, rules}
use Rattle.copies.proofs.Rounds.{round_is, second_answer}
use Rattle.copies.proofs.open_round.Goals as goal

pub returns : goal.returns
returns g c =
    let m = g.M.Mode.sealing c.args.mode.now in
    let long : length c.args.image.now ≡ 1024 = search rules in
    let kept : length c.open.new.text ≡ 512 = search rules in
    record {
      reply = c.open-2.ensures.reply ∙ second_answer c.args.image.now c.open.new.text long kept;
      bytes = round_is m.opened c.sector_tweak.result c.sector_tweak-2.result c.args.image.now c.open.new.text c.open-2.new.text long kept c.sector_tweak.ensures c.sector_tweak-2.ensures c.open.ensures.bytes c.open-2.ensures.bytes;
    }
