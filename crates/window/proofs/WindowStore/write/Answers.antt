use Rattle.std.proofs.Common.{◌∙◌}
use Rattle.window.specs.Windowed.{there, write_there}
use Rattle.window.proofs.WindowStore.write.Goals as goal

pub returns : goal.returns
returns g c =
    let w = c.args.self.now in
    let m = g.S.Store.meaning w.store in
    let was = c.in_ok-place.ensures in
    let near = there m w.first w.count c.args.sector was.reply in
    let r = write_there m w.first w.count c.args.sector (g.met.S.Store.sound w.store) _ was.value near c.args.buffer.now _ c.write.ensures.after in
    record { reply = c.write.ensures.reply ∙ r.reply; after = r.after }
