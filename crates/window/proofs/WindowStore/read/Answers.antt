use Rattle.std.proofs.Common.{length, ◌∙◌}
use Rattle.refusal.proofs.Numbers.{number_not_0}
use Rattle.store.proofs.Tests.{passed_on}
use Rattle.window.specs.Windowed.{there, read_refused, read_there}
use Rattle.window.proofs.WindowStore.read.Goals as goal

pub returns-in_err-place-clause-reply : goal.returns-in_err-place-clause-reply
returns-in_err-place-clause-reply g c =
    let w = c.args.self.now in
    let e = c.in_err-place.field-0.0 in
    passed_on c.from_residual.result e c.from_residual.ensures.1
    ∙ read_refused (g.S.Store.meaning w.store) w.first w.count c.args.sector _ (length c.args.buffer.now) (number_not_0 e) c.in_err-place.ensures.reply

pub returns : goal.returns
returns g c =
    let w = c.args.self.now in
    let m = g.S.Store.meaning w.store in
    let was = c.in_ok-place.ensures in
    let near = there m w.first w.count c.args.sector was.reply in
    let r = read_there m w.first w.count c.args.sector (g.met.S.Store.sound w.store) _ was.value near c.args.buffer.now in
    record { reply = c.read.ensures.reply ∙ r.reply; bytes = c.read.ensures.bytes ∙ r.bytes }
