use Rattle.std.proofs.Common.{length, ◌∙◌}
use Rattle.std.proofs.lemmas.Bool.{cond-true}
use Rattle.mode.specs.Modes.{permitted}
use Rattle.mode.proofs.Whole.{size_permitted}
use Rattle.store.specs.Stores.Rest.{functions}
use Rattle.refusal.proofs.Numbers.{number_not_0}
use Rattle.store.proofs.Tests.{passed_on}
use Rattle.sealed.proofs.Calls.{read_opened}
use Rattle.sealed.proofs.Layers.{layer_read, refused_read}
use Rattle.sealed.proofs.read_and_open.Goals as goal

pub returns-in_err-read-clause-reply : goal.returns-in_err-read-clause-reply
returns-in_err-read-clause-reply g c =
    let store = c.args.store.now in
    let mode = c.args.mode.now in
    passed_on c.from_residual.result c.in_err-read.field-0.0 c.from_residual.ensures.1 ∙ c.in_err-read.ensures.reply
    ∙ layer_read (g.S.Store.meaning store) (g.M.Mode.sealing mode) (g.met.S.Store.sound store) (g.met.M.Mode.lawful mode) c.args.sector (length c.args.buffer.now)

pub returns-in_err-read-clause-bytes : goal.returns-in_err-read-clause-bytes
returns-in_err-read-clause-bytes g c =
    let store = c.args.store.now in
    let mode = c.args.mode.now in
    let e = c.in_err-read.field-0.0 in
    refused_read (g.S.Store.meaning store) (g.M.Mode.sealing mode) (g.met.S.Store.sound store) (g.met.M.Mode.lawful mode) c.args.sector
    _ c.args.buffer.now _ (number_not_0 e) c.in_err-read.ensures.reply c.in_err-read.ensures.bytes

pub returns : goal.returns
returns g c =
    let m = g.S.Store.meaning c.args.store.now in
    let s = g.M.Mode.sealing c.args.mode.now in
    let sound = g.met.S.Store.sound c.args.store.now in
    let was = c.in_ok-read.ensures in
    let r =
    read_opened m sound (λ _. s) (λ _. g.met.M.Mode.lawful c.args.mode.now) (permitted m.size) (size_permitted m.size sound.sized) (functions s) c.args.sector
    c.args.buffer.now c.read.new.buffer was.reply was.bytes in
    record { reply = c.open_sector.ensures.reply ∙ cond-true _ 0 9 r.permits ∙ r.reply; bytes = c.open_sector.ensures.bytes ∙ r.bytes }
