use Rattle.std.proofs.Common.{◌≡◌, ◌<◌, length, sym, ap, ◌∙◌, arith}
use Rattle.std.proofs.lemmas.List.{take_all}
use Rattle.std.proofs.ByRecursion.{All-from_get_or}
use Rattle.refusal.proofs.Numbers.{number_not_0}
use Rattle.store.proofs.Tests.{passed_on}
use Rattle.sealed.specs.Overs.{sealing_answer, after_sealing}
use Rattle.sealed.proofs.Calls.{checks_passed, checks_refuse}
use Rattle.sealed.proofs.Layers.{at_most_4096, layer_write, write_sealed}
use Rattle.layer.proofs.LayerStore.write.Goals as goal

pub returns-in_err-check_write-clause-reply : goal.returns-in_err-check_write-clause-reply
returns-in_err-check_write-clause-reply g c =
    let l = c.args.self.now in
    let m = g.S.Store.meaning l.store in
    let e = c.in_err-check_write.field-0.0 in
    let k = c.args.sector in
    let n = length c.args.buffer.now in
    passed_on c.from_residual.result e c.from_residual.ensures.1 ∙ checks_refuse m k n _ (number_not_0 e) c.in_err-check_write.ensures
    ∙ layer_write m (g.M.Mode.sealing l.mode) (g.met.S.Store.sound l.store) (g.met.M.Mode.lawful l.mode) k n

pub returns : goal.returns
returns g c =
    let l = c.args.self.now in
    let m = g.S.Store.meaning l.store in
    let s = g.M.Mode.sealing l.mode in
    let sm = g.met.S.Store.sound l.store in
    let law = g.met.M.Mode.lawful l.mode in
    let xs = c.args.buffer.now in
    let passed = checks_passed m c.args.sector (length xs) (sym c.in_ok-check_write.ensures) in
    let room = at_most_4096 m s sm law in
    let plain : c.filled-part.result.now ≡ xs = c.filled-part.ensures ∙ take_all 4096 xs (omega arith) in
    let r =
    write_sealed m s sm law c.args.sector xs passed.long (All-from_get_or (λ b. b < 256) xs 0 (λ i _. (c.type_inv.buffer i).fits))
    (g.S.Store.meaning c.seal_and_write.new.store)
    (c.seal_and_write.ensures.after ∙ ap (after_sealing m s c.args.sector) plain) in
    record { reply = c.seal_and_write.ensures.reply ∙ ap (sealing_answer m s c.args.sector) plain ∙ r.reply; after = r.after }
