use Prim.Native.Nat.{◌^◌, ◌<◌}
use mathlib.Core.Path.{ap, ◌∙◌}
use borrow.Author.Rules.{rules}
use Rattle.cipher.proofs.opened_again.Goals as goal

pub returns : goal.returns
returns g c =
    let k = g.C.Cipher.key c.args.cipher.now in
    let h : c.args.block < 2 ^ 128 = search rules in
    c.open.ensures ∙ ap (g.C.Cipher.opened k) c.seal.ensures ∙ (g.met.C.Cipher.undoing k).opens c.args.block h
