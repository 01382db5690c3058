use Prim.Native.Nat.{◌^◌, ◌<◌}
use mathlib.Core.Path.{ap, ◌∙◌}
use borrow.Author.Rules.{rules}
use Rattle.cipher.proofs.sealed_again.Goals as goal

pub returns : goal.returns
returns g c =
    let k = g.C.Cipher.key c.args.cipher.now in
    let h : c.args.block < 2 ^ 128 = search rules in
    c.seal.ensures ∙ ap (g.C.Cipher.sealed k) c.open.ensures ∙ (g.met.C.Cipher.undoing k).seals c.args.block h
