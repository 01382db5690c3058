use Rattle.std.proofs.Common.{◌≡◌, ◌≤◌, Bool, true, not, arith, sym, refl, ◌∙◌}
use Rattle.std.proofs.lemmas.Bool.Decides.{Decides-eqb}
use Rattle.std.proofs.lemmas.Slice.Eq.{slice_eq-Decides}
use Rattle.store.specs.Stores.{count, sector}
use Rattle.store.proofs.Tests.{read_fills}
use Rattle.compare.proofs.Sectors.{differ_at, same_all}
use Rattle.compare.proofs.same_sectors.Goals as goal

not_both : (ne eq : Bool) → ne ≡ not eq → ne ≡ true → eq ≡ true → ⊥
not_both ne eq e f g = cc

pub returns-then-ne-clause-value : goal.returns-then-ne-clause-value
returns-then-ne-clause-value g c =
    let a = g.A.Store.meaning c.args.one.now in
    let b = g.B.Store.meaning c.args.other.now in
    let k = c.loop-k.k in
    let x = c.read.new.buffer in
    let y = c.read-in-loop-k.new.buffer in
    let was = c.in_ok-read.ensures in
    let was' = c.in_ok-read-2.ensures in
    let left : x ≡ sector a k = was.bytes ∙ read_fills a k _ (sym was.reply) in
    let right : y ≡ sector b k = was'.bytes ∙ read_fills b k _ (sym was'.reply) in
    differ_at a b (g.met.A.Store.sound c.args.one.now) (g.met.B.Store.sound c.args.other.now) k
    (λ e. not_both _ _ c.ne.ensures c.if-ne.true ((slice_eq-Decides Decides-eqb x y _ refl).1 (left ∙ e ∙ sym right)))

pub returns-clause-value : goal.returns-clause-value
returns-clause-value g c =
    let a = g.A.Store.meaning c.args.one.now in
    let all : count a ≤ c.loop-k.k = omega arith in
    same_all a (g.B.Store.meaning c.args.other.now) (g.met.A.Store.sound c.args.one.now) (g.met.B.Store.sound c.args.other.now)
    c.loop-k.k (sym c.count.ensures ∙ c.if-count.false ∙ c.count-count.ensures) all c.loop-k.invariant
