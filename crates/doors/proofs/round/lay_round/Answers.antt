-- A turn lays one record more over zero bytes.
use Rattle.std.proofs.Common.{◌≡◌, ℕ, ◌+◌, ◌-◌, ◌*◌, replicate, ap, ◌∙◌, arith}
use borrow.Rule.Slice.PartMut.{put_mid}
use Rattle.doors.proofs.Images.{laid_more}
use Rattle.doors.proofs.round.lay_round.Goals as goal

pub loop-i-init : goal.loop-i-init
loop-i-init c = c.fill.ensures.after (λ y h. h) ∙ ap (λ (n : ℕ). replicate n 0) c.told-image

pub loop-i-preserved : goal.loop-i-preserved
loop-i-preserved c =
    let i = c.loop-i.i in
    let k : 24 * c.loop-i.i + 24 - 24 * c.loop-i.i ≡ 24 = omega arith in
    ap (λ (n : ℕ). put_mid (24 * i) n c.loop-i.image c.copy_from_slice.new.self) k
    ∙ laid_more c.args.doors.now i c.index-doors-i.result c.loop-i.image c.copy_from_slice.new.self (omega arith) c.index-doors-i.is (omega arith) c.loop-i.invariant
    (c.copy_from_slice.ensures.after ∙ c.to_record.ensures.value)
