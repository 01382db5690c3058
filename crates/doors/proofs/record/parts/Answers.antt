-- The four parts together are the record.
use Rattle.std.proofs.Common.{◌≡◌, length, arith, rules}
use Rattle.doors.proofs.Doors.{parted}
use Rattle.doors.proofs.record.parts.Goals as goal

pub returns : goal.returns
returns c =
    let l : length c.args.bytes.now ≡ 24 = search rules in
    parted c.args.bytes.now l c.fits-bytes (omega arith) (omega arith) (omega arith) c.part.ensures c.from_be_bytes.ensures c.part-2.ensures c.from_be_bytes-2.ensures c.part-3.ensures c.from_be_bytes-3.ensures c.part-4.ensures
