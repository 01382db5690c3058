-- There are no more lines than characters.
use Rattle.std.proofs.Common.{◌<◌, ◌^◌, length, inl, arith, rules, ap}
use Rattle.lines.proofs.Splits.{lines_few}
use Rattle.lines.proofs.count_lines.Goals as goal

pub count-requires-clause-fits : goal.count-requires-clause-fits
count-requires-clause-fits c =
    let few = lines_few c.args.s.now in
    let long : length c.args.s.now < 2 ^ 64 = search rules in
    let e = ap length c.new.ensures in
    inl (omega arith)
