-- The lines that were taken, and the doors that they write, so far.
use Rattle.std.proofs.Common.{◌+◌, vec_items, vec_len, sym, ◌∙◌, rules}
use Rattle.std.proofs.lemmas.Result.{err_from_is_err_and}
use Rattle.lines.specs.Left.{lines_left}
use Rattle.lines.specs.Lines.{lines}
use Rattle.doors.specs.Lines.{Written}
use Rattle.doors.proofs.Sequences.{count_no_round, each_more, line_error, line_refused, one_round, round_end}
use Rattle.doors.proofs.round.parse_round.Goals as goal

pub returns-then-count-ne-ROUND : goal.returns-then-count-ne-ROUND
returns-then-count-ne-ROUND c =
    let e = c.count_lines-count.ensures in
    record { cases = (e, c.if-count-ne-ROUND.true, count_no_round c.args.input.now c.count_lines-count.result e c.if-count-ne-ROUND.true); only = tt }

pub returns-in_err-door-clause-cases : goal.returns-in_err-door-clause-cases
returns-in_err-door-clause-cases c =
    let e = line_error {n = c.len.result + 1} c.parse_door.result c.in_err-door.ensures.cases (λ f q. search rules) c.parse_door.ensures.cases in
    let out = err_from_is_err_and c.from_residual.result c.from_residual.ensures.1 in
    rw (out.1, out.2, e.1)
    (line_refused c.args.input.now (vec_len c.loop-line.doors) c.len.result c.in-Some.line.now _ (vec_items c.loop-line.doors) e.0 c.len.ensures
    (sym c.count_lines-count.ensures ∙ c.if-count-ne-ROUND.false) c.loop-line.invariant.0 (c.loop-line.invariant.1 ∙ c.in-Some.ensures.steps) e.2)

pub loop-line-preserved : goal.loop-line-preserved
loop-line-preserved c =
    let w : Written c.in-Some.line.now c.in_ok-door.door = search rules in
    each_more (lines c.args.input.now) (lines_left c.next.new.self) (vec_len c.loop-line.doors) (vec_len c.push.new.self) c.in-Some.line.now (vec_items c.loop-line.doors)
    (vec_items c.push.new.self) c.in_ok-door.door c.loop-line.invariant.0 (c.loop-line.invariant.1 ∙ c.in-Some.ensures.steps) w c.in_ok-push.ensures.len c.in_ok-push.ensures.items

pub returns : goal.returns
returns c =
    let r = round_end c.args.input.now (vec_len c.loop-line.doors) (vec_items c.loop-line.doors) (sym c.count_lines-count.ensures ∙ c.if-count-ne-ROUND.false) c.loop-line.invariant.0
    (c.loop-line.invariant.1 ∙ c.in-None.ensures.steps.0) in
    record { cases = r; only = λ ds q. one_round c.args.input.now (vec_items c.loop-line.doors) ds r q }
