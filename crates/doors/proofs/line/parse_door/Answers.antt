-- Each way out has the fields that were found so far; no door has others.
use Rattle.std.proofs.Common.{Ok, ap}
use Rattle.doors.specs.declared.types.Fault.TheVariants.{Number, Badge, Time, Name}
use Rattle.doors.proofs.Fields.{failed, one_door, refused, written}
use Rattle.doors.proofs.Fills.{named_long, named_padded, named_some}
use Rattle.doors.proofs.line.parse_door.Goals as goal

pub returns-in_err-number : goal.returns-in_err-number
returns-in_err-number c =
    let none = c.in_err-number.ensures.ok_part in
    let r = refused Number (failed c.from_residual.ensures.1 c.in_err-number.ensures.value none) (rw none at c.take_field.ensures) in
    record { cases = r.cases; only = r.only }

pub returns-in_err-badge : goal.returns-in_err-badge
returns-in_err-badge c =
    let none = c.in_err-badge.ensures.ok_part in
    let number = rw c.in_ok-number.ensures.ok_part at c.take_field.ensures in
    let r = refused Badge (failed c.from_residual-in_err-badge.ensures.1 c.in_err-badge.ensures.value none) (_, _, number, rw none at c.take_field-2.ensures) in
    record { cases = r.cases; only = r.only }

pub returns-in_err-time : goal.returns-in_err-time
returns-in_err-time c =
    let none = c.in_err-time.ensures.ok_part in
    let number = rw c.in_ok-number.ensures.ok_part at c.take_field.ensures in
    let badge = rw c.in_ok-badge.ensures.ok_part at c.take_field-2.ensures in
    let r = refused Time (failed c.from_residual-in_err-time.ensures.1 c.in_err-time.ensures.value none) (_, _, number, (_, _, badge, rw none at c.take_field-3.ensures)) in
    record { cases = r.cases; only = r.only }

pub returns-in_err-name : goal.returns-in_err-name
returns-in_err-name c =
    let none = c.in_err-name.ensures.ok_part in
    let number = rw c.in_ok-number.ensures.ok_part at c.take_field.ensures in
    let badge = rw c.in_ok-badge.ensures.ok_part at c.take_field-2.ensures in
    let time = rw c.in_ok-time.ensures.ok_part at c.take_field-3.ensures in
    let r = refused Name (failed c.from_residual-in_err-name.ensures.1 c.in_err-name.ensures.value none) (_, _, number, (_, _, badge, (_, _, time, rw none at c.take_name.ensures))) in
    record { cases = r.cases; only = r.only }

pub invariant_of-result : goal.invariant_of-result
invariant_of-result c =
    let number = rw c.in_ok-number.ensures.ok_part at c.take_field.ensures in
    let badge = rw c.in_ok-badge.ensures.ok_part at c.take_field-2.ensures in
    let time = rw c.in_ok-time.ensures.ok_part at c.take_field-3.ensures in
    let name = rw c.in_ok-name.ensures.ok_part at c.take_name.ensures in
    record {
      numbered = (number.least, number.numeral.small);
      badged = badge.numeral.small;
      timed = time.numeral.small;
      long = named_long _ _ name;
      some = named_some _ _ name;
      named = named_padded _ _ name;
    }

pub returns : goal.returns
returns c =
    let number = rw c.in_ok-number.ensures.ok_part at c.take_field.ensures in
    let badge = rw c.in_ok-badge.ensures.ok_part at c.take_field-2.ensures in
    let time = rw c.in_ok-time.ensures.ok_part at c.take_field-3.ensures in
    let name = rw c.in_ok-name.ensures.ok_part at c.take_name.ensures in
    record { cases = written number badge time name; only = λ d w. ap Ok (one_door c.args.line.now _ d (written number badge time name) w) }
