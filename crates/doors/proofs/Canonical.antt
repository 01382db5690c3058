-- The canonical line of a door writes the door.
use Rattle.std.proofs.Common.{ℕ, ◌^◌, ◌<◌, ◌≤◌, List, refl, arith, rules}
use Rattle.std.proofs.lemmas.Fmt.{decimal_nonempty, digits_decimal, length-decimal-le, digits_value-decimal}
use Rattle.std.proofs.lemmas.Str.Parse.{IsNumeralModel, numerals_by_fold}
use Rattle.decimal.specs.Decimal.{Digits, decimal}
use Rattle.doors.specs.Names.{letters}
use Rattle.doors.specs.Lines.{Field, Written, line_of, spaced}
use Rattle.doors.specs.declared.types.Door.{Door}
use Rattle.doors.proofs.Letters.{named_letters}

own : IsNumeralModel Digits (decimal 0)
own = numerals_by_fold _ (search rules) decimal (search rules)

field : (most low high n : ℕ) (rest : List ℕ) → 0 < most → low ≤ n → n ≤ high → high < 10 ^ most → n < 2 ^ 64 → Field most low high (spaced n rest) n rest
field most low high n rest some least small few fits = record {
  ds = _;
  whole = refl;
  numeral = record {
    some = decimal_nonempty n fits;
    few = length-decimal-le most n some (omega arith) fits;
    digits = digits_decimal own n fits;
    value = digits_value-decimal own n fits;
    small = small;
  };
  least = least;
}

pub line_written : (d : Door) → Written (line_of d) d
line_written d =
    let n = d.numbered in
    let b = d.badged in
    let t = d.timed in
    record {
      after_number = _;
      after_badge = _;
      after_time = _;
      number_is = field 5 1 65535 d.number (spaced d.badge (spaced d.time (letters d.name))) (omega arith) n.0 n.1 (omega arith) (omega arith);
      badge_is = field 6 0 999999 d.badge (spaced d.time (letters d.name)) (omega arith) (omega arith) b (omega arith) (omega arith);
      time_is = field 10 0 9999999999 d.time (letters d.name) (omega arith) (omega arith) t (omega arith) (omega arith);
      name_is = named_letters d.name d.named d.long d.some;
    }
