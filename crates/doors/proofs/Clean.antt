-- The line of a door has no LF, and is not empty.
use Rattle.std.proofs.Common.{◌≡◌, ℕ, ◌+◌, List, [], ◌∷◌, length, sym, ap, ◌∙◌, subst, arith, length-append}
use mathlib.Core.Bool.{false≢true}
use Rattle.std.proofs.ByRecursion.{All-append, All-weaker}
use Rattle.std.specs.List.{AllByRecursion}
use Rattle.decimal.specs.Decimal.{Digits}
use Rattle.lines.proofs.Splits.{Clean, NotLf}
use Rattle.doors.specs.Names.{Letter, is_letter}
use Rattle.doors.specs.Lines.{Field, Written}
use Rattle.doors.specs.declared.types.Door.{Door}

digits_clean : (ds : List ℕ) → Digits ds → AllByRecursion NotLf ds
digits_clean [] h = tt
digits_clean (c ∷ cs) h = ((λ e. omega (arith, h.0.0)), digits_clean cs h.1)

letter_clean : (c : ℕ) → Letter c → NotLf c
letter_clean c h e = false≢true (sym (ap is_letter e) ∙ h)

field_clean : {most low high v : ℕ} {text rest : List ℕ} → Field most low high text v rest → AllByRecursion NotLf rest → Clean text
field_clean {text = text} {rest = rest} f h =
    let n : length text ≡ length f.ds + length (32 ∷ rest) = ap length f.whole ∙ length-append f.ds (32 ∷ rest) in
    (subst (AllByRecursion NotLf) (sym f.whole) (All-append NotLf f.ds (32 ∷ rest) (digits_clean f.ds f.numeral.digits) ((λ e. omega arith), h)), omega arith)

pub written_clean : (line : List ℕ) (d : Door) → Written line d → Clean line
written_clean line d w =
    field_clean w.number_is (field_clean w.badge_is (field_clean w.time_is (All-weaker Letter NotLf letter_clean w.after_time w.name_is.letters)).0).0
