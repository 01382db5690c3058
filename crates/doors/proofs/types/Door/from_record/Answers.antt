-- A door with this record has the fields that were read.
use Rattle.std.proofs.Common.{◌≡◌, ℕ, List, get_or, Some, sym, ap, ◌∙◌, arith}
use mathlib.Core.Bool.{false≢true}
use Rattle.doors.specs.Names.{padded}
use Rattle.doors.specs.Records.{record_bytes}
use Rattle.doors.specs.declared.types.Door.{Door}
use Rattle.doors.proofs.Fills.{padded-letters}
use Rattle.doors.proofs.Doors.{same_badge, same_door, same_name, same_number, same_time}
use Rattle.doors.proofs.types.Door.from_record.Goals as goal
use Rattle.doors.proofs.types.Door.from_record.Goals.{then-name-eq0-via-then-name-eq0, then-name-eq0-via-else-name-eq0+then-not-is_padded}

pub returns-then-number-eq0 : goal.returns-then-number-eq0
returns-then-number-eq0 c =
    let none : (d : Door) → record_bytes d ≡ c.args.bytes → ⊥ = λ d e.
    let n = same_number c.parts-number.ensures d e in
    let b = same_badge c.parts-number.ensures d e in
    let t = same_time c.parts-number.ensures d e in
    omega (arith, c.then-number-eq0.either, d.numbered, d.badged, d.timed) in
    record { cases = none; back = λ d e. absurd (none d e) }

pub returns-then-name-eq0 : goal.returns-then-name-eq0
returns-then-name-eq0 c =
    let none : (d : Door) → record_bytes d ≡ c.args.bytes → ⊥ = λ d e.
    let s = same_name c.parts-number.ensures d e in
    elim c.then-name-eq0.branch [
      | then-name-eq0-via-then-name-eq0 w ↦ let f : get_or d.name 0 0 ≡ 0 = ap (λ (l : List ℕ). get_or l 0 0) s ∙ w.if-name-eq0.true in omega (arith, d.some)
      | then-name-eq0-via-else-name-eq0+then-not-is_padded w ↦ false≢true (w.if-not-is_padded.ensures ∙ sym (padded-letters c.parts-number.result.3) ∙ ap padded (sym s) ∙ d.named)
    ] in
    record { cases = none; back = λ d e. absurd (none d e) }

pub invariant_of-result-clause-named : goal.invariant_of-result-clause-named
invariant_of-result-clause-named c = padded-letters c.parts-number.result.3 ∙ sym c.if-not-is_padded.ensures

pub returns : goal.returns
returns c =
    let w = c.parts-number.ensures in
    record { cases = w.whole; back = λ d e. ap Some (sym (same_door d _ (same_number w d e) (same_badge w d e) (same_time w d e) (same_name w d e))) }
