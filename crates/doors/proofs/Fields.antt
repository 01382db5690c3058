-- A field stands at the front of a text in one way at most, and so a line is a door's in one way at most.
use Rattle.std.proofs.Common.{◌≡◌, ℕ, Option, None, Result, Ok, Err, MatchResult, IsErrAnd, List, ◌∷◌, sym, ap, ◌∙◌, subst, arith}
use Rattle.std.proofs.lemmas.Result.{err_from_is_err_and}
use Rattle.std.specs.Option.{ok_or}
use Rattle.decimal.specs.Decimal.{Begins, Digit}
use Rattle.decimal.proofs.Runs.{same_begins}
use Rattle.doors.specs.Names.{Named}
use Rattle.doors.specs.Lines.{BadgeField, Field, NoDoor, NumberField, TimeField, Written, Wrong}
use Rattle.doors.specs.declared.types.Door.{Door}
use Rattle.doors.specs.declared.types.Fault.{Fault}
use Rattle.doors.specs.declared.types.Fault.TheVariants.{Number, Badge, Time, Name}
use Rattle.doors.proofs.Doors.{same_door}

no_space : Digit 32 → ⊥
no_space d = omega (arith, d.0)

module _ {most low high : ℕ} {text : List ℕ} where
  pub begins : {v : ℕ} {rest : List ℕ} → Field most low high text v rest → Begins most high text v (32 ∷ rest)
  begins f = record { ds = f.ds; whole = f.whole; numeral = f.numeral; after = no_space }

  pub same_field : {v w : ℕ} {r s : List ℕ} → Field most low high text v r → Field most low high text w s → (v ≡ w) × (r ≡ s)
  same_field {v} {w} {r} {s} f g =
      let e = same_begins most high text v w (32 ∷ r) (32 ∷ s) (begins f) (begins g) in
      let t : 32 ∷ r ≡ 32 ∷ s = e.1 in
      (e.0, (cc))

pub written : {line r s t : List ℕ} {d : Door} → NumberField line d.number r → BadgeField r d.badge s → TimeField s d.time t → Named t d.name → Written line d
written n b t m = record { after_number = _; after_badge = _; after_time = _; number_is = n; badge_is = b; time_is = t; name_is = m }

-- a door's fields stand where those stand that were found
module _ (line : List ℕ) (d : Door) (w : Written line d) (n : ℕ) (r : List ℕ) (f : NumberField line n r) where
  pub badge_at : BadgeField r d.badge w.after_badge
  badge_at = subst (λ t. BadgeField t d.badge w.after_badge) (same_field w.number_is f).1 w.badge_is

  module _ (b : ℕ) (s : List ℕ) (g : BadgeField r b s) where
    pub time_at : TimeField s d.time w.after_time
    time_at = subst (λ t. TimeField t d.time w.after_time) (same_field badge_at g).1 w.time_is

    pub name_at : (t : ℕ) (u : List ℕ) → TimeField s t u → Named u d.name
    name_at t u k = subst (λ x. Named x d.name) (same_field time_at k).1 w.name_is

pub wrong_no_door : (line : List ℕ) (f : Fault) → Wrong line f → NoDoor line
wrong_no_door line Number h d w = h _ _ w.number_is
wrong_no_door line Badge h d w = h.3 _ _ (badge_at line d w _ _ h.2)
wrong_no_door line Time h d w = h.3.3 _ _ (time_at line d w _ _ h.2 _ _ h.3.2)
wrong_no_door line Name h d w = h.3.3.3 _ (name_at line d w _ _ h.2 _ _ h.3.2 _ _ h.3.3.2)

pub one_door : (line : List ℕ) (d e : Door) → Written line d → Written line e → d ≡ e
one_door line d e v w =
    let b = badge_at line d v _ _ w.number_is in
    let t = time_at line d v _ _ w.number_is _ _ w.badge_is in
    let n = name_at line d v _ _ w.number_is _ _ w.badge_is _ _ w.time_is in
    same_door d e (same_field v.number_is w.number_is).0 (same_field b w.badge_is).0 (same_field t w.time_is).0 (n.filled ∙ sym w.name_is.filled)

abbrev fault_of : {A : Type 0} → Result A Fault → Fault
fault_of (Ok x) = Number
fault_of (Err e) = e

-- a field that is missing ends with its fault
pub failed : {A : Type 0} {o : Option A} {r : Result Door Fault} {e f : Fault} → IsErrAnd r (λ x. x ≡ e) → Err e ≡ ok_or o f → o ≡ None → r ≡ Err f
failed {r = r} h v n = let q = err_from_is_err_and r h in let w = rw n at v in q.1 ∙ ap Err (q.2 ∙ ap fault_of w)

-- what is told where a field is wrong
pub record Refused (line : List ℕ) (r : Result Door Fault) : Type 0 where
  pub cases : MatchResult r (λ d. Written line d) (λ f. Wrong line f × NoDoor line)
  pub only : (d : Door) → Written line d → r ≡ Ok d

pub refused : {line : List ℕ} {r : Result Door Fault} (f : Fault) → r ≡ Err f → Wrong line f → Refused line r
refused {line} f e w = let n = wrong_no_door line f w in record { cases = rw e (w, n); only = λ d v. absurd (n d v) }
