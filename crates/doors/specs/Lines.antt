-- The line of a door: number, badge, time and name, with single spaces between them.
use Rattle.std.specs.Prelude.{◌≡◌, ℕ, ◌≤◌, List, ◌∷◌, ◌++◌, codes, decimal}
use Rattle.decimal.specs.Decimal.{Numeral}
use Rattle.doors.specs.Names.{Named, letters}
use Rattle.doors.specs.declared.types.Door.{Door}
use Rattle.doors.specs.declared.types.Fault.{Fault}
use Rattle.doors.specs.declared.types.Fault.TheVariants.{Number, Badge, Time, Name}

-- the text is a numeral of v, of at most `most` digits and within the limits, a space, and the rest
pub record Field (most low high : ℕ) (text : List ℕ) (v : ℕ) (rest : List ℕ) : Type 0 where
  pub ds : List ℕ
  pub whole : text ≡ ds ++ 32 ∷ rest
  pub numeral : Numeral most high ds v
  pub least : low ≤ v

abbrev pub NumberField : List ℕ → ℕ → List ℕ → Type 0
NumberField = Field 5 1 65535

abbrev pub BadgeField : List ℕ → ℕ → List ℕ → Type 0
BadgeField = Field 6 0 999999

abbrev pub TimeField : List ℕ → ℕ → List ℕ → Type 0
TimeField = Field 10 0 9999999999

-- the line writes the door
pub record Written (line : List ℕ) (d : Door) : Type 0 where
  pub after_number : List ℕ
  pub after_badge : List ℕ
  pub after_time : List ℕ
  pub number_is : NumberField line d.number after_number
  pub badge_is : BadgeField after_number d.badge after_badge
  pub time_is : TimeField after_badge d.time after_time
  pub name_is : Named after_time d.name

-- a number with no leading zeros, a space, and the rest
abbrev pub spaced : ℕ → List ℕ → List ℕ
spaced n rest = decimal n ++ 32 ∷ rest

-- the line of a door in its one canonical form
abbrev pub line_of : Door → List ℕ
line_of d = spaced d.number (spaced d.badge (spaced d.time (letters d.name)))

abbrev pub NoDoor : List ℕ → Type 0
NoDoor line = (d : Door) → Written line d → ⊥

-- no numeral of the field stands at the front of the text
abbrev pub No : (List ℕ → ℕ → List ℕ → Type 0) → List ℕ → Type 0
No F text = (v : ℕ) (rest : List ℕ) → F text v rest → ⊥

-- some numeral of the field stands there, and what follows it is as P says
abbrev pub Then : (List ℕ → ℕ → List ℕ → Type 0) → List ℕ → (List ℕ → Type 0) → Type 0
Then F text P = (v : ℕ) × (rest : List ℕ) × F text v rest × P rest

-- the fields before that of the fault are right, and that one is wrong
abbrev pub Wrong : List ℕ → Fault → Type 0
Wrong line Number = No NumberField line
Wrong line Badge = Then NumberField line (No BadgeField)
Wrong line Time = Then NumberField line (λ r. Then BadgeField r (No TimeField))
Wrong line Name = Then NumberField line (λ r. Then BadgeField r (λ s. Then TimeField s (λ t. (name : List ℕ) → Named t name → ⊥)))

-- what is told of a fault
abbrev pub message : Fault → List ℕ
message Number = codes "the number is not 1 to 65535, or no space follows it"
message Badge = codes "the badge is not 0 to 999999, or no space follows it"
message Time = codes "the time is not 0 to 9999999999, or no space follows it"
message Name = codes "the name is not 1 to 10 characters of A-Z, a-z, 0-9 and -"
