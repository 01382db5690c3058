-- The number of each refusal, and of an answer: 0 where the call was accepted.
use Rattle.std.specs.Prelude.{ℕ, Ok, Err, Result}
use Rattle.refusal.specs.declared.Refusal.{Refusal}
use Rattle.refusal.specs.declared.Refusal.TheVariants.{Length, Buffer, Absent, Size, NotACard, SameCard, Worn, Layer}

abbrev pub number_of : Refusal → ℕ
number_of Length = 1
number_of Buffer = 2
number_of Absent = 3
number_of Size = 4
number_of NotACard = 5
number_of SameCard = 6
number_of Worn = 7
number_of Layer = 9

abbrev pub answer : {T : Type 0} → Result T Refusal → ℕ
answer (Ok x) = 0
answer (Err e) = number_of e
