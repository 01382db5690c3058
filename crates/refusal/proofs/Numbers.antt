-- No refusal has the number of an acceptance.
use Rattle.std.proofs.Common.{◌≡◌, false, is_err, Ok, Err, Result, refl, arith}
use Rattle.refusal.specs.declared.Refusal.{Refusal}
use Rattle.refusal.specs.declared.Refusal.TheVariants.{Length, Buffer, Absent, Size, NotACard, SameCard, Worn, Layer}
use Rattle.refusal.specs.Refusals.{number_of, answer}

pub number_not_0 : (e : Refusal) → number_of e ≡ 0 → ⊥
number_not_0 Length e = omega arith
number_not_0 Buffer e = omega arith
number_not_0 Absent e = omega arith
number_not_0 Size e = omega arith
number_not_0 NotACard e = omega arith
number_not_0 SameCard e = omega arith
number_not_0 Worn e = omega arith
number_not_0 Layer e = omega arith

pub not_refused : {T : Type 0} (r : Result T Refusal) → answer r ≡ 0 → is_err r ≡ false
not_refused (Ok x) e = refl
not_refused (Err y) e = absurd (number_not_0 y e)
