-- The two laws are lemmas.
use Rattle.hexadecimal.proofs.Codes as codes
use Rattle.hexadecimal.proofs.laws.Goals as goal

pub returns : goal.returns
returns c = record { back = codes.back; only = codes.only }
