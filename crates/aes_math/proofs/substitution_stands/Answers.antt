use Rattle.aes_math.proofs.Facts.{substitution, products}
use Rattle.aes_math.proofs.substitution_stands.Goals as goal

pub returns : goal.returns
returns c = record { substitution = substitution; products = products }
