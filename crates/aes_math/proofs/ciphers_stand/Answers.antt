use Rattle.aes_math.proofs.Facts.{ciphers}
use Rattle.aes_math.proofs.ciphers_stand.Goals as goal

pub returns : goal.returns
returns c = ciphers
