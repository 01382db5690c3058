use Rattle.sealed.proofs.Books.{says_all}
use Rattle.sealed.proofs.layers_stand.Goals as goal

pub returns : goal.returns
returns c = says_all
