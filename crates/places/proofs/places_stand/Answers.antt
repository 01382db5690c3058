use Rattle.places.proofs.Parted.{says_all}
use Rattle.places.proofs.places_stand.Goals as goal

pub returns : goal.returns
returns c = says_all
