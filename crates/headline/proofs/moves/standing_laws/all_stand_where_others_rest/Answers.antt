-- Each thread moves or rests.
use Rattle.headline.proofs.moves.Standing.{all-stand}
use Rattle.headline.proofs.moves.standing_laws.all_stand_where_others_rest.Goals as goal

pub returns : goal.returns
returns c = all-stand c.laws_below.ensures.stand_on
