-- By what is used so far.
use Rattle.listed_images.proofs.places.places_of.Goals as goal

pub loop-number-init : goal.loop-number-init
loop-number-init c = c.none-used.ensures c.args.image.now

pub loop-number-preserved : goal.loop-number-preserved
loop-number-preserved c = c.place.ensures.used
