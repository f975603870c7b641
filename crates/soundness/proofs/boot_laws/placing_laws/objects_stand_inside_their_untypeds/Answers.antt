-- Each lies after the ones before it in its untyped, and untypeds lie after one another.
use Rattle.soundness.proofs.boot_laws.PlacesApart.{stand-apart}
use Rattle.soundness.proofs.boot_laws.placing_laws.objects_stand_inside_their_untypeds.Goals as goal

pub returns : goal.returns
returns c = stand-apart
