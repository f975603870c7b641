-- By what is used so far.
use Rattle.system_reports.proofs.memory_maps.places_of.Goals as goal

pub loop-number-init : goal.loop-number-init
loop-number-init c = record { used = c.none-used.ensures c.args.image.now }
