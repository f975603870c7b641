-- By what is used so far.
use Rattle.source_gaps.proofs.item_gaps.Items.offset_of.Goals as goal

pub loop-number-init : goal.loop-number-init
loop-number-init c = record { used = c.none-used.ensures c.args.self.now.image.now }
