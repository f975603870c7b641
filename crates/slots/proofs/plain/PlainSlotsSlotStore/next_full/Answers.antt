-- The rising list of the full slots is an order of them.
use Rattle.slots.proofs.Listing.{order-table}
use Rattle.slots.proofs.plain.PlainSlotsSlotStore.next_full.Goals as goal

pub returns-clause-lists : goal.returns-clause-lists
returns-clause-lists c = order-table c.args.self.now.1
