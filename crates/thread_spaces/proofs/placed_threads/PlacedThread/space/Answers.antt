-- The root leads inside, and the laws on well-formed images say the rest.
use Rattle.thread_spaces.proofs.RootRadix.{root-leads-inside}
use Rattle.thread_spaces.proofs.PlacedThreads.{is-listed}
use Rattle.thread_spaces.proofs.placed_threads.PlacedThread.space.Goals as goal

pub invariant_of-result : goal.invariant_of-result
invariant_of-result c = record {
  rooted = c.root.ensures.value;
  mapped = c.table.ensures;
  promised = c.requires.promises;
  given = ∣ record {
    cnodes = c.requires.windows;
    inside = root-leads-inside c.args.self.now.placed.now.image.now c.args.self.now.thread.now c.root.result c.args.self.now.placed.now.formed (is-listed
        c.args.self.now) c.root.ensures.value;
    valid = c.root.ensures.valid;
    apart = c.threads_stand_apart.ensures c.args.self.now.placed.now.image.now c.args.self.now.thread.now c.header.ensures.fits
        c.args.self.now.placed.now.formed (is-listed c.args.self.now);
    listed = c.mappings_are_listed.ensures c.args.self.now.placed.now.image.now c.args.self.now.thread.now c.header.ensures.fits
        c.args.self.now.placed.now.formed (is-listed c.args.self.now);
  } ∣₁;
}
