-- All points are read, and nothing is found with their slots so far.
use Rattle.program_rules.proofs.programs.Program.check.Goals as goal

pub points_rules-outcome-requires : goal.points_rules-outcome-requires
points_rules-outcome-requires c =
    let given = c.args.self.now.given in
    record {
      read = c.in_ok-points.ensures.read;
      along = c.new-walk.ensures given.space.image.now given.space.thread.now given.slots.now c.in_ok-points.points.log c.in_ok-points.ensures.shown
          c.in_ok-roots.ensures;
    }
