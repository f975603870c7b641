-- Frames lie in memory.
use Rattle.std.proofs.Common.{arith}
use Rattle.objects.proofs.FramePlaces.{frame-inside}
use Rattle.objects.specs.contracts.tables.Objects.{the_view}
use Rattle.objects.proofs.tables.Objects.memory_size.Goals as goal

pub returns-clause-frames : goal.returns-clause-frames
returns-clause-frames c slots memory frame framed =
    let tables = the_view c.self.inside in
    let within = frame-inside tables slots memory frame c.self.invariant (rw c.self.view_is framed) in
    omega (arith, within, c.power.ensures.value)
