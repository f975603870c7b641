-- By what a well-formed image gives its threads: the root of a thread's space is a capability.
use Rattle.std.proofs.Math.Logic.{∥∥₁_elim}
use Rattle.std.specs.Coded.{coded_bool}
use base.Stored.{Coded-set}
use Rattle.image_reading.proofs.Laws.{decides-test, test-decides}
use Rattle.explaining.proofs.scenes.Scene.called_key.Goals as goal

pub called_slot-requires : goal.called_slot-requires
called_slot-requires c =
    let space = c.args.self.now.given.space in
    test-decides space.root (∥∥₁_elim space.given (Coded-set coded_bool _ _) (λ g. decides-test space.root g.valid))
