-- They differ in others' control blocks and code, and in the ready lists.
use Rattle.part_laws.proofs.starts.Programs.{start-byte}
use Rattle.part_laws.proofs.starts.Start.{start-object, start-ready, start-same-lines, start-slot}
use Rattle.part_laws.proofs.starts.both_start_alike.Goals as goal

pub returns : goal.returns
returns c = λ bytes others image part accepted alone_accepted nothing. record {
  objects = λ offset of. start-object bytes image accepted c.threads_have_their_own_blocks.ensures part nothing offset of;
  bytes = λ place of. start-byte bytes image accepted part place of;
  slots = λ slot of. start-slot bytes image accepted c.threads_have_their_own_blocks.ensures part nothing slot of;
  masked = λ line of. (start-same-lines image part line).0;
  pending = λ line of. (start-same-lines image part line).1;
  ready = λ priority. start-ready bytes image accepted c.threads_have_their_own_blocks.ensures part nothing priority;
}
