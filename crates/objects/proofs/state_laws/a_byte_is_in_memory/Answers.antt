-- The table says where frames are.
use Rattle.objects.proofs.StateLaws.{byte-there}
use Rattle.objects.proofs.state_laws.a_byte_is_in_memory.Goals as goal

pub returns : goal.returns
returns c = byte-there
