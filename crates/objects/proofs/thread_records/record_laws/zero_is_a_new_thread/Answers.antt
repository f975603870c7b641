-- By the lemma on zeros.
use Rattle.std.proofs.Common.{refl}
use Rattle.objects.proofs.thread_records.Fields.{blank-zero}
use Rattle.objects.proofs.thread_records.record_laws.zero_is_a_new_thread.Goals as goal

pub returns : goal.returns
returns c = record { blank = blank-zero; new = refl }
