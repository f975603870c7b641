-- By the lemma on fields.
use Rattle.objects.proofs.thread_records.Fields.{record_stays}
use Rattle.objects.proofs.thread_records.record_laws.a_record_stays.Goals as goal

pub returns : goal.returns
returns c = record_stays
