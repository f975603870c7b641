-- Field by field.
use Rattle.model_laws.proofs.RemovedInSentences.{only-removed, removed}
use Rattle.model_laws.proofs.descent_laws.a_removal_is_what_its_sentences_say.Goals as goal

pub returns-clause-holds : goal.returns-clause-holds
returns-clause-holds c = removed

pub returns-clause-only : goal.returns-clause-only
returns-clause-only c = only-removed
