-- Both are said in so many words.
use Rattle.model_laws.proofs.authority_laws.a_thread_keeps_its_priority_and_its_handler.Goals as goal

pub returns-clause-priority : goal.returns-clause-priority
returns-clause-priority c = λ image t s after old new before behind differ within. differ (within.priority old new before behind)

pub returns-clause-handler : goal.returns-clause-handler
returns-clause-handler c = λ image t s after old new before behind differ within. differ (within.fault_address old new before behind)
