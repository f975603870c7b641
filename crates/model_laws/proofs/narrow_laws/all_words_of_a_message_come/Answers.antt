-- By the reasons, case by case.
use Rattle.model_laws.proofs.Narrow.{answered-all, heard-all, told-all}
use Rattle.model_laws.proofs.narrow_laws.all_words_of_a_message_come.Goals as goal

pub returns-clause-receiver : goal.returns-clause-receiver
returns-clause-receiver c = λ image t s after slot other endpoint badge source target index r kind old new apart asks named holds before waits behind differ
    stays from to first last wrong within.
    wrong (told-all image t s after other old new slot endpoint badge r kind asks named holds waits stays
    (within.threads other old new apart before behind differ) source target index from to first last)

pub returns-clause-caller : goal.returns-clause-caller
returns-clause-caller c = λ image t s after other source target index old new apart before waits behind differ from to first last wrong within.
    wrong (answered-all image t s after other old new waits (within.threads other old new apart before behind differ) source target index from to first last)

pub returns-clause-sender : goal.returns-clause-sender
returns-clause-sender c = λ image t s after other endpoint source target index kind old new first others apart asks list says before waits behind differ
    stays from to low high wrong within.
    wrong (heard-all image t s after other old new endpoint first others list kind asks says waits stays
    (within.threads other old new apart before behind differ) source target index from to low high)
