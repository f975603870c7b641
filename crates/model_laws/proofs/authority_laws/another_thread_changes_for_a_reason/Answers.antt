-- By the reasons, case by case.
use Rattle.model.specs.Acceptance.Authority.{CallNames, self_of}
use Rattle.model_laws.proofs.Reasons.{never_stopped, no_third, no_word, stops_differ, third_differs}
use Rattle.model_laws.proofs.authority_laws.another_thread_changes_for_a_reason.Goals as goal

pub returns-clause-stopped : goal.returns-clause-stopped
returns-clause-stopped c = λ image t s after other endpoint old differ is waits nobody now within.
    never_stopped s after (self_of image t) (CallNames image t s) other endpoint old waits nobody
    (within.threads other old _ differ is now (stops_differ old endpoint waits))

pub returns-clause-word : goal.returns-clause-word
returns-clause-word c = λ image t s after other old new differ is waits nobody now changed within.
    no_word s after (self_of image t) (CallNames image t s) other old new waits nobody (within.threads other old new differ is now changed)

pub returns-clause-third : goal.returns-clause-third
returns-clause-third c = λ image t s after other third endpoint old new differ another is waits none now has within.
    no_third s after (self_of image t) (CallNames image t s) other third endpoint old new another waits none has
    (within.threads other old new differ is now (third_differs old new third none has))
