-- By the message that the byte is of.
use Rattle.model_laws.proofs.MessageBytes.{IsOfMessage, fault-delivers, in-buffer, nobody-delivers, not-held, not-other, not-past, of-message}
use Rattle.model_laws.proofs.authority_laws.a_message_changes_its_words_in_a_buffer.Goals as goal

pub returns-clause-bystander : goal.returns-clause-bystander
returns-clause-bystander c = λ image t s after place changes outside within.
    in-buffer image t s after place (of-message image t s after place changes within) outside

pub returns-clause-registers : goal.returns-clause-registers
returns-clause-registers c = λ image t s after place changes below within.
    not-held image t s after place (of-message image t s after place changes within) below

pub returns-clause-end : goal.returns-clause-end
returns-clause-end c = λ image t s after place changes past within.
    not-past image t s after place (of-message image t s after place changes within) past

pub returns-clause-value : goal.returns-clause-value
returns-clause-value c = λ image t s after place changes other within.
    not-other image t s after place (of-message image t s after place changes within) other

pub returns-clause-nobody : goal.returns-clause-nobody
returns-clause-nobody c = λ image t s after place failure changes none alone within.
    let m = of-message image t s after place changes within in
    nobody-delivers image t s after (IsOfMessage.from m) (IsOfMessage.to m) failure none alone (IsOfMessage.delivers m)

pub returns-clause-fault : goal.returns-clause-fault
returns-clause-fault c = λ image t s after place slot endpoint badge r first others fault changes named holds alone none list sent within.
    let m = of-message image t s after place changes within in
    fault-delivers image t s after (IsOfMessage.from m) (IsOfMessage.to m) slot endpoint badge r first others fault named holds alone none list sent
    (IsOfMessage.delivers m)
