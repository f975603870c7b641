-- Who delivers, and to whom.
use Rattle.std.proofs.Common.{sym, ap, ◌∙◌}
use Rattle.model.specs.Kernel.Messages.{buffer_of, length_between}
use Rattle.model_laws.proofs.MessageBytes.{inside, length-few, of-message}
use Rattle.model_laws.proofs.Narrow.{received-from, replied-to, sent-to}
use Rattle.model_laws.proofs.narrow_laws.a_message_goes_from_the_first_to_the_first.Goals as goal

pub returns-clause-receiver : goal.returns-clause-receiver
returns-clause-receiver c = λ image t s after place slot endpoint badge first r kind others changes asks named holds alone list outside within.
    let m = of-message image t s after place changes within in
    let same = sent-to image t s after m.from m.to slot endpoint badge r named holds alone kind asks first others list m.delivers in
    inside place m.target m.index (length_between s m.from m.to) m.at m.last (length-few s m.from m.to)
    (outside m.target (ap (buffer_of s) (sym same) ∙ m.of_receiver))

pub returns-clause-sender : goal.returns-clause-sender
returns-clause-sender c = λ image t s after place slot endpoint badge r kind first others changes asks named holds alone list other within.
    let m = of-message image t s after place changes within in
    let both = received-from image t s after m.from m.to slot endpoint badge r named holds alone kind asks first others list m.delivers in
    other m.source m.target m.index (ap (buffer_of s) (sym both.0) ∙ m.of_sender) (ap (buffer_of s) (sym both.1) ∙ m.of_receiver) m.at (sym m.is)

pub returns-clause-awaited : goal.returns-clause-awaited
returns-clause-awaited c = λ image t s after place caller changes asks has other within.
    let m = of-message image t s after place changes within in other (replied-to image t s after m.from m.to caller asks has m.delivers).0

pub returns-clause-runs : goal.returns-clause-runs
returns-clause-runs c = λ image t s after place caller changes asks has other within.
    let m = of-message image t s after place changes within in other (replied-to image t s after m.from m.to caller asks has m.delivers).1
