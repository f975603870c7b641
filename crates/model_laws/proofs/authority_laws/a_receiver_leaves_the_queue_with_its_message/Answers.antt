-- The queue before is the one after with who was served, and who is served waits no more.
use Rattle.std.proofs.Common.{◌≡◌, ◌≢◌, Option, [], ◌∷◌, sym, ap, ◌∙◌}
use Rattle.std.specs.Option.{option_map_or}
use Rattle.model.specs.Acceptance.Authority.{CallNames, self_of}
use Rattle.model.specs.Kernel.State.{Object, EndpointState, ThreadState, as_thread, new_thread}
use Rattle.model_laws.proofs.QueueChanges.{receiver-served}
use Rattle.model_laws.proofs.Reasons.{queue-stays}
use Rattle.model_laws.proofs.authority_laws.a_receiver_leaves_the_queue_with_its_message.Goals as goal

pub returns-clause-stays : goal.returns-clause-stays
returns-clause-stays c = λ image t s after other endpoint e old new apart here there nobody before waits behind differ within.
    queue-stays s after (self_of image t) (CallNames image t s) other endpoint e old new here there nobody waits
    (within.threads other old new apart before behind differ)

pub returns-clause-forgotten : goal.returns-clause-forgotten
returns-clause-forgotten c = λ image t s after other endpoint old new own here there waited none behind waits within.
    let differ : old ≢ new = λ same. let f : other ∷ [] ≡ [] = sym waited ∙ ap (λ (e : EndpointState). e.receivers) same ∙ none in cc in
    receiver-served image t s after endpoint old new (within.endpoints endpoint old new here there differ) other waited none
    (ap (λ (o : Option Object). (option_map_or (λ (t : ThreadState). t) (as_thread o) new_thread).status) behind ∙ waits)
