-- It waits in the queue that its call names, as a receiver.
use Rattle.model.specs.Images.Described.{described}
use Rattle.model.specs.Kernel.Steps.{state_after, trace}
use Rattle.response.proofs.Doors.{door-rests}
use Rattle.response.proofs.servers_rest_at_their_endpoints.Goals as goal

pub returns : goal.returns
returns c = λ bytes image events t endpoint accepted devices listed one rests.
    door-rests c.laws_on_invocations.ensures.below bytes image (state_after (described image) events) (trace (described image) events) accepted
    (c.events_go_well.ensures bytes image events accepted devices).stand t listed
    (c.threads_wait_where_they_asked.ensures bytes image events t accepted devices listed) endpoint one rests
