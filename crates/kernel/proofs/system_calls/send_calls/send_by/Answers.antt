-- What a capability names is there, and its badge is short.
use Rattle.model.specs.Capabilities.CapabilityWords.{IsCapability}
use Rattle.model.specs.Kernel.Kinds.{object_named}
use Rattle.model.specs.Kernel.Retype.{NewEndpoint, NewNotification}
use Rattle.std.proofs.Common.{ap, subst}
use Rattle.kernel.proofs.system_calls.send_calls.send_by.Goals as goal

pub send_on-requires-clause-endpoint : goal.send_on-requires-clause-endpoint
send_on-requires-clause-endpoint g c = c.requires.held.there.named NewEndpoint c.in-Endpoint.offset (ap object_named c.in-Endpoint.is)

pub send_on-requires-clause-small : goal.send_on-requires-clause-small
send_on-requires-clause-small g c = (subst IsCapability c.in-Endpoint.is c.requires.held.there.valid).2

pub signal_on-requires-clause-notification : goal.signal_on-requires-clause-notification
signal_on-requires-clause-notification g c = c.requires.held.there.named NewNotification c.in-Notification.offset (ap object_named c.in-Notification.is)

pub signal_on-requires-clause-small : goal.signal_on-requires-clause-small
signal_on-requires-clause-small g c = (subst IsCapability c.in-Notification.is c.requires.held.there.valid).2
