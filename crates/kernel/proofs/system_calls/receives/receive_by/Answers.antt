-- What a capability names is there.
use Rattle.model.specs.Kernel.Kinds.{object_named}
use Rattle.model.specs.Kernel.Retype.{NewEndpoint, NewNotification}
use Rattle.std.proofs.Common.{ap}
use Rattle.kernel.proofs.system_calls.receives.receive_by.Goals as goal

pub receive_message-requires-clause-endpoint : goal.receive_message-requires-clause-endpoint
receive_message-requires-clause-endpoint g c = c.requires.there.named NewEndpoint c.in-Endpoint.offset (ap object_named c.in-Endpoint.is)

pub receive_signal-requires-clause-notification : goal.receive_signal-requires-clause-notification
receive_signal-requires-clause-notification g c = c.requires.there.named NewNotification c.in-Notification.offset (ap object_named c.in-Notification.is)
