-- What the handler of a thread's faults is.
-- seL4 Reference Manual, "Faults".
use Rattle.faults.specs.declared.handlers.Handler.{Handler}
use Rattle.model.specs.Kernel.Faults as states

abbrev pub handler_told : Handler → states.Handler
handler_told h = record { endpoint = h.endpoint; badge = h.badge }
