-- What a line signals, in the words of the kernel's definitions.
use Rattle.model.specs.Kernel.Interrupts.{Signal as Told}
use Rattle.irq.specs.declared.lines.Signal.{Signal}

abbrev pub as_signal : Signal → Told
as_signal bound = record { notification = bound.notification; badge = bound.badge }
