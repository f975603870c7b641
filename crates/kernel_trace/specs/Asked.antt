-- The events that lines ask for, one line after another.
use Rattle.std.specs.Prelude.{ℕ, zero, suc, ◌++◌, List, [], ◌∷◌, is_some, replicate, if◌then◌else◌}
use Rattle.model.specs.declared.events.Event.{Event}
use Rattle.model.specs.declared.events.Event.TheVariants.{Step}
use Rattle.model.specs.Kernel.Scheduling.{current}
use Rattle.model.specs.Kernel.State.{State}
use Rattle.model.specs.Kernel.Steps.{state_after, step}
use Rattle.sinks.specs.declared.event_lines.EventLine.{EventLine}
use Rattle.sinks.specs.declared.event_lines.EventLine.TheVariants.{Blank, Events, Settle}

-- steps up to the first in which no thread runs, which is the last of them, at most so many
unfoldable pub settling : ℕ → State → List Event
settling zero s = []
settling (suc most) s = Step ∷ (if is_some (current s) then settling most (step s Step).0 else [])

-- the events that a line asks for
abbrev pub asked_events : State → EventLine → List Event
asked_events s Blank = []
asked_events s (Events event count) = replicate count event
asked_events s (Settle most) = settling most s

-- those that lines ask for, one after another
unfoldable pub all_asked : State → List EventLine → List Event
all_asked s [] = []
all_asked s (line ∷ lines) = let events = asked_events s line in events ++ all_asked (state_after s events) lines
