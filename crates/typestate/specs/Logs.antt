-- Parts of a log of changes.
use Rattle.std.specs.Prelude.{◌≡◌, ◌-◌, ◌≤◌, List, drop, length, take}
use Rattle.model.specs.Acceptance.NotedStates.{NotedSlot}
use Rattle.typestate.specs.Differences.{changed}
use Rattle.typestate.specs.Orders.{Rise}
use Rattle.typestate.specs.Replays.{replayed}
use Rattle.typestate.specs.Unlinked.{AreUnlinked}
use Rattle.typestate.specs.declared.log_entries.LogEntry.{LogEntry}
use Rattle.typestate.specs.declared.logs.Part.{Part}
use Rattle.typestate.specs.declared.logs.ShownPart.{ShownPart}

-- the changes of a part
abbrev pub part_of : List LogEntry → Part → List LogEntry
part_of log part = take (part.end - part.first) (drop part.first log)

-- the part stands within the log
abbrev pub Holds : List LogEntry → Part → Type 0
Holds log part = (part.first ≤ part.end) × (part.end ≤ length log)

-- what was held by a log is held by a later one, with the same changes
abbrev pub KeepsParts : List LogEntry → List LogEntry → Type 0
KeepsParts old new = (part : Part) → Holds old part → Holds new part × (part_of new part ≡ part_of old part)

-- one part begins with another
abbrev pub IsNext : Part → Part → Type 0
IsNext shorter longer = (shorter.first ≡ longer.first) × (shorter.end ≤ longer.end)

-- what is shown changes slots as an image lists them as the part does, by changes whose keys rise
pub record Shows (log : List LogEntry) (part : Part) (shown : ShownPart) : Type 0 where
  pub part_is : shown.part ≡ part
  pub held : Holds log part
  pub rising : Rise shown.changes
  pub same : (slots : List NotedSlot) → Rise slots → AreUnlinked slots → changed slots shown.changes ≡ replayed slots (part_of log part)

-- some part is shown
abbrev pub ShowsSome : List LogEntry → ShownPart → Type 0
ShowsSome log shown = Shows log shown.part shown
