-- Parts of a log with roots.
use Rattle.std.specs.Prelude.{◌≡◌, true, List}
use Rattle.std.specs.List.{All}
use Rattle.model.specs.Acceptance.NotedStates.{NotedSlot, are_same_slots}
use Rattle.part_roots.specs.Held.{SaysBy}
use Rattle.part_roots.specs.declared.bases.Root.{Root}
use Rattle.part_roots.specs.declared.part_roots.PartRoots.{PartRoots}
use Rattle.part_roots.specs.declared.part_roots.RootedPart.{RootedPart}
use Rattle.shared_states.specs.States.{IsIn}
use Rattle.shared_states.specs.declared.entries.Entry.{Entry}
use Rattle.typestate.specs.Logs.{Holds, part_of}
use Rattle.typestate.specs.Replays.{replayed}
use Rattle.typestate.specs.declared.log_entries.LogEntry.{LogEntry}
use Rattle.typestate.specs.declared.logs.Part.{Part}

-- the states of a root are there
pub record AreIn (entries : List Entry) (root : Root) : Type 0 where
  pub slots : IsIn entries root.slots
  pub names : IsIn entries root.names
  pub parents : IsIn entries root.parents

-- the root of a part says what slots it leaves of an image's
pub record IsRooted (entries : List Entry) (image : List NotedSlot) (log : List LogEntry) (rooted : RootedPart) : Type 0 where
  pub held : Holds log rooted.part
  pub within : AreIn entries rooted.root
  pub says : SaysBy entries rooted.root image (replayed image (part_of log rooted.part))

abbrev pub AreRooted : List NotedSlot → List LogEntry → PartRoots → Type 0
AreRooted image log roots = All (IsRooted roots.states image log) roots.parts.items

-- two parts leave the same slots
abbrev pub LeaveSame : List NotedSlot → List LogEntry → Part → Part → Type 0
LeaveSame image log one other = are_same_slots (replayed image (part_of log one)) (replayed image (part_of log other)) ≡ true
