-- Pages that were found mapped.
use Rattle.std.specs.Prelude.{List}
use Rattle.model.specs.Acceptance.NotedStates.{NotedSlot}
use Rattle.model.specs.Acceptance.PointRules.{is_mapped_for}
use Rattle.model.specs.Images.Image.{Image, Thread}
use Rattle.model.specs.declared.instructions.Access.TheVariants as accesses
use Rattle.program_rules.specs.declared.point_rules.found_pages.FoundPages.{FoundPages}
use Rattle.program_rules.specs.point_rules.Runs.{AreRuns}
use Rattle.typestate.specs.Replays.{replayed}
use Rattle.typestate.specs.declared.log_entries.LogEntry.{LogEntry}
use Rattle.typestate.specs.Logs.{Holds, part_of}

-- all of them are mapped with these slots
abbrev pub AreMapped : Image → Thread → List NotedSlot → FoundPages → Type 0
AreMapped image t slots found =
    AreRuns (is_mapped_for image t slots accesses.Load) found.loads × AreRuns (is_mapped_for image t slots accesses.Store) found.stores

-- and with those of their part of the log
abbrev pub AreFound : Image → Thread → List NotedSlot → List LogEntry → FoundPages → Type 0
AreFound image t slots log found = Holds log found.part × AreMapped image t (replayed slots (part_of log found.part)) found
