-- What goes along from point to point while the rules on them are checked.
use Rattle.std.specs.Prelude.{List}
use Rattle.model.specs.Acceptance.NotedStates.{NotedSlot}
use Rattle.model.specs.Images.Described.{Numbered}
use Rattle.model.specs.Images.Image.{Image, Thread}
use Rattle.program_rules.specs.FoundPages.{AreFound}
use Rattle.program_rules.specs.Kept.{IsRead}
use Rattle.part_roots.specs.Rooted.{AreRooted}
use Rattle.program_rules.specs.declared.kept_points.KeptPoints.{KeptPoints}
use Rattle.program_rules.specs.declared.walks.Walk.{Walk}
use Rattle.typestate.specs.Logs.{ShowsSome}
use Rattle.typestate.specs.declared.log_entries.LogEntry.{LogEntry}

-- each part is one of this log
pub record GoesAlong (image : Image) (t : Thread) (slots : List NotedSlot) (log : List LogEntry) (walk : Walk) : Type 0 where
  pub shown : ShowsSome log walk.shown
  pub aside : ShowsSome log walk.aside
  pub left : ShowsSome log walk.left
  pub rooted : AreRooted slots log walk.roots
  pub found : AreFound image t slots log walk.found

-- all points, with what goes along over them
pub record AreWalked (image : Image) (t : Numbered) (slots : List NotedSlot) (log : List LogEntry) (kept : KeptPoints) (walk : Walk) : Type 0 where
  pub read : IsRead image t slots log kept
  pub along : GoesAlong image t.thread slots log walk
