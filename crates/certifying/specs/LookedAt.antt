-- The slots that were looked at last.
use Rattle.std.specs.Prelude.{◌≡◌, Bool, true, List}
use Rattle.certifying.specs.declared.bare_threads.BareThread.{BareThread}
use Rattle.typestate.specs.Differences.{changed}
use Rattle.typestate.specs.Logs.{Shows}
use Rattle.typestate.specs.Strays.{NoneStray}
use Rattle.typestate.specs.declared.log_entries.LogEntry.{LogEntry}
use Rattle.typestate.specs.declared.logs.Part.{Part}
use Rattle.typestate.specs.declared.logs.ShownPart.{ShownPart}

pub record IsLookedAt (thread : BareThread) (log : List LogEntry) (part : Part) (shown : ShownPart) (known clean : Bool) : Type 0 where
  -- a part of the log is shown, where it is known
  pub shows : known ≡ true → Shows log part shown
  pub none_stray : clean ≡ true → NoneStray thread.given.space.image.now thread.given.space.thread.now (changed thread.given.slots.now shown.changes)
