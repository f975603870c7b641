-- What goes along over the points, also where the log grows.
use Rattle.std.proofs.Common.{◌≡◌, IfOk, Result, Ok, Err, List, subst}
use Rattle.model.specs.Acceptance.NotedStates.{NotedSlot}
use Rattle.model.specs.Images.Described.{Numbered}
use Rattle.model.specs.Images.Image.{Image, Thread}
use Rattle.model.specs.declared.refusals.Refusal.{Refusal}
use Rattle.part_roots.proofs.Laws.{rooted-grown}
use Rattle.part_roots.specs.Rooted.{AreRooted}
use Rattle.part_roots.specs.declared.part_roots.PartRoots.{PartRoots}
use Rattle.program_rules.proofs.MappedSoFar.{found-grown, still-found}
use Rattle.program_rules.proofs.Outcomes.{follows-from}
use Rattle.program_rules.proofs.ShownParts.{some-grown}
use Rattle.program_rules.specs.FoundPages.{AreMapped}
use Rattle.program_rules.specs.Kept.{IsRead}
use Rattle.program_rules.specs.Walks.{AreWalked, GoesAlong}
use Rattle.program_rules.specs.declared.kept_points.KeptPoints.{KeptPoints}
use Rattle.program_rules.specs.declared.point_rules.found_pages.FoundPages.{FoundPages}
use Rattle.program_rules.specs.declared.walks.Walk.{Walk}
use Rattle.typestate.specs.Logs.{Holds, KeepsParts, ShowsSome, part_of}
use Rattle.typestate.specs.Replays.{replayed}
use Rattle.typestate.specs.declared.log_entries.LogEntry.{LogEntry}
use Rattle.typestate.specs.declared.logs.Part.{Part}
use Rattle.typestate.specs.declared.logs.ShownPart.{ShownPart}

pub along-grown : (image : Image) (t : Thread) (slots : List NotedSlot) (old new : List LogEntry) (walk : Walk) → KeepsParts old new →
    GoesAlong image t slots old walk → GoesAlong image t slots new walk
along-grown image t slots old new walk keeps along = record {
  shown = some-grown old new walk.shown keeps along.shown;
  aside = some-grown old new walk.aside keeps along.aside;
  left = some-grown old new walk.left keeps along.left;
  rooted = rooted-grown slots old new walk.roots keeps along.rooted;
  found = found-grown image t slots old new walk.found keeps along.found;
}

-- another part is shown
pub shown-along : (image : Image) (t : Thread) (slots : List NotedSlot) (log : List LogEntry) (walk : Walk) (shown : ShownPart) → ShowsSome log shown →
    GoesAlong image t slots log walk → GoesAlong image t slots log (record walk { shown = shown })
shown-along image t slots log walk shown shows along = record {
  shown = shows;
  aside = along.aside;
  left = along.left;
  rooted = along.rooted;
  found = along.found;
}

-- pages were found mapped with the slots of a part
pub along-found : (image : Image) (t : Thread) (slots : List NotedSlot) (log : List LogEntry) (part : Part) (all : List NotedSlot) (walk : Walk)
    (found : FoundPages) → Holds log part → all ≡ replayed slots (part_of log part) → found.part ≡ part → AreMapped image t all found
    → GoesAlong image t slots log walk → GoesAlong image t slots log (record walk { found = found })
along-found image t slots log part all walk found held same is mapped along = record {
  shown = along.shown;
  aside = along.aside;
  left = along.left;
  rooted = along.rooted;
  found = still-found image t slots log part found held is (subst (λ (s : List NotedSlot). AreMapped image t s found) same mapped);
}

-- behind a call, where no memory is refused
pub walked-call : (image : Image) (t : Numbered) (slots : List NotedSlot) (old new : List LogEntry) (kept : KeptPoints) (walk : Walk) (shown : ShownPart)
    (result : Result (Unit {0}) Refusal) → IfOk result (λ _. KeepsParts old new) → IfOk result (λ _. ShowsSome new shown) →
    IfOk result (λ _. IsRead image t slots new kept) → GoesAlong image t.thread slots old walk
    → IfOk result (λ _. AreWalked image t slots new kept (record walk { shown = shown }))
walked-call image t slots old new kept walk shown (Ok x) keeps shows read along = record {
  read = read;
  along = shown-along image t.thread slots new walk shown shows (along-grown image t.thread slots old new walk keeps along);
}
walked-call image t slots old new kept walk shown (Err refusal) keeps shows read along = tt

-- after the ways on, on which the roots of parts are asked
pub walked-ways : (image : Image) (t : Numbered) (slots : List NotedSlot) (log : List LogEntry) (kept : KeptPoints) (walk : Walk) (roots : PartRoots)
    (result : Result (Unit {0}) Refusal) → IfOk result (λ _. AreRooted slots log roots) → IsRead image t slots log kept
    → GoesAlong image t.thread slots log walk
    → IfOk result (λ _. AreWalked image t slots log kept (record walk { roots = roots }))
walked-ways image t slots log kept walk roots result are read along =
    follows-from (λ _. AreRooted slots log roots) (λ _. AreWalked image t slots log kept (record walk { roots = roots })) result
    (λ _ are_rooted. record {
      read = read;
      along = record {
        shown = along.shown;
        aside = along.aside;
        left = along.left;
        rooted = are_rooted;
        found = along.found;
      };
    })
    are
