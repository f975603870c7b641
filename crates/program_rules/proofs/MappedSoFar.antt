-- Pages that were found mapped, also where the log grows.
use Rattle.std.proofs.Common.{◌≡◌, List, sym, subst}
use Rattle.model.specs.Acceptance.NotedStates.{NotedSlot}
use Rattle.model.specs.Images.Image.{Image, Thread}
use Rattle.program_rules.specs.FoundPages.{AreFound, AreMapped}
use Rattle.program_rules.specs.declared.point_rules.found_pages.FoundPages.{FoundPages}
use Rattle.typestate.specs.Replays.{replayed}
use Rattle.typestate.specs.declared.log_entries.LogEntry.{LogEntry}
use Rattle.typestate.specs.Logs.{Holds, KeepsParts, part_of}
use Rattle.typestate.specs.declared.logs.Part.{Part}

-- with the slots of the part at hand
pub at-part : (image : Image) (t : Thread) (slots : List NotedSlot) (log : List LogEntry) (part : Part) (found : FoundPages) → found.part ≡ part →
    AreFound image t slots log found
    → AreMapped image t (replayed slots (part_of log part)) found
at-part image t slots log part found is are = subst (λ (p : Part). AreMapped image t (replayed slots (part_of log p)) found) is are.1

-- what is mapped with the slots of a part was found there
pub still-found : (image : Image) (t : Thread) (slots : List NotedSlot) (log : List LogEntry) (part : Part) (found : FoundPages) → Holds log part →
    found.part ≡ part
    → AreMapped image t (replayed slots (part_of log part)) found → AreFound image t slots log found
still-found image t slots log part found held is mapped =
    (subst (λ (p : Part). Holds log p) (sym is) held, subst (λ (p : Part). AreMapped image t (replayed slots (part_of log p)) found) (sym is) mapped)

pub found-grown : (image : Image) (t : Thread) (slots : List NotedSlot) (old new : List LogEntry) (found : FoundPages) → KeepsParts old new →
    AreFound image t slots old found → AreFound image t slots new found
found-grown image t slots old new found keeps are =
    let kept = keeps found.part are.0 in
    (kept.0, subst (λ (l : List LogEntry). AreMapped image t (replayed slots l) found) (sym kept.1) are.1)
