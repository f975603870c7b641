-- Who acknowledges lines, by what is seen of the threads of an image and of its lines.
use Rattle.std.specs.Prelude.{ℕ, ◌≡◌, ◌==◌, ◌&&◌, ◌||◌, Bool, true, false, nat_le, not, List, Option, Some, None, slice_get}
use Rattle.std.specs.List.{list_all, list_any}
use Rattle.std.specs.Option.{option_map_or}
use Rattle.responses.specs.Asks.{test_of}
use Rattle.responses.specs.Edges.{marks_on}
use Rattle.responses.specs.Lines.{bell_at}
use Rattle.responses.specs.Seen.{asks_all, leads_so}
use Rattle.responses.specs.declared.asks.AskTest.TheVariants.{TakesOnly, Leaves}
use Rattle.responses.specs.declared.keepers.Keeper.{Keeper}
use Rattle.responses.specs.declared.lines.Bell.{Bell}
use Rattle.responses.specs.declared.outlines.Outline.{Outline}

abbrev pub is_high : ℕ → Outline → Bool
is_high priority p = nat_le priority p.header.priority

abbrev pub high_at : List Outline → ℕ → ℕ → Bool
high_at programs priority thread = option_map_or (is_high priority) (slice_get programs thread) false

-- nobody but the thread of this control block takes from the notification, and nobody polls it
abbrev pub left_to : ℕ → ℕ → List Outline → Bool
left_to tcb queue programs = list_all (λ u. asks_all (test_of (Leaves queue (u.tcb == tcb))) u) programs

-- the line, which signals this, is acknowledged on each way of this thread
abbrev pub keeps_by : List Outline → ℕ → Keeper → Bell → Outline → Bool
keeps_by programs line k bell p =
    (p.number == k.thread)
    && ((k.notification == bell.notification)
    && (not (bell.badge == 0)
    && (left_to p.tcb bell.notification programs
    && (leads_so (marks_on line k.marks.items) p
    && (not k.is_alone || asks_all (test_of (TakesOnly bell.notification)) p)))))

abbrev pub keeps_for : List Outline → ℕ → Keeper → Option Bell → Bool
keeps_for programs line k (Some bell) = list_any (keeps_by programs line k bell) programs
keeps_for programs line k None = false

abbrev pub keeps : List Outline → List (Option Bell) → ℕ → Keeper → Bool
keeps programs bells line k = keeps_for programs line k (bell_at bells line)

-- whoever is said to keep the line does
abbrev pub is_kept : List Outline → List (Option Bell) → ℕ → Option Keeper → Bool
is_kept programs bells line keeper = option_map_or (keeps programs bells line) keeper true

-- so of each line
abbrev pub AreKeepers : List Outline → List (Option Bell) → List (Option Keeper) → Type 0
AreKeepers programs bells keepers =
    (line : ℕ) (keeper : Option Keeper) → slice_get keepers line ≡ Some keeper → is_kept programs bells line keeper ≡ true
