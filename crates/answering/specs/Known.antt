-- What is known of points, and on the ways from one to another.
use Rattle.std.specs.Prelude.{ℕ, ◌==◌, ◌||◌, Bool, true, false, not, List, Option, None, slice_get}
use Rattle.std.specs.Option.{option_map_or}
use Rattle.model.specs.declared.instructions.Instr.{Instr}
use Rattle.model.specs.declared.instructions.Instr.TheVariants.{Ecall}
use Rattle.model.specs.declared.ranges.Range.{Range}
use Rattle.model.specs.Acceptance.PointStates.{address_of, instruction_at}
use Rattle.model.specs.Images.Image.{Thread}
use Rattle.ranges.specs.declared.edges.Edge.{Edge}
use Rattle.response.specs.Asking.{Asked}
use Rattle.settled_threads.specs.Answering.{are_known, leads_known, owing_over}
use Rattle.answering.specs.declared.known.Known.{Known}

abbrev pub is_call : Instr → Bool
is_call Ecall = true
is_call _ = false

abbrev pub known_at : Known → ℕ → Option (List Range)
known_at k point = option_map_or (λ place. slice_get k.ranges.items place) (slice_get k.places.items point) None

-- what is known at the next point holds on a way, if it leads to this address
abbrev pub way_known : ℕ → Option (List Range) → Option Edge → Bool
way_known target next way = option_map_or (λ edge. not (edge.target == target) || are_known next edge.bounds) way true

-- what is known at a point holds on the ways from another
abbrev pub leads_from : Thread → Known → ℕ → ℕ → Bool
leads_from t k here next =
    option_map_or (λ ranges. leads_known (address_of t here) (address_of t next) ranges (known_at k next) (instruction_at t here)) (known_at k here) true

-- so of what is owed
abbrev pub owes_over : Thread → ℕ → Known → Asked → ℕ → ℕ → Bool
owes_over t badge k = owing_over t badge (known_at k)
