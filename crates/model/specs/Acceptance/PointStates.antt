-- The state that a certificate gives each point of a program: noted in a record, or what the point before leaves.
use Rattle.std.specs.Prelude.{ℕ, zero, suc, ◌+◌, ◌*◌, false, Option, Some, None, Result, Ok, Err, pos, [], slice_index, if◌then◌else◌}
use Rattle.std.specs.Option.{option_map_or}
use Rattle.std.specs.List.{list_any}
use Rattle.model.specs.declared.instructions.Instr.{Instr}
use Rattle.model.specs.declared.instructions.Instr.TheVariants.{Ecall}
use Rattle.model.specs.declared.refusals.Point.{Point}
use Rattle.model.specs.declared.refusals.Refusal.{Refusal}
use Rattle.model.specs.Acceptance.CallRules.{AfterCall, after_call}
use Rattle.model.specs.Acceptance.Edges.{Edge, after}
use Rattle.model.specs.Images.Described.{Numbered}
use Rattle.model.specs.Images.Image.{Image, Thread, StateRecord}
use Rattle.model.specs.Machine.Decoding.{decoded}
use Rattle.model.specs.Acceptance.Measures.{Measure, has_term, lowered}
use Rattle.model.specs.Acceptance.NotedStates.{PointState, has_stray_slots, record_of, record_state}
use Rattle.model.specs.Acceptance.RangeRules.{destination}

-- what is known of a point
pub data Noted : Type 0 where
  Known : PointState → Noted
  -- it has no state
  Missing : Noted
  -- it has none only because the instruction before writes a register of the measure
  Unmeasured : Noted

abbrev pub point_of : Numbered → ℕ → Point
point_of t point = record { thread = t.number; point = point }

abbrev pub address_of : Thread → ℕ → ℕ
address_of t point = t.header.base + 4 * point

abbrev pub instruction_at : Thread → ℕ → Option Instr
instruction_at t point = decoded (slice_index t.words point)

-- ---- after an instruction

-- after a wait the budget is there again
abbrev pub whole_budget : Thread → Measure
whole_budget t = record { constant = pos t.header.budget; terms = [] }

abbrev pub with_measure : AfterCall → Measure → Noted
with_measure a m = Known (record { ranges = a.ranges; slots = a.slots; measure = m })

abbrev pub behind_call : Thread → Measure → AfterCall → Noted
behind_call t m a =
    if a.is_wait then with_measure a (whole_budget t)
    else if list_any (λ x. has_term m x.0) a.written then Unmeasured
    else with_measure a (lowered m (pos 1))

-- What the system call at a point leaves, or why it is refused. Nothing, where a noted slot is one that the thread may not have: the
-- point is refused for that slot, and the call is not looked at.
unfoldable pub call_at : Image → Numbered → ℕ → PointState → Option (Result AfterCall Refusal)
call_at image t point state =
    if has_stray_slots image t.thread point state then None else Some (after_call image t.thread (point_of t point) state)

abbrev pub follows_call : Thread → Measure → Option (Result AfterCall Refusal) → Noted
follows_call t m None = Missing
follows_call t m (Some (Err refusal)) = Missing
follows_call t m (Some (Ok a)) = behind_call t m a

abbrev pub follows_edge : Instr → PointState → Option Edge → Noted
follows_edge instr state None = Missing
follows_edge instr state (Some edge) =
    if option_map_or (λ rd. has_term state.measure rd.0) (destination instr) false then Unmeasured
    else Known (record { ranges = edge.ranges; slots = state.slots; measure = lowered state.measure (pos 1) })

abbrev pub follows_instruction : Image → Numbered → ℕ → PointState → Option Instr → Noted
follows_instruction image t point state None = Missing
follows_instruction image t point state (Some Ecall) = follows_call t.thread state.measure (call_at image t point state)
follows_instruction image t point state (Some instr) =
    follows_edge instr state (after (address_of t.thread point) instr state.ranges).fall_through

-- what the fall-through of a point leaves; nothing where the point has no state
abbrev pub follows : Image → Numbered → ℕ → Noted → Noted
follows image t point (Known state) = follows_instruction image t point state (instruction_at t.thread point)
follows image t point Missing = Missing
follows image t point Unmeasured = Missing

-- the record's state where there is one
abbrev pub noted_or : Image → Thread → Option StateRecord → Noted → Noted
noted_or image t (Some r) otherwise = Known (record_state image t r)
noted_or image t None otherwise = otherwise

unfoldable pub noted : Image → Numbered → ℕ → Noted
noted image t zero = noted_or image t.thread (record_of t.thread 0) Missing
noted image t (suc point) = noted_or image t.thread (record_of t.thread (suc point)) (follows image t point (noted image t point))
