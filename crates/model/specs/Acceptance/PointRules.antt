-- The rules on programs: what has to hold at the entry of a thread and at each point that has a state, in the order in which
-- breaches count.
use Rattle.std.specs.Prelude.{ℕ, ◌==◌, ◌+◌, ◌-◌, ◌*◌, ◌/◌, ◌%◌, ◌^◌, Bool, true, false, not, ◌&&◌, ◌||◌, nat_le, nat_lt, int_lt, ℤ, pos, ◌+ℤ◌, nat_abs, Option}
use Rattle.std.specs.Prelude.{Some, None, option_to_list, Result, Ok, Err, List, [], ◌∷◌, ◌++◌, map, flat_map, slice_index, slice_index_or, if◌then◌else◌}
use Rattle.std.specs.Option.{option_map_or}
use Rattle.std.specs.Int.{byte_len, is_negative}
use Rattle.std.specs.List.{list_all, list_any, range_with_len}
use Rattle.model.specs.declared.entries.FrameEntry.{FrameEntry}
use Rattle.model.specs.declared.instructions.Access.{Access}
use Rattle.model.specs.declared.instructions.Access.TheVariants as accesses
use Rattle.model.specs.declared.instructions.Instr.{Instr}
use Rattle.model.specs.declared.instructions.Instr.TheVariants.{Jalr, Load, Store, Ecall, Ebreak}
use Rattle.model.specs.declared.ranges.Range.{Range}
use Rattle.model.specs.declared.refusals.Point.{Point}
use Rattle.model.specs.declared.refusals.Refusal.{Refusal}
use Rattle.model.specs.declared.refusals.Refusal.TheVariants.{BadTarget, CapNotThere, ComputedJump, IllegalInstruction, MeasureNotFalling, NotMapped}
use Rattle.model.specs.declared.refusals.Refusal.TheVariants.{OverBudget, RangeNotKept}
use Rattle.model.specs.Kernel.AddressSpaces.{allows, page_of, page_size}
use Rattle.model.specs.Acceptance.CallRules.{AfterCall}
use Rattle.model.specs.Images.Described.{Numbered, listed_registers, numbered_threads, start_registers}
use Rattle.model.specs.Acceptance.Edges.{Edge, Edges, after}
use Rattle.model.specs.Images.Image.{Image, Thread}
use Rattle.model.specs.declared.instructions.AccessSize.{AccessSize}
use Rattle.model.specs.Machine.ProgramMemory.{width_of}
use Rattle.model.specs.Machine.Effects.{load_size, store_size}
use Rattle.model.specs.Acceptance.Measures.{Form, Measure, behind_form, call_form, falls, least_value, measured, stays_below}
use Rattle.model.specs.Acceptance.NotedStates.{NotedSlot, PointState, are_same_slots, has_stray_slots, image_slots}
use Rattle.model.specs.Images.Places.{offset_of}
use Rattle.model.specs.Acceptance.PointStates.{Noted, Known, Missing, Unmeasured, address_of, call_at, instruction_at, noted, point_of}
use Rattle.model.specs.Acceptance.Ranges.{full, range_of}
use Rattle.model.specs.Capabilities.Rights.{rights}
use Rattle.model.specs.Acceptance.Rules.{Rule, refuse_if}

-- ---- edges

pub record ProgramEdge : Type 0 where
  pub target : ℕ
  -- the ranges before it, for the values that come this way, and those after it
  pub before : List Range
  pub ranges : List Range
  -- the slots after it
  pub slots : List NotedSlot
  -- what each register after it is, by the registers before
  pub value_of : ℕ → Form
  pub is_wait : Bool

-- the point at an address, if the program has one there
abbrev pub point_at : Thread → ℕ → Option ℕ
point_at t address =
    if nat_le t.header.base address && nat_lt address (t.header.base + 4 * t.header.words) && (address % 4 == 0)
    then Some ((address - t.header.base) / 4) else None

-- what is known of an edge's target
abbrev pub noted_at : Image → Numbered → ℕ → Noted
noted_at image t address = option_map_or (noted image t) (point_at t.thread address) Missing

abbrev pub is_range_within : Range → Range → Bool
is_range_within r s = nat_le s.low r.low && nat_le r.high s.high

abbrev pub are_ranges_within : List Range → List Range → Bool
are_ranges_within ranges others =
    list_all (λ k. is_range_within (slice_index_or ranges k full) (slice_index_or others k full)) (range_with_len 0 31)

-- what an edge has to keep at a point with a state: ranges, slots, and the measure, which falls, or after a wait stays
-- within the budget
abbrev pub kept_at : Thread → Point → Measure → ProgramEdge → PointState → List Rule
kept_at t at m edge target =
    refuse_if (not (are_ranges_within edge.ranges target.ranges)) (RangeNotKept at)
    ∷ refuse_if (not (are_same_slots edge.slots target.slots)) (CapNotThere at)
    ∷ refuse_if (not edge.is_wait && not (falls m target.measure edge.value_of edge.before edge.ranges)) (MeasureNotFalling at)
    ∷ refuse_if (edge.is_wait && not (stays_below t.header.budget target.measure edge.value_of edge.before edge.ranges)) (OverBudget at)
    ∷ []

-- an edge leads to a point with a state
abbrev pub edge_rules : Thread → Point → Measure → ProgramEdge → Noted → List Rule
edge_rules t at m edge (Known target) = kept_at t at m edge target
edge_rules t at m edge Missing = Some (BadTarget at) ∷ []
edge_rules t at m edge Unmeasured = Some (MeasureNotFalling at) ∷ []

abbrev pub program_edge : Instr → List NotedSlot → Edge → ProgramEdge
program_edge instr slots edge = record {
  target = edge.target;
  before = edge.before;
  ranges = edge.ranges;
  slots = slots;
  value_of = behind_form instr edge.before edge.ranges;
  is_wait = false;
}

abbrev pub call_edge : ℕ → List Range → AfterCall → ProgramEdge
call_edge pc before a = record {
  target = pc + 4;
  before = before;
  ranges = a.ranges;
  slots = a.slots;
  value_of = call_form a.written;
  is_wait = a.is_wait;
}

-- the taken edge comes before the fall-through
abbrev pub edges_of : Instr → List NotedSlot → Edges → List ProgramEdge
edges_of instr slots edges =
    map (program_edge instr slots) (option_to_list edges.taken ++ option_to_list edges.fall_through)

abbrev pub call_edges : ℕ → List Range → Option (Result AfterCall Refusal) → List ProgramEdge
call_edges pc before (Some (Ok a)) = call_edge pc before a ∷ []
call_edges pc before (Some (Err refusal)) = []
call_edges pc before None = []

unfoldable pub edges_at : Image → Numbered → ℕ → PointState → Option Instr → List ProgramEdge
edges_at image t point state (Some Ecall) = call_edges (address_of t.thread point) state.ranges (call_at image t point state)
edges_at image t point state (Some instr) = edges_of instr state.slots (after (address_of t.thread point) instr state.ranges)
edges_at image t point state None = []

abbrev pub rules_on_edges : Image → Numbered → ℕ → PointState → List Rule
rules_on_edges image t point state =
    flat_map (λ edge. edge_rules t.thread (point_of t point) state.measure edge (noted_at image t edge.target))
    (edges_at image t point state (instruction_at t.thread point))

-- ---- memory

-- whether the image maps a page under the thread's root table for an access
abbrev pub maps_for : Access → Thread → ℕ → FrameEntry → Bool
maps_for access t page f = f.root == t.header.root && (f.address == page * page_size) && allows access (rights f.rights)

-- whether a noted frame capability does
abbrev pub holds_for : Access → ℕ → ℕ → NotedSlot → Bool
holds_for access root page s = option_map_or (λ m. allows access m.allowed) (page_of root page s.capability) false

abbrev pub is_mapped_for : Image → Thread → List NotedSlot → Access → ℕ → Bool
is_mapped_for image t slots access page =
    list_any (maps_for access t page) image.frames || list_any (holds_for access (offset_of image t.header.root) page) slots

-- whether every page from one address to another is mapped
abbrev pub are_mapped : Image → Thread → List NotedSlot → Access → ℕ → ℕ → Bool
are_mapped image t slots access first last =
    list_all (is_mapped_for image t slots access) (range_with_len (first / page_size) (last / page_size + 1 - first / page_size))

-- whether an access of so many bytes from each address of a range, as whole numbers, meets only mapped pages
abbrev pub is_allowed : Image → Thread → List NotedSlot → Access → ℕ → ℤ → ℤ → Bool
is_allowed image t slots access width least greatest =
    let last = greatest +ℤ pos (width - 1) in
    not (is_negative least) && int_lt last (pos (2 ^ 32)) && are_mapped image t slots access (nat_abs least) (nat_abs last)

abbrev pub reaches : Image → Thread → PointState → Access → AccessSize → Range → ℤ → Bool
reaches image t state access size r offset =
    is_allowed image t state.slots access (byte_len (width_of size)) (pos r.low +ℤ offset) (pos r.high +ℤ offset)

-- a load or store reaches only bytes that the thread may read or write
unfoldable pub is_unmapped : Image → Thread → PointState → Option Instr → Bool
is_unmapped image t state (Some (Load op rd rs1 offset)) =
    not (reaches image t state accesses.Load (load_size op) (range_of state.ranges rs1) offset)
is_unmapped image t state (Some (Store op rs1 rs2 offset)) =
    not (reaches image t state accesses.Store (store_size op) (range_of state.ranges rs1) offset)
is_unmapped image t state _ = false

-- ---- a point with a state

abbrev pub is_illegal : Option Instr → Bool
is_illegal None = true
is_illegal (Some Ebreak) = true
is_illegal (Some _) = false

abbrev pub is_computed_jump : Option Instr → Bool
is_computed_jump (Some (Jalr rd rs1 offset)) = true
is_computed_jump _ = false

abbrev pub refused_call : Option (Result AfterCall Refusal) → Rule
refused_call (Some (Err refusal)) = Some refusal
refused_call (Some (Ok a)) = None
refused_call None = None

abbrev pub call_rule : Image → Numbered → ℕ → PointState → Option Instr → Rule
call_rule image t point state (Some Ecall) = refused_call (call_at image t point state)
call_rule image t point state _ = None

unfoldable pub state_rules : Image → Numbered → ℕ → PointState → List Rule
state_rules image t point state =
    let at = point_of t point in
    let instr = instruction_at t.thread point in
    refuse_if (is_illegal instr) (IllegalInstruction at)
    ∷ refuse_if (is_computed_jump instr) (ComputedJump at)
    ∷ refuse_if (has_stray_slots image t.thread point state) (CapNotThere at)
    ∷ refuse_if (int_lt (least_value state.measure state.ranges) (pos 1)) (MeasureNotFalling at)
    ∷ refuse_if (is_unmapped image t.thread state instr) (NotMapped at)
    ∷ call_rule image t point state instr
    ∷ rules_on_edges image t point state

-- points without a state are not looked at
abbrev pub rules_of_noted : Image → Numbered → ℕ → Noted → List Rule
rules_of_noted image t point (Known state) = state_rules image t point state
rules_of_noted image t point Missing = []
rules_of_noted image t point Unmeasured = []

unfoldable pub point_rules : Image → Numbered → ℕ → List Rule
point_rules image t point = rules_of_noted image t point (noted image t point)

-- ---- the entry

abbrev pub lies_in : ℕ → Range → Bool
lies_in n r = nat_le r.low n && nat_le n r.high

abbrev pub starts_within : Thread → PointState → Bool
starts_within t state =
    list_all (λ k. lies_in (slice_index (listed_registers t) (k + 1)) (slice_index_or state.ranges k full)) (range_with_len 0 31)

-- the thread starts with what is known of its entry, and within its budget
abbrev pub entry_rules : Image → Numbered → Noted → List Rule
entry_rules image t (Known state) =
    let at = point_of t t.thread.header.entry in
    refuse_if (not (starts_within t.thread state)) (RangeNotKept at)
    ∷ refuse_if (not (are_same_slots state.slots (image_slots image t.thread))) (CapNotThere at)
    ∷ refuse_if (int_lt (pos t.thread.header.budget) (measured state.measure (start_registers t.thread))) (OverBudget at) ∷ []
entry_rules image t Missing = Some (RangeNotKept (point_of t t.thread.header.entry)) ∷ []
entry_rules image t Unmeasured = Some (RangeNotKept (point_of t t.thread.header.entry)) ∷ []

-- ---- a program

unfoldable pub rules_of_program : Image → Numbered → List Rule
rules_of_program image t =
    entry_rules image t (noted image t t.thread.header.entry)
    ++ flat_map (point_rules image t) (range_with_len 0 t.thread.header.words)

unfoldable pub program_rules : Image → List Rule
program_rules image = flat_map (rules_of_program image) (numbered_threads image)
