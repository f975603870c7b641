-- What a call leaves of noted slots.
use Rattle.std.specs.Prelude.{ℕ, zero, suc, ◌+◌, ◌||◌, ◌&&◌, Bool, false, not, if◌then◌else◌, Option, Some, None, option_and_then, Result, Ok, Err, List, []}
use Rattle.std.specs.Prelude.{◌∷◌, filter_map, map}
use Rattle.std.specs.List.{list_any}
use Rattle.std.specs.Option.{option_map_or}
use Rattle.model.specs.declared.capabilities.Cap.{Cap}
use Rattle.model.specs.declared.capabilities.Cap.TheVariants.{Empty, Untyped}
use Rattle.model.specs.declared.errors.KError.TheVariants.{IllegalOperation}
use Rattle.model.specs.declared.invocations.Invocation.{Invocation}
use Rattle.model.specs.declared.refusals.Point.{Point}
use Rattle.model.specs.declared.refusals.Refusal.{Refusal}
use Rattle.model.specs.declared.refusals.Refusal.TheVariants.{CallRefused, PoolLost}
use Rattle.model.specs.Acceptance.CallRules.{AfterCall, demand, kernel_allows, loses_pool, may_call, with_answer}
use Rattle.model.specs.Acceptance.NotedKernel.{noted_after, noted_kernel}
use Rattle.model.specs.Acceptance.NotedStates.{NotedSlot, PointState, SlotKey, is_same_key, slot_at, with_noted}
use Rattle.model.specs.Capabilities.CapabilityKinds.{is_untyped}
use Rattle.model.specs.Images.Format.{◌>>=◌}
use Rattle.model.specs.Images.Image.{Image, Thread}
use Rattle.model.specs.Kernel.Arguments.{Call}
use Rattle.model.specs.Kernel.Invocations.{perform}
use Rattle.model.specs.Kernel.Messages.{a0, a1}
use Rattle.typestate.specs.declared.slot_changes.Removed.{Removed}
use Rattle.typestate.specs.declared.slot_changes.Removed.TheVariants.{One, Below}
use Rattle.typestate.specs.declared.slot_changes.SlotChange.{SlotChange}
use Rattle.typestate.specs.declared.slot_changes.SlotChange.TheVariants.{Nothing, Puts, Moves, Removes}

-- ---- lines of parents

abbrev pub noted_parent : List NotedSlot → SlotKey → Option SlotKey
noted_parent slots key = option_and_then (λ s. s.parent) (slot_at slots key)

abbrev pub is_parent : SlotKey → Option SlotKey → Bool
is_parent key parent = option_map_or (λ p. is_same_key p key) parent false

-- the depth of the boot slot that a capability hangs below, counted up to a bound
abbrev pub boot_depth : ℕ → Cap → ℕ
boot_depth zero capability = 0
boot_depth (suc n) capability = if is_untyped capability then 0 else 1

-- the depth of a slot in the kernel's slots, counted up to a bound
unfoldable pub noted_depth : ℕ → List NotedSlot → SlotKey → ℕ
noted_depth zero slots key = 0
noted_depth (suc n) slots key =
    option_map_or (λ s. option_map_or (noted_depth n slots) s.parent (boot_depth n s.capability) + 1) (slot_at slots key) 0

-- whether a slot is among the first ancestors of another, of so many
unfoldable pub noted_descends : ℕ → List NotedSlot → SlotKey → SlotKey → Bool
noted_descends zero slots root key = false
noted_descends (suc n) slots root key =
    option_map_or (λ parent. is_same_key parent root || noted_descends n slots root parent) (noted_parent slots key) false

-- ---- slots that go

-- whether a slot is one of those that go; lines of parents are followed through 256 slots
abbrev pub is_removed : List NotedSlot → Removed → SlotKey → Bool
is_removed slots (One gone) key = is_same_key gone key
is_removed slots (Below root) key = noted_descends 256 slots root key

-- the nearest ancestor that stays, of at most so many
unfoldable pub noted_outside : ℕ → (SlotKey → Bool) → List NotedSlot → Option SlotKey → Option SlotKey
noted_outside zero gone slots parent = None
noted_outside (suc n) gone slots None = None
noted_outside (suc n) gone slots (Some parent) =
    if gone parent then noted_outside n gone slots (noted_parent slots parent) else Some parent

abbrev pub heir : (SlotKey → Bool) → List NotedSlot → NotedSlot → Option SlotKey
heir gone slots s = noted_outside 256 gone slots s.parent

-- a child of the slot goes, and none is left
abbrev pub loses_children : (SlotKey → Bool) → List NotedSlot → SlotKey → Bool
loses_children gone slots key =
    list_any (λ s. gone s.key && is_parent key s.parent) slots
    && not (list_any (λ s. not (gone s.key) && is_parent key (heir gone slots s)) slots)

-- a pool that loses its last child is unused again
abbrev pub cap_left : (SlotKey → Bool) → List NotedSlot → SlotKey → Cap → Cap
cap_left gone slots key (Untyped offset bits watermark) = Untyped offset bits (if loses_children gone slots key then 0 else watermark)
cap_left gone slots key capability = capability

abbrev pub slot_left : (SlotKey → Bool) → List NotedSlot → NotedSlot → NotedSlot
slot_left gone slots s = record { key = s.key; capability = cap_left gone slots s.key s.capability; parent = heir gone slots s }

abbrev pub what_stays : (SlotKey → Bool) → List NotedSlot → NotedSlot → Option NotedSlot
what_stays gone slots s = if gone s.key then None else Some (slot_left gone slots s)

abbrev pub without_gone : (SlotKey → Bool) → List NotedSlot → List NotedSlot
without_gone gone slots = filter_map (what_stays gone slots) slots

-- ---- a slot that moves

-- a child follows its parent
abbrev pub followed : SlotKey → SlotKey → NotedSlot → NotedSlot
followed from to s = if is_parent from s.parent then record s { parent = Some to } else s

abbrev pub emptied : SlotKey → NotedSlot
emptied key = record { key = key; capability = Empty; parent = None }

abbrev pub moved : List NotedSlot → SlotKey → NotedSlot → List NotedSlot
moved slots from s = with_noted (with_noted (map (followed from s.key) slots) s) (emptied from)

-- ---- the whole

abbrev pub slots_left : List NotedSlot → SlotChange → List NotedSlot
slots_left slots Nothing = slots
slots_left slots (Puts s) = with_noted slots s
slots_left slots (Moves from s) = moved slots from s
slots_left slots (Removes which) = without_gone (is_removed slots which) slots

abbrev pub left_or_refused : List NotedSlot → Result SlotChange Refusal → Result (List NotedSlot) Refusal
left_or_refused slots (Ok change) = Ok (slots_left slots change)
left_or_refused slots (Err refusal) = Err refusal

-- what the rule on a call says of the slots
abbrev pub slots_after : Image → Thread → Point → List NotedSlot → Call → Invocation → Result (List NotedSlot) Refusal
slots_after image t at slots call c =
    let s = noted_kernel image t slots in
    do
      after ← kernel_allows at (perform s call c)
      _ ← demand (not (loses_pool s.slots call c)) (PoolLost at)
      _ ← demand (may_call s.slots call c) (CallRefused at IllegalOperation)
      Ok (noted_after image t after.slots)

-- and of what is known behind it
abbrev pub behind_call : PointState → Bool → List NotedSlot → AfterCall
behind_call state answers slots = record {
  ranges = if answers then with_answer state.ranges else state.ranges;
  slots = slots;
  is_wait = false;
  written = if answers then a0 ∷ a1 ∷ [] else [];
}

abbrev pub leaves : PointState → Bool → Result (List NotedSlot) Refusal → Result AfterCall Refusal
leaves state answers (Ok slots) = Ok (behind_call state answers slots)
leaves state answers (Err refusal) = Err refusal
