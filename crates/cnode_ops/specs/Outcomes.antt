-- What the calls on CNodes answer: as their definitions say of every state with these slots.
use Rattle.std.specs.Prelude.{ℕ, ◌≡◌, Result}
use Rattle.model.specs.Kernel.Outcomes.{Gives}
use Rattle.model.specs.Capabilities.Slots.{Slots}
use Rattle.model.specs.Kernel.Arguments.{Call}
use Rattle.model.specs.Kernel.CNodeCalls.{copy, mint, move, mutate}
use Rattle.model.specs.Kernel.State.{State, with_slots}
use Rattle.model.specs.declared.errors.KError.{KError}
use Rattle.model.specs.declared.invocations.SlotName.{SlotName}
use Rattle.cnode_ops.specs.declared.named.NodeCall.{NodeCall}

-- what a definition gives in every state with these slots, for every call on this CNode from this capability space
abbrev pub GivesOn : {A : Type 0} → (State → Call → Result State KError) → NodeCall → Slots → Slots → Result A KError → Type 0
GivesOn defined on slots after result =
    (s : State) (call : Call) → call.root ≡ on.root → call.capability ≡ on.node → Gives (defined (with_slots s slots) call) s after result

-- the same of each of the four calls
abbrev pub GivesCopy : {A : Type 0} → NodeCall → SlotName → SlotName → ℕ → Slots → Slots → Result A KError → Type 0
GivesCopy on destination source rights_word slots after result =
    GivesOn (λ s call. copy s call destination source rights_word) on slots after result

abbrev pub GivesMint : {A : Type 0} → NodeCall → SlotName → SlotName → ℕ → ℕ → Slots → Slots → Result A KError → Type 0
GivesMint on destination source rights_word payload slots after result =
    GivesOn (λ s call. mint s call destination source rights_word payload) on slots after result

abbrev pub GivesMove : {A : Type 0} → NodeCall → SlotName → SlotName → Slots → Slots → Result A KError → Type 0
GivesMove on destination source slots after result = GivesOn (λ s call. move s call destination source) on slots after result

abbrev pub GivesMutate : {A : Type 0} → NodeCall → SlotName → SlotName → ℕ → Slots → Slots → Result A KError → Type 0
GivesMutate on destination source payload slots after result =
    GivesOn (λ s call. mutate s call destination source payload) on slots after result
