-- A store of slots and memory with the tables of objects beside it, and the state that they represent.
use Rattle.std.specs.Prelude.{ℕ, ◌≡◌, List}
use Rattle.model.specs.Capabilities.Slots.{Slots}
use Rattle.model.specs.Kernel.State.{State}
use Rattle.objects.specs.Frames.{SameObjects}
use Rattle.objects.specs.Tables.{Tables, state_of}

pub record Parts (S : Type 0) : Type 0 where
  pub store : S
  pub tables : Tables

-- the state, where it is given which slots and which bytes a store holds
abbrev pub state_in : {S : Type 0} → (S → Slots) → (S → List ℕ) → Parts S → State
state_in slots memory live = state_of live.tables (slots live.store) (memory live.store)

-- what a call on objects leaves as it was, beside what their state says: the slots and their order, and all bytes but those of records and frames
pub record SameBeside {S : Type 0} (held : S → Slots) (memory : S → List ℕ) (full : S → List ℕ) (old new : Parts S) : Type 0 where
  pub slots : held new.store ≡ held old.store
  pub order : full new.store ≡ full old.store
  pub bytes : SameObjects (state_in held memory old) (state_in held memory new) (memory old.store) (memory new.store)

-- what a store is read by: in a clause `S.SlotStore` is this record
abbrev pub Reading : Type 0 → Type 0
Reading S = record { slots : S → Slots; memory : S → List ℕ; order : S → List ℕ }

abbrev pub state : {S : Type 0} → Reading S → Parts S → State
state reading live = state_in reading.slots reading.memory live

abbrev pub Beside : {S : Type 0} → Reading S → Parts S → Parts S → Type 0
Beside reading old new = SameBeside reading.slots reading.memory reading.order old new
