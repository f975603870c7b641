-- The store that the kernel is built on. Its form is named here, and its type in `src/stores.rt`.
use Rattle.std.specs.Prelude.{ℕ, List}
use Rattle.model.specs.Capabilities.Slots.{Slots}
use Rattle.packed_slots.specs.Packing.{Packed, packed_slots}

-- what a clause sees of the store: its bytes, which slots are open, and the first full slot
abbrev pub Store : Type 0
Store = Packed

abbrev pub bytes_of : Store → List ℕ
bytes_of store = store.memory

abbrev pub slots_of : Store → Slots
slots_of store = packed_slots store
