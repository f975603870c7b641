-- The laws on objects that agree with slots and memory.
use Rattle.std.proofs.Common.{ℕ, ◌≡◌, ◌^◌, Some, None, List, length, refl}
use Rattle.model.specs.Capabilities.CapabilityKinds.{unmapped}
use Rattle.model.specs.Capabilities.Slots.{IsFull, SameOutside, Slots, capability_at, closed, empty_entry, recapped, spliced}
use Rattle.model.specs.Kernel.State.{with_slots}
use Rattle.model.proofs.Ancestors.{full-open}
use Rattle.kernel_invariant.proofs.Lessened.{less-closed, less-same, less-spliced, less-unused}
use Rattle.kernel_invariant.proofs.Steps.{unmapped-agrees}
use Rattle.kernel_invariant.specs.Wholeness.{Agreed}
use Rattle.objects.proofs.Laws.{follows, stands-still}
use Rattle.objects.specs.Standing.{Standing}
use Rattle.objects.specs.Tables.{Tables, state_of}
use Rattle.removal_laws.specs.Steps.{unused}
use Rattle.vspace.proofs.Laws.{agree-emptied, agree-one_closed, agree-outside, agree-unused}
use Rattle.vspace.specs.Kept.{SameBesideTables}
use Rattle.vspace.specs.Tables.{TablesAgree}

pub of_slots-law : (o : Tables) (slots : Slots) (memory : List ℕ) → (state_of o slots memory).slots ≡ slots
unfolding state_of
of_slots-law o slots memory = refl

pub of_memory-law : (o : Tables) (slots : Slots) (memory : List ℕ) → Agreed o slots memory → 2 ^ (state_of o slots memory).memory_bits ≡ length memory
of_memory-law o slots memory agreed = agreed.0.size

pub slots-law : (o : Tables) (slots now : Slots) (old new : List ℕ) → Standing o slots old → SameOutside slots old new →
    state_of o now new ≡ with_slots (state_of o slots old) now
slots-law o slots now old new stands same = follows o slots old new now stands same

pub follows-law : (o : Tables) (slots now : Slots) (old new : List ℕ) → Agreed o slots old → SameOutside slots old new
    → ((slot : ℕ) → slots slot ≡ None → now slot ≡ None) → state_of o now new ≡ with_slots (state_of o slots old) now
follows-law o slots now old new agreed same closes = follows o slots old new now agreed.1 same

pub stands-law : (o : Tables) (slots now : Slots) (old new : List ℕ) → Standing o slots old → SameOutside slots old new
    → ((slot : ℕ) → slots slot ≡ None → now slot ≡ None) → Standing o now new
stands-law o slots now old new stands same closes = stands-still o slots old new now stands same closes

-- the bytes that lie in no open slot are the same
beside : (slots : Slots) (old new : List ℕ) → SameOutside slots old new → SameBesideTables slots old new
beside slots old new same = record { size = same.size; bytes = λ place closed apart. same.bytes place closed }

nothing-changed : (slots : Slots) (memory : List ℕ) → SameBesideTables slots memory memory
nothing-changed slots memory = record { size = refl; bytes = λ place closed apart. refl }

pub own-tables : (o : Tables) (slots : Slots) (memory : List ℕ) → Agreed o slots memory → TablesAgree slots memory
unfolding state_of
own-tables o slots memory agreed = agreed.0.tables

pub agree_closed-law : (o : Tables) (slots : Slots) (memory : List ℕ) (slot : ℕ) → Agreed o slots memory → slots slot ≡ Some empty_entry
    → Agreed o (closed slots slot 1) memory
agree_closed-law o slots memory slot agreed empty =
    unmapped-agrees o slots (closed slots slot 1) memory memory agreed (nothing-changed slots memory)
    (agree-one_closed slots memory slot (own-tables o slots memory agreed) empty) (less-closed slots slot)

pub agree_bytes-law : (o : Tables) (slots : Slots) (old new : List ℕ) → Agreed o slots old → SameOutside slots old new → Agreed o slots new
agree_bytes-law o slots old new agreed same =
    unmapped-agrees o slots slots old new agreed (beside slots old new same) (agree-outside slots old new (own-tables o slots old agreed) same)
    (less-same slots)

pub agree_without-law : (o : Tables) (slots : Slots) (memory : List ℕ) (slot : ℕ) → Agreed o slots memory → IsFull slots slot
    → unmapped (capability_at slots slot) ≡ capability_at slots slot → Agreed o (spliced slots slot) memory
agree_without-law o slots memory slot agreed full plain =
    unmapped-agrees o slots (spliced slots slot) memory memory agreed (nothing-changed slots memory)
    (agree-emptied slots memory slot (own-tables o slots memory agreed) full plain) (less-spliced slots slot (full-open slots slot full))

pub agree_unused-law : (o : Tables) (slots : Slots) (memory : List ℕ) (slot : ℕ) → Agreed o slots memory → IsFull slots slot
    → Agreed o (recapped slots slot (unused (capability_at slots slot))) memory
agree_unused-law o slots memory slot agreed full =
    unmapped-agrees o slots (recapped slots slot (unused (capability_at slots slot))) memory memory agreed (nothing-changed slots memory)
    (agree-unused slots memory slot (own-tables o slots memory agreed) full) (less-unused slots slot (full-open slots slot full))
