-- What begins, and how far the making of several objects has come.
use Rattle.std.specs.Prelude.{ℕ, ◌≡◌, ◌+◌, ◌*◌, ◌%◌, ◌^◌, ◌<◌, ◌≤◌, ◌⊎◌, true, Some, None, List}
use Rattle.kernel_invariant.specs.Growing.{Growing}
use Rattle.model.specs.declared.object_types.ObjectType.{ObjectType}
use Rattle.model.specs.declared.object_types.ObjectType.TheVariants as types
use Rattle.model.specs.Capabilities.Slots.{IsDerivation, IsFull, Slots, depth_of, empty_entry}
use Rattle.model.specs.Kernel.Retype.{NewObjects, is_large_enough, is_small_enough, place_of_new, size_of, with_new}
use Rattle.model.specs.Kernel.State.{State}
use Rattle.model.specs.declared.capabilities.Cap.{Cap}
use Rattle.model.specs.declared.capabilities.Cap.TheVariants.{Untyped}
use Rattle.objects.specs.Changes.{begun}
use Rattle.slots.specs.Kin.{object_at}

-- untyped memory is no object
abbrev pub with_begun : State → List ℕ → ObjectType → ℕ → State
with_begun s memory (types.Untyped bits) place = s
with_begun s memory (types.Object kind) place = begun s memory kind place

-- untyped memory may be used up to a watermark
abbrev pub MayUse : Cap → ℕ → Type 0
MayUse (Untyped offset bits used) watermark = watermark ≤ 2 ^ bits
MayUse _ watermark = ⊥

-- each object is at a multiple of its size, in memory of 2^24 bytes
pub record AreLaid (new : NewObjects) : Type 0 where
  pub aligned : new.first % size_of new ≡ 0
  pub near : new.first + new.count * size_of new ≤ 2 ^ 24
  pub large : is_large_enough new.kind ≡ true
  pub small : is_small_enough new.kind ≡ true

-- no capability names an object between two places
abbrev pub NoneNamed : Slots → ℕ → ℕ → Type 0
NoneNamed slots from to = (slot offset : ℕ) → object_at slots slot ≡ Some offset → (offset < from) ⊎ (to ≤ offset)

-- so many of the objects were made in the state before, and there is room for the rest of them
pub record AreMade (before now : State) (memory : List ℕ) (new : NewObjects) (window parent count : ℕ) : Type 0 where
  pub state : now ≡ with_new before (record { kind = new.kind; first = new.first; count = count }) window parent
  pub growing : Growing now memory (place_of_new new count) (new.first + new.count * size_of new)
  pub rest : (i : ℕ) → count ≤ i → i < new.count → now.slots (window + i) ≡ Some empty_entry
  pub derivation : IsDerivation now.slots
  pub full : IsFull now.slots parent
  pub room : depth_of now.slots parent < 255
  pub unnamed : NoneNamed now.slots (place_of_new new count) (new.first + new.count * size_of new)
  -- what they are derived from is untyped memory, which names no object
  pub nameless : object_at now.slots parent ≡ None
