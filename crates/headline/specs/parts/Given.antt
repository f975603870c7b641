-- What a thread holds it was given: the capabilities that the image lists for it bound what its slots ever hold.
use Rattle.std.specs.Prelude.{ℕ, ◌≡◌, ◌≢◌, ◌^◌, true, Contains}
use Rattle.model.specs.declared.capabilities.Cap.{Cap}
use Rattle.model.specs.declared.capabilities.Cap.TheVariants.{Empty, Untyped, InterruptHandler}
use Rattle.model.specs.declared.entries.CapabilityEntry.{CapabilityEntry}
use Rattle.model.specs.Acceptance.Authority.{Covers, IsOwnSlot, IsUntypedAround}
use Rattle.model.specs.Acceptance.ThreadRules.{is_member, reached}
use Rattle.model.specs.Capabilities.Slots.{capability_at}
use Rattle.model.specs.Images.Described.{Numbered, listed_capability, numbered_threads}
use Rattle.model.specs.Images.Image.{Image, Thread}
use Rattle.model.specs.Kernel.Kinds.{Names}
use Rattle.model.specs.Kernel.Retype.{NewObject, object_bits}
use Rattle.model.specs.Kernel.State.{State}

-- the image lists the capability in a CNode of the thread
pub record IsListedFor (image : Image) (t : Thread) (entry : CapabilityEntry) : Type 0 where
  pub listed : Contains image.capabilities entry
  pub member : is_member entry.cnode (reached image t) ≡ true

-- a pool of the thread lies around a piece of memory
pub record IsPoolAround (image : Image) (t : Thread) (first size : ℕ) : Type 0 where
  pub entry : CapabilityEntry
  pub listed : IsListedFor image t entry
  pub around : IsUntypedAround first size (listed_capability image entry)

-- A capability is no more than one that is listed, or is to what lies in a pool of the thread, or is to untyped memory there, or is to a handler
-- that is listed.
pub data IsGivenTo (image : Image) (t : Thread) (c : Cap) : Type 0 where
  listed : (entry : CapabilityEntry) → IsListedFor image t entry → Covers c (listed_capability image entry) → IsGivenTo image t c
  made : (kind : NewObject) (offset : ℕ) → Names kind offset c → IsPoolAround image t offset (2 ^ object_bits kind) → IsGivenTo image t c
  pool : (offset bits watermark : ℕ) → c ≡ Untyped offset bits watermark → IsPoolAround image t offset (2 ^ bits) → IsGivenTo image t c
  handler : (number : ℕ) (entry : CapabilityEntry) → IsListedFor image t entry → listed_capability image entry ≡ InterruptHandler number
      → c ≡ InterruptHandler number → IsGivenTo image t c

-- so is each that a slot of a thread holds
abbrev pub AllHoldGiven : Image → State → Type 0
AllHoldGiven image s =
    (t : Numbered) (slot : ℕ) → Contains (numbered_threads image) t → IsOwnSlot image t.thread slot → capability_at s.slots slot ≢ Empty
    → IsGivenTo image t.thread (capability_at s.slots slot)
