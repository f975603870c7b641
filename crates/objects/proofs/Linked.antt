-- What calls rely on and leave true, said of contents.
use Rattle.std.proofs.Common.{ℕ, ◌≡◌, ◌+◌, ◌%◌, ◌^◌, ◌≤◌, true, is_some, List}
use Rattle.model.specs.Capabilities.Slots.{Slots}
use Rattle.objects.specs.Contents.{Contents, contents_state, places_of}
use Rattle.objects.specs.Frames.{FitsMemory}
use Rattle.queues.specs.Queues.{QueuesStand}
use Rattle.queues.specs.Ready.{ReadyStands}

-- the links in the bytes of threads and of what they wait at are well formed
pub record Linked (o : Contents) (slots : Slots) (memory : List ℕ) : Type 0 where
  pub fits : FitsMemory (contents_state o slots memory) memory
  pub waiting : QueuesStand (places_of o) memory
  pub ready : ReadyStands (places_of o) o.ready memory

-- what is there lies at multiples of its least size, inside memory
pub record AreContents (o : Contents) : Type 0 where
  pub most_bits : o.bits ≤ 24
  pub threads : (offset : ℕ) → is_some (o.threads offset) ≡ true → (offset % 512 ≡ 0) × (offset + 512 ≤ 2 ^ o.bits)
  pub records : (offset : ℕ) → is_some (o.records offset) ≡ true → (offset % 16 ≡ 0) × (offset + 16 ≤ 2 ^ o.bits)
