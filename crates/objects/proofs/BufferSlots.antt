-- The slot of a thread's buffer is one of memory's, and what it holds is the store's.
use Rattle.std.proofs.Common.{ℕ, ◌≡◌, ◌^◌, ◌<◌, Some, List, ap, arith}
use Rattle.model.specs.Capabilities.CapabilityKinds.{frame_of}
use Rattle.model.specs.Capabilities.Slots.{Slots, capability_at}
use Rattle.model.specs.Kernel.Kinds.{kind_at}
use Rattle.model.specs.Kernel.Messages.{buffer_of}
use Rattle.model.specs.Kernel.Retype.{NewThread}
use Rattle.model.specs.Kernel.State.{buffer_slot}
use Rattle.objects.proofs.OneThread.{place-there}
use Rattle.objects.proofs.Told.{own-slots}
use Rattle.objects.specs.Standing.{Standing}
use Rattle.objects.specs.Tables.{Tables, contents_of, state_of}

module _ (o : Tables) (slots : Slots) (memory : List ℕ) (thread : ℕ) where
  pub buffer-near : Standing o slots memory → kind_at (state_of o slots memory) thread ≡ Some NewThread → buffer_slot thread < 2 ^ 20
  buffer-near stands there =
      let place = place-there o slots memory stands thread there in
      let few = place.few in
      let within = place.within in
      omega (arith, few, within)

  pub own-buffer : buffer_of (state_of o slots memory) thread ≡ frame_of (capability_at slots (buffer_slot thread))
  unfolding state_of
  own-buffer = ap (λ (now : Slots). frame_of (capability_at now (buffer_slot thread))) (own-slots (contents_of o memory) slots memory)
