-- A thread whose capability some slot holds is there, and its slots lie in memory.
use Rattle.std.proofs.Common.{ℕ, ◌≡◌, ◌+◌, ◌/◌, ◌^◌, ◌<◌, ◌≤◌, List, Some, ap, arith, subst, sym}
use Rattle.std.proofs.Math.Pow.{pow_mono}
use Rattle.model.specs.Capabilities.Slots.{Slots, capability_at}
use Rattle.model.specs.Kernel.Kinds.{kind_at, object_named, piece_of_object}
use Rattle.model.specs.Kernel.Retype.{NewThread}
use Rattle.model.specs.Kernel.Soundness.{IsSound}
use Rattle.model.specs.Kernel.State.{State}
use Rattle.model.specs.declared.capabilities.Cap.TheVariants.{Tcb}
use Rattle.objects.specs.Lives.{Parts}
use Rattle.objects.specs.Tables.{Tables, state_of}
use Rattle.soundness.proofs.Laws.{named-piece}
use Rattle.vspace.specs.Tables.{Holds}

pub thread-there : (o : Tables) (slots : Slots) (memory : List ℕ) (thread : ℕ) → IsSound (state_of o slots memory) → Holds slots (Tcb thread)
    → kind_at (state_of o slots memory) thread ≡ Some NewThread
unfolding state_of
thread-there o slots memory thread sound held = sound.memory.named held.0 NewThread thread (ap object_named held.1)

-- what the kernel's slots hold, its parts' hold
pub held-inside : {S : Type 0} (slots : S → Slots) (thread : ℕ) {parts kernel : Parts S} → parts ≡ kernel → Holds (slots kernel.store) (Tcb thread)
    → Holds (slots parts.store) (Tcb thread)
held-inside slots thread is held = subst (λ k. Holds (slots k.store) (Tcb thread)) (sym is) held

pub slots-near : (s : State) (thread : ℕ) → IsSound s → kind_at s thread ≡ Some NewThread → thread / 16 + 2 < 2 ^ 20
slots-near s thread sound there =
    let held = sound.memory.live thread NewThread there in
    let inside = sound.memory.inside held.0 (piece_of_object (NewThread, thread)) (named-piece (capability_at s.slots held.0) (NewThread, thread) held.1) in
    let end : thread + 2 ^ 9 ≤ 2 ^ s.memory_bits = inside.1 in
    let most : 2 ^ s.memory_bits ≤ 2 ^ 24 = pow_mono sound.shape.most_bits in
    omega (arith, end, most)
