-- A thread lies inside memory.
use Rattle.std.proofs.Common.{ℕ, ◌≡◌, ◌^◌, ◌<◌, Bool, true, false, Option, Some, ap, subst}
use Rattle.std.specs.Option.{option_map_or}
use Rattle.model.specs.Capabilities.CapabilityWords.{IsCapability}
use Rattle.model.specs.Capabilities.Slots.{capability_at}
use Rattle.model.specs.Kernel.Kinds.{kind_at, object_named}
use Rattle.model.specs.Kernel.Retype.{NewObject, NewThread}
use Rattle.model.specs.Kernel.Soundness.{IsSound}
use Rattle.model.specs.Kernel.State.{State}
use Rattle.model.specs.declared.capabilities.Cap.{Cap}
use Rattle.model.specs.declared.capabilities.Cap.TheVariants.{Empty, Untyped, Endpoint, Notification, CNode, Frame, PageTable, Tcb, RootTable, InterruptControl}
use Rattle.model.specs.declared.capabilities.Cap.TheVariants.{InterruptHandler}

abbrev is_thread : NewObject → Bool
is_thread NewThread = true
is_thread _ = false

abbrev names_thread : Option (NewObject × ℕ) → Bool
names_thread named = option_map_or (λ p. is_thread p.0) named false

named-thread : ℕ → Option (NewObject × ℕ)
named-thread thread = Some (NewThread, thread)

thread-near : (c : Cap) (thread : ℕ) → object_named c ≡ named-thread thread → IsCapability c → thread < 2 ^ 24
unfolding named-thread
thread-near (Tcb offset) thread is valid = subst (λ (n : ℕ). n < 2 ^ 24) (ap (λ (p : Option (NewObject × ℕ)). option_map_or (λ q. q.1) p 0) is) valid.1
thread-near Empty thread is valid = absurd (let clash : false ≡ true = ap names_thread is in cc)
thread-near (Untyped offset bits watermark) thread is valid = absurd (let clash : false ≡ true = ap names_thread is in cc)
thread-near (Endpoint offset rights badge) thread is valid = absurd (let clash : false ≡ true = ap names_thread is in cc)
thread-near (Notification offset rights badge) thread is valid = absurd (let clash : false ≡ true = ap names_thread is in cc)
thread-near (CNode offset radix guard) thread is valid = absurd (let clash : false ≡ true = ap names_thread is in cc)
thread-near (Frame offset rights mapping) thread is valid = absurd (let clash : false ≡ true = ap names_thread is in cc)
thread-near (PageTable offset mapping) thread is valid = absurd (let clash : false ≡ true = ap names_thread is in cc)
thread-near (RootTable offset) thread is valid = absurd (let clash : false ≡ true = ap names_thread is in cc)
thread-near InterruptControl thread is valid = absurd (let clash : false ≡ true = ap names_thread is in cc)
thread-near (InterruptHandler irq_line) thread is valid = absurd (let clash : false ≡ true = ap names_thread is in cc)

pub thread-inside : (s : State) (thread : ℕ) → IsSound s → kind_at s thread ≡ Some NewThread → thread < 2 ^ 24
unfolding named-thread
thread-inside s thread sound there =
    let held = sound.memory.live thread NewThread there in
    thread-near (capability_at s.slots held.0) thread held.1 (sound.slots.derivation.valid held.0)
