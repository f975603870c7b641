-- The frames of buffers: in a sound state they are there, and where two threads have buffers each has its own.
use Rattle.std.proofs.Common.{ℕ, ◌≡◌, ◌∙◌, ◌%◌, Option, Some, None, option_and_then, option_map, sym, ap, arith}
use Rattle.model.specs.Capabilities.CapabilityKinds.{frame_of}
use Rattle.model.specs.Capabilities.CapabilityWords.{IsCapability}
use Rattle.model.specs.Capabilities.Slots.{capability_at}
use Rattle.model.specs.declared.capabilities.Cap.{Cap}
use Rattle.model.specs.declared.capabilities.Cap.TheVariants.{Empty, Untyped, Endpoint, Notification, CNode, Frame, PageTable, Tcb, RootTable, InterruptControl}
use Rattle.model.specs.declared.capabilities.Cap.TheVariants.{InterruptHandler}
use Rattle.model.specs.Kernel.AddressSpaces.{page_size}
use Rattle.model.specs.Kernel.Kinds.{Names, frame_around, kind_at}
use Rattle.model.specs.Kernel.Messages.{buffer_of}
use Rattle.model.specs.Kernel.Retype.{NewFrame}
use Rattle.model.specs.Kernel.Soundness.{IsSound}
use Rattle.model.specs.Kernel.State.{State, buffer_slot}
use Rattle.ipc.specs.Buffers.{HaveBuffers, buffers_of}

-- ---- one buffer

-- a frame's capability names a frame, at a multiple of its size
frame-named : (capability : Cap) (frame : ℕ) → IsCapability capability → frame_of capability ≡ Some frame
    → Names NewFrame frame capability × (frame % page_size ≡ 0)
frame-named (Frame offset r mapping) frame valid is =
    let same : offset ≡ frame = cc in
    (ap (λ (n : ℕ). Some (NewFrame, n)) same, ap (λ (n : ℕ). n % page_size) (sym same) ∙ valid.0.0)
frame-named Empty frame valid is = absurd (let clash : None ≡ Some frame = is in cc)
frame-named (Untyped offset bits watermark) frame valid is = absurd (let clash : None ≡ Some frame = is in cc)
frame-named (Endpoint offset r badge) frame valid is = absurd (let clash : None ≡ Some frame = is in cc)
frame-named (Notification offset r badge) frame valid is = absurd (let clash : None ≡ Some frame = is in cc)
frame-named (CNode offset radix guard) frame valid is = absurd (let clash : None ≡ Some frame = is in cc)
frame-named (PageTable offset mapping) frame valid is = absurd (let clash : None ≡ Some frame = is in cc)
frame-named (Tcb offset) frame valid is = absurd (let clash : None ≡ Some frame = is in cc)
frame-named (RootTable offset) frame valid is = absurd (let clash : None ≡ Some frame = is in cc)
frame-named InterruptControl frame valid is = absurd (let clash : None ≡ Some frame = is in cc)
frame-named (InterruptHandler irq_line) frame valid is = absurd (let clash : None ≡ Some frame = is in cc)

pub have-buffers : (s : State) → IsSound s → HaveBuffers s
have-buffers s sound thread frame is place low high =
    let named = frame-named (capability_at s.slots (buffer_slot thread)) frame (sound.slots.derivation.valid (buffer_slot thread)) is in
    let around : frame_around place ≡ frame = omega (arith, named.1, low, high) in
    (sound.memory.bytes place).1 (ap (kind_at s) around ∙ sound.memory.named (buffer_slot thread) NewFrame frame named.0)

-- ---- two buffers

abbrev both : Option ℕ → Option ℕ → Option (ℕ × ℕ)
both a b = option_and_then (λ x. option_map (λ y. (x, y)) b) a

each : (a b : Option ℕ) (source target : ℕ) → both a b ≡ Some (source, target) → (a ≡ Some source) × (b ≡ Some target)
each (Some x) (Some y) source target is =
    let pair : (x, y) ≡ (source, target) = cc in
    (ap (λ (p : ℕ × ℕ). (let o : Option ℕ = Some p.0 in o)) pair, ap (λ (p : ℕ × ℕ). (let o : Option ℕ = Some p.1 in o)) pair)
each (Some x) None source target is = absurd (let clash : None ≡ Some (source, target) = is in cc)
each None b source target is = absurd (let clash : None ≡ Some (source, target) = is in cc)

pub buffers-are : (s : State) (from to source target : ℕ) → buffers_of s from to ≡ Some (source, target)
    → (buffer_of s from ≡ Some source) × (buffer_of s to ≡ Some target)
buffers-are s from to = each (buffer_of s from) (buffer_of s to)
