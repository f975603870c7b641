-- The slot is one of memory's, since the thread is.
use Rattle.std.proofs.Common.{ℕ, ◌≡◌, ◌∙◌, Some, ap, subst, sym}
use Rattle.model.specs.Capabilities.CapabilityKinds.{frame_of}
use Rattle.model.specs.Capabilities.Slots.{capability_at}
use Rattle.model.specs.Kernel.Kinds.{kind_at}
use Rattle.model.specs.Kernel.Messages.{buffer_of}
use Rattle.model.specs.Kernel.Retype.{NewThread}
use Rattle.objects.proofs.BufferSlots.{buffer-near, own-buffer}
use Rattle.objects.specs.Lives.{Parts, state_in}
use Rattle.objects.proofs.lives.Live.buffer.Goals as goal

pub new-requires : goal.new-requires
new-requires g c =
    let there = subst (λ (live : Parts _). kind_at (state_in g.S.SlotMap.slots g.S.SlotStore.memory live) c.args.thread ≡ Some NewThread)
    (sym c.self.view_is) c.requires in
    buffer-near c.self.inside.objects (g.S.SlotMap.slots c.self.inside.store) (g.S.SlotStore.memory c.self.inside.store) c.args.thread c.self.invariant there

pub returns : goal.returns
returns g c =
    let slots = g.S.SlotMap.slots c.self.inside.store in
    c.frame.ensures ∙ ap (λ (slot : ℕ). frame_of (capability_at slots slot)) c.new.ensures
    ∙ sym (own-buffer c.self.inside.objects slots (g.S.SlotStore.memory c.self.inside.store) c.args.thread)
    ∙ ap (λ (live : Parts _). buffer_of (state_in g.S.SlotMap.slots g.S.SlotStore.memory live) c.args.thread) c.self.view_is
