-- What each call leaves is what its definition says, and whole.
use Rattle.std.proofs.Common.{Ok, ◌∙◌, ap, refl}
use Rattle.cnode_ops.proofs.Laws.{consistent-of}
use Rattle.kernel_invariant.proofs.Laws.{own-tables}
use Rattle.kernel_machine.proofs.perform_calls.Lent.{given, lent}
use Rattle.kernel_machine.proofs.perform_calls.MappedTables.{frame-mapped, frame-unmapped, frame-within}
use Rattle.kernel_machine.proofs.perform_calls.Roots.{held-at, may-call}
use Rattle.kernel_machine.proofs.perform_calls.frame_calls.on_frame.Goals as goal
use Rattle.kernel_machine.specs.perform_calls.Calls.{call_of}
use Rattle.model.specs.Capabilities.Slots.{capability_at}
use Rattle.model.specs.Kernel.MappingCalls.{on_frame}
use Rattle.model.specs.Kernel.State.{State}
use Rattle.model.specs.declared.capabilities.Cap.TheVariants.{Frame}

pub map_frame-requires-clause-valid : goal.map_frame-requires-clause-valid
map_frame-requires-clause-valid g c =
    let l = lent g.S.SlotMap.slots g.S.SlotStore.memory (call_of c.args.call) c.kernel.invariant c.live.view_is c.live.invariant
    c.kernel.view_is c.requires.call in
    (may-call l).root

pub map_frame-requires-clause-agree : goal.map_frame-requires-clause-agree
map_frame-requires-clause-agree g c =
    let l = lent g.S.SlotMap.slots g.S.SlotStore.memory (call_of c.args.call) c.kernel.invariant c.live.view_is c.live.invariant
    c.kernel.view_is c.requires.call in
    own-tables _ _ _ (l.whole.agrees, l.whole.stands)

pub map_frame-requires-clause-held : goal.map_frame-requires-clause-held
map_frame-requires-clause-held g c =
    let l = lent g.S.SlotMap.slots g.S.SlotStore.memory (call_of c.args.call) c.kernel.invariant c.live.view_is c.live.invariant
    c.kernel.view_is c.requires.call in
    let f = c.frame_of-frame.result in
    let e = c.frame_of-frame.ensures in
    ap (capability_at (g.S.SlotMap.slots c.live.inside.store)) e.slot
    ∙ held-at c.live.inside.objects (g.S.SlotMap.slots c.live.inside.store) (g.S.SlotStore.memory c.live.inside.store) (call_of c.args.call)
    (Frame f.offset f.rights f.mapping) l.is_call e.capability refl

pub map_frame-requires-clause-within : goal.map_frame-requires-clause-within
map_frame-requires-clause-within g c =
    let l = lent g.S.SlotMap.slots g.S.SlotStore.memory (call_of c.args.call) c.kernel.invariant c.live.view_is c.live.invariant
    c.kernel.view_is c.requires.call in
    let o = c.live.inside.objects in
    let slots = g.S.SlotMap.slots c.live.inside.store in
    let memory = g.S.SlotStore.memory c.live.inside.store in
    let f = c.frame_of-frame.result in
    frame-within o slots memory c.args.call.slot f.offset f.rights f.mapping l.whole
    (held-at o slots memory (call_of c.args.call) (Frame f.offset f.rights f.mapping) l.is_call c.frame_of-frame.ensures.capability refl)

pub returns-in-MapFrame-clause-outcome : goal.returns-in-MapFrame-clause-outcome
returns-in-MapFrame-clause-outcome g c =
    let l = lent g.S.SlotMap.slots g.S.SlotStore.memory (call_of c.args.call) c.kernel.invariant c.live.view_is c.live.invariant
    c.kernel.view_is c.requires.call in
    let k = c.in-MapFrame in
    let f = c.frame_of-frame.result in
    let e = c.frame_of-frame.ensures in
    given g.S.SlotMap.slots g.S.SlotStore.memory (λ s a. on_frame s (call_of c.args.call) c.args.held a) c.map_frame.result _ c.live.view_is
    c.kernel.view_is k.is
    (frame-mapped l c.map_frame.new.store f.slot f.offset f.rights c.args.held f.mapping k.root k.address k.rights c.map_frame.result e.slot e.rights
    e.capability c.map_frame.ensures.bytes c.map_frame.ensures.agree c.map_frame.ensures.unchanged c.map_frame.ensures.outcome).0

pub invariant_of-live : goal.invariant_of-live
invariant_of-live g c =
    let l = lent g.S.SlotMap.slots g.S.SlotStore.memory (call_of c.args.call) c.kernel.invariant c.live.view_is c.live.invariant
    c.kernel.view_is c.requires.call in
    let k = c.in-MapFrame in
    let f = c.frame_of-frame.result in
    let e = c.frame_of-frame.ensures in
    (frame-mapped l c.map_frame.new.store f.slot f.offset f.rights c.args.held f.mapping k.root k.address k.rights c.map_frame.result e.slot e.rights
    e.capability c.map_frame.ensures.bytes c.map_frame.ensures.agree c.map_frame.ensures.unchanged c.map_frame.ensures.outcome).1.stands

pub invariant_of-kernel : goal.invariant_of-kernel
invariant_of-kernel g c =
    let l = lent g.S.SlotMap.slots g.S.SlotStore.memory (call_of c.args.call) c.kernel.invariant c.live.view_is c.live.invariant
    c.kernel.view_is c.requires.call in
    let k = c.in-MapFrame in
    let f = c.frame_of-frame.result in
    let e = c.frame_of-frame.ensures in
    consistent-of (frame-mapped l c.map_frame.new.store f.slot f.offset f.rights c.args.held f.mapping k.root k.address k.rights
    c.map_frame.result e.slot e.rights
    e.capability c.map_frame.ensures.bytes c.map_frame.ensures.agree c.map_frame.ensures.unchanged c.map_frame.ensures.outcome).1

pub unmap_cap-requires : goal.unmap_cap-requires
unmap_cap-requires g c =
    let l = lent g.S.SlotMap.slots g.S.SlotStore.memory (call_of c.args.call) c.kernel.invariant c.live-in-UnmapFrame.view_is c.live-in-UnmapFrame.invariant
    c.kernel.view_is c.requires.call in
    record { agree = own-tables _ _ _ (l.whole.agrees, l.whole.stands) }

pub returns-in-UnmapFrame-clause-outcome : goal.returns-in-UnmapFrame-clause-outcome
returns-in-UnmapFrame-clause-outcome g c =
    let l = lent g.S.SlotMap.slots g.S.SlotStore.memory (call_of c.args.call) c.kernel.invariant c.live-in-UnmapFrame.view_is c.live-in-UnmapFrame.invariant
    c.kernel.view_is c.requires.call in
    let k = c.in-UnmapFrame in
    let a = c.requires.applies in
    let done = (frame-unmapped l c.unmap_cap.new.store a.0 c.args.held a.1 a.2
    c.unmap_cap.ensures.removed c.unmap_cap.ensures.bytes c.unmap_cap.ensures.agree).0 in
    given {A = Unit {0}} g.S.SlotMap.slots g.S.SlotStore.memory (λ s a. on_frame s (call_of c.args.call) c.args.held a) (Ok tt) _
    c.live-in-UnmapFrame.view_is c.kernel.view_is k.is
    (ap (λ (x : State). Ok x) done)

pub invariant_of-live-in-UnmapFrame : goal.invariant_of-live-in-UnmapFrame
invariant_of-live-in-UnmapFrame g c =
    let l = lent g.S.SlotMap.slots g.S.SlotStore.memory (call_of c.args.call) c.kernel.invariant c.live-in-UnmapFrame.view_is c.live-in-UnmapFrame.invariant
    c.kernel.view_is c.requires.call in
    let a = c.requires.applies in
    (frame-unmapped l c.unmap_cap.new.store a.0 c.args.held a.1 a.2
    c.unmap_cap.ensures.removed c.unmap_cap.ensures.bytes c.unmap_cap.ensures.agree).1.stands

pub invariant_of-kernel-in-UnmapFrame : goal.invariant_of-kernel-in-UnmapFrame
invariant_of-kernel-in-UnmapFrame g c =
    let l = lent g.S.SlotMap.slots g.S.SlotStore.memory (call_of c.args.call) c.kernel.invariant c.live-in-UnmapFrame.view_is c.live-in-UnmapFrame.invariant
    c.kernel.view_is c.requires.call in
    let a = c.requires.applies in
    consistent-of (frame-unmapped l c.unmap_cap.new.store a.0 c.args.held a.1 a.2
    c.unmap_cap.ensures.removed c.unmap_cap.ensures.bytes c.unmap_cap.ensures.agree).1
