-- In a sound state each CNode that a capability names has open slots.
use Rattle.std.proofs.Common.{ℕ, ◌≡◌, ◌+◌, ◌/◌, ◌^◌, ◌<◌, Option, Some, None, option_map, sym, ap, subst, arith}
use Rattle.cnode_ops.specs.Nodes.{CNodesAreOpen, HasOpenSlots}
use Rattle.model.proofs.SlotChanges.{bounds-within}
use Rattle.model.specs.Kernel.Kinds.{kind_of, object_named}
use Rattle.model.specs.Kernel.Removal.{slot_count}
use Rattle.model.specs.Kernel.Retype.{NewObject, NewThread, NewEndpoint, NewNotification, NewCNode, NewFrame, NewPageTable, NewRootTable}
use Rattle.model.specs.Kernel.Soundness.{IsSound, of_boot_area, of_object}
use Rattle.model.specs.declared.capabilities.Cap.TheVariants.{CNode}
use Rattle.model.specs.Kernel.State.{State, Object, ThreadObject, EndpointObject, NotificationObject, CNodeObject, FrameObject, PageTableObject}
use Rattle.model.specs.Kernel.State.{RootTableObject}

abbrev Kinds : Type 0
Kinds = Option NewObject

node-count : (o : Option Object) (radix : ℕ) → option_map kind_of o ≡ Some (NewCNode radix) → slot_count o ≡ 2 ^ radix
node-count None radix is = absurd (let e : ◌≡◌ {A = Kinds} None (Some (NewCNode radix)) = is in cc)
node-count (Some (ThreadObject t)) radix is = absurd (let e : ◌≡◌ {A = Kinds} (Some NewThread) (Some (NewCNode radix)) = is in cc)
node-count (Some (EndpointObject e)) radix is = absurd (let e : ◌≡◌ {A = Kinds} (Some NewEndpoint) (Some (NewCNode radix)) = is in cc)
node-count (Some (NotificationObject n)) radix is = absurd (let e : ◌≡◌ {A = Kinds} (Some NewNotification) (Some (NewCNode radix)) = is in cc)
node-count (Some (CNodeObject r)) radix is =
    let e : ◌≡◌ {A = Kinds} (Some (NewCNode r)) (Some (NewCNode radix)) = is in
    let same : r ≡ radix = cc in
    ap (λ (n : ℕ). 2 ^ n) same
node-count (Some FrameObject) radix is = absurd (let e : ◌≡◌ {A = Kinds} (Some NewFrame) (Some (NewCNode radix)) = is in cc)
node-count (Some PageTableObject) radix is = absurd (let e : ◌≡◌ {A = Kinds} (Some NewPageTable) (Some (NewCNode radix)) = is in cc)
node-count (Some RootTableObject) radix is = absurd (let e : ◌≡◌ {A = Kinds} (Some NewRootTable) (Some (NewCNode radix)) = is in cc)

pub sound-nodes : (s : State) → IsSound s → CNodesAreOpen s.slots
sound-nodes s sound = record {
  nodes = λ slot. record {
    each = λ offset radix guard index is less.
        let count : slot_count (s.objects offset) ≡ 2 ^ radix =
        node-count (s.objects offset) radix (sound.memory.named slot (NewCNode radix) offset (ap object_named is)) in
        (sound.slots.there (offset / 16 + index)).1
        (of_object offset (bounds-within (offset / 16) (slot_count (s.objects offset)) (offset / 16 + index) (omega arith)
        (subst (λ (n : ℕ). offset / 16 + index < offset / 16 + n) (sym count) (omega (arith, less)))));
  };
}

-- and so has the boot CNode
pub boot-open : (s : State) → IsSound s → (guard : ℕ) → HasOpenSlots s.slots (CNode 0 s.boot_radix guard)
boot-open s sound guard = record {
  each = λ offset radix other index is less.
      let zero_is : 0 ≡ offset = cc in
      let radix_is : s.boot_radix ≡ radix = cc in
      let few : index < 2 ^ s.boot_radix = subst (λ (n : ℕ). index < 2 ^ n) (sym radix_is) less in
      (sound.slots.there (offset / 16 + index)).1 (of_boot_area (omega (arith, zero_is, few)));
}
