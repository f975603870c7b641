-- Retype by a thread of the part, in the whole and alone.
use Rattle.std.proofs.Common.{ℕ, ◌≡◌, ◌∙◌, ◌==◌, ◌+◌, ◌^◌, ◌&&◌, not, nat_le, if◌then◌else◌, Option, Result, Ok, Err, refl, sym, ap}
use Rattle.model.specs.declared.capabilities.Cap.{Cap}
use Rattle.model.specs.declared.capabilities.Cap.TheVariants.{Untyped}
use Rattle.model.specs.declared.errors.KError.{KError}
use Rattle.model.specs.declared.errors.KError.TheVariants.{DeleteFirst, FailedLookup, InvalidArgument, NotEnoughMemory, RangeError}
use Rattle.model.specs.declared.invocations.RetypeCall.{RetypeCall}
use Rattle.model.specs.declared.invocations.SlotName.{SlotName}
use Rattle.model.specs.declared.invocations.UntypedMemory.{UntypedMemory}
use Rattle.model.specs.declared.slot_entries.Entry.{Entry}
use Rattle.model.specs.Acceptance.Authority.{IsOwnSlot}
use Rattle.model.specs.Capabilities.CapabilityKinds.{Node, cnode_of}
use Rattle.model.specs.Capabilities.Placement.{placement}
use Rattle.model.specs.Capabilities.Slots.{Slots, capability_at, recapped}
use Rattle.model.specs.Images.Described.{Numbered}
use Rattle.model.specs.Images.Image.{Image}
use Rattle.model.specs.Kernel.Arguments.{◌>>=◌, argument_slot, check, may_have_child, wanted}
use Rattle.model.specs.Kernel.Retype.{NewObject, NewObjects, any_full, is_large_enough, is_small_enough, node, object_bits, retype, type_of}
use Rattle.model.specs.Kernel.Retype.{with_first_capabilities, with_new, with_new_bytes, with_new_objects, with_new_slots}
use Rattle.model.specs.Kernel.State.{State, Object, slot_of, with_slots}
use Rattle.soundness.proofs.Laws.{passes-both}
use Rattle.headline.specs.parts.Agreeing.{IsMemberOf, IsSlotOfPart}
use Rattle.headline.specs.parts.Parts.{Part}
use Rattle.part_laws.specs.Agreeing.{AgreeFor}
use Rattle.part_laws.proofs.own_calls.SameLookups.{FindsSame, ok-of}
use Rattle.part_laws.proofs.own_calls.SlotCalls.{answer, recapped-same, same-held, same-parent}

module _ (image : Image) (part : Part) (s t : State) (u : Numbered) (member : IsMemberOf image part u) (agree : AgreeFor image part s t) (root : Cap)
    (roots : FindsSame image u.thread s.slots t.slots root) where
  abbrev Agree : State → State → Type 0
  Agree a b = AgreeFor image part a b

  -- the CNode of a name is the same
  below : (name : SlotName) (r q : Result ℕ KError) → r ≡ q → ((slot : ℕ) → r ≡ Ok slot → IsOwnSlot image u.thread slot)
      → (r >>= λ slot. wanted (cnode_of (capability_at s.slots slot)) FailedLookup)
      ≡ (q >>= λ slot. wanted (cnode_of (capability_at t.slots slot)) FailedLookup)
  below name (Ok slot) q same own =
      ap (λ (c : Cap). wanted (cnode_of c) FailedLookup) (same-held image part s t u member agree slot (own slot refl))
      ∙ ap (λ (r : Result ℕ KError). r >>= λ slot. wanted (cnode_of (capability_at t.slots slot)) FailedLookup) same
  below name (Err error) q same own =
      ap (λ (r : Result ℕ KError). r >>= λ slot. wanted (cnode_of (capability_at t.slots slot)) FailedLookup) same

  same-node : (name : SlotName) → node s.slots root name ≡ node t.slots root name
  same-node name =
      ap (λ (r : Result Node KError). if name.depth == 0 then wanted (cnode_of root) FailedLookup else r)
      (below name (argument_slot s.slots root name) (argument_slot t.slots root name) (roots.same name) (λ slot is. roots.own name slot is))

  -- new objects, on both sides
  with-new-agrees : (a b : Slots) (n m : NewObjects) (p q parent : ℕ) → n ≡ m → p ≡ q → ((y : ℕ) → IsSlotOfPart image part y → a y ≡ b y)
      → Agree (with_new (with_slots s a) n p parent) (with_new (with_slots t b) m q parent)
  with-new-agrees a b n m p q parent new window same = record {
    objects = λ offset of.
        ap (λ (o : Option Object). with_new_objects n (λ _. o) offset) (agree.objects offset of) ∙ (λ i. with_new_objects (new i) t.objects offset);
    bytes = λ place of.
        ap (λ (o : Option ℕ). with_new_bytes n (λ _. o) place) (agree.bytes place of) ∙ (λ i. with_new_bytes (new i) t.bytes place);
    slots = λ y of.
        ap (λ (o : Option Entry). with_first_capabilities n p parent (with_new_slots n (λ _. o)) y) (same y of)
        ∙ (λ i. with_first_capabilities (new i) (window i) parent (with_new_slots (new i) b) y);
    masked = λ line of. agree.masked line of;
    pending = λ line of. agree.pending line of;
    ready = λ priority. agree.ready priority;
  }

  pub retype-agrees : (slot : ℕ) → IsOwnSlot image u.thread slot → (memory : UntypedMemory) (call : RetypeCall) (after other : State)
      → retype s root slot memory call ≡ Ok after → retype t root slot memory call ≡ Ok other → Agree after other
  unfolding retype
  retype-agrees slot own memory call after other is too =
      let a = passes-both (wanted (type_of call.kind call.size) InvalidArgument) _ after is in
      let b = passes-both (check (is_large_enough a.value) InvalidArgument) _ after a.rest in
      let c = passes-both (check (is_small_enough a.value) RangeError) _ after b.rest in
      let d = passes-both (node s.slots root call.node) _ after c.rest in
      let e =
      passes-both (check (nat_le 1 call.count && nat_le call.count 256 && nat_le (call.index + call.count) (2 ^ (d.value).radix)) RangeError) _ after d.rest in
      let f = passes-both (check (not (any_full s.slots (slot_of (d.value).offset call.index) call.count)) DeleteFirst) _ after e.rest in
      let g = passes-both (may_have_child s.slots slot) _ after f.rest in
      let h = passes-both (wanted (placement memory.bits memory.watermark (object_bits a.value) call.count) NotEnoughMemory) _ after g.rest in
      let k = passes-both (wanted (type_of call.kind call.size) InvalidArgument) _ other too in
      let l = passes-both (check (is_large_enough k.value) InvalidArgument) _ other k.rest in
      let m = passes-both (check (is_small_enough k.value) RangeError) _ other l.rest in
      let n = passes-both (node t.slots root call.node) _ other m.rest in
      let o =
      passes-both (check (nat_le 1 call.count && nat_le call.count 256 && nat_le (call.index + call.count) (2 ^ (n.value).radix)) RangeError) _ other n.rest in
      let p = passes-both (check (not (any_full t.slots (slot_of (n.value).offset call.index) call.count)) DeleteFirst) _ other o.rest in
      let q = passes-both (may_have_child t.slots slot) _ other p.rest in
      let r = passes-both (wanted (placement memory.bits memory.watermark (object_bits k.value) call.count) NotEnoughMemory) _ other q.rest in
      let kind : a.value ≡ k.value = ok-of a.value k.value (sym a.first ∙ k.first) in
      let cnode : d.value ≡ n.value = ok-of d.value n.value (sym d.first ∙ same-node call.node ∙ n.first) in
      let place : h.value ≡ r.value =
      ok-of h.value r.value (sym h.first
      ∙ ap (λ (x : NewObject). wanted (placement memory.bits memory.watermark (object_bits x) call.count) NotEnoughMemory) kind ∙ r.first) in
      let new : NewObjects = record { kind = a.value; first = memory.offset + (h.value).0; count = call.count } in
      let made : NewObjects = record { kind = k.value; first = memory.offset + (r.value).0; count = call.count } in
      let used : Slots = recapped s.slots slot (Untyped memory.offset memory.bits (h.value).1) in
      let spent : Slots = recapped t.slots slot (Untyped memory.offset memory.bits (r.value).1) in
      answer image part s t u member agree (with_new (with_slots s used) new (slot_of (d.value).offset call.index) slot)
      (with_new (with_slots t spent) made (slot_of (n.value).offset call.index) slot) after other h.rest r.rest
      (with-new-agrees used spent new made _ _ slot (λ i. record { kind = kind i; first = memory.offset + (place i).0; count = call.count })
      (ap (λ (x : Node). slot_of x.offset call.index) cnode)
      (λ y of. recapped-same s.slots t.slots y (agree.slots y of) slot _ _ (ap (λ (w : ℕ × ℕ). Untyped memory.offset memory.bits w.1) place)
      (same-parent image part s t u member agree slot own)))
