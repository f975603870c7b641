-- Copy, Mint and Move between slots of the thread's own, and an Unmap of its own frame, stay within authority.
use Rattle.std.proofs.Common.{ℕ, ◌≡◌, ◌≢◌, Bool, true, false, not, nat_lt, Option, Some, None, Ok, refl, sym, ◌∙◌, ap, subst}
use Rattle.model.specs.declared.capabilities.Cap.{Cap}
use Rattle.model.specs.declared.capabilities.Cap.TheVariants.{Empty, Untyped, Endpoint, Notification, CNode, Frame, PageTable, Tcb, RootTable, InterruptControl}
use Rattle.model.specs.declared.capabilities.Cap.TheVariants.{InterruptHandler}
use Rattle.model.specs.declared.capabilities.FrameMapping.{FrameMapping}
use Rattle.model.specs.declared.capabilities.TableMapping.{TableMapping}
use Rattle.model.specs.declared.errors.KError.TheVariants.{DeleteFirst, IllegalOperation, RangeError}
use Rattle.model.specs.declared.invocations.SlotName.{SlotName}
use Rattle.model.specs.declared.rights.Rights.{Rights}
use Rattle.model.specs.Acceptance.Authority.{IsOwnSlot, WithinAuthority, self_of, without_use}
use Rattle.model.specs.Capabilities.CapabilityKinds.{badge_fits, copied, frame_mapping, guard_fits, is_badged, may_be_copied, table_mapping, unmapped}
use Rattle.model.specs.Capabilities.CapabilityKinds.{with_payload}
use Rattle.model.specs.Capabilities.Slots.{IsFull, Slots, capability_at, depth_of, inserted, is_empty, is_full, parent_at, recapped, relocated}
use Rattle.model.specs.Images.Image.{Image, Thread}
use Rattle.model.specs.Images.Places.{offset_of}
use Rattle.model.specs.Kernel.Arguments.{Call, argument_slot, destination_slot, source_slot}
use Rattle.model.specs.Kernel.CNodeCalls.{copy, mint, move as moves}
use Rattle.model.specs.Kernel.MappingCalls.{unmap_frame}
use Rattle.model.specs.Kernel.State.{State, ThreadObject, ThreadState, with_slots}
use Rattle.soundness.proofs.Laws.{copied-unmapped, empty-capability, payload-alike, payload-mapping, source-full}
use Rattle.headline.specs.authority.Scenarios.{OwnSlots}
use Rattle.headline.proofs.authority.SlotChanges.{copy-granted, inserted-within, mint-granted, recapped-within, relocated-within}
use Rattle.headline.proofs.authority.Stored.{got, known, passed}

doubly : (b : Bool) → not (not b) ≡ true → b ≡ true
doubly true is = refl
doubly false is = is

negated : (b : Bool) → not b ≡ true → b ≡ false
negated true is = sym is
negated false is = refl

-- a destination is empty
pub named-empty : (slots : Slots) (root : Cap) (name : SlotName) (slot : ℕ) → destination_slot slots root name ≡ Ok slot → capability_at slots slot ≡ Empty
named-empty slots root name slot is =
    let found = got (argument_slot slots root name) _ slot is in
    let free = passed (not (is_full slots found.0)) DeleteFirst _ slot found.2 in
    let same : found.0 ≡ slot = let e : Ok found.0 ≡ Ok slot = free.1 in cc in
    ap (capability_at slots) (sym same) ∙ empty-capability (capability_at slots found.0) (doubly (is_empty (capability_at slots found.0)) free.0)

-- what may be copied has no table's mapping, and neither has the copy
copy-no_table : (c : Cap) (word : ℕ) → may_be_copied c ≡ true → table_mapping (copied c word) ≡ None
copy-no_table Empty word may = refl
copy-no_table (Untyped a b d) word may = refl
copy-no_table (Endpoint a r b) word may = refl
copy-no_table (Notification a r b) word may = refl
copy-no_table (CNode a r g) word may = refl
copy-no_table (Frame a r m) word may = refl
copy-no_table (PageTable a m) word may = absurd (let clash : false ≡ true = may in cc)
copy-no_table (Tcb a) word may = refl
copy-no_table (RootTable a) word may = refl
copy-no_table InterruptControl word may = refl
copy-no_table (InterruptHandler a) word may = refl

module _ (image : Image) (t : Thread) (s : State) (own : ThreadState) (is : s.objects (self_of image t) ≡ Some (ThreadObject own)) (call : Call)
    (destination source : SlotName) (slots : OwnSlots image t s call destination source) where
  from-full : IsFull s.slots slots.from
  from-full = source-full s.slots call.root source slots.from slots.named_from

  from-some : capability_at s.slots slots.from ≢ Empty
  from-some none = let clash : true ≡ false = sym from-full ∙ ap (λ (c : Cap). not (is_empty c)) none in absurd cc

  to-empty : capability_at s.slots slots.to ≡ Empty
  to-empty = named-empty s.slots call.capability destination slots.to slots.named_to

  pub copy-within : (word : ℕ) (after : State) → copy s call destination source word ≡ Ok after → WithinAuthority image t s after
  copy-within word after made =
      let one = known (destination_slot s.slots call.capability destination) _ slots.to (Ok after) slots.named_to made in
      let two = known (source_slot s.slots call.root source) _ slots.from (Ok after) slots.named_from one in
      let three = passed (may_be_copied (capability_at s.slots slots.from)) IllegalOperation _ after two in
      let four = passed (nat_lt (depth_of s.slots slots.from) 255) IllegalOperation _ after three.1 in
      let new : Cap = copied (capability_at s.slots slots.from) word in
      let last : State = with_slots s (inserted s.slots slots.to new (Some slots.from)) in
      let same : last ≡ after = let e : Ok last ≡ Ok after = four.1 in cc in
      subst (λ (x : State). WithinAuthority image t s x) same
      (inserted-within image t s own is slots.to slots.from new slots.own_to slots.own_from to-empty
      (copied-unmapped (capability_at s.slots slots.from) word) (copy-no_table (capability_at s.slots slots.from) word three.0)
      (copy-granted image t s own is slots.from slots.own_from last (capability_at s.slots slots.from) word refl three.0 from-some))

  pub mint-within : (word payload : ℕ) (after : State) → mint s call destination source word payload ≡ Ok after → WithinAuthority image t s after
  mint-within word payload after made =
      let one = known (destination_slot s.slots call.capability destination) _ slots.to (Ok after) slots.named_to made in
      let two = known (source_slot s.slots call.root source) _ slots.from (Ok after) slots.named_from one in
      let held : Cap = capability_at s.slots slots.from in
      let three = passed (may_be_copied held) IllegalOperation _ after two in
      let four = passed (not (is_badged held)) IllegalOperation _ after three.1 in
      let five = passed (badge_fits held payload) RangeError _ after four.1 in
      let six = passed (guard_fits held payload) IllegalOperation _ after five.1 in
      let seven = passed (nat_lt (depth_of s.slots slots.from) 255) IllegalOperation _ after six.1 in
      let new : Cap = with_payload (copied held word) payload in
      let last : State = with_slots s (inserted s.slots slots.to new (Some slots.from)) in
      let same : last ≡ after = let e : Ok last ≡ Ok after = seven.1 in cc in
      subst (λ (x : State). WithinAuthority image t s x) same
      (inserted-within image t s own is slots.to slots.from new slots.own_to slots.own_from to-empty
      (payload-mapping (copied held word) payload ∙ copied-unmapped held word)
      ((payload-alike (copied held word) payload).table ∙ copy-no_table held word three.0)
      (mint-granted image t s own is slots.from slots.own_from last held word payload refl three.0 (negated (is_badged held) four.0) from-some))

  -- its children are the thread's own, and it maps under the thread's own root table
  pub move-within : ((child : ℕ) → parent_at s.slots child ≡ Some slots.from → IsOwnSlot image t child)
      → ((mapping : FrameMapping) → frame_mapping (capability_at s.slots slots.from) ≡ Some mapping → mapping.root ≡ offset_of image t.header.root)
      → ((mapping : TableMapping) → table_mapping (capability_at s.slots slots.from) ≡ Some mapping → mapping.root ≡ offset_of image t.header.root)
      → (after : State) → moves s call destination source ≡ Ok after → WithinAuthority image t s after
  move-within children frames tables after made =
      let one = known (destination_slot s.slots call.capability destination) _ slots.to (Ok after) slots.named_to made in
      let two = known (source_slot s.slots call.root source) _ slots.from (Ok after) slots.named_from one in
      let last : State = with_slots s (relocated s.slots slots.from slots.to) in
      let same : last ≡ after = let e : Ok last ≡ Ok after = two in cc in
      subst (λ (x : State). WithinAuthority image t s x) same
      (relocated-within image t s own is slots.from slots.to slots.own_from slots.own_to from-full to-empty children (frames, tables))

-- a frame under the thread's own root table
pub unmap-within : (image : Image) (t : Thread) (s : State) (own : ThreadState) → s.objects (self_of image t) ≡ Some (ThreadObject own) → (call : Call)
    (offset : ℕ) (allowed : Rights) (mapping : Option FrameMapping) → call.capability ≡ Frame offset allowed mapping
    → capability_at s.slots call.slot ≡ Frame offset allowed mapping → IsOwnSlot image t call.slot
    → ((m : FrameMapping) → mapping ≡ Some m → m.root ≡ offset_of image t.header.root) → WithinAuthority image t s (unmap_frame s call)
unmap-within image t s own is call offset allowed mapping held holds mine roots =
    subst (λ (c : Cap). WithinAuthority image t s (with_slots s (recapped s.slots call.slot (unmapped c)))) (sym held)
    (recapped-within image t s own is call.slot (Frame offset allowed None) mine
    ((λ m old. roots m (sym (ap frame_mapping holds) ∙ old)), (λ m old. let e : None ≡ Some m = sym (ap table_mapping holds) ∙ old in absurd cc))
    ((λ m new. let e : None ≡ Some m = new in absurd cc), (λ m new. let e : None ≡ Some m = new in absurd cc))
    (ap without_use holds)
    (λ m fresh new. let e : None ≡ Some m = new in absurd cc)
    (λ o b before behind was now differs. let e : Frame offset allowed mapping ≡ Untyped o b before = sym holds ∙ was in absurd cc))
