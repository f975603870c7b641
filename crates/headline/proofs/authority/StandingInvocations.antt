-- A Copy, a Mint, a Move, a Map and an Unmap that the rules allow stay within authority, where a thread's slots hold what is noted: what
-- they name is the thread's own.
use Rattle.std.proofs.Common.{ℕ, ◌≡◌, ◌∙◌, ◌==◌, ◌/◌, ◌%◌, ◌||◌, inl, inr, true, false, not, nat_lt, Option, Some, None, Ok, List, refl, sym, ap, subst}
use Rattle.std.proofs.lemmas.Bool.{false≢true}
use Rattle.std.proofs.lemmas.Option.{none-some}
use Rattle.soundness.proofs.Laws.{passes-both}
use Rattle.typestate.specs.Calls.{call_on}
use Rattle.typestate.specs.Spaces.{is_inside}
use Rattle.headline.specs.authority.OwnMaps.{MapsOwn}
use Rattle.headline.specs.authority.Scenarios.{OwnSlots}
use Rattle.headline.specs.invocations.Mirrors.{Mirrors}
use Rattle.headline.specs.invocations.Performed.{MayInvoke}
use Rattle.model.specs.declared.capabilities.Cap.{Cap}
use Rattle.model.specs.declared.capabilities.Cap.TheVariants.{Empty, Untyped, Endpoint, Notification, CNode, Frame, PageTable, Tcb, RootTable, InterruptControl}
use Rattle.model.specs.declared.capabilities.Cap.TheVariants.{InterruptHandler}
use Rattle.model.specs.declared.capabilities.FrameMapping.{FrameMapping}
use Rattle.model.specs.declared.errors.KError.TheVariants.{AlignmentError, DeleteFirst, FailedLookup, InvalidArgument, InvalidCapability}
use Rattle.model.specs.declared.invocations.CNodeCall.TheVariants.{Copy, Mint, Move}
use Rattle.model.specs.declared.invocations.CNodeCall.{CNodeCall}
use Rattle.model.specs.declared.invocations.FrameCall.TheVariants.{MapFrame, UnmapFrame}
use Rattle.model.specs.declared.invocations.Invocation.TheVariants.{OnCNode, OnFrame}
use Rattle.model.specs.declared.invocations.SlotName.{SlotName}
use Rattle.model.specs.declared.rights.Rights.{Rights}
use Rattle.model.specs.Acceptance.Authority.{IsOwnSlot, WithinAuthority, given, without_use}
use Rattle.model.specs.Acceptance.NotedStates.{NotedSlot, is_foreign}
use Rattle.model.specs.Acceptance.ThreadInvariants.{root_table_of, tcb_of}
use Rattle.model.specs.Acceptance.ThreadRules.{reached}
use Rattle.model.specs.Capabilities.CapabilityKinds.{frame_mapping, root_of, table_mapping, with_frame_mapping}
use Rattle.model.specs.Capabilities.Rights.{mapping_rights, may_execute, may_read}
use Rattle.model.specs.Capabilities.Slots.{capability_at, parent_at, recapped}
use Rattle.model.specs.Images.Described.{Numbered}
use Rattle.model.specs.Images.Image.{Image, Thread}
use Rattle.model.specs.Kernel.AddressSpaces.{address_limit, is_page_taken, is_region_taken, page_size, region_pages}
use Rattle.model.specs.Kernel.Arguments.{Call, destination_slot, source_slot, wanted}
use Rattle.model.specs.Kernel.Invocations.{perform}
use Rattle.model.specs.Kernel.MappingCalls.{is_mapped, root_named, unmap_frame}
use Rattle.model.specs.Kernel.State.{State, ThreadObject, ThreadState, with_slots}
use Rattle.soundness.proofs.Laws.{wanted-some}
use Rattle.headline.proofs.invocations.BlockSlots.{own-or-other}
use Rattle.headline.proofs.invocations.FrameCalls.{own-table}
use Rattle.headline.proofs.invocations.NamedSlots.{cnode-inside, destination-named, root-inside, source-named}
use Rattle.headline.proofs.authority.SlotCalls.{copy-within, mint-within, move-within, unmap-within}
use Rattle.headline.proofs.authority.SlotChanges.{recapped-within}
use Rattle.headline.proofs.authority.Stored.{got, passed}

-- no slot of a thread's holds a page table
pub own-no_table : (image : Image) (t : Thread) (c : Cap) → is_foreign image t (reached image t) c ≡ false → table_mapping c ≡ None
own-no_table image t Empty mine = refl
own-no_table image t (Untyped a b d) mine = refl
own-no_table image t (Endpoint a r b) mine = refl
own-no_table image t (Notification a r b) mine = refl
own-no_table image t (CNode a r g) mine = refl
own-no_table image t (Frame a r m) mine = refl
own-no_table image t (PageTable a m) mine = absurd (false≢true (sym mine))
own-no_table image t (Tcb a) mine = refl
own-no_table image t (RootTable a) mine = refl
own-no_table image t InterruptControl mine = refl
own-no_table image t (InterruptHandler a) mine = refl

module _ (image : Image) (t : Numbered) (s : State) (slots : List NotedSlot) (m : Mirrors image t s slots) (own : ThreadState)
    (is : s.objects (tcb_of image t) ≡ Some (ThreadObject own)) (slot : ℕ) where
  abbrev called : Call
  called = call_on image t.thread slot (capability_at s.slots slot)

  -- ---- Copy and Mint

  module _ (c : CNodeCall) (may : MayInvoke image t s slots slot (OnCNode c)) (destination source : SlotName) where
    inside : is_inside image t.thread (capability_at s.slots slot) ≡ true
    inside = cnode-inside image t s slots m slot may.on.0 may.on.1 may.on.2 may.own may.on.3

    own-slots : (to from : ℕ) → destination_slot s.slots called.capability destination ≡ Ok to → source_slot s.slots called.root source ≡ Ok from
        → OwnSlots image t.thread s called destination source
    own-slots to from named_to named_from = record {
      to = to;
      from = from;
      named_to = named_to;
      named_from = named_from;
      own_to = m.finds_own called.capability destination to inside (destination-named s.slots called.capability destination to named_to).named;
      own_from =
          m.finds_own called.root source from (root-inside image t s slots m) (source-named s.slots called.root source from named_from).named;
    }

  pub copies-within : (destination source : SlotName) (word : ℕ) → MayInvoke image t s slots slot (OnCNode (Copy destination source word)) → (after : State)
      → perform s (call_on image t.thread slot (capability_at s.slots slot)) (OnCNode (Copy destination source word)) ≡ Ok after
      → WithinAuthority image t.thread s after
  copies-within destination source word may after made =
      let one = got (destination_slot s.slots called.capability destination) _ after made in
      let two = got (source_slot s.slots called.root source) _ after one.2 in
      copy-within image t.thread s own is called destination source
      (own-slots (Copy destination source word) may destination source one.0 two.0 one.1 two.1) word after made

  pub mints-within : (destination source : SlotName) (word payload : ℕ) → MayInvoke image t s slots slot (OnCNode (Mint destination source word payload))
      → (after : State)
      → perform s (call_on image t.thread slot (capability_at s.slots slot)) (OnCNode (Mint destination source word payload)) ≡ Ok after
      → WithinAuthority image t.thread s after
  mints-within destination source word payload may after made =
      let one = got (destination_slot s.slots called.capability destination) _ after made in
      let two = got (source_slot s.slots called.root source) _ after one.2 in
      mint-within image t.thread s own is called destination source
      (own-slots (Mint destination source word payload) may destination source one.0 two.0 one.1 two.1) word payload after made

  -- ---- Move and Unmap

  -- what derives from a slot of the thread's own is in one
  own-below : (child parent : ℕ) → parent_at s.slots child ≡ Some parent → IsOwnSlot image t.thread parent → IsOwnSlot image t.thread child
  own-below child parent below mine = elim (own-or-other image t child) [
    | inl own_child ↦ own_child
    | inr other ↦ absurd (m.outside child parent other below mine)
  ]

  pub moves-within : MapsOwn image t s → (destination source : SlotName) → MayInvoke image t s slots slot (OnCNode (Move destination source)) → (after : State)
      → perform s (call_on image t.thread slot (capability_at s.slots slot)) (OnCNode (Move destination source)) ≡ Ok after
      → WithinAuthority image t.thread s after
  unfolding own-slots
  moves-within maps destination source may after made =
      let one = got (destination_slot s.slots called.capability destination) _ after made in
      let two = got (source_slot s.slots called.root source) _ after one.2 in
      let own_two = own-slots (Move destination source) may destination source one.0 two.0 one.1 two.1 in
      let mine : IsOwnSlot image t.thread two.0 = own_two.own_from in
      move-within image t.thread s own is called destination source own_two (λ child below. own-below child two.0 below mine)
      (λ n mapped. maps two.0 n mine mapped)
      (λ n mapped. absurd (none-some n (sym (own-no_table image t.thread (capability_at s.slots two.0) (m.home two.0 mine)) ∙ mapped))) after made

  pub unmaps-within : MapsOwn image t s → (allowed : Rights) → MayInvoke image t s slots slot (OnFrame allowed UnmapFrame) → (after : State)
      → perform s (call_on image t.thread slot (capability_at s.slots slot)) (OnFrame allowed UnmapFrame) ≡ Ok after → WithinAuthority image t.thread s after
  unmaps-within maps allowed may after made =
      let same : unmap_frame s called ≡ after = let e : Ok (unmap_frame s called) ≡ Ok after = made in cc in
      subst (λ (x : State). WithinAuthority image t.thread s x) same
      (unmap-within image t.thread s own is called may.on.0 allowed may.on.1 may.on.2 may.on.2 may.own
      (λ n mapped. maps slot n may.own (ap frame_mapping may.on.2 ∙ mapped)))

  -- ---- Map

  -- the root table that a call names is the thread's own
  own-root : (name : SlotName) (table : ℕ) → root_named s.slots called.root name ≡ Ok table → table ≡ root_table_of image t
  own-root name table named =
      let first = passes-both (source_slot s.slots called.root name) (λ x. wanted (root_of (capability_at s.slots x)) InvalidCapability) table named in
      let mine =
      m.finds_own called.root name first.value (root-inside image t s slots m) (source-named s.slots called.root name first.value first.first).named in
      own-table image t.thread (capability_at s.slots first.value) table
      (wanted-some (root_of (capability_at s.slots first.value)) InvalidCapability table first.rest) (m.home first.value mine)

  no-mapping : (old : Option FrameMapping) → not (is_mapped old) ≡ true → old ≡ None
  no-mapping None free = refl
  no-mapping (Some old) free = absurd (let clash : false ≡ true = free in cc)

  pub maps-within : (allowed : Rights) (name : SlotName) (address word : ℕ)
      → MayInvoke image t s slots slot (OnFrame allowed (MapFrame name address word)) → (after : State)
      → perform s (call_on image t.thread slot (capability_at s.slots slot)) (OnFrame allowed (MapFrame name address word)) ≡ Ok after
      → WithinAuthority image t.thread s after
  maps-within allowed name address word may after made =
      let now = mapping_rights allowed word in
      let offset = may.on.0 in
      let one = passed (not (is_mapped (frame_mapping (capability_at s.slots slot)))) InvalidCapability _ after made in
      let two = got (root_named s.slots called.root name) _ after one.1 in
      let root = two.0 in
      let three = passed (nat_lt address address_limit) InvalidArgument _ after two.2 in
      let four = passed (address % page_size == 0) AlignmentError _ after three.1 in
      let five = passed (is_region_taken s root (address / page_size / region_pages)) FailedLookup _ after four.1 in
      let six = passed (not (is_page_taken s root (address / page_size))) DeleteFirst _ after five.1 in
      let seven = passed (may_read now || may_execute now) InvalidArgument _ after six.1 in
      let mapping : FrameMapping = record { root = root; page = address / page_size; rights = now } in
      let bare : capability_at s.slots slot ≡ Frame offset allowed None =
      may.on.2 ∙ ap (λ (o : Option FrameMapping). Frame offset allowed o)
      (no-mapping may.on.1 (sym (ap (λ (c : Cap). not (is_mapped (frame_mapping c))) may.on.2) ∙ one.0)) in
      let last : State = with_slots s (recapped s.slots slot (with_frame_mapping (capability_at s.slots slot) (Some mapping))) in
      let same : last ≡ after = let e : Ok last ≡ Ok after = seven.1 in cc in
      subst (λ (x : State). WithinAuthority image t.thread s x)
      (ap (λ (c : Cap). with_slots s (recapped s.slots slot (with_frame_mapping c (Some mapping)))) (sym bare) ∙ same)
      (recapped-within image t.thread s own is slot (Frame offset allowed (Some mapping)) may.own (
        (λ n old. let e : None ≡ Some n = sym (ap frame_mapping bare) ∙ old in absurd cc),
        (λ n old. let e : None ≡ Some n = sym (ap table_mapping bare) ∙ old in absurd cc),
      ) (
        (λ n new. let e : Some mapping ≡ Some n = new in let f : mapping ≡ n = cc in sym (ap (λ (x : FrameMapping). x.root) f) ∙ own-root name root two.1),
        (λ n new. let e : None ≡ Some n = new in absurd cc),
      )
      (ap without_use bare)
      (λ n fresh new. let e : Some mapping ≡ Some n = new in let f : mapping ≡ n = cc in given word (sym (ap (λ (x : FrameMapping). x.rights) f)))
      (λ o b before behind was differs_now differs. let e : Frame offset allowed None ≡ Untyped o b before = sym bare ∙ was in absurd cc))
