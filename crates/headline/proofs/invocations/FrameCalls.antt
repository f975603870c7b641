-- Map and Unmap of frames on the state as it is.
use Rattle.std.proofs.Common.{ℕ, ◌≡◌, ◌∙◌, ◌==◌, ◌/◌, ◌%◌, ◌||◌, inr, true, false, not, nat_lt, List, Option, Some, None, Ok, refl, sym, ap, subst}
use Rattle.std.proofs.lemmas.Option.{none-some, same_Some}
use Rattle.model.specs.declared.capabilities.Cap.{Cap}
use Rattle.model.specs.declared.capabilities.Cap.TheVariants.{Empty, Untyped, Endpoint, Notification, CNode, Frame, PageTable, Tcb, RootTable, InterruptControl}
use Rattle.model.specs.declared.capabilities.Cap.TheVariants.{InterruptHandler}
use Rattle.model.specs.declared.capabilities.FrameMapping.{FrameMapping}
use Rattle.model.specs.declared.errors.KError.TheVariants.{AlignmentError, DeleteFirst, FailedLookup, InvalidArgument, InvalidCapability}
use Rattle.model.specs.declared.invocations.FrameCall.TheVariants.{MapFrame, UnmapFrame}
use Rattle.model.specs.declared.invocations.Invocation.TheVariants.{OnFrame}
use Rattle.model.specs.declared.invocations.SlotName.{SlotName}
use Rattle.model.specs.declared.rights.Rights.{Rights}
use Rattle.model.specs.Acceptance.Authority.{IsOwnSlot}
use Rattle.model.specs.Acceptance.NotedKernel.{noted_after, noted_kernel, noted_root}
use Rattle.model.specs.Acceptance.NotedStates.{NotedSlot, is_foreign}
use Rattle.model.specs.Acceptance.ThreadInvariants.{root_table_of}
use Rattle.model.specs.Acceptance.ThreadRules.{reached}
use Rattle.model.specs.Capabilities.CapabilityKinds.{frame_mapping, is_untyped, root_of, unmapped, with_frame_mapping}
use Rattle.model.specs.Capabilities.Rights.{mapping_rights, may_execute, may_read}
use Rattle.model.specs.Capabilities.Slots.{Slots, capability_at, recapped}
use Rattle.model.specs.Images.Described.{Numbered}
use Rattle.model.specs.Images.Image.{Image, Thread}
use Rattle.model.specs.Images.Places.{offset_of}
use Rattle.model.specs.Kernel.AddressSpaces.{address_limit, is_page_taken, is_region_taken, page_size, region_pages}
use Rattle.model.specs.Kernel.Arguments.{check, source_slot, wanted}
use Rattle.model.specs.Kernel.Kinds.{object_named}
use Rattle.model.specs.Kernel.MappingCalls.{is_mapped, root_named}
use Rattle.model.specs.Kernel.State.{State, with_slots}
use Rattle.soundness.proofs.Laws.{check-passes, goes, passes, passes-both, wanted-some}
use Rattle.typestate.proofs.Laws.{root-near}
use Rattle.headline.specs.lookups.Found.{slots_noted}
use Rattle.headline.specs.invocations.Changes.{ChangesOwn}
use Rattle.headline.specs.invocations.Mirrors.{Mirrors}
use Rattle.headline.specs.invocations.Performed.{InvokesWell, MayInvoke}
use Rattle.headline.proofs.invocations.MappedTests.{page-free, region-too}
use Rattle.headline.proofs.invocations.NamedSlots.{named-so, named-source, ok-same, root-inside, source-named}
use Rattle.headline.proofs.invocations.Recapping.{recapped-changes}
use Rattle.thread_spaces.proofs.Laws.{negated}

-- a root table among the thread's capabilities is its own
pub own-table : (image : Image) (t : Thread) (c : Cap) (table : ℕ) → root_of c ≡ Some table → is_foreign image t (reached image t) c ≡ false
    → table ≡ offset_of image t.header.root
own-table image t (RootTable offset) table is home = sym (same_Some offset table is) ∙ root-near image t (reached image t) offset home
own-table image t Empty table clash home = absurd (none-some table clash)
own-table image t (Untyped _ _ _) table clash home = absurd (none-some table clash)
own-table image t (Endpoint _ _ _) table clash home = absurd (none-some table clash)
own-table image t (Notification _ _ _) table clash home = absurd (none-some table clash)
own-table image t (CNode _ _ _) table clash home = absurd (none-some table clash)
own-table image t (Frame _ _ _) table clash home = absurd (none-some table clash)
own-table image t (PageTable _ _) table clash home = absurd (none-some table clash)
own-table image t (Tcb _) table clash home = absurd (none-some table clash)
own-table image t InterruptControl table clash home = absurd (none-some table clash)
own-table image t (InterruptHandler _) table clash home = absurd (none-some table clash)

module _ (image : Image) (t : Numbered) (s : State) (slots : List NotedSlot) (m : Mirrors image t s slots) where
  abbrev noted : Slots
  noted = slots_noted image t slots

  abbrev kernel : State
  kernel = noted_kernel image t.thread slots

  abbrev root : Cap
  root = noted_root image t.thread

  -- ---- the root table that a call names

  record NamesTable (name : SlotName) (table : ℕ) : Type 0 where
    pub named : root_named s.slots root name ≡ Ok table
    pub own : table ≡ root_table_of image t

  table-named : (name : SlotName) (table : ℕ) → root_named noted root name ≡ Ok table → NamesTable name table
  table-named name table is =
      let first = passes-both (source_slot noted root name) (λ x. wanted (root_of (capability_at noted x)) InvalidCapability) table is in
      let of = named-so image t s slots m root name true first.value (root-inside image t s slots m) (source-named noted root name first.value first.first) in
      let held : root_of (capability_at s.slots first.value) ≡ Some table =
      ap root_of of.held ∙ wanted-some (root_of (capability_at noted first.value)) InvalidCapability table first.rest in
      record {
        named = goes (source_slot s.slots root name) (λ x. wanted (root_of (capability_at s.slots x)) InvalidCapability) first.value (Ok table)
            (named-source s.slots root name first.value of.is) (ap (λ (o : Option ℕ). wanted o InvalidCapability) held);
        own = own-table image t.thread (capability_at s.slots first.value) table held (m.home first.value of.own);
      }

  module _ (slot : ℕ) (own : IsOwnSlot image t.thread slot) (offset : ℕ) (allowed : Rights) (old : Option FrameMapping)
      (is : capability_at s.slots slot ≡ Frame offset allowed old) where
    abbrev capability : Cap
    capability = capability_at s.slots slot

    -- a frame with a mapping under the thread's root table, or with none
    remapped : (mapping : Option FrameMapping) → ((new : FrameMapping) → mapping ≡ Some new → new.root ≡ root_table_of image t)
        → ChangesOwn image t s (with_slots s (recapped s.slots slot (with_frame_mapping capability mapping)))
        (noted_after image t.thread (recapped noted slot (with_frame_mapping capability mapping)))
    remapped mapping mine =
        recapped-changes image t s slots m slot own (with_frame_mapping capability mapping)
        (λ frame names. ap object_named is ∙ sym (ap (λ (c : Cap). object_named (with_frame_mapping c mapping)) is) ∙ names)
        (λ new maps. inr (mine new (sym (ap (λ (c : Cap). frame_mapping (with_frame_mapping c mapping)) is) ∙ maps)))
        (ap (λ (c : Cap). is_untyped (with_frame_mapping c mapping)) is ∙ sym (ap is_untyped is))

    pub unmaps-so : (may : MayInvoke image t s slots slot (OnFrame allowed UnmapFrame)) → InvokesWell image t s slot (OnFrame allowed UnmapFrame) may.noted
    unmaps-so may =
        let bare : with_frame_mapping capability None ≡ unmapped capability = ap (λ (c : Cap). with_frame_mapping c None) is ∙ sym (ap unmapped is) in
        let left = subst (λ (c : Cap). ChangesOwn image t s (with_slots s (recapped s.slots slot c)) (noted_after image t.thread (recapped noted slot c))) bare
        (remapped None (λ new clash. absurd (none-some new clash))) in
        record {
          after = with_slots s (recapped s.slots slot (unmapped capability));
          performs = refl;
          changes = subst (λ (l : List NotedSlot). ChangesOwn image t s (with_slots s (recapped s.slots slot (unmapped capability))) l)
              (ap (λ (u : State). noted_after image t.thread u.slots)
              (ok-same (with_slots kernel (recapped noted slot (unmapped capability))) may.noted may.performs)) left;
        }

    pub maps-so : (name : SlotName) (address word : ℕ) (may : MayInvoke image t s slots slot (OnFrame allowed (MapFrame name address word)))
        → InvokesWell image t s slot (OnFrame allowed (MapFrame name address word)) may.noted
    maps-so name address word may =
        let given = mapping_rights allowed word in
        let page = address / page_size in
        let a = passes-both (check (not (is_mapped (frame_mapping capability))) InvalidCapability) _ may.noted may.performs in
        let b = passes-both (root_named noted root name) _ may.noted a.rest in
        let table = b.value in
        let c = passes-both (check (nat_lt address address_limit) InvalidArgument) _ may.noted b.rest in
        let d = passes-both (check (address % page_size == 0) AlignmentError) _ may.noted c.rest in
        let e = passes-both (check (is_region_taken kernel table (page / region_pages)) FailedLookup) _ may.noted d.rest in
        let f = passes-both (check (not (is_page_taken kernel table page)) DeleteFirst) _ may.noted e.rest in
        let g = passes-both (check (may_read given || may_execute given) InvalidArgument) _ may.noted f.rest in
        let of = table-named name table b.first in
        let region : is_region_taken s table (page / region_pages) ≡ true =
        ap (λ (n : ℕ). is_region_taken s n (page / region_pages)) of.own
        ∙ region-too image t s slots m (page / region_pages)
        (ap (λ (n : ℕ). is_region_taken kernel n (page / region_pages)) (sym of.own) ∙ check-passes _ FailedLookup e.value e.first) in
        let free : is_page_taken s table page ≡ false =
        ap (λ (n : ℕ). is_page_taken s n page) of.own
        ∙ page-free image t s slots m page
        (ap (λ (n : ℕ). is_page_taken kernel n page) (sym of.own) ∙ negated (is_page_taken kernel table page) (check-passes _ DeleteFirst f.value f.first)) in
        let mapping : FrameMapping = record { root = table; page = page; rights = given } in
        let new = with_frame_mapping capability (Some mapping) in
        let after = with_slots s (recapped s.slots slot new) in
        record {
          after = after;
          performs = passes (not (is_mapped (frame_mapping capability))) InvalidCapability _ (Ok after) (check-passes _ InvalidCapability a.value a.first)
              (goes (root_named s.slots root name) _ table (Ok after) of.named
              (passes (nat_lt address address_limit) InvalidArgument _ (Ok after) (check-passes _ InvalidArgument c.value c.first)
              (passes (address % page_size == 0) AlignmentError _ (Ok after) (check-passes _ AlignmentError d.value d.first)
              (passes (is_region_taken s table (page / region_pages)) FailedLookup _ (Ok after) region
              (passes (not (is_page_taken s table page)) DeleteFirst _ (Ok after) (ap not free)
              (passes (may_read given || may_execute given) InvalidArgument _ (Ok after) (check-passes _ InvalidArgument g.value g.first) refl))))));
          changes = subst (λ (l : List NotedSlot). ChangesOwn image t s after l)
              (ap (λ (u : State). noted_after image t.thread u.slots) (ok-same (with_slots kernel (recapped noted slot new)) may.noted g.rest))
              (remapped (Some mapping) (λ other same. ap (λ (x : FrameMapping). x.root) (sym (same_Some mapping other same)) ∙ of.own));
        }

  pub unmaps-well : (slot : ℕ) (allowed : Rights) (may : MayInvoke image t s slots slot (OnFrame allowed UnmapFrame))
      → InvokesWell image t s slot (OnFrame allowed UnmapFrame) may.noted
  unmaps-well slot allowed may = let is = may.on in unmaps-so slot may.own is.0 allowed is.1 is.2 may

  pub maps-well : (slot : ℕ) (allowed : Rights) (name : SlotName) (address word : ℕ)
      (may : MayInvoke image t s slots slot (OnFrame allowed (MapFrame name address word)))
      → InvokesWell image t s slot (OnFrame allowed (MapFrame name address word)) may.noted
  maps-well slot allowed name address word may = let is = may.on in maps-so slot may.own is.0 allowed is.1 is.2 name address word may
