-- Calls on frames and page tables.
use Rattle.std.proofs.Common.{ℕ, zero, suc, ◌≡◌, ◌∙◌, ◌==◌, ◌||◌, ◌+◌, ◌*◌, ◌/◌, ◌%◌, ◌^◌, ◌<◌, ◌≤◌, inl, inr, true, false, not, nat_lt, Option, Some, None, Ok}
use Rattle.std.proofs.Common.{bit_and, refl, sym, ap, subst, arith}
use Rattle.std.specs.Option.{option_map_or}
use Rattle.std.proofs.lemmas.Bool.{ltb-true, not-true}
use Rattle.std.proofs.lemmas.Nat.{and_le_r}
use Rattle.model.specs.declared.capabilities.Cap.{Cap}
use Rattle.model.specs.declared.capabilities.Cap.TheVariants.{Empty, Untyped, Endpoint, Notification, CNode, Frame, PageTable, Tcb, RootTable, InterruptControl}
use Rattle.model.specs.declared.capabilities.Cap.TheVariants.{InterruptHandler}
use Rattle.model.specs.declared.capabilities.FrameMapping.{FrameMapping}
use Rattle.model.specs.declared.capabilities.TableMapping.{TableMapping}
use Rattle.model.specs.declared.errors.KError.TheVariants.{AlignmentError, DeleteFirst, FailedLookup, InvalidArgument, InvalidCapability}
use Rattle.model.specs.declared.invocations.FrameCall.{FrameCall}
use Rattle.model.specs.declared.invocations.FrameCall.TheVariants.{MapFrame, UnmapFrame}
use Rattle.model.specs.declared.invocations.SlotName.{SlotName}
use Rattle.model.specs.declared.invocations.TableCall.{TableCall}
use Rattle.model.specs.declared.invocations.TableCall.TheVariants.{MapTable, UnmapTable}
use Rattle.model.specs.declared.rights.Rights.{Rights}
use Rattle.model.specs.Capabilities.CapabilityKinds.{cnode_of, frame_mapping, root_of, table_mapping, unmapped, with_frame_mapping, with_table_mapping, Node}
use Rattle.model.specs.Capabilities.CapabilityWords.{AreMappingRights, IsCapability, IsPlace}
use Rattle.model.specs.Capabilities.Rights.{mapping_rights, may_execute, may_read, rights}
use Rattle.model.specs.Capabilities.Slots.{IsFull, capability_at, recapped}
use Rattle.model.specs.Kernel.AddressSpaces.{address_limit, is_page_taken, is_region_taken, page_size, region_pages, region_size}
use Rattle.model.specs.Kernel.Arguments.{Call, check, source_slot}
use Rattle.model.specs.Kernel.Kinds.{kind_at, object_named, piece_of, used_of}
use Rattle.model.specs.Kernel.MappingCalls.{is_mapped, on_frame, on_table, root_named, unmap_frame, unmap_table, without_region}
use Rattle.model.specs.Kernel.Retype.{NewRootTable}
use Rattle.model.specs.Kernel.Soundness.{IsSound}
use Rattle.model.specs.Kernel.State.{State, with_slots}
use Rattle.soundness.specs.Calls.{IsCall, IsInvoked, held, boot}
use Rattle.soundness.proofs.Lookups.{check-passes, passes-both, wanted-some}
use Rattle.soundness.proofs.Places.{MayHold, full-may_hold}
use Rattle.soundness.proofs.Recapped.{Recaps, framed-sound, recapped-sound, tabled-sound}
use Rattle.soundness.proofs.UnmappedTables.{unmapped-sound}

-- ---- rights of mappings

small-product : (a b : ℕ) → a ≤ 1 → b ≤ 1 → a * b ≤ 1
small-product zero b one other = omega arith
small-product (suc zero) b one other = omega (arith, other)
small-product (suc (suc a)) b one other = absurd (omega (arith, one))

abbrev weighed : ℕ → ℕ → ℕ → ℕ
weighed writes reads executes = writes * reads + 2 * reads + 4 * executes

weighed-rights : (w r e : ℕ) → w ≤ 1 → r ≤ 1 → e ≤ 1 → (may_read (rights (weighed w r e)) || may_execute (rights (weighed w r e))) ≡ true
    → AreMappingRights (weighed w r e)
weighed-rights zero zero zero a b c some = let clash : false ≡ true = some in absurd cc
weighed-rights (suc zero) zero zero a b c some = let clash : false ≡ true = some in absurd cc
weighed-rights zero zero (suc zero) a b c some = inr (inr (inl refl))
weighed-rights (suc zero) zero (suc zero) a b c some = inr (inr (inl refl))
weighed-rights zero (suc zero) zero a b c some = inl refl
weighed-rights (suc zero) (suc zero) zero a b c some = inr (inl refl)
weighed-rights zero (suc zero) (suc zero) a b c some = inr (inr (inr (inl refl)))
weighed-rights (suc zero) (suc zero) (suc zero) a b c some = inr (inr (inr (inr refl)))
weighed-rights (suc (suc w)) r e a b c some = absurd (omega (arith, a))
weighed-rights w (suc (suc r)) e a b c some = absurd (omega (arith, b))
weighed-rights w r (suc (suc e)) a b c some = absurd (omega (arith, c))

mapping-rights : (frame : Rights) (word : ℕ) → (may_read (mapping_rights frame word) || may_execute (mapping_rights frame word)) ≡ true
    → AreMappingRights (mapping_rights frame word).0
mapping-rights frame word some =
    let write_bit = and_le_r frame.0 1 in
    let read_bit = and_le_r frame.0 2 in
    weighed-rights (bit_and frame.0 1 * (word % 2)) (bit_and frame.0 2 / 2 * (word / 2 % 2)) (bit_and frame.0 2 / 2 * (word / 4 % 2))
    (small-product (bit_and frame.0 1) (word % 2) write_bit (omega arith))
    (small-product (bit_and frame.0 2 / 2) (word / 2 % 2) (omega (arith, read_bit)) (omega arith))
    (small-product (bit_and frame.0 2 / 2) (word / 4 % 2) (omega (arith, read_bit)) (omega arith)) some

-- ---- roots

record IsTableRoot (s : State) (root : ℕ) : Type 0 where
  there : kind_at s root ≡ Some NewRootTable
  place : IsPlace root 12

root-table : (c : Cap) (root : ℕ) → root_of c ≡ Some root → c ≡ RootTable root
root-table (RootTable n) root is = let e : n ≡ root = cc is in ap RootTable e
root-table Empty root is = let e : None ≡ Some root = is in absurd cc
root-table (Untyped a b d) root is = let e : None ≡ Some root = is in absurd cc
root-table (Endpoint a r b) root is = let e : None ≡ Some root = is in absurd cc
root-table (Notification a r b) root is = let e : None ≡ Some root = is in absurd cc
root-table (CNode a r g) root is = let e : None ≡ Some root = is in absurd cc
root-table (Frame a r m) root is = let e : None ≡ Some root = is in absurd cc
root-table (PageTable a m) root is = let e : None ≡ Some root = is in absurd cc
root-table (Tcb a) root is = let e : None ≡ Some root = is in absurd cc
root-table InterruptControl root is = let e : None ≡ Some root = is in absurd cc
root-table (InterruptHandler a) root is = let e : None ≡ Some root = is in absurd cc

root-known : (s : State) (c : Cap) (name : SlotName) (root : ℕ) → IsSound s → root_named s.slots c name ≡ Ok root → IsTableRoot s root
root-known s c name root sound is =
    let one = passes-both (source_slot s.slots c name) _ root is in
    let held_root = wanted-some (root_of (capability_at s.slots one.value)) InvalidCapability root one.rest in
    let table = root-table (capability_at s.slots one.value) root held_root in
    record {
      there = sound.memory.named one.value NewRootTable root (ap object_named table);
      place = subst IsCapability table (sound.slots.derivation.valid one.value);
    }

-- ---- frames

module _ (s : State) (slot offset : ℕ) (allowed : Rights) (before : Option FrameMapping) (sound : IsSound s) (full : IsFull s.slots slot)
    (is : capability_at s.slots slot ≡ Frame offset allowed before) where
  frame-may : (after : Option FrameMapping) → MayHold s slot (Frame offset allowed after)
  frame-may after =
      let may : MayHold s slot (Frame offset allowed before) = subst (MayHold s slot) is (full-may_hold s sound.slots slot full) in
      record { cspace = may.cspace; vspace = may.vspace; buffer = may.buffer; line = may.line }

  frame-recaps : (after : Option FrameMapping) → IsCapability (Frame offset allowed after) → Recaps s slot (Frame offset allowed after)
  frame-recaps after valid = record {
    full = full;
    valid = valid;
    object = ap object_named (sym is);
    piece = ap piece_of (sym is);
    used = ap used_of (sym is);
    filled = refl;
    may = frame-may after;
  }

  valid-before : IsCapability (Frame offset allowed before)
  valid-before = subst IsCapability is (sound.slots.derivation.valid slot)

  frame-unmapped : IsSound (with_slots s (recapped s.slots slot (Frame offset allowed None)))
  frame-unmapped =
      recapped-sound s slot (Frame offset allowed None) sound (frame-recaps None (valid-before.0, valid-before.1, tt)) (ap table_mapping (sym is))
      (λ m e. let f : None ≡ Some m = e in absurd cc) (λ o n e. let f : Frame offset allowed None ≡ PageTable o n = e in absurd cc)

  frame-mapped : (m : FrameMapping) → IsTableRoot s m.root → m.page < 2 ^ 19 → AreMappingRights m.rights.0
      → is_region_taken s m.root (m.page / region_pages) ≡ true
      → is_page_taken s m.root m.page ≡ false → IsSound (with_slots s (recapped s.slots slot (Frame offset allowed (Some m))))
  frame-mapped m root less held_rights region free =
      framed-sound s slot (Frame offset allowed (Some m)) sound
      (frame-recaps (Some m) (valid-before.0, valid-before.1, (IsTableRoot.place root, less, held_rights))) m refl
      (ap table_mapping (sym is)) (λ o n e. let f : Frame offset allowed (Some m) ≡ PageTable o n = e in absurd cc) (IsTableRoot.there root) region free

-- what is held where the call says
pub record IsAt (s : State) (call : Call) (c : Cap) : Type 0 where
  pub at : capability_at s.slots call.slot ≡ c
  pub full : IsFull s.slots call.slot

pub invoked-at : (s : State) (call : Call) (c : Cap) → IsInvoked s call → call.capability ≡ c → cnode_of c ≡ None → IsAt s call c
invoked-at s call c (held at full) is none = record { at = at ∙ is; full = full }
invoked-at s call c (boot root) is none =
    let e : ◌≡◌ {A = Option Node} None (Some (record { offset = 0; radix = s.boot_radix })) = sym none ∙ ap cnode_of (sym is) ∙ ap cnode_of root in absurd cc

pub frame-sound : (s t : State) (call : Call) (offset : ℕ) (allowed : Rights) (before : Option FrameMapping) (c : FrameCall) → IsSound s
    → IsCall s call
    → call.capability ≡ Frame offset allowed before → on_frame s call allowed c ≡ Ok t → IsSound t
frame-sound s t call offset allowed before UnmapFrame sound is_call is done =
    let at = invoked-at s call (Frame offset allowed before) is_call.invoked is refl in
    let e : unmap_frame s call ≡ t = cc done in
    subst IsSound e (subst (λ (c : Cap). IsSound (with_slots s (recapped s.slots call.slot (unmapped c)))) (sym is)
    (frame-unmapped s call.slot offset allowed before sound (IsAt.full at) (IsAt.at at)))
frame-sound s t call offset allowed before (MapFrame name address word) sound is_call is done =
    let at = invoked-at s call (Frame offset allowed before) is_call.invoked is refl in
    let held_rights = mapping_rights allowed word in
    let one = passes-both (check (not (is_mapped (frame_mapping call.capability))) InvalidCapability) _ t done in
    let two = passes-both (root_named s.slots call.root name) _ t one.rest in
    let root = two.value in
    let three = passes-both (check (nat_lt address address_limit) InvalidArgument) _ t two.rest in
    let four = passes-both (check (address % page_size == 0) AlignmentError) _ t three.rest in
    let five = passes-both (check (is_region_taken s root (address / page_size / region_pages)) FailedLookup) _ t four.rest in
    let six = passes-both (check (not (is_page_taken s root (address / page_size))) DeleteFirst) _ t five.rest in
    let seven = passes-both (check (may_read held_rights || may_execute held_rights) InvalidArgument) _ t six.rest in
    let less = ltb-true address address_limit (check-passes (nat_lt address address_limit) InvalidArgument three.value three.first) in
    let m : FrameMapping = record { root = root; page = address / page_size; rights = held_rights } in
    let e : with_slots s (recapped s.slots call.slot (with_frame_mapping call.capability (Some m))) ≡ t = cc seven.rest in
    subst IsSound e (subst (λ (c : Cap). IsSound (with_slots s (recapped s.slots call.slot (with_frame_mapping c (Some m))))) (sym is)
    (frame-mapped s call.slot offset allowed before sound (IsAt.full at) (IsAt.at at) m (root-known s call.root name root sound two.first) (omega (arith, less))
    (mapping-rights allowed word (check-passes (may_read held_rights || may_execute held_rights) InvalidArgument seven.value seven.first))
    (check-passes (is_region_taken s root (address / page_size / region_pages)) FailedLookup five.value five.first)
    (not-true (is_page_taken s root (address / page_size)) (check-passes (not (is_page_taken s root (address / page_size))) DeleteFirst six.value six.first))))

-- ---- page tables

not-mapped : {A : Type 0} (o : Option A) → not (is_mapped o) ≡ true → o ≡ None
not-mapped None is = refl
not-mapped (Some x) is = let e : false ≡ true = is in absurd cc

table-mapped : (s : State) (slot offset : ℕ) (m : TableMapping) → IsSound s → IsFull s.slots slot
    → capability_at s.slots slot ≡ PageTable offset None → IsTableRoot s m.root → m.region < 2 ^ 9
    → is_region_taken s m.root m.region ≡ false → IsSound (with_slots s (recapped s.slots slot (PageTable offset (Some m))))
table-mapped s slot offset m sound full is root less free =
    let valid : IsCapability (PageTable offset None) = subst IsCapability is (sound.slots.derivation.valid slot) in
    let may : MayHold s slot (PageTable offset None) = subst (MayHold s slot) is (full-may_hold s sound.slots slot full) in
    tabled-sound s slot (PageTable offset (Some m)) sound (record {
      full = full;
      valid = (valid.0, (IsTableRoot.place root, less));
      object = ap object_named (sym is);
      piece = ap piece_of (sym is);
      used = ap used_of (sym is);
      filled = refl;
      may = record { cspace = may.cspace; vspace = may.vspace; buffer = may.buffer; line = may.line };
    }) m offset refl is (IsTableRoot.there root) free

table-unmapped : (s : State) (call : Call) (offset : ℕ) (before : Option TableMapping) → IsSound s → IsAt s call (PageTable offset before)
    → IsSound (option_map_or (λ mapping. with_slots s (without_region (recapped s.slots call.slot (PageTable offset None)) mapping)) before s)
table-unmapped s call offset None sound at = sound
table-unmapped s call offset (Some m) sound at = unmapped-sound s call.slot offset m sound (IsAt.full at) (IsAt.at at)

pub table-sound : (s t : State) (call : Call) (offset : ℕ) (before : Option TableMapping) (c : TableCall) → IsSound s → IsCall s call
    → call.capability ≡ PageTable offset before → on_table s call c ≡ Ok t → IsSound t
table-sound s t call offset before UnmapTable sound is_call is done =
    let at = invoked-at s call (PageTable offset before) is_call.invoked is refl in
    let e : unmap_table s call ≡ t = cc done in
    subst IsSound e (
    subst (λ (c : Cap). IsSound (option_map_or (λ mapping. with_slots s (without_region (recapped s.slots call.slot (unmapped c)) mapping)) (table_mapping c)
    s)) (sym is)
    (table-unmapped s call offset before sound at)
    )
table-sound s t call offset before (MapTable name address) sound is_call is done =
    let one = passes-both (check (not (is_mapped (table_mapping call.capability))) InvalidCapability) _ t done in
    let none : before ≡ None = ap table_mapping (sym is) ∙ not-mapped (table_mapping call.capability)
    (check-passes (not (is_mapped (table_mapping call.capability))) InvalidCapability one.value one.first) in
    let bare : call.capability ≡ PageTable offset None = is ∙ ap (PageTable offset) none in
    let at = invoked-at s call (PageTable offset None) is_call.invoked bare refl in
    let two = passes-both (root_named s.slots call.root name) _ t one.rest in
    let root = two.value in
    let three = passes-both (check (nat_lt address address_limit) InvalidArgument) _ t two.rest in
    let four = passes-both (check (address % region_size == 0) AlignmentError) _ t three.rest in
    let five = passes-both (check (not (is_region_taken s root (address / region_size))) DeleteFirst) _ t four.rest in
    let less = ltb-true address address_limit (check-passes (nat_lt address address_limit) InvalidArgument three.value three.first) in
    let m : TableMapping = record { root = root; region = address / region_size } in
    let e : with_slots s (recapped s.slots call.slot (with_table_mapping call.capability (Some m))) ≡ t = cc five.rest in
    subst IsSound e (subst (λ (c : Cap). IsSound (with_slots s (recapped s.slots call.slot (with_table_mapping c (Some m))))) (sym bare)
    (table-mapped s call.slot offset m sound (IsAt.full at) (IsAt.at at) (root-known s call.root name root sound two.first) (omega (arith, less))
    (not-true (is_region_taken s root (address / region_size))
    (check-passes (not (is_region_taken s root (address / region_size))) DeleteFirst five.value five.first))))
