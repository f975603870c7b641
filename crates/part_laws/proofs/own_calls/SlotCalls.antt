-- Invocations of a thread of the part that change slots alone, or make new objects, in the whole and alone.
use Rattle.std.proofs.Common.{ℕ, ◌≡◌, ◌∙◌, ◌==◌, ◌/◌, ◌%◌, ◌||◌, not, nat_lt, if◌then◌else◌, Option, Some, None, Result, Ok}
use Rattle.std.proofs.Common.{refl, sym, ap, subst}
use Rattle.std.specs.Option.{option_map_or}
use Rattle.std.specs.Prelude.{option_map}
use Rattle.model.specs.declared.capabilities.Cap.{Cap}
use Rattle.model.specs.declared.capabilities.Cap.TheVariants.{Empty}
use Rattle.model.specs.declared.errors.KError.{KError}
use Rattle.model.specs.declared.errors.KError.TheVariants.{AlignmentError, DeleteFirst, FailedLookup, IllegalOperation, InvalidArgument, InvalidCapability}
use Rattle.model.specs.declared.errors.KError.TheVariants.{RangeError}
use Rattle.model.specs.declared.invocations.SlotName.{SlotName}
use Rattle.model.specs.declared.rights.Rights.{Rights}
use Rattle.model.specs.declared.slot_entries.Entry.{Entry}
use Rattle.model.specs.Acceptance.Authority.{IsOwnSlot}
use Rattle.model.specs.Capabilities.CapabilityKinds.{badge_fits, carries_messages, copied, frame_mapping, guard_fits, is_badged, may_be_copied, root_of}
use Rattle.model.specs.Capabilities.CapabilityKinds.{with_frame_mapping, with_payload}
use Rattle.model.specs.Capabilities.Rights.{mapping_rights, may_execute, may_read}
use Rattle.model.specs.Capabilities.Slots.{Slots, adopted, capability_at, empty_entry, inserted, parent_at, recapped, relocated}
use Rattle.model.specs.Images.Described.{Numbered}
use Rattle.model.specs.Images.Image.{Image}
use Rattle.model.specs.Kernel.AddressSpaces.{address_limit, is_page_taken, is_region_taken, page_size, region_pages}
use Rattle.model.specs.Kernel.Arguments.{Call, check, destination_slot, may_have_child, source_slot, wanted}
use Rattle.model.specs.Kernel.CNodeCalls.{copy, mint, move as moved, mutate}
use Rattle.model.specs.Kernel.MappingCalls.{is_mapped, map_frame, root_named, unmap_frame}
use Rattle.model.specs.Kernel.State.{State, with_slots}
use Rattle.soundness.proofs.Laws.{passes-both}
use Rattle.headline.specs.parts.Agreeing.{IsMemberOf, IsSlotOfPart, is_own_slot}
use Rattle.headline.specs.parts.Parts.{Part}
use Rattle.part_laws.specs.Agreeing.{AgreeFor}
use Rattle.part_laws.proofs.own_calls.SameLookups.{FindsSame, ok-of, destination-argument, one-destination, one-source, source-own}

-- ---- slots, one by one

module _ (a b : Slots) (y : ℕ) (here : a y ≡ b y) where
  inserted-same : (d e : ℕ) (c k : Cap) (p q : Option ℕ) → d ≡ e → c ≡ k → p ≡ q → inserted a d c p y ≡ inserted b e k q y
  inserted-same d e c k p q slot held parent =
      λ i. if y == slot i then Some (record { capability = held i; parent = parent i }) else here i

  relocated-same : (from from_too to to_too : ℕ) → from ≡ from_too → to ≡ to_too → a from ≡ b from → relocated a from to y ≡ relocated b from_too to_too y
  relocated-same from from_too to to_too one other source =
      let held : a from ≡ b from_too = source ∙ ap b one in
      λ i. if y == one i then Some empty_entry else if y == other i then held i else option_map (adopted (one i) (Some (other i))) (here i)

  pub recapped-same : (slot : ℕ) (c k : Cap) → c ≡ k → parent_at a slot ≡ parent_at b slot → recapped a slot c y ≡ recapped b slot k y
  recapped-same slot c k held parent =
      λ i. if y == slot then Some (record { capability = held i; parent = parent i }) else here i

module _ (image : Image) (part : Part) (s t : State) (u : Numbered) (member : IsMemberOf image part u) (agree : AgreeFor image part s t) where
  abbrev Agree : State → State → Type 0
  Agree a b = AgreeFor image part a b

  abbrev Own : ℕ → Type 0
  Own slot = IsOwnSlot image u.thread slot

  same-entry : (slot : ℕ) → Own slot → s.slots slot ≡ t.slots slot
  same-entry slot own = agree.slots slot (is_own_slot u member own)

  pub same-held : (slot : ℕ) → Own slot → capability_at s.slots slot ≡ capability_at t.slots slot
  same-held slot own = ap (λ (o : Option Entry). option_map_or (λ (e : Entry). e.capability) o Empty) (same-entry slot own)

  pub same-parent : (slot : ℕ) → Own slot → parent_at s.slots slot ≡ parent_at t.slots slot
  same-parent slot own = ap (λ (o : Option Entry). option_map_or (λ (e : Entry). e.parent) o None) (same-entry slot own)

  -- other slots, with the same of the part
  pub slots-agree : (a b : Slots) → ((slot : ℕ) → IsSlotOfPart image part slot → a slot ≡ b slot) → Agree (with_slots s a) (with_slots t b)
  slots-agree a b same = record {
    objects = λ offset of. agree.objects offset of;
    bytes = λ place of. agree.bytes place of;
    slots = λ slot of. same slot of;
    masked = λ line of. agree.masked line of;
    pending = λ line of. agree.pending line of;
    ready = λ priority. agree.ready priority;
  }

  -- the states that the calls answer
  pub answer : (x y after other : State) → ◌≡◌ {A = Result State KError} (Ok x) (Ok after) → ◌≡◌ {A = Result State KError} (Ok y) (Ok other) → Agree x y
      → Agree after other
  answer x y after other here there same =
      subst (λ (a : State). Agree a other) (ok-of x after here) (subst (λ (b : State). Agree x b) (ok-of y other there) same)

  module _ (call : Call) (roots : FindsSame image u.thread s.slots t.slots call.root) where
    module _ (nodes : FindsSame image u.thread s.slots t.slots call.capability) (dn sn : SlotName) (after other : State) where
      pub copy-agrees : (word : ℕ) → copy s call dn sn word ≡ Ok after → copy t call dn sn word ≡ Ok other → Agree after other
      copy-agrees word is too =
          let d = passes-both (destination_slot s.slots call.capability dn) _ after is in
          let f = passes-both (source_slot s.slots call.root sn) _ after d.rest in
          let c = passes-both (check (may_be_copied (capability_at s.slots f.value)) IllegalOperation) _ after f.rest in
          let h = passes-both (may_have_child s.slots f.value) _ after c.rest in
          let e = passes-both (destination_slot t.slots call.capability dn) _ other too in
          let g = passes-both (source_slot t.slots call.root sn) _ other e.rest in
          let k = passes-both (check (may_be_copied (capability_at t.slots g.value)) IllegalOperation) _ other g.rest in
          let j = passes-both (may_have_child t.slots g.value) _ other k.rest in
          let own = source-own image u.thread s.slots t.slots call.root roots sn f.value g.value f.first in
          let to = one-destination image u.thread s.slots t.slots call.capability nodes dn d.value e.value d.first e.first in
          let from = one-source image u.thread s.slots t.slots call.root roots sn f.value g.value f.first g.first in
          let held = same-held f.value own ∙ ap (capability_at t.slots) from in
          answer _ _ after other h.rest j.rest
          (slots-agree _ _ (λ y of. inserted-same s.slots t.slots y (agree.slots y of) d.value e.value _ _ _ _ to
          (ap (λ (x : Cap). copied x word) held) (ap (λ (n : ℕ). Some n) from)))

      pub mint-agrees : (word payload : ℕ) → mint s call dn sn word payload ≡ Ok after → mint t call dn sn word payload ≡ Ok other → Agree after other
      mint-agrees word payload is too =
          let d = passes-both (destination_slot s.slots call.capability dn) _ after is in
          let f = passes-both (source_slot s.slots call.root sn) _ after d.rest in
          let c = passes-both (check (may_be_copied (capability_at s.slots f.value)) IllegalOperation) _ after f.rest in
          let c2 = passes-both (check (not (is_badged (capability_at s.slots f.value))) IllegalOperation) _ after c.rest in
          let c3 = passes-both (check (badge_fits (capability_at s.slots f.value) payload) RangeError) _ after c2.rest in
          let c4 = passes-both (check (guard_fits (capability_at s.slots f.value) payload) IllegalOperation) _ after c3.rest in
          let h = passes-both (may_have_child s.slots f.value) _ after c4.rest in
          let e = passes-both (destination_slot t.slots call.capability dn) _ other too in
          let g = passes-both (source_slot t.slots call.root sn) _ other e.rest in
          let k = passes-both (check (may_be_copied (capability_at t.slots g.value)) IllegalOperation) _ other g.rest in
          let k2 = passes-both (check (not (is_badged (capability_at t.slots g.value))) IllegalOperation) _ other k.rest in
          let k3 = passes-both (check (badge_fits (capability_at t.slots g.value) payload) RangeError) _ other k2.rest in
          let k4 = passes-both (check (guard_fits (capability_at t.slots g.value) payload) IllegalOperation) _ other k3.rest in
          let j = passes-both (may_have_child t.slots g.value) _ other k4.rest in
          let own = source-own image u.thread s.slots t.slots call.root roots sn f.value g.value f.first in
          let to = one-destination image u.thread s.slots t.slots call.capability nodes dn d.value e.value d.first e.first in
          let from = one-source image u.thread s.slots t.slots call.root roots sn f.value g.value f.first g.first in
          let held = same-held f.value own ∙ ap (capability_at t.slots) from in
          answer _ _ after other h.rest j.rest
          (slots-agree _ _ (λ y of. inserted-same s.slots t.slots y (agree.slots y of) d.value e.value _ _ _ _ to
          (ap (λ (x : Cap). with_payload (copied x word) payload) held) (ap (λ (n : ℕ). Some n) from)))

      pub move-agrees : moved s call dn sn ≡ Ok after → moved t call dn sn ≡ Ok other → Agree after other
      move-agrees is too =
          let d = passes-both (destination_slot s.slots call.capability dn) _ after is in
          let f = passes-both (source_slot s.slots call.root sn) _ after d.rest in
          let e = passes-both (destination_slot t.slots call.capability dn) _ other too in
          let g = passes-both (source_slot t.slots call.root sn) _ other e.rest in
          let own = source-own image u.thread s.slots t.slots call.root roots sn f.value g.value f.first in
          let to = one-destination image u.thread s.slots t.slots call.capability nodes dn d.value e.value d.first e.first in
          let from = one-source image u.thread s.slots t.slots call.root roots sn f.value g.value f.first g.first in
          answer _ _ after other f.rest g.rest
          (slots-agree _ _ (λ y of. relocated-same s.slots t.slots y (agree.slots y of) f.value g.value d.value e.value from to (same-entry f.value own)))

      pub mutate-agrees : (payload : ℕ) → mutate s call dn sn payload ≡ Ok after → mutate t call dn sn payload ≡ Ok other → Agree after other
      mutate-agrees payload is too =
          let d = passes-both (destination_slot s.slots call.capability dn) _ after is in
          let f = passes-both (source_slot s.slots call.root sn) _ after d.rest in
          let c = passes-both (check (not (carries_messages (capability_at s.slots f.value))) IllegalOperation) _ after f.rest in
          let c2 = passes-both (check (guard_fits (capability_at s.slots f.value) payload) IllegalOperation) _ after c.rest in
          let e = passes-both (destination_slot t.slots call.capability dn) _ other too in
          let g = passes-both (source_slot t.slots call.root sn) _ other e.rest in
          let k = passes-both (check (not (carries_messages (capability_at t.slots g.value))) IllegalOperation) _ other g.rest in
          let k2 = passes-both (check (guard_fits (capability_at t.slots g.value) payload) IllegalOperation) _ other k.rest in
          let own = source-own image u.thread s.slots t.slots call.root roots sn f.value g.value f.first in
          let to = one-destination image u.thread s.slots t.slots call.capability nodes dn d.value e.value d.first e.first in
          let from = one-source image u.thread s.slots t.slots call.root roots sn f.value g.value f.first g.first in
          let held = same-held f.value own ∙ ap (capability_at t.slots) from in
          let mine = nodes.own dn d.value (destination-argument s.slots call.capability dn d.value d.first) in
          let at = λ (y : ℕ) (here : s.slots y ≡ t.slots y).
          relocated-same s.slots t.slots y here f.value g.value d.value e.value from to (same-entry f.value own) in
          let above : parent_at (relocated s.slots f.value d.value) d.value ≡ parent_at (relocated t.slots g.value e.value) e.value =
          ap (λ (o : Option Entry). option_map_or (λ (x : Entry). x.parent) o None) (at d.value (same-entry d.value mine))
          ∙ ap (parent_at (relocated t.slots g.value e.value)) to in
          answer _ _ after other c2.rest k2.rest
          (slots-agree _ _ (λ y of.
          let here = at y (agree.slots y of) in
          (λ i. if y == to i then Some (record { capability = with_payload (held i) payload; parent = above i }) else here i)))

    -- ---- calls on what the slot holds

    module _ (own : Own call.slot) (after other : State) where
      again : (c k : Cap) → c ≡ k → Agree (with_slots s (recapped s.slots call.slot c)) (with_slots t (recapped t.slots call.slot k))
      again c k same =
          slots-agree _ _ (λ y of. recapped-same s.slots t.slots y (agree.slots y of) call.slot c k same (same-parent call.slot own))

      root-same : (name : SlotName) (p q : ℕ) → root_named s.slots call.root name ≡ Ok p → root_named t.slots call.root name ≡ Ok q → p ≡ q
      root-same name p q here there =
          let f = passes-both (source_slot s.slots call.root name) _ p here in
          let g = passes-both (source_slot t.slots call.root name) _ q there in
          let mine = source-own image u.thread s.slots t.slots call.root roots name f.value g.value f.first in
          let from = one-source image u.thread s.slots t.slots call.root roots name f.value g.value f.first g.first in
          let held = same-held f.value mine ∙ ap (capability_at t.slots) from in
          ok-of p q (sym f.rest ∙ ap (λ (c : Cap). wanted (root_of c) InvalidCapability) held ∙ g.rest)

      pub map-agrees : (held : Rights) (name : SlotName) (address word : ℕ) → map_frame s call held name address word ≡ Ok after
          → map_frame t call held name address word ≡ Ok other → Agree after other
      map-agrees held name address word is too =
          let a = passes-both (check (not (is_mapped (frame_mapping call.capability))) InvalidCapability) _ after is in
          let r = passes-both (root_named s.slots call.root name) _ after a.rest in
          let c = passes-both (check (nat_lt address address_limit) InvalidArgument) _ after r.rest in
          let d = passes-both (check (address % page_size == 0) AlignmentError) _ after c.rest in
          let e = passes-both (check (is_region_taken s r.value (address / page_size / region_pages)) FailedLookup) _ after d.rest in
          let f = passes-both (check (not (is_page_taken s r.value (address / page_size))) DeleteFirst) _ after e.rest in
          let g = passes-both (check (may_read (mapping_rights held word) || may_execute (mapping_rights held word)) InvalidArgument) _ after f.rest in
          let b = passes-both (check (not (is_mapped (frame_mapping call.capability))) InvalidCapability) _ other too in
          let q = passes-both (root_named t.slots call.root name) _ other b.rest in
          let h = passes-both (check (nat_lt address address_limit) InvalidArgument) _ other q.rest in
          let j = passes-both (check (address % page_size == 0) AlignmentError) _ other h.rest in
          let k = passes-both (check (is_region_taken t q.value (address / page_size / region_pages)) FailedLookup) _ other j.rest in
          let l = passes-both (check (not (is_page_taken t q.value (address / page_size))) DeleteFirst) _ other k.rest in
          let m = passes-both (check (may_read (mapping_rights held word) || may_execute (mapping_rights held word)) InvalidArgument) _ other l.rest in
          let root = root-same name r.value q.value r.first q.first in
          answer _ _ after other g.rest m.rest
          (again _ _ (λ i. with_frame_mapping call.capability
          (Some (record { root = root i; page = address / page_size; rights = mapping_rights held word }))))

      pub unmap-agrees : Agree (unmap_frame s call) (unmap_frame t call)
      unmap-agrees = again _ _ refl
