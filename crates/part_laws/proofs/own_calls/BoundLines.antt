-- A handler's calls that would change the binding of a line change nothing, where all threads stand before and after: that slot is as described.
use Rattle.std.proofs.Common.{ℕ, ◌≡◌, ◌∙◌, ◌-◌, ◌==◌, ◌<◌, ◌&&◌, ◌||◌, Bool, true, false, not, if◌then◌else◌, List, [], ◌∷◌, Option, Some, None}
use Rattle.std.proofs.Common.{option_map, Result}
use Rattle.std.proofs.Common.{Ok, Err, refl, sym, ap}
use Rattle.std.specs.Prelude.{fold}
use Rattle.std.specs.Option.{option_map_or}
use Rattle.std.specs.List.{list_any, range_with_len}
use Rattle.std.proofs.lemmas.Bool.{eq-eqb, false≢true}
use Rattle.model.specs.declared.capabilities.Cap.{Cap}
use Rattle.model.specs.declared.capabilities.Cap.TheVariants.{Empty}
use Rattle.model.specs.declared.errors.KError.{KError}
use Rattle.model.specs.declared.errors.KError.TheVariants.{InvalidCapability, RevokeFirst}
use Rattle.model.specs.declared.invocations.SlotName.{SlotName}
use Rattle.model.specs.declared.slot_entries.Entry.{Entry}
use Rattle.model.specs.Acceptance.Authority.{IsOwnSlot}
use Rattle.model.specs.Acceptance.NotedKernel.{stands_in}
use Rattle.model.specs.Acceptance.NotedStates.{SlotKey}
use Rattle.model.specs.Acceptance.ThreadRules.{reached}
use Rattle.model.specs.Capabilities.CapabilityKinds.{is_handler_of}
use Rattle.model.specs.Capabilities.Slots.{capability_at, empty_entry, inserted, is_empty, is_full, parent_at}
use Rattle.model.specs.Images.Described.{described}
use Rattle.model.specs.Images.Image.{Image, Thread}
use Rattle.model.specs.Images.Places.{cnode_slot}
use Rattle.model.specs.Kernel.Arguments.{Call, check, may_have_child, source_slot}
use Rattle.model.specs.Kernel.InterruptCalls.{bind, may_be_bound}
use Rattle.model.specs.Kernel.Removal.{SlotSet, closes, closing, delete, emptied, kept_entry, remove, takes_last, threads_set_back, wants_revoke_first}
use Rattle.model.specs.Kernel.Removal.{with_bindings}
use Rattle.model.specs.Kernel.Removal.{without_slots}
use Rattle.model.specs.Kernel.Scheduling.{wake}
use Rattle.model.specs.Kernel.State.{State, binding_slot, boot_area_slots, with_slots}
use Rattle.soundness.proofs.Laws.{passes-both}
use Rattle.typestate.specs.Spaces.{StandsApart}
use Rattle.part_laws.proofs.outside.Blocks.{found-some}
use Rattle.part_laws.proofs.own_calls.SameLookups.{ok-of}

-- ---- deletion of a slot that stays

fold-slots : (threads : List ℕ) (s : State) → (fold wake s threads).slots ≡ s.slots
fold-slots [] s = refl
fold-slots (x ∷ rest) s = fold-slots rest (wake s x)

first-or : (p q : Bool) → p ≡ true → (p || q) ≡ true
first-or true q is = refl
first-or false q is = absurd (false≢true is)

module _ (a : State) (b : ℕ) where
  abbrev alone_set : SlotSet
  alone_set other = other == b

  abbrev all : SlotSet
  all = with_bindings a alone_set

  within : all b ≡ true
  within =
      first-or (alone_set b) (list_any (λ line. b == binding_slot a line && takes_last a alone_set (is_handler_of line)) (range_with_len 0 64))
      (eq-eqb b b refl)

  left-empty : capability_at (without_slots a all).slots b ≡ Empty
  left-empty =
      ap (λ (m : ℕ → Option Entry). capability_at m b) (fold-slots (threads_set_back a all) (closing (emptied a all) (closes a all)))
      ∙ by (closes a all b)
    where
      by : (c : Bool) → option_map_or (λ (e : Entry). e.capability)
          (if c then None else if all b then Some empty_entry else option_map (kept_entry a all b) (a.slots b)) Empty ≡ Empty
      by true = refl
      by false =
          ap (λ (x : Bool). option_map_or (λ (e : Entry). e.capability)
          (if x then Some empty_entry else option_map (kept_entry a all b) (a.slots b)) Empty) within

  removed-empty : (after : State) → remove a alone_set ≡ Ok after → capability_at after.slots b ≡ Empty
  unfolding remove
  removed-empty after is = by (wants_revoke_first a all) is
    where
      by : (w : Bool) → (if w then Err RevokeFirst else Ok (without_slots a all)) ≡ Ok after → capability_at after.slots b ≡ Empty
      by true clash = absurd (let e : ◌≡◌ {A = Result State KError} (Err RevokeFirst) (Ok after) = clash in cc)
      by false here = ap (λ (x : State). capability_at x.slots b) (sym (ok-of (without_slots a all) after here)) ∙ left-empty

  -- a slot that stays is empty, and nothing changes
  pub deleted-same : (after : State) → delete a b ≡ Ok after → after.slots b ≡ a.slots b → a ≡ after
  deleted-same after is stays = by (is_full a.slots b) refl is
    where
      by : (full : Bool) → is_full a.slots b ≡ full → (if full then remove a alone_set else Ok a) ≡ Ok after → a ≡ after
      by false none here = ok-of a after here
      by true full here =
          let empty : capability_at a.slots b ≡ Empty =
          ap (λ (o : Option Entry). option_map_or (λ (e : Entry). e.capability) o Empty) (sym stays) ∙ removed-empty after here in
          absurd (false≢true (sym (ap (λ (c : Cap). not (is_empty c)) empty) ∙ full))

-- ---- a binding to what a slot of the thread's own holds

module _ (image : Image) (w : Thread) (stand : StandsApart image w) (s after : State) (b : ℕ) (below : b < boot_area_slots image.header.boot_radix)
    (stays : after.slots b ≡ (described image).slots b) where
  no-parent : (source : ℕ) → IsOwnSlot image w source → (c : Cap) → after.slots b ≡ Some (record { capability = c; parent = Some source }) → ⊥
  no-parent source own c is =
      let up : parent_at (described image).slots b ≡ Some source = ap (λ (o : Option Entry). option_map_or (λ (e : Entry). e.parent) o None) (sym stays ∙ is) in
      found-some (λ (cnode : ℕ). let key : SlotKey = record { cnode = cnode; index = source - cnode_slot image cnode 0 } in key) (stands_in image source)
      (reached image w) (stand.outside b source (stand.behind b below) up) own

  pub never-bound : (call : Call) (number : ℕ) (name : SlotName) → b ≡ binding_slot s number
      → ((slot : ℕ) → source_slot s.slots call.root name ≡ Ok slot → IsOwnSlot image w slot) → bind s call number name ≡ Ok after → ⊥
  never-bound call number name at mine is =
      let f = passes-both (source_slot s.slots call.root name) _ after is in
      let c = passes-both (check (may_be_bound (capability_at s.slots f.value)) InvalidCapability) _ after f.rest in
      let h = passes-both (may_have_child s.slots f.value) _ after c.rest in
      let d = passes-both (delete s (binding_slot s number)) _ after h.rest in
      let held = capability_at s.slots f.value in
      let end = ok-of (with_slots d.value (inserted (d.value).slots (binding_slot s number) held (Some f.value))) after d.rest in
      no-parent f.value (mine f.value f.first) held
      (ap (λ (x : State). x.slots b) (sym end)
      ∙ ap (λ (x : Bool). if x then Some (record { capability = held; parent = Some f.value }) else (d.value).slots b) (eq-eqb b (binding_slot s number) at))
