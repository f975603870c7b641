-- What a thread's slots hold: nothing leads outside, and a slot with another capability is a change of the noted ones.
use Rattle.std.proofs.Common.{ℕ, ◌≡◌, ◌∙◌, ◌==◌, ◌&&◌, ◌||◌, true, false, not, Bool, Option, Some, None, is_none, is_some, Result, Ok, List, [], ◌∷◌, refl, sym}
use Rattle.std.proofs.Common.{ap, subst}
use Rattle.std.specs.List.{list_any}
use Rattle.std.specs.Option.{option_map_or}
use Rattle.std.proofs.lemmas.Bool.{eqb-true}
use Rattle.model.specs.declared.capabilities.Cap.{Cap}
use Rattle.model.specs.declared.capabilities.Cap.TheVariants.{Empty, RootTable}
use Rattle.model.specs.declared.errors.KError.{KError}
use Rattle.model.specs.declared.errors.KError.TheVariants.{FailedLookup, InvalidCapability}
use Rattle.model.specs.declared.invocations.SlotName.{SlotName}
use Rattle.model.specs.declared.slot_entries.Entry.{Entry}
use Rattle.model.specs.Acceptance.NotedKernel.{boot_parent, key_of, noted_after, noted_kernel, noted_slots, slot_of_key}
use Rattle.model.specs.Acceptance.NotedStates.{NotedSlot, SlotKey, is_foreign, is_same_key, slot_at, with_noted}
use Rattle.model.specs.Acceptance.ThreadRules.{reached}
use Rattle.model.specs.Capabilities.Slots.{Slots, capability_at, is_empty, is_full, parent_at, recapped, with_entry}
use Rattle.model.specs.Images.Described.{described}
use Rattle.model.specs.Images.Image.{Image, Thread}
use Rattle.model.specs.Images.Places.{offset_of}
use Rattle.model.specs.Capabilities.CapabilityKinds.{root_of}
use Rattle.model.specs.Kernel.Arguments.{◌>>=◌, argument_slot, check, wanted}
use Rattle.model.specs.Kernel.MappingCalls.{root_named}
use Rattle.model.specs.Kernel.State.{holds_some, slots_of}
use Rattle.removal_laws.proofs.Laws.{found, found-or, found-same}
use Rattle.typestate.specs.Mappings.{is_outside}
use Rattle.typestate.specs.Spaces.{AreOwn, NothingLeadsOutside, StandsApart}
use Rattle.typestate.proofs.KernelDepths.{parent-here, parent_found}
use Rattle.typestate.proofs.NamedKeys.{own-named}
use Rattle.typestate.proofs.Puts.{put-back}
use Rattle.typestate.proofs.RemovedNoted.{found-noted}
use Rattle.typestate.proofs.Rising.{RiseFrom}
use Rattle.typestate.proofs.SlotMaps.{found-passes, held_at, noted-holds}
use Rattle.typestate.proofs.Standing.{IsOwnSlot, found-own, noted-there}

-- what a slot holds is none that the thread may not have
pub held-near : (image : Image) (t : Thread) (slots : List NotedSlot) (key : SlotKey) → NothingLeadsOutside image t slots →
    is_foreign image t (reached image t) (held_at slots key) ≡ false
held-near image t slots key none =
    elim (slot_at slots key) as (λ o. slot_at slots key ≡ o → is_foreign image t (reached image t) (option_map_or (λ r. r.capability) o Empty) ≡ false) [
      | None ↦ λ _. refl
      | Some r ↦ λ at. found-passes (λ (x : NotedSlot). is_foreign image t (reached image t) x.capability) (λ (x : NotedSlot). is_same_key x.key key) slots r
          none at
    ] refl

pub root-near : (image : Image) (t : Thread) (cnodes : List ℕ) (offset : ℕ) → is_foreign image t cnodes (RootTable offset) ≡ false →
    offset ≡ offset_of image t.header.root
root-near image t cnodes offset near = eqb-true offset (offset_of image t.header.root) (not-false (offset == offset_of image t.header.root) near)
  where
    not-false : (b : Bool) → not b ≡ false → b ≡ true
    not-false true same = refl
    not-false false clash = absurd (let nope : true ≡ false = clash in cc)

-- a root table that a slot of this name holds
pub root-found : (image : Image) (t : Thread) (slots : List NotedSlot) (root : Cap) (name : SlotName) (slot offset : ℕ) (key : SlotKey) (held : Cap) →
    NothingLeadsOutside image t slots
    → argument_slot (noted_slots image t slots) root name ≡ Ok slot → key_of image (reached image t) slot ≡ Some key →
    capability_at (noted_slots image t slots) slot ≡ held → held ≡ RootTable offset
    → (root_named (noted_slots image t slots) root name ≡ Ok offset) × (offset ≡ offset_of image t.header.root)
root-found image t slots root name slot offset key held none found keyed holds is =
    let all = noted_slots image t slots in
    let here : capability_at all slot ≡ RootTable offset = holds ∙ is in
    let there : held_at slots key ≡ RootTable offset = sym (noted-holds image t slots slot key keyed) ∙ here in
    let give : Cap → Result ℕ KError = λ c. wanted (root_of c) InvalidCapability in (
      ap (λ (r : Result ℕ KError). (r >>= λ slot. check (is_full all slot) FailedLookup >>= λ _. Ok slot) >>= λ slot. give (capability_at all slot)) found
          ∙ ap (λ (c : Cap). (check (not (is_empty c)) FailedLookup >>= λ _. Ok slot) >>= λ slot. give (capability_at all slot)) here ∙ ap give here,
      root-near image t (reached image t) offset (subst (λ (c : Cap). is_foreign image t (reached image t) c ≡ false) there (held-near image t slots key none)),
    )

-- no page table is among the thread's slots
pub none-among : (f g : NotedSlot → Bool) → ((s : NotedSlot) → f s ≡ false → g s ≡ false) → (slots : List NotedSlot) → list_any f slots ≡ false →
    list_any g slots ≡ false
none-among f g each [] none = refl
none-among f g each (s ∷ rest) none =
    ap (λ b. b || list_any g rest) (each s (or-first (f s) (list_any f rest) none)) ∙ none-among f g each rest (or-rest (f s) (list_any f rest) none)
  where
    or-first : (a b : Bool) → (a || b) ≡ false → a ≡ false
    or-first true b clash = clash
    or-first false b none = refl

    or-rest : (a b : Bool) → (a || b) ≡ false → b ≡ false
    or-rest true b clash = absurd (let no : true ≡ false = clash in cc)
    or-rest false b none = none

pub or-turned : (a b : Bool) → (a || b) ≡ (b || a)
or-turned true true = refl
or-turned true false = refl
or-turned false true = refl
or-turned false false = refl

module _ (image : Image) (t : Thread) (stand : StandsApart image t) (slots : List NotedSlot) (are : AreOwn image t slots) where
  abbrev cnodes : List ℕ
  cnodes = reached image t

  abbrev all : Slots
  all = noted_slots image t slots

  -- ---- another capability in a slot

  pub recap-back : (held : NotedSlot) (c : Cap) → RiseFrom 0 slots → slot_at slots held.key ≡ Some held →
      boot_parent image t c ≡ boot_parent image t held.capability → is_empty c ≡ false
      → noted_after image t (recapped all (slot_of_key image held.key) c) ≡ with_noted slots (record { key = held.key; capability = c; parent = held.parent })
  recap-back held c rises is boot full =
      let own = found-own image t slots held.key held are is in
      let s : NotedSlot = record { key = held.key; capability = c; parent = held.parent } in
      let mine : IsOwnSlot image t s = record { key = own.key; full = full; parent = own.parent } in
      let above : parent_at all (slot_of_key image held.key) ≡ Some (option_map_or (slot_of_key image) held.parent (boot_parent image t c)) =
      parent-here image t stand slots are held.key own.key ∙ ap (parent_found image t stand slots are) is
      ∙ ap (λ b. Some (option_map_or (slot_of_key image) held.parent b)) (sym boot) in
      ap (λ p. noted_after image t (with_entry all (slot_of_key image held.key) (Some (let e : Entry = record { capability = c; parent = p } in e)))) above
      ∙ put-back image t stand slots s rises are mine

  -- ---- tests of all slots

  cap-there : (slot : ℕ) → key_of image cnodes slot ≡ None → capability_at all slot ≡ capability_at (described image).slots slot
  cap-there slot nowhere = ap (λ (o : Option Entry). option_map_or (λ h. h.capability) o Empty) (noted-there image t stand slots slot nowhere)

  -- a test passes among the thread's slots or outside
  pub some-taken : (test : Cap → Bool) → RiseFrom 0 slots → test Empty ≡ false
      → holds_some (noted_kernel image t slots) test
      ≡ (list_any (λ s. test s.capability) slots || list_any (λ slot. is_outside image t slot && test (capability_at (described image).slots slot))
      (slots_of (described image)))
  unfolding noted_kernel described
  some-taken test rises none =
      let bits = image.header.memory_bits in
      let own : ℕ → Bool = λ slot. is_some (key_of image cnodes slot) && test (capability_at all slot) in
      let other : ℕ → Bool = λ slot. is_outside image t slot && test (capability_at (described image).slots slot) in
      found-same bits (λ slot. test (capability_at all slot)) (λ slot. own slot || other slot) (either test)
      ∙ found-or bits own other
      ∙ ap (λ b. b || found bits other) (found-noted image t stand slots are (λ _. false) (λ _. false) (λ _ _. refl) rises own (λ s. test s.capability)
      (λ slot out. ap (λ (k : Option SlotKey). is_some k && test (capability_at all slot)) out)
      (λ key mine empty.
      let keyed = own-named image t stand key mine in
      ap (λ (k : Option SlotKey). is_some k && test (capability_at all (slot_of_key image key))) keyed
      ∙ ap test (noted-holds image t slots (slot_of_key image key) key keyed ∙ ap (λ (o : Option NotedSlot). option_map_or (λ r. r.capability) o Empty) empty)
      ∙ none)
      (λ key r mine at.
      let keyed = own-named image t stand key mine in
      ap (λ (k : Option SlotKey). is_some k && test (capability_at all (slot_of_key image key))) keyed
      ∙ ap test (noted-holds image t slots (slot_of_key image key) key keyed ∙ ap (λ (o : Option NotedSlot). option_map_or (λ r. r.capability) o Empty) at)))
    where
      or-none : (a : Bool) → a ≡ (a || false)
      or-none true = refl
      or-none false = refl

      either : (test : Cap → Bool) (slot : ℕ) → test (capability_at all slot)
          ≡ (is_some (key_of image cnodes slot) && test (capability_at all slot)
          || (is_outside image t slot && test (capability_at (described image).slots slot)))
      either test slot = elim (key_of image cnodes slot) as (λ o. key_of image cnodes slot ≡ o →
          test (capability_at all slot) ≡ (is_some o && test (capability_at all slot) || (is_none o && test (capability_at (described image).slots slot)))) [
            | None ↦ λ out. ap test (cap-there slot out)
            | Some key ↦ λ _. or-none (test (capability_at all slot))
          ] refl
