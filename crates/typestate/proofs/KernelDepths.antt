-- Lines of parents in the kernel's slots are those of the noted ones, and then of boot slots.
use Rattle.std.proofs.Common.{ℕ, zero, suc, ◌≡◌, ◌∙◌, ◌+◌, Bool, true, false, if◌then◌else◌, Option, Some, None, List, refl, sym, ap, arith}
use Rattle.std.specs.Option.{option_map_or}
use Rattle.model.specs.Acceptance.NotedKernel.{boot_parent, kernel_entry, key_of, noted_slots, slot_of_key}
use Rattle.model.specs.Acceptance.NotedStates.{NotedSlot, SlotKey, is_own, slot_at}
use Rattle.model.specs.Acceptance.ThreadRules.{reached}
use Rattle.model.specs.Capabilities.CapabilityKinds.{is_untyped}
use Rattle.model.specs.Capabilities.Slots.{Slots, depth_within, empty_entry, parent_at}
use Rattle.model.specs.Images.Described.{described}
use Rattle.model.specs.Images.Image.{Image, Thread}
use Rattle.model.specs.declared.capabilities.Cap.{Cap}
use Rattle.model.specs.declared.capabilities.Cap.TheVariants.{Empty, Untyped, Endpoint, Notification, CNode, Frame, PageTable, Tcb, RootTable, InterruptControl}
use Rattle.model.specs.declared.capabilities.Cap.TheVariants.{InterruptHandler}
use Rattle.model.specs.declared.slot_entries.Entry.{Entry}
use Rattle.typestate.specs.SlotChanges.{boot_depth, noted_depth}
use Rattle.typestate.specs.Spaces.{AreOwn, StandsApart}
use Rattle.typestate.proofs.Standing.{IsOwnSlot, found-own, noted-here, noted-there}

module _ (image : Image) (t : Thread) (stand : StandsApart image t) (slots : List NotedSlot) (are : AreOwn image t slots) where
  abbrev cnodes : List ℕ
  cnodes = reached image t

  abbrev all : Slots
  all = noted_slots image t slots

  abbrev parents : ℕ → Option ℕ
  parents = parent_at all

  abbrev entry_parent : Entry → Option ℕ
  entry_parent held = held.parent

  -- the kernel's parent of a slot that was found
  abbrev pub parent_found : Option NotedSlot → Option ℕ
  parent_found found = (option_map_or (kernel_entry image t) found empty_entry).parent

  pub parent-here : (key : SlotKey) → is_own image cnodes key ≡ true → parents (slot_of_key image key) ≡ parent_found (slot_at slots key)
  parent-here key own = ap (λ (o : Option Entry). option_map_or (λ h. h.parent) o None) (noted-here image t stand slots key own)

  pub parent-there : (slot : ℕ) → key_of image cnodes slot ≡ None → parents slot ≡ parent_at (described image).slots slot
  parent-there slot none = ap (λ (o : Option Entry). option_map_or (λ h. h.parent) o None) (noted-there image t stand slots slot none)

  pub boot-there : (capability : Cap) → key_of image cnodes (boot_parent image t capability) ≡ None
  boot-there capability = stand.behind (boot_parent image t capability) (omega (arith, stand.parent_boot capability))

  -- what stands outside has its parents outside
  pub stays-there : (slot parent : ℕ) → key_of image cnodes slot ≡ None → parents slot ≡ Some parent → key_of image cnodes parent ≡ None
  stays-there slot parent none is = stand.outside slot parent none (sym (parent-there slot none) ∙ is)

  -- ---- depths

  depth-none : (n slot : ℕ) → parents slot ≡ None → depth_within n parents slot ≡ 0
  unfolding depth_within
  depth-none zero slot none = refl
  depth-none (suc n) slot none = ap (λ o. option_map_or (λ parent. depth_within n parents parent + 1) o 0) none

  depth-some : (n slot parent : ℕ) → parents slot ≡ Some parent → depth_within (suc n) parents slot ≡ depth_within n parents parent + 1
  unfolding depth_within
  depth-some n slot parent is = ap (λ o. option_map_or (λ parent. depth_within n parents parent + 1) o 0) is

  depth-zero : (slot : ℕ) → depth_within 0 parents slot ≡ 0
  unfolding depth_within
  depth-zero slot = refl

  pool-depth : (n : ℕ) (offset bits watermark : ℕ) → depth_within n parents (boot_parent image t (Untyped offset bits watermark)) ≡ 0
  pool-depth n offset bits watermark =
      let boot = boot_parent image t (Untyped offset bits watermark) in
      depth-none n boot (parent-there boot (boot-there (Untyped offset bits watermark)) ∙ stand.parent_pool offset bits watermark)

  other-depth : (n : ℕ) (capability : Cap) → is_untyped capability ≡ false → depth_within n parents (boot_parent image t capability) ≡ boot_depth n capability
  other-depth zero capability other = depth-zero (boot_parent image t capability)
  other-depth (suc n) capability other =
      let boot = boot_parent image t capability in
      let above = stand.parent_other capability other in
      let up : parents boot ≡ Some above.0 = parent-there boot (boot-there capability) ∙ above.1 in
      let outside = stays-there boot above.0 (boot-there capability) up in
      depth-some n boot above.0 up ∙ ap (λ d. d + 1) (depth-none n above.0 (parent-there above.0 outside ∙ above.2))
      ∙ ap (λ (b : Bool). if b then 0 else 1) (sym other)

  boot-depth-is : (n : ℕ) (capability : Cap) → depth_within n parents (boot_parent image t capability) ≡ boot_depth n capability
  boot-depth-is zero capability = depth-zero (boot_parent image t capability)
  boot-depth-is (suc n) Empty = other-depth (suc n) Empty refl
  boot-depth-is (suc n) (Untyped offset bits watermark) = pool-depth (suc n) offset bits watermark
  boot-depth-is (suc n) (Endpoint a b c) = other-depth (suc n) (Endpoint a b c) refl
  boot-depth-is (suc n) (Notification a b c) = other-depth (suc n) (Notification a b c) refl
  boot-depth-is (suc n) (CNode a b c) = other-depth (suc n) (CNode a b c) refl
  boot-depth-is (suc n) (Frame a b c) = other-depth (suc n) (Frame a b c) refl
  boot-depth-is (suc n) (PageTable a b) = other-depth (suc n) (PageTable a b) refl
  boot-depth-is (suc n) (Tcb a) = other-depth (suc n) (Tcb a) refl
  boot-depth-is (suc n) (RootTable a) = other-depth (suc n) (RootTable a) refl
  boot-depth-is (suc n) InterruptControl = other-depth (suc n) InterruptControl refl
  boot-depth-is (suc n) (InterruptHandler a) = other-depth (suc n) (InterruptHandler a) refl

  depth-of-found : (n : ℕ) (found : Option NotedSlot) → ((s : NotedSlot) → found ≡ Some s → IsOwnSlot image t s)
      → ((key : SlotKey) → is_own image cnodes key ≡ true → depth_within n parents (slot_of_key image key) ≡ noted_depth n slots key)
      → option_map_or (λ parent. depth_within n parents parent + 1) (parent_found found) 0 ≡ option_map_or
      (λ s. option_map_or (noted_depth n slots) s.parent (boot_depth n s.capability) + 1) found 0
  depth-of-found n None own above = refl
  depth-of-found n (Some s) own above = by-parent s.parent (own s refl).parent
    where
      by-parent : (parent : Option SlotKey) → option_map_or (is_own image cnodes) parent true ≡ true
          → depth_within n parents (option_map_or (slot_of_key image) parent (boot_parent image t s.capability)) + 1 ≡ option_map_or (noted_depth n slots)
          parent (boot_depth n s.capability) + 1
      by-parent None mine = ap (λ d. d + 1) (boot-depth-is n s.capability)
      by-parent (Some p) mine = ap (λ d. d + 1) (above p mine)

  pub depth-is : (n : ℕ) (key : SlotKey) → is_own image cnodes key ≡ true → depth_within n parents (slot_of_key image key) ≡ noted_depth n slots key
  unfolding depth_within noted_depth
  depth-is zero key own = refl
  depth-is (suc n) key own =
      ap (λ o. option_map_or (λ parent. depth_within n parents parent + 1) o 0) (parent-here key own)
      ∙ depth-of-found n (slot_at slots key) (λ s found. found-own image t slots key s are found) (depth-is n)
