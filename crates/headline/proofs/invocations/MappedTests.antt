-- Under a thread's root table a region has a page table if the noted state says so, and a page is free if it is free there.
use Rattle.std.proofs.Common.{ℕ, ◌≡◌, ◌∙◌, ◌==◌, ◌*◌, ◌/◌, ◌^◌, ◌<◌, ◌&&◌, ◌||◌, ◌⊎◌, inl, inr, Bool, true, false, Option, Some, None, List, refl, sym, ap}
use Rattle.std.proofs.Common.{subst, arith}
use Rattle.std.specs.Option.{option_map_or}
use Rattle.std.specs.Prelude.{Contains}
use Rattle.std.specs.List.{list_any}
use Rattle.std.proofs.lemmas.Bool.{and_from, and_parts, eq-eqb, eqb-true, false≢true, or_parts}
use Rattle.std.proofs.lemmas.List.Folds.{list_any_at}
use Rattle.model.specs.declared.capabilities.Cap.{Cap}
use Rattle.model.specs.declared.capabilities.Cap.TheVariants.{Empty, Untyped, Endpoint, Notification, CNode, Frame, PageTable, Tcb, RootTable, InterruptControl}
use Rattle.model.specs.declared.capabilities.Cap.TheVariants.{InterruptHandler}
use Rattle.model.specs.declared.rights.Rights.{Rights}
use Rattle.model.specs.declared.slot_entries.Entry.{Entry}
use Rattle.model.specs.Acceptance.NotedKernel.{keys_of, noted_after, noted_kernel, noted_of}
use Rattle.model.specs.Acceptance.NotedStates.{NotedSlot, is_foreign}
use Rattle.model.specs.Acceptance.ThreadInvariants.{ImageMaps, NotedMaps, root_table_of}
use Rattle.model.specs.Acceptance.ThreadRules.{reached}
use Rattle.model.specs.Capabilities.Slots.{capability_at}
use Rattle.model.specs.Images.Described.{Numbered, described}
use Rattle.model.specs.Images.Image.{Image, Thread}
use Rattle.model.specs.Kernel.AddressSpaces.{is_page_taken, is_region_taken, maps_page, maps_region, page_size}
use Rattle.model.specs.Kernel.State.{State, holds_some, slots_of}
use Rattle.removal_laws.proofs.Laws.{found, found-at, found-where}
use Rattle.typestate.specs.Mappings.{MappingsAreListed, is_outside, lists_page, maps_page_outside, maps_region_outside}
use Rattle.typestate.proofs.Laws.{RiseFrom, kept-rise, keys-rise, none-among, noted-keeps, some-taken}
use Rattle.thread_spaces.proofs.Laws.{mappings-listed}
use Rattle.headline.specs.invocations.Mirrors.{Mirrors}
use Rattle.headline.proofs.invocations.TablesInBoot.{maps-in-boot}
use Rattle.headline.proofs.facts.Laws.{is-listed}

-- ---- what capabilities map

-- no page table is near
near-no-region : (image : Image) (t : Thread) (root region : ℕ) (c : Cap) → is_foreign image t (reached image t) c ≡ false → maps_region root region c ≡ false
near-no-region image t root region Empty home = refl
near-no-region image t root region (Untyped _ _ _) home = refl
near-no-region image t root region (Endpoint _ _ _) home = refl
near-no-region image t root region (Notification _ _ _) home = refl
near-no-region image t root region (CNode _ _ _) home = refl
near-no-region image t root region (Frame _ _ _) home = refl
near-no-region image t root region (PageTable _ _) clash = absurd (false≢true (sym clash))
near-no-region image t root region (Tcb _) home = refl
near-no-region image t root region (RootTable _) home = refl
near-no-region image t root region InterruptControl home = refl
near-no-region image t root region (InterruptHandler _) home = refl

record IsMappedFrame (root page : ℕ) (c : Cap) : Type 0 where
  pub frame : ℕ
  pub held : Rights
  pub allowed : Rights
  pub is : c ≡ Frame frame held (Some (record { root = root; page = page; rights = allowed }))

frame-mapped : (root page : ℕ) (c : Cap) → maps_page root page c ≡ true → IsMappedFrame root page c
frame-mapped root page (Frame f r (Some m)) maps =
    let parts = and_parts (m.root == root) (m.page == page) maps in
    let at_root = eqb-true m.root root parts.0 in
    let at_page = eqb-true m.page page parts.1 in
    record { frame = f; held = r; allowed = m.rights; is = λ i. Frame f r (Some (record { root = at_root i; page = at_page i; rights = m.rights })) }
frame-mapped root page (Frame f r None) clash = absurd (false≢true clash)
frame-mapped root page Empty clash = absurd (false≢true clash)
frame-mapped root page (Untyped _ _ _) clash = absurd (false≢true clash)
frame-mapped root page (Endpoint _ _ _) clash = absurd (false≢true clash)
frame-mapped root page (Notification _ _ _) clash = absurd (false≢true clash)
frame-mapped root page (CNode _ _ _) clash = absurd (false≢true clash)
frame-mapped root page (PageTable _ _) clash = absurd (false≢true clash)
frame-mapped root page (Tcb _) clash = absurd (false≢true clash)
frame-mapped root page (RootTable _) clash = absurd (false≢true clash)
frame-mapped root page InterruptControl clash = absurd (false≢true clash)
frame-mapped root page (InterruptHandler _) clash = absurd (false≢true clash)

-- what no element of a list passes
passed-none : {A : Type 0} (test : A → Bool) (xs : List A) (x : A) → list_any test xs ≡ false → Contains xs x → test x ≡ true → ⊥
passed-none test xs x none there passes = false≢true (sym none ∙ list_any_at test xs there.0 x there.1 (ap test there.2 ∙ passes))

page-back : (page address : ℕ) → address ≡ page * 2 ^ 12 → address / 2 ^ 12 ≡ page
page-back page address is = omega (arith, is)

-- ---- under the thread's root table

module _ (image : Image) (t : Numbered) (s : State) (slots : List NotedSlot) (m : Mirrors image t s slots) where
  abbrev kernel : State
  kernel = noted_kernel image t.thread slots

  abbrev root : ℕ
  root = root_table_of image t

  rises : RiseFrom 0 slots
  unfolding noted_after
  rises =
      let cnodes = reached image t.thread in
      subst (λ (l : List NotedSlot). RiseFrom 0 l) m.same
      (kept-rise (noted_of image cnodes s.slots) (noted-keeps image cnodes s.slots) (keys_of image cnodes) 0 _ (keys-rise image t.thread m.stand))

  split : (test : Cap → Bool) → test Empty ≡ false → holds_some kernel test
      ≡ (list_any (λ (n : NotedSlot). test n.capability) slots
      || list_any (λ slot. is_outside image t.thread slot && test (capability_at (described image).slots slot)) (slots_of (described image)))
  split test none = some-taken image t.thread m.stand slots m.are test rises none

  listed : MappingsAreListed image t.thread
  listed = mappings-listed image t.thread m.accepted.spelled.fits m.accepted.formed (is-listed image t m.listed)

  -- what a slot of the boot CNode is described to hold
  held-in-boot : (test : Cap → Bool) (slot : ℕ) → slot < 2 ^ image.header.boot_radix
      → test (capability_at (described image).slots slot) ≡ true → holds_some s test ≡ true
  held-in-boot test slot less is =
      let room = m.stand.room in
      let same = m.boot slot (omega (arith, less)) in
      let bits = m.all.memory_bits in
      ap (λ (n : ℕ). found n (λ x. test (capability_at s.slots x))) bits
      ∙ found-at image.header.memory_bits slot (λ x. test (capability_at s.slots x)) (omega (arith, less, room))
      (ap (λ (o : Option Entry). test (option_map_or (λ h. h.capability) o Empty)) same ∙ is)

  pub region-too : (region : ℕ) → is_region_taken kernel root region ≡ true → is_region_taken s root region ≡ true
  region-too region taken =
      let outside = list_any (maps_region_outside image t.thread region) (slots_of (described image)) in
      let none = none-among (λ (n : NotedSlot). is_foreign image t.thread (reached image t.thread) n.capability)
      (λ (n : NotedSlot). maps_region root region n.capability)
      (λ n home. near-no-region image t.thread root region n.capability home) slots m.inside in
      let there : outside ≡ true = ap (λ b. b || outside) (sym none) ∙ sym (split (maps_region root region) refl) ∙ taken in
      let boot = maps-in-boot image t.thread m.accepted.spelled.fits m.accepted.formed region (sym (listed.regions region) ∙ there) in
      held-in-boot (maps_region root region) boot.slot boot.boot boot.maps

  pub page-free : (page : ℕ) → is_page_taken kernel root page ≡ false → is_page_taken s root page ≡ false
  page-free page free =
      let own = list_any (λ (n : NotedSlot). maps_page root page n.capability) slots in
      let outside = list_any (maps_page_outside image t.thread page) (slots_of (described image)) in
      let parts = or_parts own outside (sym (split (maps_page root page) refl) ∙ free) in
      let unlisted : list_any (lists_page t.thread page) image.frames ≡ false = sym (listed.pages page) ∙ parts.1 in
      elim (is_page_taken s root page) as (λ b. is_page_taken s root page ≡ b → b ≡ false) [
        | true ↦ λ taken.
            let at = found-where s.memory_bits (λ x. maps_page root page (capability_at s.slots x)) taken in
            let of = frame-mapped root page (capability_at s.slots at.0) at.1 in
            absurd (by-maps parts.0 unlisted of.frame of.allowed
            ((m.mapped page of.frame of.allowed).0 (record { slot = at.0; frame_rights = of.held; capability = of.is })))
        | false ↦ λ _. refl
      ] refl
    where
      by-maps : list_any (λ (n : NotedSlot). maps_page root page n.capability) slots ≡ false → list_any (lists_page t.thread page) image.frames ≡ false
          → (frame : ℕ) (allowed : Rights)
          → ImageMaps image t page frame allowed ⊎ NotedMaps image t slots page frame allowed → ⊥
      by-maps none unlisted frame allowed (inl of) =
          passed-none (lists_page t.thread page) image.frames of.entry unlisted of.listed
          (and_from ((of.entry).root == t.thread.header.root) ((of.entry).address / page_size == page) (eq-eqb (of.entry).root t.thread.header.root of.root)
          (eq-eqb ((of.entry).address / page_size) page (page-back page (of.entry).address of.address)))
      by-maps none unlisted frame allowed (inr of) =
          passed-none (λ (n : NotedSlot). maps_page root page n.capability) slots of.slot none of.noted
          (ap (maps_page root page) of.capability ∙ and_from (root == root) (page == page) (eq-eqb root root refl) (eq-eqb page page refl))
