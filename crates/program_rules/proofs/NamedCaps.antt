-- The capability that a0 names at a point is what it names in the map of the thread's own slots.
use Rattle.std.proofs.Common.{ℕ, ◌≡◌, ◌∙◌, ◌||◌, false, not, Result, Ok, Err, List, [], ◌∷◌, length, refl, sym, ap}
use Rattle.std.proofs.Math.Logic.{∥∥₁_elim, ∥∥₁_map}
use Rattle.std.proofs.lemmas.Bool.{or_parts}
use Rattle.std.specs.Coded.{coded_bool, coded_option, coded_ℕ}
use Rattle.std.specs.List.{list_any}
use base.Stored.{Coded-set}
use Rattle.image_reading.proofs.Laws.{decides-test, test-decides}
use Rattle.model.specs.declared.capabilities.Cap.{Cap}
use Rattle.model.specs.declared.lookup_failures.LookupFailure.{LookupFailure}
use Rattle.model.specs.Acceptance.NotedKernel.{noted_kernel, noted_root, noted_slots}
use Rattle.model.specs.Acceptance.NotedStates.{NotedSlot, is_foreign, is_own, is_own_cnode, is_stray, leads_to_boot}
use Rattle.model.specs.Acceptance.ThreadRules.{reached}
use Rattle.model.specs.Capabilities.CapabilityFields.{is_capability}
use Rattle.model.specs.Capabilities.CapabilityWords.{IsCapability}
use Rattle.model.specs.Capabilities.Lookup.{called_slot}
use Rattle.model.specs.Capabilities.Slots.{Slots}
use Rattle.model.specs.Images.Image.{Image, Thread}
use Rattle.program_rules.proofs.CallLookups.{CallsSame, called-slot-same}
use Rattle.program_rules.proofs.SlotMaps.{slots-agree}
use Rattle.program_rules.specs.Views.{held_at}
use Rattle.typestate.specs.Spaces.{AreWindows, NothingLeadsOutside, own_slots}
use Rattle.typestate.specs.Strays.{NoneStray}
use Rattle.typestate.specs.declared.spaces.Space.{Space}
use Rattle.typestate.specs.declared.window.Window.{Window}

-- ---- what a thread's space carries, taken out

windows-out : (image : Image) (cnodes : List ℕ) (windows : List Window) → ∥ AreWindows image cnodes windows ∥₁ → AreWindows image cnodes windows
windows-out image [] [] are = tt
windows-out image [] (w ∷ ws) are = ∥∥₁_elim are (λ a b. absurd a) (λ off. off)
windows-out image (cnode ∷ cnodes) [] are = ∥∥₁_elim are (λ a b. absurd a) (λ off. off)
windows-out image (cnode ∷ cnodes) (w ∷ ws) are = (
  record {
    object = ∥∥₁_elim are (Coded-set coded_ℕ _ _) (λ all. all.0.object);
    place = ∥∥₁_elim are (Coded-set coded_ℕ _ _) (λ all. all.0.place);
    size = ∥∥₁_elim are (Coded-set (coded_option coded_ℕ) _ _) (λ all. all.0.size);
  },
  windows-out image cnodes ws (∥∥₁_map are (λ all. all.1)),
)

pub root-valid : (space : Space) → IsCapability space.root
root-valid space = test-decides space.root (∥∥₁_elim space.given (Coded-set coded_bool _ _) (λ g. decides-test space.root g.valid))

-- ---- no slot leads outside, where none is stray

module _ (image : Image) (t : Thread) (all : List NotedSlot) where
  abbrev cnodes : List ℕ
  cnodes = reached image t

  home : (s : NotedSlot) → is_stray image t cnodes all s ≡ false → is_foreign image t cnodes s.capability ≡ false
  home s is =
      let foreign = is_foreign image t cnodes s.capability in
      let no_words = not (is_capability s.capability) in
      let a = or_parts (not (is_own image cnodes s.key) || foreign || no_words) (not (leads_to_boot (length all) all s.parent)) is in
      let b = or_parts (not (is_own image cnodes s.key) || foreign) no_words a.0 in
      (or_parts (not (is_own image cnodes s.key)) foreign b.0).1

  homes : (slots : List NotedSlot) → list_any (is_stray image t cnodes all) slots ≡ false → list_any (λ s. is_foreign image t cnodes s.capability) slots ≡ false
  homes [] none = refl
  homes (s ∷ slots) none =
      let parts = or_parts (is_stray image t cnodes all s) (list_any (is_stray image t cnodes all) slots) none in
      ap (λ b. b || list_any (λ x. is_foreign image t cnodes x.capability) slots) (home s parts.0) ∙ homes slots parts.1

pub none-outside : (image : Image) (t : Thread) (slots : List NotedSlot) → NoneStray image t slots → NothingLeadsOutside image t slots
none-outside image t slots none = homes image t slots slots none

-- ---- what is named

held-same : (s t : Slots) (a b : Result ℕ LookupFailure) → a ≡ b → CallsSame s t a → held_at s a ≡ held_at t b
held-same s t (Ok slot) b same finds = finds ∙ ap (held_at t) same
held-same s t (Err failure) b same finds = ap (held_at t) same

pub named-own : (space : Space) (slots : List NotedSlot) (address : ℕ) → NothingLeadsOutside space.image.now space.thread.now slots
    → held_at (noted_kernel space.image.now space.thread.now slots).slots
    (called_slot (noted_kernel space.image.now space.thread.now slots).slots (noted_root space.image.now space.thread.now) address)
    ≡ held_at (own_slots space.windows.now slots) (called_slot (own_slots space.windows.now slots) space.root address)
unfolding noted_kernel
named-own space slots address none =
    let image = space.image.now in
    let t = space.thread.now in
    let s = noted_slots image t slots in
    let own = own_slots space.windows.now slots in
    let windows = windows-out image (reached image t) space.windows.now (∥∥₁_map space.given (λ g. g.cnodes)) in
    let inside = ∥∥₁_elim space.given (Coded-set coded_bool _ _) (λ g. g.inside) in
    let calls = called-slot-same s own (is_own_cnode image (reached image t)) (slots-agree image t space.windows.now slots windows none)
    space.root address inside in
    ap (λ (root : Cap). held_at s (called_slot s root address)) (sym space.rooted)
    ∙ held-same s own (called_slot s space.root address) (called_slot own space.root address) calls.0 calls.1
