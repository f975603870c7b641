-- No page table is the thread's own, and the image lists the others.
use Rattle.std.proofs.Common.{◌≡◌, ◌∙◌, ◌||◌, false, Bool, refl, sym, ap}
use Rattle.std.specs.List.{list_any}
use Rattle.model.specs.Acceptance.NotedKernel.{noted_kernel}
use Rattle.model.specs.Acceptance.NotedStates.{NotedSlot, is_foreign}
use Rattle.model.specs.Acceptance.ThreadRules.{reached}
use Rattle.model.specs.Images.Described.{described}
use Rattle.model.specs.Images.Places.{offset_of}
use Rattle.model.specs.Kernel.AddressSpaces.{is_region_taken, maps_region}
use Rattle.model.specs.Kernel.State.{slots_of as all_slots}
use Rattle.typestate.specs.Differences.{slots_of}
use Rattle.typestate.specs.Mappings.{maps_region_outside}
use Rattle.typestate.proofs.GivenFacts.{apart-of, listed-of}
use Rattle.typestate.proofs.HeldCaps.{none-among, some-taken}
use Rattle.typestate.proofs.RemovedSlots.{no-table}
use Rattle.typestate.proofs.Rising.{changes-rise, from-first}
use Rattle.typestate.proofs.thread_slots.ThreadSlots.is_region_taken.Goals as goal

pub returns : goal.returns
returns c =
    let image = c.args.self.now.space.image.now in
    let t = c.args.self.now.space.thread.now in
    let slots = slots_of c.args.self.now.slots in
    let root = offset_of image t.header.root in
    let rises = changes-rise c.args.self.now.slots.image.now c.args.self.now.slots.changes.now
    (from-first c.args.self.now.slots.image.now c.args.self.now.slots.rising) in
    let foreign : NotedSlot → Bool = λ s. is_foreign image t (reached image t) s.capability in
    let mapping : NotedSlot → Bool = λ s. maps_region root c.args.region s.capability in
    let none : list_any mapping slots ≡ false = none-among foreign mapping (λ s. no-table image t (reached image t) root c.args.region s.capability) slots
    c.args.self.now.inside in
    c.lists_region.ensures
    ∙ sym (ap (λ place. is_region_taken (noted_kernel image t slots) place c.args.region) c.args.self.now.space.mapped
    ∙ some-taken image t (apart-of c.args.self.now.space) slots c.args.self.now.own (maps_region root c.args.region) rises refl
    ∙ ap (λ b. b || list_any (maps_region_outside image t c.args.region) (all_slots (described image))) none
    ∙ (listed-of c.args.self.now.space).regions c.args.region)
