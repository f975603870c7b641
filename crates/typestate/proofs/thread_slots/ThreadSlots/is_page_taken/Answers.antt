-- A page is taken by a slot of the thread's, or by a mapping that the image lists.
use Rattle.std.proofs.Common.{◌≡◌, ◌∙◌, ◌||◌, refl, sym, ap}
use Rattle.std.specs.List.{list_any}
use Rattle.model.specs.Acceptance.NotedKernel.{noted_kernel}
use Rattle.model.specs.Acceptance.NotedStates.{NotedSlot}
use Rattle.model.specs.Images.Described.{described}
use Rattle.model.specs.Images.Places.{offset_of}
use Rattle.model.specs.Kernel.AddressSpaces.{is_page_taken, maps_page}
use Rattle.model.specs.Kernel.State.{slots_of as all_slots}
use Rattle.typestate.specs.Differences.{slots_of}
use Rattle.typestate.specs.Mappings.{maps_page_outside}
use Rattle.typestate.proofs.GivenFacts.{apart-of, listed-of}
use Rattle.typestate.proofs.HeldCaps.{or-turned, some-taken}
use Rattle.typestate.proofs.SomeHeld.{first-of, second-of}
use Rattle.typestate.proofs.Rising.{changes-rise, from-first}
use Rattle.typestate.proofs.thread_slots.ThreadSlots.is_page_taken.Goals as goal

pub returns-then-listed : goal.returns-then-listed
returns-then-listed c =
    let image = c.args.self.now.space.image.now in
    let t = c.args.self.now.space.thread.now in
    let slots = slots_of c.args.self.now.slots in
    let root = offset_of image t.header.root in
    let page = c.args.page in
    let rises = changes-rise c.args.self.now.slots.image.now c.args.self.now.slots.changes.now
    (from-first c.args.self.now.slots.image.now c.args.self.now.slots.rising) in
    let taken = is_page_taken (noted_kernel image t slots) c.args.self.now.space.table page in
    let own : c.takes_page-held.result ≡ list_any (λ (s : NotedSlot). maps_page root page s.capability) slots =
    c.takes_page-held.ensures ∙ ap (λ place. list_any (λ (s : NotedSlot). maps_page place page s.capability) slots) c.args.self.now.space.mapped in
    let whole : taken ≡ (c.takes_page-held.result || c.lists_page-listed.result) =
    ap (λ place. is_page_taken (noted_kernel image t slots) place page) c.args.self.now.space.mapped
    ∙ some-taken image t (apart-of c.args.self.now.space) slots c.args.self.now.own (maps_page root page) rises refl
    ∙ ap (λ b. b || list_any (maps_page_outside image t page) (all_slots (described image))) (sym own)
    ∙ ap (λ b. c.takes_page-held.result || b) ((listed-of c.args.self.now.space).pages page ∙ sym c.lists_page-listed.ensures) in
    let both : (c.lists_page-listed.result || c.takes_page-held.result) ≡ taken = or-turned c.lists_page-listed.result c.takes_page-held.result ∙ sym whole in
    first-of c.lists_page-listed.result c.takes_page-held.result taken both c.if-listed.true

pub returns-else-listed : goal.returns-else-listed
returns-else-listed c =
    let image = c.args.self.now.space.image.now in
    let t = c.args.self.now.space.thread.now in
    let slots = slots_of c.args.self.now.slots in
    let root = offset_of image t.header.root in
    let page = c.args.page in
    let rises = changes-rise c.args.self.now.slots.image.now c.args.self.now.slots.changes.now
    (from-first c.args.self.now.slots.image.now c.args.self.now.slots.rising) in
    let taken = is_page_taken (noted_kernel image t slots) c.args.self.now.space.table page in
    let own : c.takes_page-held.result ≡ list_any (λ (s : NotedSlot). maps_page root page s.capability) slots =
    c.takes_page-held.ensures ∙ ap (λ place. list_any (λ (s : NotedSlot). maps_page place page s.capability) slots) c.args.self.now.space.mapped in
    let whole : taken ≡ (c.takes_page-held.result || c.lists_page-listed.result) =
    ap (λ place. is_page_taken (noted_kernel image t slots) place page) c.args.self.now.space.mapped
    ∙ some-taken image t (apart-of c.args.self.now.space) slots c.args.self.now.own (maps_page root page) rises refl
    ∙ ap (λ b. b || list_any (maps_page_outside image t page) (all_slots (described image))) (sym own)
    ∙ ap (λ b. c.takes_page-held.result || b) ((listed-of c.args.self.now.space).pages page ∙ sym c.lists_page-listed.ensures) in
    let both : (c.lists_page-listed.result || c.takes_page-held.result) ≡ taken = or-turned c.lists_page-listed.result c.takes_page-held.result ∙ sym whole in
    second-of c.lists_page-listed.result c.takes_page-held.result taken both c.if-listed.false
