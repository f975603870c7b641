-- The keys of the image's slots and of the changes are all, and those of the changes are enough where the image lists no stray slot.
use Rattle.std.proofs.Common.{◌∙◌, ◌||◌, Bool, sym, ap}
use Rattle.std.specs.List.{list_any}
use Rattle.model.specs.Acceptance.NotedStates.{NotedSlot}
use Rattle.typestate.specs.Differences.{slots_of}
use Rattle.typestate.specs.Strays.{is_stray_in}
use Rattle.typestate.proofs.ListedStrays.{none-beside}
use Rattle.typestate.proofs.Rising.{from-first}
use Rattle.typestate.proofs.SomeHeld.{changes-held, holds_at, some-held}
use Rattle.typestate.proofs.told_slots.ToldSlots.keeps_stray.Goals as goal

pub returns-then-self : goal.returns-then-self
returns-then-self c =
    let noted = c.args.self.now.slots in
    let test : NotedSlot → Bool = is_stray_in c.args.self.now.space (slots_of noted) in
    ap (λ b. b || list_any (holds_at test (slots_of noted)) noted.changes.now) c.one_stray.ensures
    ∙ some-held test noted.image.now noted.changes.now (from-first noted.image.now noted.rising)

pub returns-else-self : goal.returns-else-self
returns-else-self c =
    let noted = c.args.self.now.slots in
    let test : NotedSlot → Bool = is_stray_in c.args.self.now.space (slots_of noted) in
    changes-held test noted.image.now noted.changes.now (from-first noted.image.now noted.rising)
    (none-beside c.args.self.now.space (slots_of noted) noted.image.now (sym c.args.self.now.listed ∙ c.if-self.false))
