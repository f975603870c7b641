-- The keys of the image's slots and of the changes are all.
use Rattle.std.proofs.Common.{◌≡◌, ◌∙◌, ◌||◌, ap}
use Rattle.std.specs.List.{list_any}
use Rattle.typestate.specs.Differences.{slots_of}
use Rattle.typestate.specs.Strays.{is_stray_in}
use Rattle.typestate.proofs.SomeHeld.{first-of, second-of}
use Rattle.typestate.proofs.told_slots.ToldSlots.has_stray.Goals as goal

pub returns-then-listed : goal.returns-then-listed
returns-then-listed c =
    let slots = slots_of c.args.self.now.slots in
    let both : (c.keeps_stray-listed.result || c.one_change_stray-changed.result) ≡ list_any (is_stray_in c.args.self.now.space slots) slots =
    ap (λ b. c.keeps_stray-listed.result || b) c.one_change_stray-changed.ensures ∙ c.keeps_stray-listed.ensures in
    first-of c.keeps_stray-listed.result c.one_change_stray-changed.result (list_any (is_stray_in c.args.self.now.space slots) slots) both c.if-listed.true

pub returns-else-listed : goal.returns-else-listed
returns-else-listed c =
    let slots = slots_of c.args.self.now.slots in
    let both : (c.keeps_stray-listed.result || c.one_change_stray-changed.result) ≡ list_any (is_stray_in c.args.self.now.space slots) slots =
    ap (λ b. c.keeps_stray-listed.result || b) c.one_change_stray-changed.ensures ∙ c.keeps_stray-listed.ensures in
    second-of c.keeps_stray-listed.result c.one_change_stray-changed.result (list_any (is_stray_in c.args.self.now.space slots) slots) both c.if-listed.false
