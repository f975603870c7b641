-- By the slots and by the record.
use Rattle.std.proofs.Common.{◌≡◌, ◌∙◌, false, option_map, refl, sym, ap}
use Rattle.std.specs.List.{list_any}
use Rattle.std.specs.Option.{option_map_or}
use Rattle.model.specs.Acceptance.NotedStates.{notes_outside}
use Rattle.typestate.specs.Differences.{slots_of}
use Rattle.typestate.specs.Strays.{cnodes_of, is_stray_in}
use Rattle.typestate.proofs.StraySlots.{told-outside, told-stray}
use Rattle.typestate.proofs.told_slots.ToldSlots.has_stray_slots.Goals as goal
use Rattle.typestate.proofs.told_slots.ToldSlots.has_stray_slots.Goals.{else-not-self-via-then-not-self+else-has_stray, else-not-self-via-else-not-self}

pub returns-then-has_stray : goal.returns-then-has_stray
returns-then-has_stray c =
    told-stray c.args.self.now.space.image.now c.args.self.now.space.thread.now (slots_of c.args.self.now.slots) (option_map (λ r. r.now) c.args.noted)
    c.has_stray.result c.has_stray.ensures c.if-has_stray.true

pub returns-in-Some : goal.returns-in-Some
returns-in-Some c =
    let space = c.args.self.now.space in
    let slots = slots_of c.args.self.now.slots in
    let none : list_any (is_stray_in space slots) slots ≡ false =
    elim c.else-not-self.branch [
      | else-not-self-via-then-not-self+else-has_stray w ↦ sym w.has_stray.ensures ∙ w.if-has_stray.false
      | else-not-self-via-else-not-self w ↦ c.args.self.now.clean w.if-not-self.false
    ] in
    told-outside space.image.now space.thread.now slots (option_map (λ r. r.now) c.args.noted) (list_any (is_stray_in space slots) slots) c.notes_outside.result
    refl none
    (c.notes_outside.ensures
    ∙ sym (ap (λ found. option_map_or (notes_outside space.image.now (cnodes_of space)) (option_map (λ r. r.now) found) false) c.in-Some.is))

pub returns-in-None : goal.returns-in-None
returns-in-None c =
    let space = c.args.self.now.space in
    let slots = slots_of c.args.self.now.slots in
    let none : list_any (is_stray_in space slots) slots ≡ false =
    elim c.else-not-self.branch [
      | else-not-self-via-then-not-self+else-has_stray w ↦ sym w.has_stray.ensures ∙ w.if-has_stray.false
      | else-not-self-via-else-not-self w ↦ c.args.self.now.clean w.if-not-self.false
    ] in
    told-outside space.image.now space.thread.now slots (option_map (λ r. r.now) c.args.noted) (list_any (is_stray_in space slots) slots) false refl none
    (sym (ap (λ found. option_map_or (notes_outside space.image.now (cnodes_of space)) (option_map (λ r. r.now) found) false) c.in-None.is))
