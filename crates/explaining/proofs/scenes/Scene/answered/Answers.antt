-- By what a well-formed image gives its threads: no slot is a stray one, and the point's record notes none.
use Rattle.std.proofs.Common.{◌≡◌, ◌∙◌, [], pos, refl, sym}
use Rattle.model.specs.Acceptance.Measures.{Measure}
use Rattle.typestate.specs.Calls.{known_with}
use Rattle.typestate.specs.Differences.{slots_of}
use Rattle.explaining.proofs.scenes.Scene.answered.Goals as goal

-- any measure does
abbrev nothing : Measure
nothing = record { constant = pos 0; terms = [] }

pub invariant_of-own : goal.invariant_of-own
invariant_of-own c =
    let given = c.args.self.now.given in
    let state = known_with c.args.bounds.now (slots_of c.args.slots.now) nothing in
    let none = sym (c.have_stray_slot.ensures state refl) ∙ c.if-have_stray_slot.false in
    record {
      inside = c.no_stray_slot_leads_outside.ensures given.space.image.now given.space.thread.now c.args.at.point state none;
      own = c.slots_are_own.ensures c.args.at.point state refl none;
    }
