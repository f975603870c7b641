-- By what is known of a0, and then what is found.
use Rattle.std.proofs.Common.{ℕ, ◌∙◌, Result, Ok, ap}
use Rattle.model.specs.declared.capabilities.Cap.{Cap}
use Rattle.model.specs.declared.refusals.Refusal.{Refusal}
use Rattle.model.specs.Capabilities.Lookup.{called_slot}
use Rattle.model.specs.Images.Format.{◌>>=◌}
use Rattle.typestate.specs.Calls.{slot_called}
use Rattle.typestate.specs.Differences.{slots_of}
use Rattle.typestate.specs.Spaces.{own_slots}
use Rattle.typestate.proofs.GivenFacts.{space-of}
use Rattle.typestate.proofs.thread_slots.ThreadSlots.called.Goals as goal

pub returns-in-Err-clause-value : goal.returns-in-Err-clause-value
returns-in-Err-clause-value c = λ measure.
    let own = own_slots c.args.self.now.space.windows.now (slots_of c.args.self.now.slots) in
    ap (λ (r : Result ℕ Refusal). r >>= λ address. slot_called c.args.at own (called_slot own c.args.self.now.space.root address))
    (c.in-Err.ensures (slots_of c.args.self.now.slots) measure)

pub returns-in-Ok-called_slot-clause-value : goal.returns-in-Ok-called_slot-clause-value
returns-in-Ok-called_slot-clause-value c = λ measure.
    let own = own_slots c.args.self.now.space.windows.now (slots_of c.args.self.now.slots) in
    let pair : Cap → Result (ℕ × Cap) Refusal = λ capability. Ok (c.in-Ok-called_slot.slot, capability) in
    ap pair c.capability.ensures.value
    ∙ ap (slot_called c.args.at own) c.in-Ok-called_slot.ensures.value
    ∙ ap (λ (r : Result ℕ Refusal). r >>= λ address. slot_called c.args.at own (called_slot own c.args.self.now.space.root address))
    (c.in-Ok.ensures (slots_of c.args.self.now.slots) measure)

pub returns-in-Err-called_slot-clause-value : goal.returns-in-Err-called_slot-clause-value
returns-in-Err-called_slot-clause-value c = λ measure.
    let own = own_slots c.args.self.now.space.windows.now (slots_of c.args.self.now.slots) in
    ap (slot_called c.args.at own) c.in-Err-called_slot.ensures.value
    ∙ ap (λ (r : Result ℕ Refusal). r >>= λ address. slot_called c.args.at own (called_slot own c.args.self.now.space.root address))
    (c.in-Ok.ensures (slots_of c.args.self.now.slots) measure)

pub called_slot-requires : goal.called_slot-requires
called_slot-requires c = (space-of c.args.self.now.space).valid
