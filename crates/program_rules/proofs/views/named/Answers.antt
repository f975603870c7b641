-- By the thread's own slots.
use Rattle.std.proofs.Common.{◌∙◌, sym, ap}
use Rattle.model.specs.declared.ranges.Range.{Range}
use Rattle.model.specs.Capabilities.Lookup.{called_slot}
use Rattle.program_rules.proofs.NamedCaps.{named-own, root-valid}
use Rattle.program_rules.proofs.views.named.Goals as goal
use Rattle.program_rules.specs.Views.{held_at}
use Rattle.typestate.specs.Differences.{slots_of}
use Rattle.typestate.specs.Spaces.{own_slots}

pub called_slot-requires : goal.called_slot-requires
called_slot-requires c = root-valid c.args.space.now

pub returns-in-Ok : goal.returns-in-Ok
returns-in-Ok c = λ nothing measure.
    let space = c.args.space.now in
    let slots = slots_of c.args.slots.now in
    let own = own_slots space.windows.now slots in
    c.capability.ensures.value ∙ ap (held_at own) c.in-Ok.ensures.value
    ∙ ap (λ (r : Range). held_at own (called_slot own space.root r.low)) c.get.ensures.range ∙ sym (named-own space slots _ nothing)

pub returns-in-Err : goal.returns-in-Err
returns-in-Err c = λ nothing measure.
    let space = c.args.space.now in
    let slots = slots_of c.args.slots.now in
    let own = own_slots space.windows.now slots in
    ap (held_at own) c.in-Err.ensures.value
    ∙ ap (λ (r : Range). held_at own (called_slot own space.root r.low)) c.get.ensures.range ∙ sym (named-own space slots _ nothing)
