-- What differs of a slot makes the slots differ there.
use Rattle.std.proofs.Common.{Option, None, sym, ap, ◌∙◌}
use Rattle.std.specs.Option.{option_map_or}
use Rattle.model.specs.declared.capabilities.Cap.TheVariants.{Empty}
use Rattle.model.specs.declared.slot_entries.Entry.{Entry}
use Rattle.model_laws.proofs.authority_laws.a_slot_of_a_neighbour_stays.Goals as goal

pub returns-clause-emptied : goal.returns-clause-emptied
returns-clause-emptied c = λ image t s after slot foreign before behind within.
    foreign (within.slots slot (λ same. before (ap (λ (o : Option Entry). option_map_or (λ held. held.capability) o Empty) same ∙ behind)))

pub returns-clause-filled : goal.returns-clause-filled
returns-clause-filled c = λ image t s after slot foreign before behind within.
    foreign (within.slots slot (λ same. behind (sym (ap (λ (o : Option Entry). option_map_or (λ held. held.capability) o Empty) same) ∙ before)))

pub returns-clause-changed : goal.returns-clause-changed
returns-clause-changed c = λ image t s after slot foreign differ within.
    foreign (within.slots slot (λ same. differ (ap (λ (o : Option Entry). option_map_or (λ held. held.capability) o Empty) same)))

pub returns-clause-hung : goal.returns-clause-hung
returns-clause-hung c = λ image t s after slot foreign differ within.
    foreign (within.slots slot (λ same. differ (ap (λ (o : Option Entry). option_map_or (λ held. held.parent) o None) same)))
