-- What is unpacked is what the definition unpacks.
use Rattle.std.proofs.Common.{Option, Some, None, sym, ap}
use Rattle.std.specs.Option.{option_map_or}
use Rattle.model.specs.declared.capabilities.Cap.{Cap}
use Rattle.model.specs.declared.capabilities.Cap.TheVariants.{Empty}
use Rattle.typestate.proofs.Unpacked.{unpacked-same}
use Rattle.typestate.proofs.records.capability_of.Goals as goal

pub returns-in-Some-clause-value : goal.returns-in-Some-clause-value
returns-in-Some-clause-value c =
    ap (λ (found : Option Cap). option_map_or (λ capability. capability) found Empty)
    (sym (unpacked-same c.args.word0 c.args.word1 (Some c.in-Some.capability) c.in-Some.ensures.some c.in-Some.ensures.only))

pub returns-in-None-clause-value : goal.returns-in-None-clause-value
returns-in-None-clause-value c =
    ap (λ (found : Option Cap). option_map_or (λ capability. capability) found Empty)
    (sym (unpacked-same c.args.word0 c.args.word1 None c.in-None.ensures.some c.in-None.ensures.only))
