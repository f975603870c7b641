-- Rights that no rights word gets from the frame's.
use Rattle.model.specs.Capabilities.Rights.{rights}
use Rattle.model_laws.proofs.Authorities.{mapping-rights, no_execute, no_write}
use Rattle.model_laws.proofs.authority_laws.a_mapping_has_rights_of_its_capability.Goals as goal

pub returns-clause-writes : goal.returns-clause-writes
returns-clause-writes c = λ image t s after slot root page only before behind within.
    let got = mapping-rights image t s after slot 0x9000 (rights 2) (record { root = root; page = page; rights = rights 3 }) only before behind within in
    no_write got.0 got.1

pub returns-clause-executes : goal.returns-clause-executes
returns-clause-executes c = λ image t s after slot root page only before behind within.
    let got = mapping-rights image t s after slot 0x9000 (rights 1) (record { root = root; page = page; rights = rights 4 }) only before behind within in
    no_execute got.0 got.1
