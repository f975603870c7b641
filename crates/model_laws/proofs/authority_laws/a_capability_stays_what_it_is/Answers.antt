-- What is granted names the endpoint, with rights and badge of its own.
use Rattle.model.specs.Kernel.Retype.{NewEndpoint, NewThread}
use Rattle.std.proofs.Common.{ap, ◌≡◌, inl, inr}
use Rattle.model.specs.declared.capabilities.Cap.TheVariants.{Empty, Endpoint, Tcb}
use Rattle.model.specs.Capabilities.Rights.{rights}
use Rattle.model_laws.proofs.Authorities.{kind_named, new-part}
use Rattle.model_laws.proofs.authority_laws.a_capability_stays_what_it_is.Goals as goal

pub returns-clause-kind : goal.returns-clause-kind
returns-clause-kind c = λ image t s after slot only before behind within.
    let part = new-part image t s after slot 0x8000 (rights 1) 7 (Endpoint 0x8000 (rights 1) 7) (Tcb 0x8000) only before behind (λ e. cc) (λ e. cc) within in
    let e : NewThread ≡ NewEndpoint = ap kind_named part.names in cc

pub returns-clause-rights : goal.returns-clause-rights
returns-clause-rights c = λ image t s after slot only before behind within.
    let part = new-part image t s after slot 0x8000 (rights 1) 7 Empty (Endpoint 0x8000 (rights 3) 7) only before behind (λ e. cc) (λ e. cc) within in
    let e = part.allowed in cc

pub returns-clause-badge : goal.returns-clause-badge
returns-clause-badge c = λ image t s after slot only before behind within.
    let part = new-part image t s after slot 0x8000 (rights 1) 7 Empty (Endpoint 0x8000 (rights 1) 8) only before behind (λ e. cc) (λ e. cc) within in
    elim part.marks [ inl e ↦ cc | inr e ↦ cc ]
