-- What is granted names the endpoint, and these name none.
use Rattle.model.specs.Kernel.Retype.{NewCNode, NewEndpoint, NewFrame}
use Rattle.std.proofs.Common.{ap, ◌≡◌, None}
use Rattle.model.specs.declared.capabilities.Cap.TheVariants.{CNode, Empty, Frame, InterruptControl, InterruptHandler, Untyped}
use Rattle.model.specs.Capabilities.Rights.{rights}
use Rattle.model_laws.proofs.Authorities.{kind_named, new-part}
use Rattle.model_laws.proofs.authority_laws.no_capability_comes_from_nothing.Goals as goal

pub returns-clause-cnode : goal.returns-clause-cnode
returns-clause-cnode c = λ image t s after slot only before behind within.
    let part = new-part image t s after slot 0x8000 (rights 11) 0 Empty (CNode 0 4 28) only before behind (λ e. cc) (λ e. cc) within in
    let e : NewCNode 4 ≡ NewEndpoint = ap kind_named part.names in cc

pub returns-clause-untyped : goal.returns-clause-untyped
returns-clause-untyped c = λ image t s after slot only before behind within.
    let part = new-part image t s after slot 0x8000 (rights 11) 0 Empty (Untyped 0 24 0) only before behind (λ e. cc) (λ e. cc) within in
    let e = part.names in cc

pub returns-clause-frame : goal.returns-clause-frame
returns-clause-frame c = λ image t s after slot only before behind within.
    let part = new-part image t s after slot 0x8000 (rights 11) 0 Empty (Frame 0x9000 (rights 3) None) only before behind (λ e. cc) (λ e. cc) within in
    let e : NewFrame ≡ NewEndpoint = ap kind_named part.names in cc

pub returns-clause-handler : goal.returns-clause-handler
returns-clause-handler c = λ image t s after slot number only before behind within.
    let part = new-part image t s after slot 0x8000 (rights 11) 0 Empty (InterruptHandler number) only before behind (λ e. cc) (λ e. cc) within in
    let e = part.names in cc

pub returns-clause-control : goal.returns-clause-control
returns-clause-control c = λ image t s after slot only before behind within.
    let part = new-part image t s after slot 0x8000 (rights 11) 0 Empty InterruptControl only before behind (λ e. cc) (λ e. cc) within in
    let e = part.names in cc
