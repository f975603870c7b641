-- The call names the handler.
use Rattle.std.proofs.Common.{◌≡◌, Ok, Err, inl, inr, sym, ◌∙◌}
use Rattle.model.specs.Acceptance.Authority.{self_of}
use Rattle.model_laws.proofs.Reasons.{named-capability}
use Rattle.model_laws.proofs.authority_laws.a_line_changes_by_its_handler.Goals as goal

pub returns-clause-masked : goal.returns-clause-masked
returns-clause-masked c = λ image t s after slot number named other differ within.
    let names = within.lines number (inl differ) in
    other (named-capability s (self_of image t) slot names.0.slot named names.0.named ∙ names.0.such.1)

pub returns-clause-pending : goal.returns-clause-pending
returns-clause-pending c = λ image t s after slot number named other differ within.
    let names = within.lines number (inr differ) in
    other (named-capability s (self_of image t) slot names.0.slot named names.0.named ∙ names.0.such.1)

pub returns-clause-nothing : goal.returns-clause-nothing
returns-clause-nothing c = λ image t s after number failure named differ within.
    let names = within.lines number (inl differ) in
    let e : Ok names.0.slot ≡ Err failure = sym names.0.named ∙ named in cc
