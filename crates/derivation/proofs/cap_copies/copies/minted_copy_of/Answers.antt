-- A copy with a badge or a guard word that fits is valid.
use Rattle.std.proofs.Common.{◌≡◌, ◌∙◌, true, sym, subst, ap}
use Rattle.model.specs.Capabilities.CapabilityKinds.{badge_fits, copied, guard_fits, with_payload}
use Rattle.model.specs.Capabilities.CapabilityWords.{IsCapability}
use Rattle.model.specs.declared.capabilities.Cap.{Cap}
use Rattle.derivation.proofs.cap_copies.Valid.{payload-valid}
use Rattle.derivation.proofs.cap_copies.copies.minted_copy_of.Goals as goal

pub returns-clause-valid : goal.returns-clause-valid
returns-clause-valid c = λ valid.
    let fits : badge_fits c.args.held c.args.payload ≡ true = cc in
    let guards : guard_fits c.args.held c.args.payload ≡ true = cc in
    let is : with_payload (copied c.args.held c.args.rights_word) c.args.payload ≡ c.with_payload.result =
    ap (λ (held : Cap). with_payload held c.args.payload) (sym c.copied.ensures) ∙ sym c.with_payload.ensures in
    subst IsCapability is (payload-valid c.args.held c.args.rights_word c.args.payload valid fits guards)
