-- A copy is valid.
use Rattle.std.proofs.Common.{sym, subst}
use Rattle.model.specs.Capabilities.CapabilityWords.{IsCapability}
use Rattle.derivation.proofs.cap_copies.Valid.{copied-valid}
use Rattle.derivation.proofs.cap_copies.copies.copy_of.Goals as goal

pub returns-clause-valid : goal.returns-clause-valid
returns-clause-valid c = λ valid. subst IsCapability (sym c.copied.ensures) (copied-valid c.args.held c.args.rights_word valid)
