-- What changed was written by the client, which may not, or by the world, to which no page is open.
use Rattle.model_laws.proofs.Vault.{nothing-changes}
use Rattle.model_laws.specs.Vault.{vault}
use Rattle.model_laws.proofs.integrity_rows.a_client_changes_no_key.Goals as goal

pub returns : goal.returns
returns c = λ bytes events place accepted devices only.
    nothing-changes events place (c.runs_have_integrity.ensures bytes vault events accepted devices) devices only
    c.a_client_may_write_nowhere.ensures.client c.a_client_may_write_nowhere.ensures.devices
