-- What changed was written by the vault, in its pool, or by the world, to which no page is open.
use Rattle.std.proofs.Common.{◌∙◌}
use Rattle.model_laws.specs.GalleryKeyStore.{key_store}
use Rattle.model_laws.proofs.GalleryKeyStore.{nobody-writes}
use Rattle.model_laws.proofs.Vault.{stays}
use Rattle.model_laws.proofs.integrity_rows.only_the_vaults_pool_changes.Goals as goal

pub returns-clause-elsewhere : goal.returns-clause-elsewhere
returns-clause-elsewhere c = λ bytes rest vault user admin events place accepted devices outside.
    let image = key_store rest vault user admin in
    let may = c.clients_may_not_write_keys.ensures in
    stays image events place (c.runs_have_integrity.ensures bytes image events accepted devices) devices
    (nobody-writes rest vault user admin events place (λ ran. may.vault rest vault user admin place ∙ outside) (may.user rest vault user admin place)
    (may.admin rest vault user admin place))
    (may.devices rest vault user admin)

pub returns-clause-pool : goal.returns-clause-pool
returns-clause-pool c = λ bytes rest vault user admin events place accepted devices rests.
    let image = key_store rest vault user admin in
    let may = c.clients_may_not_write_keys.ensures in
    stays image events place (c.runs_have_integrity.ensures bytes image events accepted devices) devices
    (nobody-writes rest vault user admin events place (λ ran. absurd (rests ran)) (may.user rest vault user admin place)
    (may.admin rest vault user admin place))
    (may.devices rest vault user admin)
