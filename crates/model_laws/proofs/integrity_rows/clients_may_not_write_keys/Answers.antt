-- The pool is the only memory that is listed for the vault.
use Rattle.std.proofs.Math.Bool.{or-false}
use Rattle.model_laws.specs.GalleryKeyStore.{is_of_keys}
use Rattle.model_laws.proofs.Opened.{opened}
use Rattle.model_laws.proofs.integrity_rows.clients_may_not_write_keys.Goals as goal

pub returns-clause-vault : goal.returns-clause-vault
unfolding opened
returns-clause-vault c = λ rest vault user admin place. or-false (is_of_keys place)
