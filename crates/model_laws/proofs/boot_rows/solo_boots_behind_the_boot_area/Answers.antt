use Rattle.std.proofs.Common.{refl}
use Rattle.model_laws.proofs.Opened.{opened}
use Rattle.model_laws.proofs.boot_rows.solo_boots_behind_the_boot_area.Goals as goal

pub returns : goal.returns
unfolding opened
returns c = refl
