-- Field by field.
use Rattle.headline.proofs.invocations.Mirrored.{mirrored}
use Rattle.headline.proofs.invocations.mirror_laws.threads_mirror_what_is_noted.Goals as goal

pub returns : goal.returns
returns c = λ bytes image t s labels own point state accepted listed all stands.
    mirrored bytes image t s labels own point state accepted listed all stands (c.no_stray_slot_leads_outside.ensures image t.thread point state)
