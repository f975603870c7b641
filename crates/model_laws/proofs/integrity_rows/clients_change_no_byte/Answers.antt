-- By what is known after any events.
use Rattle.model.specs.declared.events.Event.TheVariants.{Step}
use Rattle.model.specs.Images.Described.{described}
use Rattle.model.specs.Kernel.Steps.{step, trace}
use Rattle.headline.specs.integrity.Runs.{last_of}
use Rattle.model_laws.specs.GalleryKeyStore.{key_store}
use Rattle.model_laws.proofs.GalleryKeyStore.{steps-leave}
use Rattle.model_laws.proofs.integrity_rows.clients_change_no_byte.Goals as goal

pub returns : goal.returns
returns c = λ bytes rest vault user admin events place accepted devices other.
    let image = key_store rest vault user admin in
    steps-leave bytes rest vault user admin (last_of image events) (step (last_of image events) Step).0 (trace (described image) events) place accepted
    (c.events_go_well.ensures bytes image events accepted devices).stand (c.threads_never_hold_more.ensures bytes image events accepted devices)
    (c.events_stay_within_authority.ensures bytes image events Step accepted devices) other
