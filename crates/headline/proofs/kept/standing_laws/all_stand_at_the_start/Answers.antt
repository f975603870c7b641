-- Each thread is at its entry and runs.
use Rattle.std.proofs.Common.{refl, subst}
use Rattle.model.specs.Images.Described.{described}
use Rattle.model.specs.Kernel.State.{Status}
use Rattle.headline.specs.facts.Waiting.{WaitsSo}
use Rattle.headline.proofs.kept.StartHangs.{hangs-at-start}
use Rattle.headline.proofs.kept.StartObjects.{listed-runs, others-inactive}
use Rattle.headline.proofs.kept.standing_laws.all_stand_at_the_start.Goals as goal
use Rattle.headline.proofs.facts.Laws.{entry-from}

pub returns : goal.returns
unfolding described
returns c = λ bytes image accepted.
    let fits = accepted.spelled.fits in
    let formed = accepted.formed in
    record {
      sound = c.described_states_are_sound.ensures image fits formed;
      stand = λ t listed. c.threads_start_as_certified.ensures bytes image t accepted listed;
      wait = λ t listed own point state left is inside pc known call.
          let entry = entry-from 0 image.threads listed.0 t listed.1 listed.2 in
          let object = c.threads_are_as_listed.ensures image t.thread fits formed (record { number = listed.0; listed = entry }) in
          subst (λ (status : Status). WaitsSo image t (described image) state left status) (listed-runs t.thread _ own object is) tt;
      others = others-inactive image;
      apart = λ slot out. refl;
      hang = λ t listed. hangs-at-start image fits formed t (record { number = listed.0; listed = entry-from 0 image.threads listed.0 t listed.1 listed.2 });
      memory_bits = refl;
      boot_radix = refl;
    }
