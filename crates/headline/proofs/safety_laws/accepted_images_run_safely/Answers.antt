-- All events go well, and where the threads' invariant holds each keeps its budget.
use Rattle.std.proofs.Common.{◌∷◌}
use Rattle.model.specs.Acceptance.Devices.{KeepsDevices}
use Rattle.model.specs.Images.Described.{described}
use Rattle.model.specs.Kernel.Steps.{state_after, trace}
use Rattle.headline.proofs.Fronts.{all-front}
use Rattle.headline.proofs.Numbers.{numbered-listed}
use Rattle.headline.proofs.safety_laws.accepted_images_run_safely.Goals as goal

pub returns : goal.returns
returns c = λ bytes image events accepted devices.
    let goes = c.events_go_well.ensures bytes image events accepted devices in
    record {
      accepted = accepted;
      devices = devices;
      boots = c.well_formed_images_boot.ensures.accepted bytes image accepted;
      inside = c.objects_stand_inside_their_untypeds.ensures image accepted.spelled.fits accepted.formed;
      faults = goes.faults;
      errors = goes.errors;
      budgets = λ t listed.
          let of = numbered-listed image.threads t listed in
          c.standing_threads_keep_their_budgets.ensures bytes image events accepted
          (λ before behind is.
          (c.events_go_well.ensures bytes image before accepted (all-front (KeepsDevices image) events before behind devices is)).stand)
          (record { number = of.0; thread = t }) of.1;
      within = λ before event later is.
          c.events_stay_within_authority.ensures bytes image before event accepted
          (all-front (KeepsDevices image) events before (event ∷ later) devices is);
      integrity = c.runs_have_integrity.ensures bytes image events accepted devices;
      sound = λ before later is.
          (c.events_go_well.ensures bytes image before accepted (all-front (KeepsDevices image) events before later devices is)).stand.sound;
      promises = λ before later is.
          c.waiting_messages_keep_their_promises.ensures image (state_after (described image) before) (trace (described image) before)
          (c.events_go_well.ensures bytes image before accepted (all-front (KeepsDevices image) events before later devices is)).stand;
    }
