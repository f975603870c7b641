-- By the kind of the event: the label of all but a step is no fault and no error.
use Rattle.model.specs.declared.events.Event.TheVariants.{Step, Tick, Irq, Write, Read}
use Rattle.model.specs.Kernel.Steps.{place_of}
use Rattle.headline.specs.SafeRuns.{EventsKeepAllStanding}
use Rattle.headline.proofs.kept.Laws.{device-word}
use Rattle.headline.proofs.Labels.{irq-fine, read-fine, tick-fine, write-fine}
use Rattle.headline.proofs.event_laws.events_keep_all_standing.Goals as goal

pub returns : goal.returns
returns c = each
  where
    each : EventsKeepAllStanding
    each bytes image s labels Step accepted devices all = c.steps_go_well.ensures bytes image s labels accepted all
    each bytes image s labels Tick accepted devices all = record {
      faults = (tick-fine s).0;
      errors = (tick-fine s).1;
      stands = c.ticks_keep_all_standing.ensures bytes image s labels accepted all;
    }
    each bytes image s labels (Irq number) accepted devices all = record {
      faults = (irq-fine s number).0;
      errors = (irq-fine s number).1;
      stands = c.interrupts_keep_all_standing.ensures bytes image s labels number accepted all;
    }
    each bytes image s labels (Write address word) accepted devices all = record {
      faults = (write-fine s address word).0;
      errors = (write-fine s address word).1;
      stands = c.writes_keep_all_standing.ensures bytes image s labels address word accepted all (device-word bytes image (place_of address) accepted devices);
    }
    each bytes image s labels (Read address) accepted devices all = record {
      faults = (read-fine s address).0;
      errors = (read-fine s address).1;
      stands = c.reads_keep_all_standing.ensures bytes image s labels address accepted all;
    }
