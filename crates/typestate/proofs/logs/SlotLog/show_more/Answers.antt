-- The entries behind what was shown are made behind those.
use Rattle.std.proofs.Common.{◌≡◌, ◌∙◌, ◌-◌, List, drop, take, refl, ap}
use Rattle.typestate.specs.Differences.{changed}
use Rattle.typestate.specs.Replays.{replayed}
use Rattle.typestate.specs.declared.log_entries.LogEntry.{LogEntry}
use Rattle.typestate.proofs.LogParts.{next-changes}
use Rattle.typestate.proofs.logs.SlotLog.show_more.Goals as goal

pub returns : goal.returns
returns c =
    let old = c.args.shown.now in
    let same : c.deref.result.now ≡ c.args.self.now = c.deref.ensures.value ∙ c.self.view_is in
    record {
      part_is = refl;
      held = c.requires.held;
      rising = c.in_ok-make_all.ensures.rising;
      same = next-changes c.args.self.now old.changes c.make_all.new.self old.part c.args.part c.requires.old.held c.requires.held c.requires.next
          c.requires.old.same (λ slots rises unlinked. c.in_ok-make_all.ensures.same slots rises unlinked
          ∙ ap (λ (log : List LogEntry). replayed (changed slots old.changes) (take (c.args.part.end - old.part.end) (drop old.part.end log))) same);
    }
