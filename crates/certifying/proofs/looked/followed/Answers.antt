-- The log keeps the part that is shown, and what follows is appended.
use Rattle.std.proofs.Common.{◌∙◌, List, sym, ap, subst}
use Rattle.model.specs.Acceptance.NotedStates.{NotedSlot}
use Rattle.typestate.specs.Replays.{replayed}
use Rattle.typestate.specs.declared.log_entries.LogEntry.{LogEntry}
use Rattle.typestate.specs.Logs.{KeepsParts, Shows, ShowsSome}
use Rattle.typestate.specs.declared.logs.Part.{Part}
use Rattle.typestate.specs.declared.logs.ShownPart.{ShownPart}
use Rattle.certifying.proofs.looked.followed.Goals as goal

still-shown : (old new : List LogEntry) (part : Part) (shown : ShownPart) → KeepsParts old new → Shows old part shown → ShowsSome new shown
still-shown old new part shown keeps shows = subst (λ (p : Part). Shows new p shown) (sym shows.part_is) (record {
  part_is = shows.part_is;
  held = (keeps part shows.held).0;
  rising = shows.rising;
  same = λ slots rises unlinked. shows.same slots rises unlinked ∙ ap (replayed slots) (sym (keeps part shows.held).1);
})

pub show-requires-clause-old : goal.show-requires-clause-old
show-requires-clause-old c = still-shown c.args.log.now c.follow.new.self c.args.part c.args.shown.now c.in_ok-longer.ensures.others c.requires

pub returns-clause-same : goal.returns-clause-same
returns-clause-same c = λ slots rises unlinked.
    c.in_ok-show.ensures.same slots rises unlinked ∙ c.in_ok-longer.ensures.same slots rises
    ∙ ap (λ (l : List NotedSlot). replayed l c.args.made.now) (sym (c.requires.same slots rises unlinked))
