-- One entry more.
use Rattle.std.proofs.Common.{◌∙◌, take, sym, ap, List}
use Rattle.std.proofs.lemmas.List.Sums.{fold_more}
use Rattle.model.specs.Acceptance.NotedStates.{NotedSlot}
use Rattle.typestate.specs.Differences.{changed}
use Rattle.typestate.specs.Replays.{replayed, with_entry}
use Rattle.typestate.proofs.shown.ShownChanges.make_all.Goals as goal

pub loop-entry-preserved : goal.loop-entry-preserved
loop-entry-preserved c =
    let made = c.args.made.now in
    let i = c.loop-entry.entry-index in
    let entry = c.entry-item.result in
    let inv = c.loop-entry.invariant in (
      c.in_ok-make.ensures.rising,
      λ slots rises unlinked.
          let base = changed slots c.args.self.now in
          c.in_ok-make.ensures.same slots rises unlinked
          ∙ ap (λ (before : List NotedSlot). with_entry before entry) (inv.1 slots rises unlinked)
          ∙ ap (with_entry (replayed base (take i made))) c.entry-item.is
          ∙ sym (fold_more with_entry base made i entry c.loop-entry-test.true),
    )
