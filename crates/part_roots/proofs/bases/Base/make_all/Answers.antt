use Rattle.std.proofs.Common.{◌∙◌, List, take, sym, ap, subst}
use Rattle.std.proofs.lemmas.List.Sums.{fold_more}
use Rattle.model.specs.Acceptance.NotedStates.{NotedSlot}
use Rattle.part_roots.specs.Held.{SaysIn}
use Rattle.part_roots.proofs.bases.Base.make_all.Goals as goal
use Rattle.typestate.specs.Differences.{slots_of}
use Rattle.typestate.specs.Replays.{replayed, with_entry}

pub loop-entry-init : goal.loop-entry-init
loop-entry-init c = λ slots unlinked says. says

pub loop-entry-preserved : goal.loop-entry-preserved
loop-entry-preserved c = λ slots unlinked says.
    let entries = c.args.entries.now in
    let i = c.loop-entry.entry-index in
    let inv = c.loop-entry.invariant slots unlinked says in
    subst (λ (all : List NotedSlot). SaysIn c.args.self.now c.make.new.draft (slots_of c.args.image.now) all)
    (ap (with_entry (replayed slots (take i entries))) c.entry-item.is ∙ sym (fold_more with_entry slots entries i c.entry-item.result c.loop-entry-test.true))
    (c.in_ok-make.ensures c.if-not-branch.false (replayed slots (take i entries)) unlinked inv)
