-- By the kind of the entry.
use Rattle.std.proofs.Common.{◌∙◌, sym, ap}
use Rattle.typestate.specs.Differences.{changed}
use Rattle.typestate.specs.Replays.{with_entry}
use Rattle.typestate.specs.declared.log_entries.LogEntry.{LogEntry}
use Rattle.typestate.proofs.OrderedChanges.{put-changes}
use Rattle.typestate.proofs.Replayed.{swapped-changes, swapped-rise}
use Rattle.typestate.proofs.shown.ShownChanges.make.Goals as goal

pub returns-in_ok-put-in-Sets-clause-same : goal.returns-in_ok-put-in-Sets-clause-same
returns-in_ok-put-in-Sets-clause-same c = λ slots rises unlinked.
    let old = c.args.self.now in
    put-changes slots old c.put.new.self c.in-Sets.change rises c.requires c.in_ok-put-in-Sets.ensures.rising c.in_ok-put-in-Sets.ensures.same
    ∙ ap (λ (e : LogEntry). with_entry (changed slots old) e) (sym c.in-Sets.is)

pub returns-in_ok-swap-in-Swaps-clause-rising : goal.returns-in_ok-swap-in-Swaps-clause-rising
returns-in_ok-swap-in-Swaps-clause-rising c = swapped-rise c.in-Swaps.one c.in-Swaps.other c.args.self.now c.swap.new.self c.in_ok-swap-in-Swaps.ensures
    c.requires

pub returns-in_ok-swap-in-Swaps-clause-same : goal.returns-in_ok-swap-in-Swaps-clause-same
returns-in_ok-swap-in-Swaps-clause-same c = λ slots rises unlinked.
    let old = c.args.self.now in
    ap (changed slots) c.in_ok-swap-in-Swaps.ensures ∙ swapped-changes c.in-Swaps.one c.in-Swaps.other slots old rises unlinked c.requires
    ∙ ap (λ (e : LogEntry). with_entry (changed slots old) e) (sym c.in-Swaps.is)
