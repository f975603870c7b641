-- What is put is what the call makes.
use Rattle.std.proofs.Common.{◌∙◌, ◌++◌, Result, Ok, List, sym, ap, subst}
use Rattle.model.specs.declared.refusals.Refusal.{Refusal}
use Rattle.model.specs.Acceptance.NotedStates.{NotedSlot}
use Rattle.typestate.specs.ChangeLists.{changes_of}
use Rattle.typestate.specs.Differences.{slots_of}
use Rattle.typestate.specs.Replays.{replayed}
use Rattle.typestate.specs.declared.log_entries.LogEntry.{LogEntry}
use Rattle.typestate.specs.SlotChanges.{left_or_refused}
use Rattle.typestate.specs.Strays.{NoneStray}
use Rattle.typestate.proofs.ChangesMake.{changes-make}
use Rattle.typestate.proofs.PutPlaces.{rise-of}
use Rattle.typestate.proofs.Rising.{changes-rise, from-first}
use Rattle.typestate.proofs.Standing.{found-own}
use Rattle.typestate.proofs.thread_slots.ThreadSlots.note_left.Goals as goal

pub returns-in_ok-note_change-in-Ok-clause-made : goal.returns-in_ok-note_change-in-Ok-clause-made
returns-in_ok-note_change-in-Ok-clause-made c =
    let n = c.args.self.now.slots in
    let slots = slots_of n in
    let change = c.in-Ok.change in
    let done : List LogEntry → Result (List NotedSlot) Refusal = λ l. Ok (replayed slots l) in
    let kept : List NotedSlot → Result (List NotedSlot) Refusal = λ l. Ok l in
    ap (left_or_refused slots) c.in-Ok.is
    ∙ ap kept (sym (changes-make n change (changes-rise n.image.now n.changes.now (from-first n.image.now n.rising))
    (λ key s found. (found-own c.args.self.now.space.image.now c.args.self.now.space.thread.now slots key s c.args.self.now.own found).full)))
    ∙ ap done (sym (c.in_ok-note_change-in-Ok.ensures ∙ ap (λ (l : List LogEntry). l ++ changes_of n change) c.requires.none))

pub returns-in_ok-note_change-in-Ok-clause-tidy : goal.returns-in_ok-note_change-in-Ok-clause-tidy
returns-in_ok-note_change-in-Ok-clause-tidy c = λ tidy none.
    let n = c.args.self.now.slots in
    let slots = slots_of n in
    let change = c.in-Ok.change in
    let image = c.args.self.now.space.image.now in
    let t = c.args.self.now.space.thread.now in
    let rises = changes-rise n.image.now n.changes.now (from-first n.image.now n.rising) in
    subst (NoneStray image t)
    (sym (changes-make n change rises (λ key s found. (found-own image t slots key s c.args.self.now.own found).full))
    ∙ ap (replayed slots) (sym (c.in_ok-note_change-in-Ok.ensures ∙ ap (λ (l : List LogEntry). l ++ changes_of n change) c.requires.none)))
    (c.tidy_changes_leave_no_stray_slot.ensures c.args.self.now.space slots change (rise-of slots 0 rises) none (sym c.is_tidy.ensures ∙ tidy))
