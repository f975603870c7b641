-- By the order of the keys.
use Rattle.std.proofs.Common.{rules, ◌∙◌, Some, Ok, Err, sym, ap}
use Rattle.std.proofs.lemmas.List.Sorted.{answers_always}
use Rattle.model.specs.Acceptance.NotedStates.{NotedSlot, number_of}
use Rattle.typestate.proofs.Searched.{searched-number}
use Rattle.typestate.proofs.noted.numbered.Goals as goal

pub returns-in-Ok : goal.returns-in-Ok
returns-in-Ok c =
    let slots = c.args.slots.now in
    let by_key = c.in-Ok.ensures.position (λ (s : NotedSlot). number_of s.key) (answers_always _ _ _ (λ f a r g called. search rules)) in
    ap (λ (s : NotedSlot). Some s) c.index-slots-place.is
    ∙ sym (searched-number slots c.args.number (Ok c.in-Ok.place) c.requires c.in-Ok.ensures.bound by_key c.index-slots-place.result)

pub returns-in-Err : goal.returns-in-Err
returns-in-Err c =
    let slots = c.args.slots.now in
    let place = c.in-Err.field-0 in
    let by_key = c.in-Err.ensures.position (λ (s : NotedSlot). number_of s.key) (answers_always _ _ _ (λ f a r g called. search rules)) in
    sym (searched-number slots c.args.number (Err place) c.requires c.in-Err.ensures.bound by_key)
