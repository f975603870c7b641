-- By the order of the keys.
use Rattle.std.proofs.Common.{rules, ◌∙◌, is_some, ap}
use Rattle.std.proofs.lemmas.List.Sorted.{answers_always}
use Rattle.model.specs.Acceptance.NotedStates.{NotedSlot, number_of}
use Rattle.typestate.specs.Families.{found}
use Rattle.typestate.proofs.Searched.{is-found}
use Rattle.typestate.proofs.removal.Removal.is_below.Goals as goal

pub returns : goal.returns
returns c =
    let slots = c.args.self.now.below.now in
    let by_key = c.binary_search_by_key.ensures.position (λ (s : NotedSlot). number_of s.key) (answers_always _ _ _ (λ f a r g called. search rules)) in
    c.is_ok.ensures.value ∙ is-found slots c.number-number.result c.binary_search_by_key.result c.args.self.now.ordered c.binary_search_by_key.ensures.bound
    by_key
    ∙ ap (λ n. is_some (found slots n)) c.number-number.ensures
