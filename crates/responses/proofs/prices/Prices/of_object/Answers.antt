-- By a search among objects that rise.
use Rattle.std.proofs.Common.{rules}
use Rattle.std.proofs.lemmas.List.Sorted.{answers_always}
use Rattle.responses.proofs.Rising.{absent-in, found-in}
use Rattle.responses.proofs.prices.Prices.of_object.Goals as goal

pub returns-in-Ok : goal.returns-in-Ok
returns-in-Ok c =
    let facts = c.in-Ok.ensures in
    found-in c.self.inside.list.items c.args.self.now c.deref.result.now c.deref.ensures.value c.self.view_is c.self.invariant c.args.object c.in-Ok.place
    facts.bound (facts.position (λ price. price.object) (answers_always _ _ _ (λ f a r g called. search rules))) c.index.result.now c.index.ensures

pub returns-in-Err : goal.returns-in-Err
returns-in-Err c =
    let facts = c.in-Err.ensures in
    absent-in c.self.inside.list.items c.args.self.now c.deref.result.now c.deref.ensures.value c.self.view_is c.self.invariant c.args.object c.in-Err.field-0
    (facts.position (λ price. price.object) (answers_always _ _ _ (λ f a r g called. search rules)))
