-- By what a promise is.
use Rattle.std.proofs.Common.{◌∙◌, ◌≤◌, List, length, ap, subst, sym}
use Rattle.model.specs.Images.Image.{ImagePromise}
use Rattle.model.specs.declared.entries.PromisedWord.{PromisedWord}
use Rattle.typestate.proofs.promises.MessagePromise.words.Goals as goal

pub returns-clause-value : goal.returns-clause-value
returns-clause-value c = c.words.ensures ∙ ap (λ (p : ImagePromise). p.words) c.self.view_is

pub returns-clause-few : goal.returns-clause-few
returns-clause-few c = subst (λ (words : List PromisedWord). length words ≤ 8) (sym c.words.ensures) c.self.invariant.few
