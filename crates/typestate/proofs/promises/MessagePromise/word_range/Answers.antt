-- A word of which something is promised, and one of which nothing is.
use Rattle.std.proofs.Common.{◌∙◌, ◌<◌, ◌≤◌, List, Option, length, ap, subst, sym, arith}
use Rattle.std.proofs.lemmas.Option.{slice_get_past}
use Rattle.std.specs.Option.{option_map_or}
use Rattle.std.specs.Prelude.{slice_get}
use Rattle.model.specs.Acceptance.Promises.{range_promised}
use Rattle.model.specs.Acceptance.Ranges.{full}
use Rattle.model.specs.Images.Image.{ImagePromise}
use Rattle.model.specs.declared.entries.PromisedWord.{PromisedWord}
use Rattle.typestate.proofs.promises.MessagePromise.word_range.Goals as goal

pub returns-then-index-count-clause-value : goal.returns-then-index-count-clause-value
returns-then-index-count-clause-value c =
    let beyond : length c.args.self.now.words ≤ c.args.index = subst (λ n. n ≤ c.args.index) c.count.ensures c.if-index-count.true in
    sym (ap (λ (o : Option PromisedWord). option_map_or range_promised o full) (slice_get_past c.args.self.now.words c.args.index beyond))

pub entry-word-requires : goal.entry-word-requires
entry-word-requires c = subst (λ (words : List PromisedWord). c.args.index < length words)
    (sym (c.words.ensures ∙ ap (λ (p : ImagePromise). p.words) c.self.view_is))
    (let less = c.if-index-count.false in let count = c.count.ensures in omega (arith, less, count))

pub returns-clause-value : goal.returns-clause-value
returns-clause-value c =
    sym (ap (λ (o : Option PromisedWord). option_map_or range_promised o full)
    (ap (λ (words : List PromisedWord). slice_get words c.args.index) (sym (c.words.ensures ∙ ap (λ (p : ImagePromise). p.words) c.self.view_is))
    ∙ c.entry-word.ensures))

pub returns-clause-ordered : goal.returns-clause-ordered
returns-clause-ordered c =
    c.self.invariant.ordered c.args.index c.entry-word.result
    (ap (λ (words : List PromisedWord). slice_get words c.args.index) (sym c.words.ensures) ∙ c.entry-word.ensures)
