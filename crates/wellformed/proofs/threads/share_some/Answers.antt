-- By one number more.
use Rattle.std.proofs.Common.{◌∙◌, sym}
use Rattle.model.specs.Acceptance.ThreadRules.{is_member}
use Rattle.image_reading.proofs.Laws.{any-here}
use Rattle.wellformed.proofs.Named.{any-next}
use Rattle.wellformed.proofs.threads.share_some.Goals as goal

pub returns-then-contains : goal.returns-then-contains
returns-then-contains c =
    sym (any-here (λ n. is_member n c.args.others.now) c.args.numbers.now c.loop-place.place c.at.result c.at.ensures
    (sym c.contains.ensures ∙ c.if-contains.true))

pub loop-place-preserved : goal.loop-place-preserved
loop-place-preserved c =
    any-next (λ n. is_member n c.args.others.now) c.args.numbers.now c.loop-place.place c.at.result c.at.ensures (sym c.contains.ensures ∙ c.if-contains.false)
    c.loop-place.invariant
