-- By the tests of the three rules.
use Rattle.std.proofs.Common.{◌∙◌, true, false, refl, sym}
use Rattle.model.specs.Acceptance.NotedStates.{image_slots}
use Rattle.program_rules.specs.point_rules.Points.{known_of}
use Rattle.program_rules.proofs.point_rules.EntryTests.{entry-by}
use Rattle.program_rules.proofs.point_rules.entries.entered.Goals as goal

pub returns-then-exceeds : goal.returns-then-exceeds
returns-then-exceeds c = λ image t slots is place same.
    entry-by image t c.args.thread.now (known_of slots c.args.state.now) c.args.at (image_slots image t.thread) c.start_values-words.result c.header.result
    true true true
    is place refl c.start_values-words.ensures c.header.ensures (sym c.start_within.ensures ∙ c.if-not-start_within.false)
    (sym same ∙ c.if-not-has_slots.false) (sym c.exceeds.ensures ∙ c.if-exceeds.true)

pub returns : goal.returns
returns c = λ image t slots is place same.
    entry-by image t c.args.thread.now (known_of slots c.args.state.now) c.args.at (image_slots image t.thread) c.start_values-words.result c.header.result
    true true false
    is place refl c.start_values-words.ensures c.header.ensures (sym c.start_within.ensures ∙ c.if-not-start_within.false)
    (sym same ∙ c.if-not-has_slots.false) (sym c.exceeds.ensures ∙ c.if-exceeds.false)
