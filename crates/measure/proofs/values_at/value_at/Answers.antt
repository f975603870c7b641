-- Registers that hold words are constants.
use Rattle.std.proofs.Common.{◌≡◌, ◌∙◌, rules, to_z, of_z}
use mir.Syntax.{w128}
use Rattle.measure.specs.Measures.{measure_of}
use Rattle.measure.proofs.MeasuredValues.{constant-measured}
use Rattle.measure.proofs.values_at.value_at.Goals as goal

pub returns : goal.returns
returns c =
    let kept : to_z w128 (of_z w128 c.constant_of.result) ≡ c.constant_of.result = search rules in
    kept ∙ c.constant_of.ensures.value ∙ constant-measured (measure_of c.args.measure.now) (record { pc = 0; words = c.args.words.now })
