-- The measure of the rules that a measure of the code represents.
use Rattle.std.specs.Prelude.{take}
use Rattle.model.specs.Acceptance.Measures.{Measure}
use Rattle.measure.specs.declared.measures.Measure.{Measure as Kept}

abbrev pub measure_of : Kept → Measure
measure_of m = record { constant = m.constant; terms = take m.count m.terms }
