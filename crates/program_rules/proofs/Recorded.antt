-- The ranges of a record, one after another.
use Rattle.std.proofs.Common.{List}
use Rattle.model.specs.Acceptance.Measures.{register_numbered}
use Rattle.model.specs.Acceptance.RangeRules.{range}
use Rattle.model.specs.Acceptance.Ranges.{with_range}
use Rattle.model.specs.declared.entries.RangeEntry.{RangeEntry}
use Rattle.model.specs.declared.ranges.Range.{Range}

abbrev pub with_entry : List Range → RangeEntry → List Range
with_entry ranges e = with_range ranges (register_numbered e.register) (range e.low e.high)
