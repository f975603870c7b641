-- What a removal affects.
use Rattle.std.specs.Prelude.{List}
use Rattle.std.specs.Option.{option_map_or}
use Rattle.model.specs.Acceptance.NotedStates.{NotedSlot}
use Rattle.typestate.specs.declared.levels.Affected.{Affected}

-- the changes whose slots were derived from one that goes or is named
abbrev pub touched_of : Affected → List NotedSlot
touched_of affected = option_map_or (λ touched. touched.items) affected.others affected.below.items
