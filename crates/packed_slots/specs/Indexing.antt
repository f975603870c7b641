-- What is known beside packed slots agrees with them.
use Rattle.std.specs.Prelude.{ℕ, Option, List}
use Rattle.model.specs.Capabilities.Slots.{Slots}
use Rattle.packed_slots.specs.Handlers.{AreCounted}
use Rattle.packed_slots.specs.NamedPages.{AreNamed}

pub record IsIndexed (slots : Slots) (counts : List ℕ) (named : List (Option ℕ)) : Type 0 where
  pub counted : AreCounted slots counts
  pub known : AreNamed slots named
