-- Lists of slots that pass a test.
use Rattle.std.specs.Prelude.{ℕ, ◌≡◌, Bool, List, if◌then◌else◌}
use Rattle.model.specs.Shared.Lists.{times_in}

-- the list has each slot that passes once, and nothing else
abbrev pub Lists : List ℕ → (ℕ → Bool) → Type 0
Lists list member = (slot : ℕ) → times_in list slot ≡ (if member slot then 1 else 0)
