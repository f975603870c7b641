-- The line of a plain instruction, with its line feed.
use Rattle.std.specs.Prelude.{ℕ, List, [], ◌∷◌, ◌++◌}
use Rattle.model.specs.declared.labels.Label.TheVariants.{Ran}
use Rattle.model.specs.declared.labels.Outcome.TheVariants.{Plain}
use Rattle.model.specs.Shared.Trace.{line_of}

abbrev pub plain_text : ℕ → ℕ → List ℕ
plain_text thread pc = line_of (Ran thread pc Plain) ++ 0x0A ∷ []
