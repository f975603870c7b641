-- What lines signal.
use Rattle.std.specs.Prelude.{ℕ, ◌≡◌, ◌==◌, find, length, List, Option, Some, None, option_map, slice_get}
use Rattle.std.specs.Option.{option_map_or}
use Rattle.model.specs.declared.entries.InterruptEntry.{InterruptEntry}
use Rattle.model.specs.Images.Image.{Image}
use Rattle.model.specs.Images.Places.{offset_of}
use Rattle.responses.specs.declared.lines.Bell.{Bell}

abbrev pub bell_for : Image → InterruptEntry → Bell
bell_for image i = record { notification = offset_of image i.notification; badge = i.badge }

-- what a line signals, by a list of that
abbrev pub bell_at : List (Option Bell) → ℕ → Option Bell
bell_at bells line = option_map_or (λ b. b) (slice_get bells line) None

-- of lines so far, by their numbers
pub record AreSoFar (image : Image) (count : ℕ) (bells : List (Option Bell)) : Type 0 where
  pub long : length bells ≡ count
  pub each : (line : ℕ) (bell : Option Bell) → slice_get bells line ≡ Some bell →
      bell ≡ option_map (bell_for image) (find (λ i. i.line == line) image.interrupts)

abbrev pub AreBells : Image → List (Option Bell) → Type 0
AreBells image bells = AreSoFar image 64 bells
