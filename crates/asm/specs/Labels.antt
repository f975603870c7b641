-- The labels of each thread, as the first way over a text finds them.
use Rattle.std.specs.Prelude.{ℕ, ◌+◌, ◌-◌, ◌^◌, ◌==◌, Bool, false, min, List, [], ◌∷◌, ◌++◌, Option, Some, None, is_some, option_map, if◌then◌else◌}
use Rattle.std.specs.Option.{option_map_or}
use Rattle.std.specs.Map.{lookup}
use Rattle.std.specs.Str.{bytes_eq}
use Rattle.model.specs.Images.Listing.{Text}
use Rattle.asm_line.specs.declared.lines.Line.{Line}
use Rattle.asm_line.specs.declared.lines.Line.TheVariants as line
use Rattle.asm.specs.declared.labels.Place.{Place}

-- the labels of a thread in the order of their first lines, and how many words its program has so far
pub record FoundLabels : Type 0 where
  pub places : List (Text × Place)
  pub points : ℕ

abbrev pub no_labels : FoundLabels
no_labels = record { places = []; points = 0 }

abbrev pub place_named : FoundLabels → Text → Option Place
place_named labels name = lookup (bytes_eq name) labels.places

-- the point that a label names
abbrev pub point_of : FoundLabels → Text → ℕ
point_of labels name = option_map_or (λ place. place.point) (place_named labels name) 0

-- a label is first on this line
abbrev pub is_first_on : FoundLabels → Text → ℕ → Bool
is_first_on labels name number = option_map_or (λ place. place.line == number) (place_named labels name) false

-- a label on a line, where it has not been before
abbrev pub with_label : FoundLabels → Text → ℕ → FoundLabels
with_label labels name number =
    if is_some (place_named labels name) then labels
    else record labels { places = labels.places ++ (name, record { line = number; point = labels.points }) ∷ [] }

-- one word more
abbrev pub with_point : FoundLabels → FoundLabels
with_point labels = record labels { points = min (labels.points + 1) (2 ^ 32 - 1) }

-- one word more, with the label before it
abbrev pub with_code : FoundLabels → Option Text → ℕ → FoundLabels
with_code labels label number = with_point (option_map_or (λ name. with_label labels name number) label labels)

-- ---- the first way over a text

-- the labels of the threads up to some line; those of the one that is not at its end
pub record Searched : Type 0 where
  pub threads : List FoundLabels
  pub open_labels : Option FoundLabels

abbrev pub nothing_searched : Searched
nothing_searched = record { threads = []; open_labels = None }

abbrev pub closed : Searched → Searched
closed s = record { threads = option_map_or (λ labels. s.threads ++ labels ∷ []) s.open_labels s.threads; open_labels = None }

abbrev pub in_open : (FoundLabels → FoundLabels) → Searched → Searched
in_open change s = record s { open_labels = option_map change s.open_labels }

abbrev pub begun : Searched → Searched
begun s = if is_some s.open_labels then s else record s { open_labels = Some no_labels }

-- after a line with this number
abbrev pub searched_line : Searched → ℕ → Line → Searched
searched_line s number (line.Thread t) = begun s
searched_line s number line.End = closed s
searched_line s number (line.Label name) = in_open (λ labels. with_label labels name number) s
searched_line s number (line.Code label code) = in_open (λ labels. with_code labels label number) s
searched_line s number _ = s

-- the number of the line after one: numbers stop at the greatest of 64 bits
abbrev pub next_number : ℕ → ℕ
next_number number = min (number + 1) (2 ^ 64 - 1)

abbrev pub searched_from : ℕ → Searched → List Line → Searched
searched_from number s [] = s
searched_from number s (said ∷ others) = searched_from (next_number number) (searched_line s (next_number number) said) others

-- the labels of each thread of a text whose lines say this
abbrev pub labels_in : List Line → List FoundLabels
labels_in said = (closed (searched_from 0 nothing_searched said)).threads
