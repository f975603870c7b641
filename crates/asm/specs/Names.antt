-- The names that are declared so far.
use Rattle.std.specs.Prelude.{◌≡◌, ℕ, ◌<◌, ◌^◌, ◌||◌, Bool, not, List, [], ◌∷◌, ◌++◌, Option, Some, None, MatchOption, is_some, unwrap_or, position, Result, Ok}
use Rattle.std.specs.Prelude.{Err}
use Rattle.std.specs.List.{list_any}
use Rattle.std.specs.Option.{option_map_or}
use Rattle.std.specs.Map.{lookup}
use Rattle.std.specs.Str.{bytes_eq}
use Rattle.model.specs.Images.Listing.{Text}
use Rattle.asm_line.specs.Words.{◌>>=◌}
use Rattle.asm.specs.Keys.{must}
use Rattle.asm.specs.declared.names.Source.{Source}
use Rattle.asm.specs.declared.names.Source.TheVariants.{Object, Handler}

-- Untypeds, objects and interrupts in the order of their lines. They share one name space.
pub record KnownNames : Type 0 where
  pub untypeds : List Text
  pub objects : List Text
  -- with the lines of the interrupts
  pub interrupts : List (Text × ℕ)

abbrev pub no_names : KnownNames
no_names = record { untypeds = []; objects = []; interrupts = [] }

-- the number that a name denotes: its place among those of its sort
abbrev pub number_of : List Text → Text → ℕ
number_of names name = unwrap_or (position (bytes_eq name) names) 0

-- a name is among these, at a place that a number gives
pub record IsNamed (names : List Text) (name : Text) : Type 0 where
  pub known : position (bytes_eq name) names ≡ Some (number_of names name)
  pub small : number_of names name < 2 ^ 32

abbrev pub line_of_name : KnownNames → Text → Option ℕ
line_of_name names name = lookup (bytes_eq name) names.interrupts

abbrev pub is_taken : KnownNames → Text → Bool
is_taken names name =
    list_any (bytes_eq name) names.untypeds || list_any (bytes_eq name) names.objects || is_some (line_of_name names name)

-- what a capability is made from: the handler of an interrupt or else an object
abbrev pub source_of : KnownNames → Text → Source
source_of names name = option_map_or (λ line. Handler line) (line_of_name names name) (Object (number_of names.objects name))

abbrev pub HasSource : KnownNames → Text → Type 0
HasSource names name = MatchOption (line_of_name names name) (IsNamed names.objects name) (λ _. Unit {0})

-- ---- what a name denotes, for every name

-- nothing has this name
abbrev pub free : KnownNames → Text → Result (Unit {0}) ℕ
free names name = must (not (is_taken names name)) 3

-- the number that a name denotes, or it is unknown
abbrev pub number_at : Option ℕ → Result ℕ ℕ
number_at place = elim place [ Some number ↦ Ok number | None ↦ Err 2 ]

unfoldable pub number_known : List Text → Text → Result ℕ ℕ
number_known names name = number_at (position (bytes_eq name) names)

unfoldable pub source_known : KnownNames → Text → Result Source ℕ
source_known names name = elim (line_of_name names name) [
  | Some line ↦ Ok (Handler line)
  | None ↦ number_known names.objects name >>= λ number.
      Ok (Object number)
]

-- ---- one name more

abbrev pub with_untyped_name : KnownNames → Text → KnownNames
with_untyped_name names name = record names { untypeds = names.untypeds ++ name ∷ [] }

abbrev pub with_object_name : KnownNames → Text → KnownNames
with_object_name names name = record names { objects = names.objects ++ name ∷ [] }

abbrev pub with_interrupt_name : KnownNames → Text → ℕ → KnownNames
with_interrupt_name names name number = record names { interrupts = names.interrupts ++ (name, number) ∷ [] }
