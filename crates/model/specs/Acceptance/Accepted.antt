-- Acceptance: all rules in their order, what the first breach of the bytes of an image is, and which bytes have none.
use Rattle.std.specs.Prelude.{◌≡◌, ℕ, Option, Some, None, Result, Ok, Err, List, [], ◌∷◌, ◌++◌, All, Contains}
use Rattle.std.specs.Option.{option_or}
use Rattle.model.specs.declared.refusals.Refusal.{Refusal}
use Rattle.model.specs.Images.Format.{IsSpelling, reading}
use Rattle.model.specs.Images.Image.{Image, whole_image}
use Rattle.model.specs.Acceptance.PointRules.{program_rules}
use Rattle.model.specs.Acceptance.Rules.{Rule, first_broken}
use Rattle.model.specs.Acceptance.ThreadRules.{thread_rules}
use Rattle.model.specs.Acceptance.WellFormed.{capability_rules, mapping_rules, object_rules}

-- The rules on an image that was read, phase after phase.
abbrev pub phases : Image → List (List Rule)
phases image =
    object_rules image ∷ capability_rules image ∷ mapping_rules image ∷ thread_rules image ∷ program_rules image ∷ []

-- ---- the first breach: a phase is looked at only where those before it have none

unfoldable pub first_in : List (List Rule) → Option Refusal
first_in [] = None
first_in (rules ∷ later) = option_or (first_broken rules) (first_in later)

abbrev pub breach_of : Result Image Refusal → Option Refusal
breach_of (Err refusal) = Some refusal
breach_of (Ok image) = first_in (phases image)

-- what the bytes are refused as, if they are; bytes that cannot be read are refused as reading says
unfoldable pub first_breach : List ℕ → Option Refusal
first_breach bytes = breach_of (reading whole_image bytes)

-- ---- breaches and acceptance

abbrev pub AreKept : List Rule → Type 0
AreKept rules = All (λ rule. rule ≡ None) rules

-- The bytes offend a rule that refuses them so: a rule of a phase counts where all phases before it are kept.
pub data Breach (bytes : List ℕ) : Refusal → Type 0 where
  unread : (refusal : Refusal) → reading whole_image bytes ≡ Err refusal → Breach bytes refusal
  broken : (refusal : Refusal) (image : Image) (before later : List (List Rule)) (rules : List Rule)
      → reading whole_image bytes ≡ Ok image → phases image ≡ before ++ rules ∷ later → All AreKept before
      → Contains rules (Some refusal) → Breach bytes refusal

pub record IsWellFormed (image : Image) : Type 0 where
  pub objects : AreKept (object_rules image)
  pub capabilities : AreKept (capability_rules image)
  pub mappings : AreKept (mapping_rules image)
  pub threads : AreKept (thread_rules image)

-- The bytes spell a well-formed image whose threads keep the rules at their entries and at all points with a state.
pub record IsAccepted (bytes : List ℕ) (image : Image) : Type 0 where
  pub spelled : IsSpelling whole_image bytes image
  pub formed : IsWellFormed image
  pub programs : AreKept (program_rules image)
