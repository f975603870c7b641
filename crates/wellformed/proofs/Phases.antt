-- The first breach of the phases before programs is the first breach of all.
use Rattle.std.proofs.Common.{◌≡◌, ◌⊎◌, ◌∷◌, [], inl, inr, List, None, Option, Some, Result, Ok, Err}
use Rattle.std.specs.Prelude.{IfErr}
use Rattle.std.specs.Option.{option_or}
use Rattle.model.specs.declared.refusals.Refusal.{Refusal}
use Rattle.model.specs.declared.refusals.Refusal.TheVariants.{OutOfMemory}
use Rattle.model.specs.Acceptance.Accepted.{first_in, phases}
use Rattle.model.specs.Acceptance.PointRules.{program_rules}
use Rattle.model.specs.Acceptance.Rules.{Rule, first_broken}
use Rattle.model.specs.Acceptance.ThreadRules.{thread_rules}
use Rattle.model.specs.Acceptance.WellFormed.{capability_rules, mapping_rules, object_rules}
use Rattle.model.specs.Images.Image.{Image}
use Rattle.wellformed.specs.Answering.{form_rules}

either : (first : Option Refusal) (rest more : Option Refusal) (refusal : Refusal) → (rest ≡ Some refusal → more ≡ Some refusal) →
    option_or first rest ≡ Some refusal → option_or first more ≡ Some refusal
either None rest more refusal later is = later is
either (Some r) rest more refusal later is = is

longer : (rules : List Rule) (later more : List (List Rule)) (refusal : Refusal) → (first_in later ≡ Some refusal → first_in more ≡ Some refusal)
    → first_in (rules ∷ later) ≡ Some refusal → first_in (rules ∷ more) ≡ Some refusal
unfolding first_in
longer rules later more refusal same is = either (first_broken rules) (first_in later) (first_in more) refusal same is

nothing : (more : List (List Rule)) (refusal : Refusal) → first_in [] ≡ Some refusal → first_in more ≡ Some refusal
unfolding first_in
nothing more refusal is = absurd (let clash : ◌≡◌ {A = Option Refusal} None (Some refusal) = is in cc)

pub first-of-all : (image : Image) (refusal : Refusal) → first_in (form_rules image) ≡ Some refusal → first_in (phases image) ≡ Some refusal
first-of-all image refusal is =
    longer (object_rules image) (capability_rules image ∷ mapping_rules image ∷ thread_rules image ∷ [])
    (capability_rules image ∷ mapping_rules image ∷ thread_rules image ∷ program_rules image ∷ []) refusal
    (longer (capability_rules image) (mapping_rules image ∷ thread_rules image ∷ []) (mapping_rules image ∷ thread_rules image ∷ program_rules image ∷ [])
    refusal
    (longer (mapping_rules image) (thread_rules image ∷ []) (thread_rules image ∷ program_rules image ∷ []) refusal
    (longer (thread_rules image) [] (program_rules image ∷ []) refusal (nothing (program_rules image ∷ []) refusal)))) is

-- so a refusal is the first breach, or out of memory
pub told_first : (image : Image) (result : Result (Unit {0}) Refusal) →
    IfErr result (λ refusal. (refusal ≡ OutOfMemory) ⊎ (first_in (form_rules image) ≡ Some refusal))
    → IfErr result (λ refusal. (refusal ≡ OutOfMemory) ⊎ (first_in (phases image) ≡ Some refusal))
told_first image (Ok x) told = tt
told_first image (Err refusal) (inl memory) = inl memory
told_first image (Err refusal) (inr breach) = inr (first-of-all image refusal breach)
