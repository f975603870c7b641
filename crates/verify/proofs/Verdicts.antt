-- From the rules on an image to the verdict on its bytes.
use Rattle.std.proofs.Common.{ℕ, ◌≡◌, ◌∙◌, ◌⊎◌, inl, inr, Some, None, Option, Result, Ok, Err, List, sym, ap, subst}
use Rattle.std.specs.Prelude.{IfErr, OnOk}
use Rattle.std.specs.Option.{option_or}
use Rattle.model.specs.Acceptance.Accepted.{AreKept, IsAccepted, IsWellFormed, breach_of, first_breach, first_in, phases}
use Rattle.model.specs.Acceptance.PointRules.{program_rules}
use Rattle.model.specs.Acceptance.Rules.{first_broken}
use Rattle.model.specs.Acceptance.ThreadRules.{thread_rules}
use Rattle.model.specs.Acceptance.WellFormed.{capability_rules, mapping_rules, object_rules}
use Rattle.model.specs.Images.Format.{reading}
use Rattle.model.specs.Images.Image.{Image, whole_image}
use Rattle.model.specs.declared.refusals.Refusal.{Refusal}
use Rattle.model.specs.declared.refusals.Refusal.TheVariants.{OutOfMemory}
use Rattle.image_reading.proofs.Laws.{IsBytes, reading-spelled}
use Rattle.wellformed.specs.Answering.{Answers}
use Rattle.wellformed.proofs.Laws.{accepted-no_breach, kept-none, none-broken}

-- ---- the rules on programs, of an image that is well formed

last-or : (o : Option Refusal) (refusal : Refusal) → o ≡ Some refusal → option_or o None ≡ Some refusal
last-or None refusal is = is
last-or (Some other) refusal is = is

breach-of-programs : (image : Image) (refusal : Refusal) → IsWellFormed image → first_broken (program_rules image) ≡ Some refusal →
    first_in (phases image) ≡ Some refusal
unfolding first_in
breach-of-programs image refusal formed is =
    rw (
      kept-none (object_rules image) formed.objects,
      kept-none (capability_rules image) formed.capabilities,
      kept-none (mapping_rules image) formed.mappings,
      kept-none (thread_rules image) formed.threads,
    )
    (last-or (first_broken (program_rules image)) refusal is)

pub programs-kept : (image : Image) (result : Result (Unit {0}) Refusal) → Answers (first_broken (program_rules image)) result →
    OnOk result (AreKept (program_rules image))
programs-kept image (Ok x) kept = none-broken (program_rules image) kept
programs-kept image (Err refusal) answers = tt

pub programs-told : (image : Image) (result : Result (Unit {0}) Refusal) → IsWellFormed image → Answers (first_broken (program_rules image)) result
    → IfErr result (λ refusal. (refusal ≡ OutOfMemory) ⊎ (first_in (phases image) ≡ Some refusal))
programs-told image (Ok x) formed kept = tt
programs-told image (Err refusal) formed (inl memory) = inl memory
programs-told image (Err refusal) formed (inr broken) = inr (breach-of-programs image refusal formed broken)

-- ---- the bytes

pub unread-first : (bytes : List ℕ) (refusal : Refusal) → Err refusal ≡ reading whole_image bytes → first_breach bytes ≡ Some refusal
unfolding first_breach
unread-first bytes refusal read = ap breach_of (sym read)

pub read-first : (bytes : List ℕ) (image : Image) (refusal : Refusal) → Ok image ≡ reading whole_image bytes → first_in (phases image) ≡ Some refusal →
    first_breach bytes ≡ Some refusal
unfolding first_breach
read-first bytes image refusal read is = ap breach_of (sym read) ∙ is

pub accepted : (bytes : List ℕ) (image : Image) → IsBytes bytes → reading whole_image bytes ≡ Ok image → IsWellFormed image → AreKept (program_rules image) →
    IsAccepted bytes image
accepted bytes image fits read formed programs = record { spelled = reading-spelled bytes image fits read; formed = formed; programs = programs }

-- what has a breach is accepted by no image
pub only-memory : (bytes : List ℕ) (image : Image) (refusal : Refusal) → (refusal ≡ OutOfMemory) ⊎ (first_breach bytes ≡ Some refusal) →
    IsAccepted bytes image → refusal ≡ OutOfMemory
only-memory bytes image refusal (inl memory) is = memory
only-memory bytes image refusal (inr breach) is =
    absurd (let clash : ◌≡◌ {A = Option Refusal} None (Some refusal) = sym (accepted-no_breach bytes image is) ∙ breach in cc)

-- ---- answers

-- the first breach of an image that was read is that of its bytes
pub breach-told : (bytes : List ℕ) (image : Image) (refusal : Refusal) → Ok image ≡ reading whole_image bytes →
    (refusal ≡ OutOfMemory) ⊎ (first_in (phases image) ≡ Some refusal)
    → (refusal ≡ OutOfMemory) ⊎ (first_breach bytes ≡ Some refusal)
breach-told bytes image refusal read (inl memory) = inl memory
breach-told bytes image refusal read (inr breach) = inr (read-first bytes image refusal read breach)

-- what is true of a refusal, of an answer that is it
pub told : {A : Type 0} (P : Refusal → Type 0) (result : Result A Refusal) (refusal : Refusal) → result ≡ Err refusal → P refusal → IfErr result P
told {A} P result refusal is holds = subst (λ (r : Result A Refusal). IfErr r P) (sym is) holds

-- what is read is not a refusal
pub untold : (bytes : List ℕ) (image : Image) (P : Refusal → Type 0) → Ok image ≡ reading whole_image bytes → IfErr (reading whole_image bytes) P
untold bytes image P read = subst (λ (r : Result Image Refusal). IfErr r P) read tt
