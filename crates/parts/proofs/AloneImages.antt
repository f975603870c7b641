-- The image of a part alone: what it spells is accepted, or why it is not.
use Rattle.std.proofs.Common.{ℕ, ◌≡◌, ◌∙◌, ◌⊎◌, true, false, List, Some, Result, Ok, Err, IfErr, refl, sym, ap, subst, inl, inr}
use Rattle.headline.specs.parts.Laws.{PartsAboveAreUndisturbed, PartsRunAsAlone}
use Rattle.headline.specs.parts.Parts.{Part, alone}
use Rattle.image_reading.proofs.Laws.{one-image}
use Rattle.model.specs.Acceptance.Accepted.{AreKept, IsAccepted, IsWellFormed, first_breach}
use Rattle.model.specs.Acceptance.PointRules.{program_rules}
use Rattle.model.specs.Images.Format.{IsSpelling}
use Rattle.model.specs.Images.Image.{Image, whole_image}
use Rattle.model.specs.declared.refusals.Refusal.{Refusal}
use Rattle.model.specs.declared.refusals.Refusal.TheVariants.{OutOfMemory}
use Rattle.parts.specs.Alone.{WhyNotAlone}
use Rattle.parts.specs.Promises.{IsUndisturbed, RunsAsAlone}
use Rattle.parts.specs.Uses.{AreUses, is_part, part_of}
use Rattle.parts.specs.declared.alone.NotAlone.{NotAlone}
use Rattle.parts.specs.declared.alone.NotAlone.TheVariants.{Refused, Unfit}
use Rattle.parts.specs.declared.uses.Uses.{Uses}
use Rattle.parts.proofs.OfThreads.{part-is}

pub accepted-as : (bytes : List ℕ) (found image : Image) → IsAccepted bytes found → IsSpelling whole_image bytes image → IsAccepted bytes image
accepted-as bytes found image accepted spelled = subst (λ (i : Image). IsAccepted bytes i) (one-image bytes found image accepted.spelled spelled) accepted

pub memory-refused : (image : Image) (why : NotAlone) → why ≡ Refused OutOfMemory → WhyNotAlone image why
unfolding WhyNotAlone
memory-refused image why is = subst (λ (w : NotAlone). WhyNotAlone image w) (sym is) (inl refl)

pub if-memory : {T : Type 0} (r : Result T NotAlone) (image : Image) → IfErr r (λ why. why ≡ Refused OutOfMemory) → IfErr r (WhyNotAlone image)
if-memory (Ok x) image is = is
if-memory (Err why) image is = memory-refused image why is

-- what a `?` returns
pub returned : {T : Type 0} (r : Result T NotAlone) (why : NotAlone) (P : NotAlone → Type 0) → r ≡ Err why → P why → IfErr r P
returned r why P is holds = subst (λ s. IfErr s P) (sym is) holds

pub not-fit : (image : Image) → whole_image.fits image ≡ false → WhyNotAlone image Unfit
unfolding WhyNotAlone
not-fit image unfit = unfit

pub why-refused : (image : Image) (bytes : List ℕ) (refusal : Refusal) → IsSpelling whole_image bytes image
    → (refusal ≡ OutOfMemory) ⊎ (first_breach bytes ≡ Some refusal) → WhyNotAlone image (Refused refusal)
unfolding WhyNotAlone
why-refused image bytes refusal spelled (inl memory) = inl memory
why-refused image bytes refusal spelled (inr breach) = inr (subst (λ (l : List ℕ). first_breach l ≡ Some refusal) spelled.spelled breach)

-- the verifier's refusal of what was made of a copy
pub refused-alone : (image copy made : Image) (part : Part) (items bytes : List ℕ) (refusal : Refusal) → IsSpelling whole_image items made
    → made ≡ alone copy part → copy ≡ image → bytes ≡ items → (refusal ≡ OutOfMemory) ⊎ (first_breach bytes ≡ Some refusal)
    → WhyNotAlone (alone image part) (Refused refusal)
refused-alone image copy made part items bytes refusal spelled left same lent why =
    why-refused (alone image part) bytes refusal
    (subst (λ (l : List ℕ). IsSpelling whole_image l (alone image part)) (sym lent)
    (subst (λ (i : Image). IsSpelling whole_image items i) (left ∙ ap (λ (i : Image). alone i part) same) spelled)) why

-- the part by the numbers of its threads is the part
pub alone-is : (image : Image) (threads : ℕ) (all : List Uses) → AreUses image 0 image.threads all
    → alone image (is_part threads all) ≡ alone image (part_of image threads)
alone-is image threads all are = ap (alone image) (λ i object. part-is image threads all are object i)

-- ---- where it is accepted, what is promised of the part

-- an image is accepted by its own bytes
pub by-its-bytes : (image : Image) → whole_image.fits image ≡ true → IsWellFormed image → AreKept (program_rules image)
    → IsAccepted (whole_image.spelling image) image
by-its-bytes image fits formed programs = record { spelled = record { fits = fits; spelled = refl }; formed = formed; programs = programs }

module _ (image : Image) (part : Part) (bytes others : List ℕ) (whole : IsAccepted bytes image) (single : IsAccepted others (alone image part)) where
  pub runs-alone : PartsRunAsAlone → RunsAsAlone image part
  runs-alone law = λ nothing events keeps. law bytes others image part events whole single keeps nothing

  pub is-undisturbed : PartsAboveAreUndisturbed → IsUndisturbed image part
  is-undisturbed law = λ nothing above events keeps. law bytes others image part events whole single keeps nothing above
