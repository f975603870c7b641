-- What the world outside writes is no thread's program: every thread stands on.
use Rattle.std.proofs.Common.{ℕ, ◌≡◌, ◌+◌, ◌<◌, ◌≤◌, ◌++◌, inl, inr, List, [], ◌∷◌, Option, refl, ap, arith}
use Rattle.headline.specs.facts.Standing.{AllStand}
use Rattle.headline.specs.moves.Ground.{SameGround}
use Rattle.headline.specs.moves.Laws.{Laws}
use Rattle.model.specs.declared.events.Event.TheVariants.{Write, Read}
use Rattle.model.specs.declared.labels.Label.{Label}
use Rattle.model.specs.declared.labels.Label.TheVariants.{Wrote}
use Rattle.model.specs.Acceptance.Accepted.{IsAccepted}
use Rattle.model.specs.Acceptance.Devices.{IsOfData}
use Rattle.model.specs.Acceptance.ThreadInvariants.{IsCode, tcb_of}
use Rattle.model.specs.Images.Image.{Image}
use Rattle.model.specs.Kernel.AddressSpaces.{page_size}
use Rattle.model.specs.Kernel.State.{Object, State}
use Rattle.model.specs.Kernel.Steps.{place_of, step}
use Rattle.model.specs.Kernel.World.{world_writes}
use Rattle.model.specs.Capabilities.Slots.{Slots}
use Rattle.soundness.specs.Machines.{SameBase, SameBesideBytes}
use Rattle.soundness.proofs.Laws.{written-beside, written-byte, written-whole}
use Rattle.headline.proofs.kept.Laws.{unexecuted-apart}
use Rattle.headline.proofs.moves.Interrupts.{unchanged-stand}
use Rattle.headline.proofs.moves.Puts.{other-label}

module _ (bytes : List ℕ) (image : Image) (accepted : IsAccepted bytes image) (s : State) (place word : ℕ) (data_frame : IsOfData image place) where
  -- no byte of code is one of the word's
  not-code : (frame other : ℕ) → IsCode image frame → frame ≤ other → other < frame + page_size → place ≤ other → other < place + 4 → ⊥
  not-code frame other code low high first last =
      let begins = IsOfData.begins data_frame in
      let ends = IsOfData.ends data_frame in
      elim (unexecuted-apart bytes image accepted (IsOfData.frame data_frame) (IsOfData.listed data_frame) (IsOfData.kind data_frame)
      (IsOfData.unexecuted data_frame) frame code) [
        | inl before ↦ omega (arith, before, begins, ends, low, high, first, last)
        | inr behind ↦ omega (arith, behind, begins, ends, low, high, first, last)
      ]

  code-kept : (frame other : ℕ) → IsCode image frame → frame ≤ other → other < frame + page_size
      → (world_writes s place word).bytes other ≡ s.bytes other
  code-kept frame other code low high = elim (written-byte s place word other) [
    | inl same ↦ same
    | inr (first, last, was, is) ↦ absurd (not-code frame other code low high first last)
  ]

  pub written-ground : SameGround image s (world_writes s place word)
  written-ground =
      let base = SameBesideBytes.base (written-beside s place word) in
      record {
        memory_bits = SameBase.memory_bits base;
        boot_radix = SameBase.boot_radix base;
        slots = λ slot. ap (λ (slots : Slots). slots slot) (SameBase.slots base);
        bytes = code-kept;
      }

pub all-over-write : Laws → (bytes : List ℕ) (image : Image) (s : State) (labels : List Label) (address word : ℕ) → IsAccepted bytes image
    → AllStand image s labels → IsOfData image (place_of address)
    → AllStand image (step s (Write address word)).0 (labels ++ (step s (Write address word)).1 ∷ [])
unfolding step
all-over-write laws bytes image s labels address word accepted all data_frame =
    let place = place_of address in
    unchanged-stand laws bytes image s labels (labels ++ Wrote address word ∷ []) accepted all
    (λ t listed. other-label (tcb_of image t) labels (Wrote address word) refl)
    (world_writes s place word) (written-whole s place word all.sound) (written-ground bytes image accepted s place word data_frame)
    (λ y. ap (λ (objects : ℕ → Option Object). objects y) (SameBesideBytes.objects (written-beside s place word)))

pub all-over-read : Laws → (bytes : List ℕ) (image : Image) (s : State) (labels : List Label) (address : ℕ) → IsAccepted bytes image
    → AllStand image s labels → AllStand image (step s (Read address)).0 (labels ++ (step s (Read address)).1 ∷ [])
unfolding step
all-over-read laws bytes image s labels address accepted all =
    let label = (step s (Read address)).1 in
    unchanged-stand laws bytes image s labels (labels ++ label ∷ []) accepted all (λ t listed. other-label (tcb_of image t) labels label refl)
    s all.sound (record { memory_bits = refl; boot_radix = refl; slots = λ slot. refl; bytes = λ frame place code low high. refl }) (λ y. refl)
