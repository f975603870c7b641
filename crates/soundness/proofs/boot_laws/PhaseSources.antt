-- What the loader copies: the first capability to an object, in its boot slot.
use Rattle.std.proofs.Common.{ℕ, ◌≡◌, ◌≢◌, ◌<◌, ◌^◌, false, Option, Some, None, if◌then◌else◌, refl, ap, arith}
use Rattle.std.proofs.lemmas.Bool.{eq-eqb, ne_eqb}
use Rattle.model.specs.declared.capabilities.Cap.{Cap}
use Rattle.model.specs.Capabilities.Slots.{Slots, inserted, parent_at}
use Rattle.model.specs.Images.Image.{Image}
use Rattle.model.specs.Images.Places.{object_at, original_slot}
use Rattle.soundness.specs.boot_laws.Loading.{Progress, is_moved, loaded, original_so_far}
use Rattle.soundness.proofs.boot_laws.CallCopies.{IsSource}
use Rattle.soundness.proofs.boot_laws.CallDepths.{child-shallow}
use Rattle.soundness.proofs.boot_laws.PhaseHandlers.{enough-slots, same-radix}
use Rattle.soundness.proofs.boot_laws.PhaseStates.{Known, capability-read, parent-read}
use Rattle.soundness.proofs.boot_laws.PlacesObjects.{object-at}
use Rattle.soundness.proofs.boot_laws.Readings.{Reads, entry}

-- ---- one more slot filled

pub inserted-here : (slots : Slots) (slot : ℕ) (capability : Cap) (parent : Option ℕ) →
    inserted slots slot capability parent slot ≡ Some (entry capability parent)
inserted-here slots slot capability parent = ap (λ b. if b then Some (entry capability parent) else slots slot) (eq-eqb slot slot refl)

pub inserted-elsewhere : (slots : Slots) (slot : ℕ) (capability : Cap) (parent : Option ℕ) (other : ℕ) → other ≢ slot →
    inserted slots slot capability parent other ≡ slots other
inserted-elsewhere slots slot capability parent other apart = ap (λ b. if b then Some (entry capability parent) else slots other) (ne_eqb other slot apart)

-- ---- originals

module _ (image : Image) (p : Progress) (number : ℕ) (known : Known image p) (all : p.objects ≡ image.header.objects)
    (less : number < image.header.objects) where
  pub below-boot : original_slot image number < 2 ^ image.header.boot_radix
  below-boot = let enough = enough-slots image known.formed in omega (arith, enough, less)

  pub untyped-less : (object_at image number).untyped < image.header.untypeds
  untyped-less = (known.fits.object number (object_at image number) (object-at image number known.fits less)).untyped

  pub untyped-below : (object_at image number).untyped < 2 ^ image.header.boot_radix
  untyped-below = let enough = enough-slots image known.formed in omega (arith, enough, untyped-less)

  pub untyped-root : parent_at (loaded image p).slots (object_at image number).untyped ≡ None
  untyped-root = parent-read image p (object_at image number).untyped _ (known.boot.untyped (object_at image number).untyped untyped-less)

  module _ (stays : is_moved image p number ≡ false) where
    pub original-read : Reads image p (original_slot image number) (entry (original_so_far image p number) (Some (object_at image number).untyped))
    original-read = known.boot.original number (omega (arith, less, all)) stays

    pub original-parent : parent_at (loaded image p).slots (original_slot image number) ≡ Some (object_at image number).untyped
    original-parent = parent-read image p (original_slot image number) _ original-read

    pub original-source : IsSource (loaded image p) (original_slot image number) (original_so_far image p number)
    original-source = record {
      inside = rw (same-radix image p) below-boot;
      holds = capability-read image p (original_slot image number) _ original-read;
      shallow = child-shallow (loaded image p).slots (original_slot image number) (object_at image number).untyped original-parent untyped-root;
    }
