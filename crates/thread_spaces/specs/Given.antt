-- What an image gives a thread.
use Rattle.std.specs.Prelude.{ℕ, ◌≡◌, ◌<◌, ◌≤◌, Some, List, length, slice_get, slice_index}
use Rattle.model.specs.declared.entries.CapabilityEntry.{CapabilityEntry}
use Rattle.model.specs.Images.Image.{Image, Thread}
use Rattle.model.specs.Acceptance.WellFormed.{radix_of}
use Rattle.model.specs.Images.Places.{offset_of, type_at}

-- where the first so many objects lie
pub record AreOffsets (image : Image) (count : ℕ) (offsets : List ℕ) : Type 0 where
  pub size : length offsets ≡ count
  pub place : (number : ℕ) → number < count → slice_index offsets number ≡ offset_of image number

-- a thread that the image lists
pub record IsListed (image : Image) (t : Thread) : Type 0 where
  pub number : ℕ
  pub listed : slice_get image.threads number ≡ Some t

-- a CNode of the image
pub record IsCNode (image : Image) (number : ℕ) : Type 0 where
  pub inside : number < image.header.objects
  pub radix : ℕ
  pub is : radix_of (type_at image number) ≡ Some radix
  pub large : 1 ≤ radix
  pub small : radix ≤ 14

-- a capability that the image lists
pub record IsEntry (image : Image) (c : CapabilityEntry) : Type 0 where
  pub number : ℕ
  pub listed : slice_get image.capabilities number ≡ Some c
