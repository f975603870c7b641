-- Where the objects of an image lie: inside their untypeds, which lie in memory after the boot area, and apart.
use Rattle.std.specs.Prelude.{ℕ, ◌≢◌, ◌+◌, ◌^◌, ◌<◌, ◌≤◌, ◌⊎◌}
use Rattle.model.specs.declared.entries.UntypedEntry.{UntypedEntry}
use Rattle.model.specs.Acceptance.WellFormed.{untyped_end}
use Rattle.model.specs.Images.Image.{Image}
use Rattle.model.specs.Images.Places.{bits_of, object_at, offset_of, untyped_at}
use Rattle.model.specs.Kernel.State.{boot_area_end}

-- where an object ends
abbrev pub object_end : Image → ℕ → ℕ
object_end image number = offset_of image number + 2 ^ bits_of (object_at image number)

-- an object of an untyped, which is an entry of the image
pub record StandsInside (image : Image) (number : ℕ) (u : UntypedEntry) : Type 0 where
  pub is_entry : (object_at image number).untyped < image.header.untypeds
  pub behind_boot : boot_area_end image.header.boot_radix ≤ u.offset
  pub begins : u.offset ≤ offset_of image number
  pub ends : object_end image number ≤ untyped_end u
  pub in_memory : untyped_end u ≤ 2 ^ image.header.memory_bits

pub record StandApart (image : Image) : Type 0 where
  pub inside : (number : ℕ) → number < image.header.objects → StandsInside image number (untyped_at image (object_at image number).untyped)
  pub apart : (i j : ℕ) → i < image.header.objects → j < image.header.objects → i ≢ j
      → (object_end image i ≤ offset_of image j) ⊎ (object_end image j ≤ offset_of image i)
