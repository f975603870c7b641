-- How much of each untyped the first objects of an image use.
use Rattle.std.specs.Prelude.{ℕ, ◌≡◌, ◌*◌, ◌^◌, ◌<◌, ◌≤◌, List, length, slice_index, take}
use Rattle.model.specs.Images.Image.{Image}
use Rattle.model.specs.Images.Places.{used_by}

-- so much of each untyped is used by so many objects, which is little
pub record IsUsed (image : Image) (count : ℕ) (amounts : List ℕ) : Type 0 where
  pub size : length amounts ≡ 64
  pub used : (untyped : ℕ) → untyped < 64 → slice_index amounts untyped ≡ used_by (take count image.objects) untyped
  pub low : (untyped : ℕ) → untyped < 64 → slice_index amounts untyped ≤ 2 ^ 32 * count
