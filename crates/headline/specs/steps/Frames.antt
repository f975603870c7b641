-- What the rules on a well-formed image say of the frames that it maps.
use Rattle.std.specs.Prelude.{ℕ, ◌≡◌, ◌≤◌, ◌<◌, false, true, Some, slice_get}
use Rattle.model.specs.declared.entries.FrameEntry.{FrameEntry}
use Rattle.model.specs.Acceptance.WellFormed.{are_frame_rights, has_writable_code, is_frame_type}
use Rattle.model.specs.Images.Image.{Image}
use Rattle.model.specs.Images.Places.{offset_of, type_at}

pub record FrameIsKept (image : Image) (item : ℕ) (f : FrameEntry) : Type 0 where
  pub rights : are_frame_rights f.rights ≡ true
  pub fits : f.rights ≤ 7
  pub code : has_writable_code image (item, f) ≡ false
  pub object : f.frame < image.header.objects
  pub frame : is_frame_type (type_at image f.frame) ≡ true

pub record FramesAreKept (image : Image) : Type 0 where
  pub each : (item : ℕ) (f : FrameEntry) → slice_get image.frames item ≡ Some f → FrameIsKept image item f
  -- no two frames lie at one place
  pub apart : (i j : ℕ) → i < image.header.objects → j < image.header.objects → is_frame_type (type_at image i) ≡ true → is_frame_type (type_at image j) ≡ true
      → offset_of image i ≡ offset_of image j → i ≡ j
