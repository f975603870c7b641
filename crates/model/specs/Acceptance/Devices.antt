-- What the world outside reads and writes: words of device pages.
use Rattle.std.specs.Prelude.{ℕ, ◌≡◌, ◌==◌, ◌+◌, ◌<◌, ◌≤◌, ◌&&◌, ⊤, Bool, true, false, nat_le}
use Rattle.std.specs.List.{list_any, range_with_len}
use Rattle.model.specs.declared.events.Event.{Event}
use Rattle.model.specs.declared.events.Event.TheVariants.{Step, Tick, Irq, Write, Read}
use Rattle.model.specs.Acceptance.WellFormed.{executes, is_device, is_frame_type}
use Rattle.model.specs.Images.Image.{Image}
use Rattle.model.specs.Images.Places.{offset_of, type_at}
use Rattle.model.specs.Kernel.AddressSpaces.{page_size}
use Rattle.model.specs.Kernel.Steps.{place_of}

-- whether the object is a device page with the four bytes from a place on
abbrev pub holds_word : Image → ℕ → ℕ → Bool
holds_word image place number =
    is_device image number && (nat_le (offset_of image number) place && nat_le (place + 4) (offset_of image number + page_size))

abbrev pub is_device_word : Image → ℕ → Bool
is_device_word image place = list_any (holds_word image place) (range_with_len 0 image.header.objects)

-- what the world does concerns such words alone
abbrev pub KeepsDevices : Image → Event → Type 0
KeepsDevices image Step = ⊤
KeepsDevices image Tick = ⊤
KeepsDevices image (Irq number) = ⊤
KeepsDevices image (Write address word) = is_device_word image (place_of address) ≡ true
KeepsDevices image (Read address) = is_device_word image (place_of address) ≡ true

-- the four bytes from a place on are in a frame of the image that it maps nowhere with execute
pub record IsOfData (image : Image) (place : ℕ) : Type 0 where
  pub frame : ℕ
  pub listed : frame < image.header.objects
  pub kind : is_frame_type (type_at image frame) ≡ true
  pub unexecuted : list_any (λ f. f.frame == frame && executes f) image.frames ≡ false
  pub begins : offset_of image frame ≤ place
  pub ends : place + 4 ≤ offset_of image frame + page_size
