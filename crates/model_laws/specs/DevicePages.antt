-- Solo with a device page: its object 3 at 0xB000, or its code page, object 0 at 0x8000.
use Rattle.std.specs.Prelude.{ℕ, Some, List, [], ◌∷◌, slice_set}
use Rattle.model.specs.declared.entries.FrameEntry.{FrameEntry}
use Rattle.model.specs.Images.Image.{Image}
use Rattle.model.specs.Kernel.State.{State, EndpointObject, new_endpoint, put}
use Rattle.model_laws.specs.Setups.{framed}
use Rattle.model_laws.specs.Solo.{solo_image}
use Rattle.model_laws.specs.Variants.{frame}

-- this object is a device page, and these frames are mapped
abbrev pub with_device : ℕ → List FrameEntry → Image
with_device object frames = record solo_image {
  header = record solo_image.header { version = 4 };
  objects = slice_set solo_image.objects object (record { untyped = 0; kind = 6; size = 1 });
  frames = frames;
}

-- its data page is one, mapped with these rights
abbrev pub device : ℕ → Image
device rights = with_device 3 (frame 1 0x1000 0 4 ∷ frame 1 0x2000 3 rights ∷ [])

-- its code page is one
abbrev pub code_device : Image
code_device = with_device 0 (frame 1 0x1000 0 4 ∷ frame 1 0x2000 3 3 ∷ [])

-- an endpoint is where the frame of another machine is
abbrev pub endpoint_there : State
endpoint_there = record framed { objects = put framed.objects 0x1000 (Some (EndpointObject new_endpoint)) }
