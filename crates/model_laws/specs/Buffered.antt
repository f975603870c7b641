-- Images whose threads have message buffers: solo, with one of its objects as the buffer, and what it differs by.
use Rattle.std.specs.Prelude.{ℕ, Bool, Option, List, [], ◌∷◌, map, slice_get}
use Rattle.model.specs.declared.entries.CapabilityEntry.{CapabilityEntry}
use Rattle.model.specs.declared.entries.FrameEntry.{FrameEntry}
use Rattle.model.specs.Images.BootCalls.{LoaderCall, all_calls}
use Rattle.model.specs.Images.Image.{Image, Thread}
use Rattle.model_laws.specs.Solo.{solo_image, two_threads}
use Rattle.model_laws.specs.Variants.{other_header}

abbrev pub with_buffer : ℕ → Image → Image
with_buffer buffer image = record image {
  header = record image.header { version = 3 };
  threads = map (other_header (λ h. record h { buffer = buffer })) image.threads;
}

-- solo, whose thread has this object as its buffer
abbrev pub buffered : ℕ → Image
buffered buffer = with_buffer buffer solo_image

-- its data page is the buffer, and a capability in its CNode too
abbrev pub buffered_and_held : CapabilityEntry → Image
buffered_and_held c =
    let image = buffered 3 in
    record image { header = record image.header { capabilities = 1 }; capabilities = c ∷ [] }

-- or it is mapped so, under whatever root table
abbrev pub buffered_and_mapped : List FrameEntry → Image
buffered_and_mapped frames = record solo_image { frames = frames }

-- two threads with the data page as their buffer
abbrev pub buffered_twice : Image
buffered_twice = with_buffer 3 two_threads

-- a call of the loader, by its number from 0
abbrev pub call_of : Image → ℕ → Option LoaderCall
call_of image number = slice_get (all_calls image) number
