-- Parts of images, for rows on what each version of image files has.
use Rattle.std.specs.Prelude.{ℕ, pos, Bool, [], ◌∷◌, length}
use Rattle.model.specs.declared.entries.ImageHeader.{ImageHeader}
use Rattle.model.specs.declared.entries.ObjectEntry.{ObjectEntry}
use Rattle.model.specs.Images.Image.{Thread, header_format, no_buffer, object_format, thread_header_format}
use Rattle.model_laws.specs.Solo.{short_thread}

abbrev pub an_object : ℕ → ℕ → ObjectEntry
an_object kind size = record { untyped = 0; kind = kind; size = size }

-- whether an image of a version may have such an object
abbrev pub object_fits : ℕ → ℕ → ℕ → Bool
object_fits version kind size = (object_format version 1 0).fits (an_object kind size)

-- a header of a version, with so many promises
abbrev pub a_header : ℕ → ℕ → ImageHeader
a_header version promises = record {
  version = version;
  memory_bits = 16;
  boot_radix = 4;
  untypeds = 1;
  objects = 7;
  capabilities = 2;
  interrupts = 1;
  tables = 1;
  frames = 2;
  contents = 0;
  promises = promises;
  threads = 1;
}

-- a thread with this buffer
abbrev pub a_thread : ℕ → Thread
a_thread buffer = let t = short_thread 4 4 (0x73 ∷ []) (pos 3) in record t { header = record t.header { buffer = buffer } }

-- the bytes that a header, and a thread's, take in a file
abbrev pub header_length : ℕ → ℕ
header_length version = length (header_format.spelling (a_header version 0))

abbrev pub thread_header_length : ℕ → ℕ
thread_header_length version = length ((thread_header_format version 7).spelling (a_thread no_buffer).header)
