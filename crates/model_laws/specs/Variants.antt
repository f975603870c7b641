-- Images that differ from solo in one section, for rows on well-formed images.
use Rattle.std.specs.Prelude.{ℕ, [], ◌∷◌, ◌++◌, map}
use Rattle.model.specs.declared.entries.CapabilityEntry.{CapabilityEntry}
use Rattle.model.specs.declared.entries.FrameEntry.{FrameEntry}
use Rattle.model.specs.declared.entries.ThreadHeader.{ThreadHeader}
use Rattle.model.specs.Images.Image.{Image, Thread}
use Rattle.model_laws.specs.Solo.{solo_image}

unfoldable pub with_radix : ℕ → Image
with_radix radix = record solo_image { header = record solo_image.header { boot_radix = radix } }

unfoldable pub with_untyped : ℕ → ℕ → Image
with_untyped offset bits = record solo_image { untypeds = record { offset = offset; bits = bits } ∷ [] }

abbrev pub capability : ℕ → ℕ → ℕ → ℕ → ℕ → CapabilityEntry
capability cnode index source rights payload = record { cnode = cnode; index = index; source = source; rights = rights; payload = payload }

-- another first capability
unfoldable pub with_capability : CapabilityEntry → Image
with_capability c =
    record solo_image { header = record solo_image.header { capabilities = 1 }; capabilities = c ∷ [] }

-- an interrupt on another object
unfoldable pub with_interrupt : ℕ → Image
with_interrupt notification = record solo_image { interrupts = record { line = 3; notification = notification; badge = 1 } ∷ [] }

unfoldable pub with_table : ℕ → ℕ → ℕ → Image
with_table root address table = record solo_image { tables = record { root = root; address = address; table = table } ∷ [] }

-- one page table in two regions
unfoldable pub with_tables : Image
with_tables = record solo_image {
  header = record solo_image.header { tables = 2 };
  tables = record { root = 1; address = 0; table = 2 } ∷ record { root = 1; address = 0x400000; table = 2 } ∷ [];
}

abbrev pub frame : ℕ → ℕ → ℕ → ℕ → FrameEntry
frame root address object rights = record { root = root; address = address; frame = object; rights = rights }

-- the code page and another mapping
unfoldable pub with_frames : FrameEntry → FrameEntry → Image
with_frames code other = record solo_image { frames = code ∷ other ∷ [] }

-- a content of one word
unfoldable pub with_content : ℕ → Image
with_content object =
    record solo_image {
      header = record solo_image.header { contents = 1 };
      contents = record { header = record { frame = object; words = 1 }; words = 0 ∷ [] } ∷ [];
    }

abbrev pub other_header : (ThreadHeader → ThreadHeader) → Thread → Thread
other_header change t = record t { header = change t.header }

-- another thread header
unfoldable pub with_thread : (ThreadHeader → ThreadHeader) → Image
with_thread change = record solo_image { threads = map (other_header change) solo_image.threads }

-- another root table, which the thread's CNode holds
unfoldable pub with_other_root : Image
with_other_root =
    record solo_image {
      header = record solo_image.header { objects = 8; capabilities = 1 };
      objects = solo_image.objects ++ record { untyped = 0; kind = 8; size = 0 } ∷ [];
      capabilities = capability 5 1 7 0 0 ∷ [];
    }
