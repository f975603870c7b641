-- An image whose lines are being read: what is known of it after some of them, and after all.
use Rattle.std.specs.Prelude.{ℕ, List, [], length, map, Option, Some, None, slice_index_or, if◌then◌else◌}
use Rattle.std.specs.List.{range_with_len}
use Rattle.model.specs.declared.entries.CapabilityEntry.{CapabilityEntry}
use Rattle.model.specs.declared.entries.ImageHeader.{ImageHeader}
use Rattle.model.specs.declared.entries.InterruptEntry.{InterruptEntry}
use Rattle.model.specs.Images.Described.{numbered}
use Rattle.model.specs.Images.Image.{Image, Thread}
use Rattle.model.specs.Images.Listing.{untyped_name, object_name, interrupt_name, version_listed}
use Rattle.model.specs.Images.Places.{is_handler, interrupt_of}
use Rattle.asm.specs.declared.assembly.Memory.{Memory}
use Rattle.asm.specs.declared.declarations.Capability.{Capability}
use Rattle.asm.specs.declared.names.Source.{Source}
use Rattle.asm.specs.declared.names.Source.TheVariants.{Object, Handler}
use Rattle.asm.specs.Names.{KnownNames}
use Rattle.asm.specs.Sections.{Declared, nothing_declared}
use Rattle.asm.specs.Threads.{OpenDraft}

pub record Draft : Type 0 where
  -- what the line `memory` says, once it is read
  pub memory : Option Memory
  pub declared : Declared
  pub threads : List Thread
  -- the thread that is not at its end
  pub open_thread : Option OpenDraft

abbrev pub nothing_read : Draft
nothing_read = record { memory = None; declared = nothing_declared; threads = []; open_thread = None }

-- ---- after all lines of an image's listing

abbrev pub names_of : Image → KnownNames
names_of image = record {
  untypeds = map untyped_name (range_with_len 0 (length image.untypeds));
  objects = map object_name (range_with_len 0 (length image.objects));
  interrupts = map (λ (i : ℕ × InterruptEntry). (interrupt_name i.0, (i.1).line)) (numbered image.interrupts);
}

abbrev pub line_of_interrupt : Image → ℕ → ℕ
line_of_interrupt image number = (slice_index_or image.interrupts number (record { line = 0; notification = 0; badge = 0 })).line

-- what a capability is made from: interrupts are named by their lines
abbrev pub source_said : Image → ℕ → Source
source_said image source =
    if is_handler image source then Handler (line_of_interrupt image (interrupt_of image source)) else Object source

abbrev pub capability_of : Image → CapabilityEntry → Capability
capability_of image c =
    record { cnode = c.cnode; index = c.index; source = source_said image c.source; rights = c.rights; payload = c.payload }

abbrev pub declared_of : Image → Declared
declared_of image = record {
  names = names_of image;
  untypeds = image.untypeds;
  objects = image.objects;
  capabilities = map (capability_of image) image.capabilities;
  interrupts = image.interrupts;
  tables = image.tables;
  frames = image.frames;
  contents = image.contents;
  promises = image.promises;
}

abbrev pub draft_of : Image → Draft
draft_of image = record {
  memory = Some (record { bits = image.header.memory_bits; boot_radix = image.header.boot_radix });
  declared = declared_of image;
  threads = image.threads;
  open_thread = None;
}

-- ---- what is put together after the last line

abbrev pub counted_header : Memory → Declared → List CapabilityEntry → List Thread → ImageHeader
counted_header m d cs ts = record {
  version = version_listed d.objects d.promises ts;
  memory_bits = m.bits;
  boot_radix = m.boot_radix;
  untypeds = length d.untypeds;
  objects = length d.objects;
  capabilities = length cs;
  interrupts = length d.interrupts;
  tables = length d.tables;
  frames = length d.frames;
  contents = length d.contents;
  promises = length d.promises;
  threads = length ts;
}

abbrev pub assembled : Memory → Declared → List CapabilityEntry → List Thread → Image
assembled m d cs ts = record {
  header = counted_header m d cs ts;
  untypeds = d.untypeds;
  objects = d.objects;
  capabilities = cs;
  interrupts = d.interrupts;
  tables = d.tables;
  frames = d.frames;
  contents = d.contents;
  promises = d.promises;
  threads = ts;
}
