-- The sections of an image, each as one format by the counts of the header.
use Rattle.std.specs.Prelude.{◌≡◌, ℕ, ◌+◌, true, is_ok, List, length, Ok}
use Rattle.model.specs.declared.entries.UntypedEntry.{UntypedEntry}
use Rattle.model.specs.declared.entries.ObjectEntry.{ObjectEntry}
use Rattle.model.specs.declared.entries.CapabilityEntry.{CapabilityEntry}
use Rattle.model.specs.declared.entries.InterruptEntry.{InterruptEntry}
use Rattle.model.specs.declared.entries.TableEntry.{TableEntry}
use Rattle.model.specs.declared.entries.FrameEntry.{FrameEntry}
use Rattle.model.specs.declared.entries.ImageHeader.{ImageHeader}
use Rattle.model.specs.Images.Format.{Format, end_of, values_of, ordered, many}
use Rattle.model.specs.Images.Image.{Image, ImageContent, ImagePromise, Thread, whole_image, header_format, pair_key, untyped_format, object_format}
use Rattle.model.specs.Images.Image.{capability_format}
use Rattle.model.specs.Images.Image.{interrupt_format, table_format, frame_format, content_format, promise_format, thread_format, slots_format}

unfoldable pub untypeds_format : ImageHeader → Format (List UntypedEntry)
untypeds_format h = many h.untypeds untyped_format

unfoldable pub objects_format : ImageHeader → Format (List ObjectEntry)
objects_format h = ordered 0 (object_format h.version h.untypeds) (λ e. e.untyped) h.objects

unfoldable pub capabilities_format : ImageHeader → Format (List CapabilityEntry)
capabilities_format h = ordered 0 (capability_format h.objects h.interrupts) (λ e. pair_key e.cnode e.index + 1) h.capabilities

unfoldable pub interrupts_format : ImageHeader → Format (List InterruptEntry)
interrupts_format h = ordered 0 (interrupt_format h.objects) (λ e. e.line + 1) h.interrupts

unfoldable pub tables_format : ImageHeader → Format (List TableEntry)
tables_format h = ordered 0 (table_format h.objects) (λ e. pair_key e.root e.address + 1) h.tables

unfoldable pub frames_format : ImageHeader → Format (List FrameEntry)
frames_format h = ordered 0 (frame_format h.objects) (λ e. pair_key e.root e.address + 1) h.frames

unfoldable pub contents_format : ImageHeader → Format (List ImageContent)
contents_format h = ordered 0 (content_format h.objects) (λ c. c.header.frame + 1) h.contents

unfoldable pub promises_format : ImageHeader → Format (List ImagePromise)
promises_format h = ordered 0 (promise_format h.objects) (λ p. p.header.endpoint + 1) h.promises

unfoldable pub threads_format : ImageHeader → Format (List Thread)
threads_format h = many h.threads (thread_format (slots_format h.objects) h.version h.objects)

-- the image whose sections begin at these offsets
abbrev pub sections_image : List ℕ → ImageHeader → ℕ → ℕ → ℕ → ℕ → ℕ → ℕ → ℕ → ℕ → ℕ → Image
sections_image bytes h untypeds objects capabilities interrupts tables frames contents promises threads = record {
  header = h;
  untypeds = values_of ((untypeds_format h).reads bytes untypeds);
  objects = values_of ((objects_format h).reads bytes objects);
  capabilities = values_of ((capabilities_format h).reads bytes capabilities);
  interrupts = values_of ((interrupts_format h).reads bytes interrupts);
  tables = values_of ((tables_format h).reads bytes tables);
  frames = values_of ((frames_format h).reads bytes frames);
  contents = values_of ((contents_format h).reads bytes contents);
  promises = values_of ((promises_format h).reads bytes promises);
  threads = values_of ((threads_format h).reads bytes threads);
}

-- Each section begins where the one before it ends, all of them can be read, and what they hold is in its ranges and orders.
pub record AreSections (bytes : List ℕ) (h : ImageHeader) (untypeds objects capabilities interrupts tables frames contents promises threads : ℕ) : Type 0 where
  pub header : header_format.reads bytes 0 ≡ Ok (h, untypeds)
  pub untypeds_end : end_of ((untypeds_format h).reads bytes untypeds) ≡ Ok objects
  pub objects_end : end_of ((objects_format h).reads bytes objects) ≡ Ok capabilities
  pub capabilities_end : end_of ((capabilities_format h).reads bytes capabilities) ≡ Ok interrupts
  pub interrupts_end : end_of ((interrupts_format h).reads bytes interrupts) ≡ Ok tables
  pub tables_end : end_of ((tables_format h).reads bytes tables) ≡ Ok frames
  pub frames_end : end_of ((frames_format h).reads bytes frames) ≡ Ok contents
  pub contents_end : end_of ((contents_format h).reads bytes contents) ≡ Ok promises
  pub promises_end : end_of ((promises_format h).reads bytes promises) ≡ Ok threads
  pub threads_end : is_ok (end_of ((threads_format h).reads bytes threads)) ≡ true
  pub fits : whole_image.fits (sections_image bytes h untypeds objects capabilities interrupts tables frames contents promises threads) ≡ true

-- Each section has as many entries as the header says.
pub record HasCounts (image : Image) : Type 0 where
  pub untypeds : length image.untypeds ≡ image.header.untypeds
  pub objects : length image.objects ≡ image.header.objects
  pub capabilities : length image.capabilities ≡ image.header.capabilities
  pub interrupts : length image.interrupts ≡ image.header.interrupts
  pub tables : length image.tables ≡ image.header.tables
  pub frames : length image.frames ≡ image.header.frames
  pub contents : length image.contents ≡ image.header.contents
  pub promises : length image.promises ≡ image.header.promises
  pub threads : length image.threads ≡ image.header.threads
