-- What an image maps under a thread's root table, beside the slots of the thread.
use Rattle.std.specs.Prelude.{ℕ, ◌≡◌, ◌==◌, ◌/◌, ◌&&◌, Bool, is_none}
use Rattle.std.specs.List.{list_any}
use Rattle.model.specs.declared.entries.FrameEntry.{FrameEntry}
use Rattle.model.specs.declared.entries.TableEntry.{TableEntry}
use Rattle.model.specs.Acceptance.NotedKernel.{key_of}
use Rattle.model.specs.Acceptance.ThreadRules.{reached}
use Rattle.model.specs.Capabilities.Slots.{capability_at}
use Rattle.model.specs.Images.Described.{described}
use Rattle.model.specs.Images.Image.{Image, Thread}
use Rattle.model.specs.Images.Places.{offset_of}
use Rattle.model.specs.Kernel.AddressSpaces.{maps_page, maps_region, page_size, region_pages}
use Rattle.model.specs.Kernel.State.{slots_of}

-- whether an entry maps a frame at a page, or a page table for a region
abbrev pub lists_page : Thread → ℕ → FrameEntry → Bool
lists_page t page f = (f.root == t.header.root) && (f.address / page_size == page)

abbrev pub lists_region : Thread → ℕ → TableEntry → Bool
lists_region t region e = (e.root == t.header.root) && (e.address / page_size / region_pages == region)

-- whether a slot is none of the thread's
abbrev pub is_outside : Image → Thread → ℕ → Bool
is_outside image t slot = is_none (key_of image (reached image t) slot)

-- the same by the capabilities that are described outside of the thread's CNodes
abbrev pub maps_page_outside : Image → Thread → ℕ → ℕ → Bool
maps_page_outside image t page slot = is_outside image t slot && maps_page (offset_of image t.header.root) page (capability_at (described image).slots slot)

abbrev pub maps_region_outside : Image → Thread → ℕ → ℕ → Bool
maps_region_outside image t region slot = is_outside image t slot
    && maps_region (offset_of image t.header.root) region (capability_at (described image).slots slot)

-- Under the thread's root table, outside of the thread's CNodes, those pages and regions are mapped that the image lists.
-- Well-formed images have it so.
pub record MappingsAreListed (image : Image) (t : Thread) : Type 0 where
  pub pages : (page : ℕ) → list_any (maps_page_outside image t page) (slots_of (described image)) ≡ list_any (lists_page t page) image.frames
  pub regions : (region : ℕ) → list_any (maps_region_outside image t region) (slots_of (described image)) ≡ list_any (lists_region t region) image.tables
