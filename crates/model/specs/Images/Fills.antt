-- What the frames of a loaded image hold: its contents, and its threads' programs.
use Rattle.std.specs.Prelude.{ℕ, ◌==◌, ◌+◌, ◌-◌, ◌*◌, ◌/◌, Bool, false, ◌&&◌, Option, Some, None, option_map, List, ◌++◌, map, filter_map, find, flat_map, take}
use Rattle.std.specs.Prelude.{drop, length, reverse, slice_index, if◌then◌else◌}
use Rattle.std.specs.List.{list_any, range_with_len}
use Rattle.std.specs.Option.{option_map_or}
use Rattle.model.specs.declared.entries.FrameEntry.{FrameEntry}
use Rattle.model.specs.Kernel.AddressSpaces.{page_size}
use Rattle.model.specs.Shared.Bytes.{word_bytes}
use Rattle.model.specs.Images.Image.{Image, Thread, ImageContent}
use Rattle.model.specs.Images.Places.{offset_of, type_at}
use Rattle.model.specs.Kernel.Retype.{is_frame}
use Rattle.model.specs.Capabilities.Slots.{is_within}

-- the bytes that a frame begins with, by the frame's offset
pub record Fill : Type 0 where
  pub offset : ℕ
  pub bytes : List ℕ

abbrev pub bytes_of : List ℕ → List ℕ
bytes_of words = flat_map word_bytes words

-- the frame that the image maps at an address under a root table
abbrev pub frame_at : Image → ℕ → ℕ → Option FrameEntry
frame_at image root address = find (λ f. f.root == root && f.address == address) image.frames

abbrev pub content_fill : Image → ImageContent → Fill
content_fill image c = record { offset = offset_of image c.header.frame; bytes = bytes_of c.words }

-- the addresses of the pages that a program lies in, from its base on
abbrev pub program_pages : Thread → List ℕ
program_pages t =
    map (λ page. t.header.base + page * page_size) (range_with_len 0 ((4 * t.header.words + (page_size - 1)) / page_size))

-- the part of a program that lies in the page at an address
abbrev pub page_bytes : Thread → ℕ → List ℕ
page_bytes t address = take page_size (drop (address - t.header.base) (bytes_of t.words))

abbrev pub page_fill : Image → Thread → ℕ → Option Fill
page_fill image t address =
    option_map (λ f. record { offset = offset_of image f.frame; bytes = page_bytes t address }) (frame_at image t.header.root address)

abbrev pub program_fills : Image → Thread → List Fill
program_fills image t = filter_map (page_fill image t) (program_pages t)

-- contents first, then programs in the threads' order; a later fill writes over an earlier one
unfoldable pub fills : Image → List Fill
fills image = map (content_fill image) image.contents ++ flat_map (program_fills image) image.threads

abbrev pub is_filled : ℕ → Fill → Bool
is_filled place f = is_within f.offset (length f.bytes) place

-- what is at a place: what the last fill there wrote, or 0
abbrev pub filled_byte : List Fill → ℕ → ℕ
filled_byte all place =
    option_map_or (λ f. slice_index f.bytes (place - f.offset)) (find (is_filled place) (reverse all)) 0

abbrev pub is_in_frame : Image → ℕ → ℕ → Bool
is_in_frame image place number =
    option_map_or is_frame (type_at image number) false && is_within (offset_of image number) page_size place

-- the bytes of all frames
unfoldable pub described_bytes : Image → ℕ → Option ℕ
described_bytes image place =
    if list_any (is_in_frame image place) (range_with_len 0 image.header.objects) then Some (filled_byte (fills image) place) else None
