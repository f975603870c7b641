-- Where an image's objects lie in memory, and which boot slot holds what.
-- seL4 Reference Manual, "Reusing Memory", for the placement.
use Rattle.std.specs.Prelude.{ℕ, ◌==◌, ◌+◌, ◌-◌, ◌*◌, ◌^◌, Bool, nat_le, Option, List, take, slice_index_or, fold, if◌then◌else◌}
use Rattle.std.specs.Option.{option_map_or}
use Rattle.model.specs.declared.entries.UntypedEntry.{UntypedEntry}
use Rattle.model.specs.declared.entries.ObjectEntry.{ObjectEntry}
use Rattle.model.specs.Images.Image.{Image}
use Rattle.model.specs.Capabilities.Placement.{align, place_of_object}
use Rattle.model.specs.Kernel.Retype.{NewObject, type_of, object_bits}
use Rattle.model.specs.Kernel.State.{slot_of}

-- ---- the image's untypeds and objects, by their numbers

abbrev pub untyped_at : Image → ℕ → UntypedEntry
untyped_at image number = slice_index_or image.untypeds number (record { offset = 0; bits = 0 })

abbrev pub object_at : Image → ℕ → ObjectEntry
object_at image number = slice_index_or image.objects number (record { untyped = 0; kind = 0; size = 0 })

-- what an object is
abbrev pub type_at : Image → ℕ → Option NewObject
type_at image number = type_of (object_at image number).kind (object_at image number).size

-- an object has 2 ^ bits bytes
abbrev pub bits_of : ObjectEntry → ℕ
bits_of o = option_map_or object_bits (type_of o.kind o.size) 0

-- how much of an untyped is used up to the end of these objects, each of which lies after the ones before it
unfoldable pub used_by : List ObjectEntry → ℕ → ℕ
used_by objects untyped =
    fold (λ used o. if o.untyped == untyped then place_of_object used (bits_of o) 1 else used) 0 objects

-- the watermark of an untyped after all of the image's objects
abbrev pub watermark_of : Image → ℕ → ℕ
watermark_of image untyped = used_by image.objects untyped

-- how much of its untyped the objects before this one use
abbrev pub used_before : Image → ℕ → ℕ
used_before image number = used_by (take number image.objects) (object_at image number).untyped

-- the offset of an object from the start of physical memory
unfoldable pub offset_of : Image → ℕ → ℕ
offset_of image number =
    let o = object_at image number in
    (untyped_at image o.untyped).offset + align (used_before image number) (2 ^ bits_of o)

-- slot i of a CNode object
abbrev pub cnode_slot : Image → ℕ → ℕ → ℕ
cnode_slot image cnode i = slot_of (offset_of image cnode) i

-- ---- the boot slots
-- The boot CNode lies at offset 0, so boot slot i is slot i. Untypeds come first, by their numbers.

-- the first capability to an object
abbrev pub original_slot : Image → ℕ → ℕ
original_slot image object = image.header.untypeds + object

abbrev pub control_slot : Image → ℕ
control_slot image = image.header.untypeds + image.header.objects

-- the handler of an interrupt
abbrev pub handler_slot : Image → ℕ → ℕ
handler_slot image interrupt = control_slot image + 1 + interrupt

-- the copy by which a frame is mapped
abbrev pub frame_copy_slot : Image → ℕ → ℕ
frame_copy_slot image frame = control_slot image + 1 + image.header.interrupts + frame

-- the copy by which an interrupt signals its notification
abbrev pub notification_copy_slot : Image → ℕ → ℕ
notification_copy_slot image interrupt =
    control_slot image + 1 + image.header.interrupts + image.header.frames + interrupt

-- how many boot slots an image needs
abbrev pub boot_slots : Image → ℕ
boot_slots image = control_slot image + 1 + 2 * image.header.interrupts + image.header.frames

-- ---- the sources of listed capabilities: an object, or after the objects the handler of an interrupt

abbrev pub is_handler : Image → ℕ → Bool
is_handler image source = nat_le image.header.objects source

abbrev pub interrupt_of : Image → ℕ → ℕ
interrupt_of image source = source - image.header.objects

-- where the loader has the source
abbrev pub source_boot_slot : Image → ℕ → ℕ
source_boot_slot image source =
    if is_handler image source then handler_slot image (interrupt_of image source) else original_slot image source
