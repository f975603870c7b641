-- Well-formed images: the rules on untypeds, objects, capabilities, mappings and threads, before any program is looked at.
-- The order of the rules is the order in which breaches count.
use Rattle.std.specs.Prelude.{ℕ, zero, suc, ◌==◌, ◌+◌, ◌/◌, ◌%◌, ◌^◌, bit_and, Bool, true, false, not, ◌&&◌, ◌||◌, nat_lt, Option, Some, None, is_none, List}
use Rattle.std.specs.Prelude.{[], ◌∷◌, ◌++◌, map, flat_map, take, if◌then◌else◌}
use Rattle.std.specs.Option.{option_map_or}
use Rattle.std.specs.List.{list_any, range_with_len}
use Rattle.model.specs.declared.entries.UntypedEntry.{UntypedEntry}
use Rattle.model.specs.declared.entries.CapabilityEntry.{CapabilityEntry}
use Rattle.model.specs.declared.entries.InterruptEntry.{InterruptEntry}
use Rattle.model.specs.declared.entries.FrameEntry.{FrameEntry}
use Rattle.model.specs.declared.entries.TableEntry.{TableEntry}
use Rattle.model.specs.declared.refusals.Refusal.TheVariants.{UntypedOverlap, NoRoom, BadObject, BadCap, BadMapping, WritableCode, BadPromise}
use Rattle.model.specs.Kernel.AddressSpaces.{address_limit, page_size, region_size}
use Rattle.model.specs.Capabilities.CapabilityKinds.{is_badge, is_guard_word}
use Rattle.model.specs.Images.Described.{numbered}
use Rattle.model.specs.Images.Image.{Image, ImageContent, ImagePromise, is_device_size}
use Rattle.model.specs.Capabilities.Placement.{placement}
use Rattle.model.specs.Images.Places.{bits_of, boot_slots, is_handler, object_at, type_at, untyped_at, used_before}
use Rattle.model.specs.Kernel.Retype.{NewObject, NewUntyped, NewThread, NewEndpoint, NewNotification, NewCNode, NewFrame, NewPageTable, NewRootTable}
use Rattle.model.specs.Kernel.State.{boot_area_end}
use Rattle.model.specs.Acceptance.Rules.{Rule, refuse_if}

-- ---- untypeds and objects

abbrev pub untyped_end : UntypedEntry → ℕ
untyped_end u = u.offset + 2 ^ u.bits

-- the end of the untyped before this one, or of the boot area
abbrev pub end_before : Image → ℕ → ℕ
end_before image zero = boot_area_end image.header.boot_radix
end_before image (suc number) = untyped_end (untyped_at image number)

-- whether an untyped is misaligned, passes the end of memory, or overlaps what lies before it
unfoldable pub overlaps : Image → ℕ × UntypedEntry → Bool
overlaps image (number, u) =
    not (u.offset % 2 ^ u.bits == 0) || nat_lt (2 ^ image.header.memory_bits) (untyped_end u)
    || nat_lt u.offset (boot_area_end image.header.boot_radix) || nat_lt u.offset (end_before image number)

-- whether an object does not fit after the ones before it in its untyped
unfoldable pub has_no_room : Image → ℕ → Bool
has_no_room image number =
    let o = object_at image number in
    is_none (placement (untyped_at image o.untyped).bits (used_before image number) (bits_of o) 1)

abbrev pub too_few_boot_slots : Image → Bool
too_few_boot_slots image = nat_lt (2 ^ image.header.boot_radix) (boot_slots image)

unfoldable pub object_rules : Image → List Rule
object_rules image =
    map (λ u. refuse_if (overlaps image u) (UntypedOverlap u.0)) (numbered image.untypeds)
    ++ map (λ number. refuse_if (has_no_room image number) (NoRoom number)) (range_with_len 0 image.header.objects)
    ++ refuse_if (too_few_boot_slots image) (BadObject image.header.objects) ∷ []

-- ---- capabilities and interrupts

abbrev pub is_untyped_type : Option NewObject → Bool
is_untyped_type (Some (NewUntyped bits)) = true
is_untyped_type _ = false

abbrev pub is_thread_type : Option NewObject → Bool
is_thread_type (Some NewThread) = true
is_thread_type _ = false

abbrev pub is_endpoint_type : Option NewObject → Bool
is_endpoint_type (Some NewEndpoint) = true
is_endpoint_type _ = false

abbrev pub is_notification_type : Option NewObject → Bool
is_notification_type (Some NewNotification) = true
is_notification_type _ = false

-- the radix of a CNode
abbrev pub radix_of : Option NewObject → Option ℕ
radix_of (Some (NewCNode radix)) = Some radix
radix_of _ = None

abbrev pub is_frame_type : Option NewObject → Bool
is_frame_type (Some NewFrame) = true
is_frame_type _ = false

abbrev pub is_table_type : Option NewObject → Bool
is_table_type (Some NewPageTable) = true
is_table_type _ = false

abbrev pub is_root_type : Option NewObject → Bool
is_root_type (Some NewRootTable) = true
is_root_type _ = false

-- what a capability's source is; a handler is no object
abbrev pub source_type : Image → ℕ → Option NewObject
source_type image source = if is_handler image source then None else type_at image source

-- whether the object is a CNode that has a slot of this index
abbrev pub has_slot : Image → ℕ → ℕ → Bool
has_slot image cnode index = option_map_or (λ radix. nat_lt index (2 ^ radix)) (radix_of (type_at image cnode)) false

abbrev pub are_among : ℕ → ℕ → Bool
are_among allowed bits = bit_and bits allowed == bits

-- whether a capability to such an object may have these rights, and this badge or guard word
abbrev pub may_have : Option NewObject → ℕ → ℕ → Bool
may_have (Some NewEndpoint) bits payload = are_among 11 bits && is_badge payload
may_have (Some NewNotification) bits payload = are_among 11 bits && is_badge payload
may_have (Some NewFrame) bits payload = are_among 3 bits && payload == 0
may_have (Some (NewCNode radix)) bits payload = bits == 0 && is_guard_word radix payload
may_have (Some (NewUntyped size)) bits payload = bits == 0 && payload == 0
may_have (Some NewThread) bits payload = bits == 0 && payload == 0
may_have (Some NewPageTable) bits payload = bits == 0 && payload == 0
may_have (Some NewRootTable) bits payload = bits == 0 && payload == 0
-- a handler
may_have None bits payload = bits == 0 && payload == 0

-- whether an earlier capability has this source
abbrev pub is_listed_before : Image → ℕ → ℕ → Bool
is_listed_before image item source = list_any (λ c. c.source == source) (take item image.capabilities)

-- Threads and page tables are no sources, and untyped memory is one once.
unfoldable pub does_not_fit : Image → ℕ × CapabilityEntry → Bool
does_not_fit image (item, c) =
    let kind = source_type image c.source in
    not (has_slot image c.cnode c.index) || is_thread_type kind || is_table_type kind
    || (is_untyped_type kind && is_listed_before image item c.source) || not (may_have kind c.rights c.payload)

abbrev pub signals_nothing : Image → InterruptEntry → Bool
signals_nothing image i = not (is_notification_type (type_at image i.notification))

unfoldable pub capability_rules : Image → List Rule
capability_rules image =
    map (λ c. refuse_if (does_not_fit image c) (BadCap c.0)) (numbered image.capabilities)
    ++ map (λ i. refuse_if (signals_nothing image i.1) (BadCap (image.header.capabilities + i.0))) (numbered image.interrupts)

-- ---- mappings, contents and promises

-- a virtual address that is a multiple of a size
abbrev pub is_address : ℕ → ℕ → Bool
is_address address size = nat_lt address address_limit && (address % size == 0)

abbrev pub is_mapped_before : Image → ℕ → ℕ → Bool
is_mapped_before image item table = list_any (λ t. t.table == table) (take item image.tables)

-- a page table is mapped once
unfoldable pub misplaces_table : Image → ℕ × TableEntry → Bool
misplaces_table image (item, t) =
    not (is_root_type (type_at image t.root)) || not (is_table_type (type_at image t.table))
    || not (is_address t.address region_size) || is_mapped_before image item t.table

abbrev pub is_covered : Image → FrameEntry → Bool
is_covered image f = list_any (λ t. t.root == f.root && (t.address / region_size == f.address / region_size)) image.tables

-- a mapping reads or executes, and writes only where it reads
abbrev pub are_frame_rights : ℕ → Bool
are_frame_rights bits = not (bits == 0) && not (bits == 1) && not (bits == 5)

unfoldable pub misplaces_frame : Image → FrameEntry → Bool
misplaces_frame image f =
    not (is_root_type (type_at image f.root)) || not (is_frame_type (type_at image f.frame))
    || not (is_address f.address page_size) || not (is_covered image f) || not (are_frame_rights f.rights)

abbrev pub executes : FrameEntry → Bool
executes f = not (bit_and f.rights 4 == 0)

-- another mapping of the same frame, under any root table
abbrev pub is_mapped_twice : Image → ℕ → ℕ → Bool
is_mapped_twice image item frame = list_any (λ g. not (g.0 == item) && (g.1).frame == frame) (numbered image.frames)

-- a frame that the world outside reads and writes
abbrev pub is_device : Image → ℕ → Bool
is_device image number = is_device_size (object_at image number).kind (object_at image number).size

-- something else names the frame, or it is a device page
abbrev pub is_named_otherwise : Image → ℕ → ℕ → Bool
is_named_otherwise image item frame =
    is_mapped_twice image item frame || list_any (λ c. c.source == frame) image.capabilities
    || list_any (λ c. c.header.frame == frame) image.contents || is_device image frame

-- code that can be written, or that something else than its mapping reaches
unfoldable pub has_writable_code : Image → ℕ × FrameEntry → Bool
has_writable_code image (item, f) = f.rights == 7 || (executes f && is_named_otherwise image item f.frame)

abbrev pub frame_rules : Image → ℕ × FrameEntry → List Rule
frame_rules image f =
    let item = image.header.tables + f.0 in
    refuse_if (misplaces_frame image f.1) (BadMapping item) ∷ refuse_if (has_writable_code image f) (WritableCode item) ∷ []

abbrev pub fills_nothing : Image → ImageContent → Bool
fills_nothing image c = not (is_frame_type (type_at image c.header.frame))

abbrev pub content_rule : Image → ℕ × ImageContent → Rule
content_rule image c = refuse_if (fills_nothing image c.1) (BadMapping (image.header.tables + image.header.frames + c.0))

-- a promise is of an endpoint
abbrev pub promises_nothing : Image → ImagePromise → Bool
promises_nothing image p = not (is_endpoint_type (type_at image p.header.endpoint))

abbrev pub promise_rule : Image → ℕ × ImagePromise → Rule
promise_rule image p =
    refuse_if (promises_nothing image p.1) (BadPromise (image.header.tables + image.header.frames + image.header.contents + p.0))

unfoldable pub mapping_rules : Image → List Rule
mapping_rules image =
    map (λ t. refuse_if (misplaces_table image t) (BadMapping t.0)) (numbered image.tables)
    ++ flat_map (frame_rules image) (numbered image.frames) ++ map (content_rule image) (numbered image.contents)
    ++ map (promise_rule image) (numbered image.promises)
