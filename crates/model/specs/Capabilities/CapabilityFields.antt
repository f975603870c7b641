-- The capability that two words represent, if they are the words of one.
-- seL4 Reference Manual, "Capability Spaces", for the kinds; the layout is this project's own.
use Rattle.std.specs.Prelude.{ℕ, ◌==◌, ◌*◌, ◌/◌, ◌%◌, ◌^◌, Bool, ◌&&◌, nat_eq, Option, Some, None, List, [], ◌∷◌}
use Rattle.std.specs.Prelude.{if◌then◌else◌}
use lib.Pointwise.{pointwise}
use Rattle.model.specs.declared.capabilities.Cap.{Cap}
use Rattle.model.specs.declared.capabilities.Cap.TheVariants.{Empty, Untyped, Endpoint, Notification, CNode, Frame, PageTable, Tcb, RootTable, InterruptControl}
use Rattle.model.specs.declared.capabilities.Cap.TheVariants.{InterruptHandler}
use Rattle.model.specs.declared.capabilities.FrameMapping.{FrameMapping}
use Rattle.model.specs.declared.capabilities.TableMapping.{TableMapping}
use Rattle.model.specs.Capabilities.CapabilityWords.{allowed_fields, words_of}
use Rattle.model.specs.Capabilities.Conditions.{is_met}
use Rattle.model.specs.Capabilities.Rights.{rights}

-- ---- the fields in two words, whether or not they are the words of a capability

abbrev pub frame_mapping_of : ℕ → ℕ → Option FrameMapping
frame_mapping_of bits word =
    if word == 0 then None else Some (record { root = word / 2 % 2 ^ 12 * 2 ^ 12; page = word / 2 ^ 13; rights = rights bits })

abbrev pub table_mapping_of : ℕ → Option TableMapping
table_mapping_of word =
    if word == 0 then None else Some (record { root = word / 2 % 2 ^ 12 * 2 ^ 12; region = word / 2 ^ 23 })

-- by kind, detail, mapping rights, offset and second word
unfoldable pub fields_of_kind : ℕ → ℕ → ℕ → ℕ → ℕ → Cap
fields_of_kind kind detail bits offset word =
    if kind == 1 then Untyped offset detail word
    else if kind == 2 then Tcb offset
    else if kind == 3 then Endpoint offset (rights detail) word
    else if kind == 4 then Notification offset (rights detail) word
    else if kind == 5 then CNode offset detail word
    else if kind == 6 then Frame offset (rights detail) (frame_mapping_of bits word)
    else if kind == 7 then PageTable offset (table_mapping_of word)
    else if kind == 8 then RootTable offset
    else if kind == 9 then InterruptControl
    else if kind == 10 then InterruptHandler (word % 2 ^ 8)
    else Empty

abbrev pub fields_of : ℕ → ℕ → Cap
fields_of head word = fields_of_kind (head % 16) (head / 2 ^ 4 % 2 ^ 5) (head / 2 ^ 9 % 2 ^ 3) (head / 2 ^ 12 * 16) word

-- whether the fields are in their ranges
unfoldable pub is_capability : Cap → Bool
is_capability capability = is_met (allowed_fields capability)

-- ---- reading two words back

abbrev pub same_words : List ℕ → List ℕ → Bool
same_words xs ys = pointwise nat_eq xs ys

-- The fields are in their ranges, and no bit is set that no field names.
abbrev pub unpacked_as : Cap → ℕ → ℕ → Option Cap
unpacked_as capability head word =
    if is_capability capability && same_words (words_of capability) (head ∷ word ∷ []) then Some capability else None

unfoldable pub unpacked : ℕ → ℕ → Option Cap
unpacked head word = unpacked_as (fields_of head word) head word
