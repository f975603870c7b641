-- What the rows on mappings start from.
use Rattle.std.specs.Prelude.{ℕ, ◌==◌, if◌then◌else◌, Option, Some, None, Result, replicate, slice_set}
use Rattle.model.specs.Kernel.AddressSpaces.{place_under}
use Rattle.model.specs.Machine.ProgramMemory.{Content, RegisterFile}
use Rattle.model.specs.Kernel.Arguments.{Call}
use Rattle.model.specs.Kernel.MappingCalls.{map_frame}
use Rattle.model.specs.Capabilities.Rights.{rights}
use Rattle.model.specs.Capabilities.Slots.{empty_entry, is_within}
use Rattle.model.specs.Kernel.State.{State}
use Rattle.model.specs.declared.capabilities.Cap.{Cap}
use Rattle.model.specs.declared.capabilities.Cap.TheVariants.{CNode, Frame, PageTable, RootTable}
use Rattle.model.specs.declared.capabilities.FrameMapping.{FrameMapping}
use Rattle.model.specs.declared.errors.KError.{KError}
use Rattle.model_laws.specs.Rows.{bare, root_entry}

abbrev pub mapped_at : ℕ → Option FrameMapping
mapped_at page = Some (record { root = 0x9000; page = page; rights = rights 3 })

-- A CNode of 16 slots: a root table in slot 1, a page table for the region from 0x00400000 on in slot 2, a frame that is
-- not mapped in slot 3, and one that is mapped at 0x00401000 in slot 4.
abbrev pub space : State
space = bare (λ slot.
    if slot == 1 then Some (root_entry (RootTable 0x9000))
    else if slot == 2 then Some (root_entry (PageTable 0xA000 (Some (record { root = 0x9000; region = 1 }))))
    else if slot == 3 then Some (root_entry (Frame 0x11000 (rights 3) None))
    else if slot == 4 then Some (root_entry (Frame 0x12000 (rights 3) (mapped_at 0x401)))
    else if is_within 0 16 slot then Some empty_entry else None)

abbrev pub frame_call : ℕ → Cap → Call
frame_call slot capability = record { root = CNode 0 4 28; caller = None; slot = slot; capability = capability }

-- the frame of slot 3 mapped at an address under the root table of slot 1, by a rights word
abbrev pub map_at : ℕ → ℕ → Result State KError
map_at address word = map_frame space (frame_call 3 (Frame 0x11000 (rights 3) None)) (rights 3) (record { address = 1; depth = 32 }) address word

-- the frame of slot 4, which is mapped
abbrev pub map_again : Result State KError
map_again = map_frame space (frame_call 4 (Frame 0x12000 (rights 3) (mapped_at 0x401))) (rights 3) (record { address = 1; depth = 32 }) 0x402000 3

-- memory as a program under the root table sees it
abbrev pub space_content : Content
space_content = record { place = λ access address. place_under space 0x9000 access address; byte = λ place. 0xFF }

-- x2 has the address two bytes before the end of the page, and x1 a 7
abbrev pub near_the_end : RegisterFile
near_the_end = record { pc = 0x1000; words = slice_set (slice_set (replicate 32 0) 1 7) 2 0x401FFE }
