-- Address spaces: the pages that capabilities map under a root table.
-- seL4 Reference Manual, "Address Spaces and Virtual Memory"; a virtual address has a page of 4096 bytes in bits 12 to 31,
-- and a page table maps the 1024 pages of a region of 4 MiB (RISC-V Privileged Architecture, "Sv32").
use Rattle.std.specs.Prelude.{ℕ, ◌≡◌, ◌==◌, ◌+◌, ◌*◌, ◌/◌, ◌%◌, ◌^◌, ◌&&◌, Bool, false, if◌then◌else◌, Option, Some, None, option_and_then}
use Rattle.std.specs.Prelude.{filter_map}
use Rattle.std.specs.Option.{option_map_or}
use Rattle.model.specs.declared.capabilities.Cap.{Cap}
use Rattle.model.specs.declared.capabilities.Cap.TheVariants.{Frame}
use Rattle.model.specs.declared.capabilities.FrameMapping.{FrameMapping}
use Rattle.model.specs.declared.capabilities.TableMapping.{TableMapping}
use Rattle.model.specs.declared.instructions.Access.{Access}
use Rattle.model.specs.declared.instructions.Access.TheVariants as accesses
use Rattle.model.specs.declared.rights.Rights.{Rights}
use Rattle.model.specs.Capabilities.CapabilityKinds.{frame_mapping, root_of, table_mapping}
use Rattle.model.specs.Machine.ProgramMemory.{Content}
use Rattle.model.specs.Capabilities.Rights.{may_read, may_write, may_execute}
use Rattle.model.specs.Kernel.Scheduling.{head_of}
use Rattle.model.specs.Capabilities.Slots.{Slots, capability_at}
use Rattle.model.specs.Kernel.State.{State, holds_some, slots_of, vspace_slot}

-- bytes of a page and pages of a region
abbrev pub page_size : ℕ
page_size = 2 ^ 12

abbrev pub region_pages : ℕ
region_pages = 2 ^ 10

-- bytes of a region
abbrev pub region_size : ℕ
region_size = page_size * region_pages

-- virtual addresses from here on are never mapped
abbrev pub address_limit : ℕ
address_limit = 2 ^ 31

-- ---- the mappings that capabilities hold

abbrev pub is_page : ℕ → ℕ → FrameMapping → Bool
is_page root page mapping = mapping.root == root && mapping.page == page

abbrev pub is_region : ℕ → ℕ → TableMapping → Bool
is_region root region mapping = mapping.root == root && mapping.region == region

-- whether a capability maps a frame at this page under this root table
abbrev pub maps_page : ℕ → ℕ → Cap → Bool
maps_page root page capability = option_map_or (is_page root page) (frame_mapping capability) false

-- whether a capability maps a page table for this region under this root table
abbrev pub maps_region : ℕ → ℕ → Cap → Bool
maps_region root region capability = option_map_or (is_region root region) (table_mapping capability) false

abbrev pub is_page_taken : State → ℕ → ℕ → Bool
is_page_taken s root page = holds_some s (maps_page root page)

abbrev pub is_region_taken : State → ℕ → ℕ → Bool
is_region_taken s root region = holds_some s (maps_region root region)

-- a slot maps this frame at this page under this root table, with these rights
pub record Maps (slots : Slots) (root page frame : ℕ) (allowed : Rights) : Type 0 where
  pub slot : ℕ
  pub frame_rights : Rights
  pub capability : capability_at slots slot ≡ Frame frame frame_rights (Some (record { root = root; page = page; rights = allowed }))

-- ---- the address space as a program sees it

-- what is mapped at a page: a frame, and what may be done with it there
pub record MappedFrame : Type 0 where
  pub frame : ℕ
  pub allowed : Rights

-- what a capability maps at a page
abbrev pub page_of : ℕ → ℕ → Cap → Option MappedFrame
page_of root page (Frame offset r (Some mapping)) =
    if is_page root page mapping then Some (record { frame = offset; allowed = mapping.rights }) else None
page_of root page _ = None

-- what is mapped at a page under a root table; a page is mapped once
abbrev pub mapped : State → ℕ → ℕ → Option MappedFrame
mapped s root page = head_of (filter_map (λ slot. page_of root page (capability_at s.slots slot)) (slots_of s))

abbrev pub allows : Access → Rights → Bool
allows accesses.Load r = may_read r
allows accesses.Store r = may_write r
allows accesses.Fetch r = may_execute r

-- the place of an address in a page, if the access has the right there
abbrev pub place_in : Access → ℕ → MappedFrame → Option ℕ
place_in access address at = if allows access at.allowed then Some (at.frame + address % page_size) else None

abbrev pub place_under : State → ℕ → Access → ℕ → Option ℕ
place_under s root access address = option_and_then (place_in access address) (mapped s root (address / page_size))

-- the root table of a thread's address space; without one no address has a place
abbrev pub vspace_of : State → ℕ → Option ℕ
vspace_of s thread = root_of (capability_at s.slots (vspace_slot thread))

-- memory as a thread sees it
abbrev pub content_of : State → ℕ → Content
content_of s thread = record {
  place = λ access address. option_and_then (λ root. place_under s root access address) (vspace_of s thread);
  byte = λ place. option_map_or (λ byte. byte) (s.bytes place) 0;
}

-- the state with what a thread's stores left in its frames
abbrev pub with_content : State → Content → State
with_content s content = record s { bytes = λ place. option_map_or (λ byte. Some (content.byte place)) (s.bytes place) None }
