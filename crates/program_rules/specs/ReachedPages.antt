-- Pages that a thread may reach at a point.
use Rattle.std.specs.Prelude.{ℕ, ℤ, Bool}
use Rattle.std.specs.List.{list_any}
use Rattle.model.specs.Acceptance.PointRules.{are_mapped, is_allowed, is_mapped_for, maps_for}
use Rattle.model.specs.declared.instructions.Access.{Access}
use Rattle.program_rules.specs.declared.point_rules.reach.AccessPages.{AccessPages}
use Rattle.program_rules.specs.declared.point_rules.reach.Pages.{Pages}
use Rattle.typestate.specs.Differences.{slots_of}

-- a page is mapped
abbrev pub is_mapped_in : Pages → Access → ℕ → Bool
is_mapped_in pages = is_mapped_for pages.image.now pages.thread.now (slots_of pages.slots)

-- all pages from that of one byte to that of another one are
abbrev pub are_mapped_in : Pages → Access → ℕ → ℕ → Bool
are_mapped_in pages = are_mapped pages.image.now pages.thread.now (slots_of pages.slots)

-- so many bytes from each address in a range are
abbrev pub is_allowed_in : Pages → Access → ℕ → ℤ → ℤ → Bool
is_allowed_in pages = is_allowed pages.image.now pages.thread.now (slots_of pages.slots)

-- a page is mapped for accesses of this kind
abbrev pub is_mapped_there : AccessPages → ℕ → Bool
is_mapped_there a = is_mapped_for a.pages.now.image.now a.pages.now.thread.now (slots_of a.pages.now.slots) a.access

-- the image maps it for them
abbrev pub is_listed_there : AccessPages → ℕ → Bool
is_listed_there a page = list_any (maps_for a.access a.pages.now.thread.now page) a.pages.now.image.now.frames
