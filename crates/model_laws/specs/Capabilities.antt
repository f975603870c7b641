-- Capabilities apart from what a removal may change in them.
use Rattle.model.specs.declared.capabilities.Cap.{Cap}
use Rattle.model.specs.declared.capabilities.Cap.TheVariants.{Untyped, Frame, PageTable}
use Rattle.std.specs.Prelude.{None}

-- a capability without its mapping, or its watermark
abbrev pub apart_from_mapping : Cap → Cap
apart_from_mapping (Untyped offset bits watermark) = Untyped offset bits 0
apart_from_mapping (Frame offset r mapping) = Frame offset r None
apart_from_mapping (PageTable offset mapping) = PageTable offset None
apart_from_mapping capability = capability
