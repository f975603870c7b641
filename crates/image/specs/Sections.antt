-- Whether the entries of an image's sections before the threads fit, by counts that are given.
use Rattle.std.specs.Prelude.{Bool, ◌+◌, ◌&&◌}
use Rattle.model.specs.Images.Format.{many_fit}
use Rattle.model.specs.Images.Image.{Image, capability_format, content_format, frame_format, interrupt_format, object_format, pair_key, promise_format}
use Rattle.model.specs.Images.Image.{table_format, untyped_format}
use Rattle.image_reading.specs.declared.entries.Counts.{Counts}

-- tables, frames, contents and promises
abbrev pub mappings_fit : Counts → Image → Bool
mappings_fit l i =
    many_fit (table_format l.objects) (λ e. pair_key e.root e.address + 1) 0 i.header.tables i.tables
    && (many_fit (frame_format l.objects) (λ e. pair_key e.root e.address + 1) 0 i.header.frames i.frames
    && (many_fit (content_format l.objects) (λ c. c.header.frame + 1) 0 i.header.contents i.contents
    && many_fit (promise_format l.objects) (λ p. p.header.endpoint + 1) 0 i.header.promises i.promises))

abbrev pub sections_fit : Counts → Image → Bool
sections_fit l i =
    many_fit (λ _. untyped_format) (λ _. 0) 0 i.header.untypeds i.untypeds
    && (many_fit (object_format l.version l.untypeds) (λ e. e.untyped) 0 i.header.objects i.objects
    && (many_fit (capability_format l.objects l.interrupts) (λ e. pair_key e.cnode e.index + 1) 0 i.header.capabilities i.capabilities
    && (many_fit (interrupt_format l.objects) (λ e. e.line + 1) 0 i.header.interrupts i.interrupts && mappings_fit l i)))
