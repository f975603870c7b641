-- Each line of an image's listing says what stands for it: the whole.
use Rattle.std.proofs.Common.{◌+◌, ◌∷◌, ◌++◌, arith}
use Rattle.std.specs.Prelude.{map, flat_map}
use Rattle.model.specs.Images.Described.{numbered}
use Rattle.model.specs.Images.Image.{Image, capability_format, content_format, frame_format, interrupt_format, object_format, pair_key, table_format}
use Rattle.model.specs.Images.Image.{promise_format, untyped_format}
use Rattle.model.specs.Images.Listing.{capability_line, content_line, frame_line, interrupt_line, listing_lines, memory_line, object_line, table_line}
use Rattle.model.specs.Images.Listing.{promise_line, thread_lines, untyped_line}
use Rattle.asm_line.specs.Listed.{memory}
use Rattle.format_laws.specs.Fitting.{IsFitting}
use Rattle.asm.proofs.Said.{capability_said, content_said, frame_said, interrupt_said, listed_lines, memory_said, object_said, table_said, thread_said}
use Rattle.asm.proofs.Said.{promise_said, untyped_said}
use Rattle.asm.proofs.EntryLines.{capability-lists, content-lists, frame-lists, interrupt-lists, object-lists, promise-lists, table-lists}
use Rattle.asm.proofs.EntryLines.{untyped-lists}
use Rattle.asm.proofs.ListedSections.{AreListed, entries-listed, listed-append, numbered-listed, threads-listed}
use Rattle.asm.proofs.SectionFits.{SectionsFit}

pub image-listed : (i : Image) → SectionsFit i → IsFitting i → AreListed (listed_lines i) (listing_lines i)
unfolding listed_lines listing_lines
image-listed i fits limits =
    let few = limits.header.objects in
    let lines = limits.header.interrupts in
    let untypeds = limits.header.untypeds in
    let all_untypeds = limits.untypeds in
    let all_objects = limits.objects in
    let all_interrupts = limits.interrupts in
    let h = i.header in
    let first = numbered-listed (λ _. untyped_format) (λ _. 0) untyped_said untyped_line (λ k l e small is. untyped-lists k e small is) 0 0 h.untypeds
    i.untypeds (omega (arith, untypeds, all_untypeds)) fits.untypeds in
    let objects = numbered-listed (object_format h.version h.untypeds) (λ o. o.untyped) object_said object_line
    (λ k l e small is. object-lists h.version h.untypeds l k e (omega (arith, untypeds)) small is) 0 0 h.objects i.objects (omega (arith, few, all_objects))
    fits.objects in
    let interrupts = numbered-listed (interrupt_format h.objects) (λ x. x.line + 1) interrupt_said interrupt_line
    (λ k l e small is. interrupt-lists h.objects l k e (omega (arith, few)) small is) 0 0 h.interrupts i.interrupts (omega (arith, lines, all_interrupts))
    fits.interrupts in
    let capabilities = entries-listed 0 (capability_format h.objects h.interrupts) (λ x. pair_key x.cnode x.index + 1) (capability_said i) (capability_line i)
    (λ e. omega arith)
    (λ l e low is. capability-lists i h.objects h.interrupts l e (omega (arith, few)) (omega (arith, lines)) is) 0 h.capabilities i.capabilities (omega arith)
    fits.capabilities in
    let tables = entries-listed 0 (table_format h.objects) (λ x. pair_key x.root x.address + 1) table_said table_line (λ e. omega arith)
    (λ l e low is. table-lists h.objects l e (omega (arith, few)) is) 0 h.tables i.tables (omega arith) fits.tables in
    let frames = entries-listed 0 (frame_format h.objects) (λ x. pair_key x.root x.address + 1) frame_said frame_line (λ e. omega arith)
    (λ l e low is. frame-lists h.objects l e (omega (arith, few)) is) 0 h.frames i.frames (omega arith) fits.frames in
    let contents = entries-listed 0 (content_format h.objects) (λ c. c.header.frame + 1) content_said content_line (λ e. omega arith)
    (λ l e low is. content-lists h.objects l e (omega (arith, few)) is) 0 h.contents i.contents (omega arith) fits.contents in
    let promises = entries-listed 0 (promise_format h.objects) (λ p. p.header.endpoint + 1) promise_said promise_line (λ e. omega arith)
    (λ l e low is. promise-lists h.objects l e (omega (arith, few)) is) 0 h.promises i.promises (omega arith) fits.promises in
    let said_a = memory_said i ∷ map untyped_said (numbered i.untypeds) in
    let text_a = memory_line i ∷ map untyped_line (numbered i.untypeds) in
    let said_b = said_a ++ map object_said (numbered i.objects) in
    let text_b = text_a ++ map object_line (numbered i.objects) in
    let said_c = said_b ++ map interrupt_said (numbered i.interrupts) in
    let text_c = text_b ++ map interrupt_line (numbered i.interrupts) in
    let said_d = said_c ++ map (capability_said i) i.capabilities in
    let text_d = text_c ++ map (capability_line i) i.capabilities in
    let said_e = said_d ++ map table_said i.tables in
    let text_e = text_d ++ map table_line i.tables in
    let said_f = said_e ++ map frame_said i.frames in
    let text_f = text_e ++ map frame_line i.frames in
    let a : AreListed said_a text_a = (memory i fits.memory fits.radix, first) in
    let b : AreListed said_b text_b = listed-append said_a text_a (map object_said (numbered i.objects)) (map object_line (numbered i.objects)) a objects in
    let c : AreListed said_c text_c = listed-append said_b text_b (map interrupt_said (numbered i.interrupts)) (map interrupt_line (numbered i.interrupts)) b
    interrupts in
    let d : AreListed said_d text_d = listed-append said_c text_c (map (capability_said i) i.capabilities) (map (capability_line i) i.capabilities) c
    capabilities in
    let e : AreListed said_e text_e = listed-append said_d text_d (map table_said i.tables) (map table_line i.tables) d tables in
    let f : AreListed said_f text_f = listed-append said_e text_e (map frame_said i.frames) (map frame_line i.frames) e frames in
    let said_g = said_f ++ map content_said i.contents in
    let text_g = text_f ++ map content_line i.contents in
    let g : AreListed said_g text_g = listed-append said_f text_f (map content_said i.contents) (map content_line i.contents) f contents in
    listed-append (said_g ++ map promise_said i.promises) (text_g ++ map promise_line i.promises) (flat_map thread_said i.threads)
    (flat_map thread_lines i.threads)
    (listed-append said_g text_g (map promise_said i.promises) (map promise_line i.promises) g promises)
    (threads-listed h.version h.objects 0 h.threads i.threads (omega (arith, few)) fits.threads)
