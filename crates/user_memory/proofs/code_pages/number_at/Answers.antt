-- Bytes that are named lie in memory, and are what the definition loads.
use Rattle.std.proofs.Common.{ℕ, ◌≡◌, ◌∙◌, ◌+◌, ◌^◌, ◌<◌, ◌≤◌, List, [], ◌∷◌, Ok, length, refl, sym, ap, arith, subst}
use Rattle.std.specs.Int.{from_le_bytes, w16}
use Rattle.std.specs.Prelude.{slice_index}
use Rattle.cnode_ops.proofs.Laws.{whole-of}
use Rattle.model.specs.Kernel.AddressSpaces.{content_of, vspace_of}
use Rattle.model.specs.Machine.ProgramMemory.{loaded}
use Rattle.model.specs.Shared.Bytes.{word_at}
use Rattle.model.specs.declared.instructions.AccessSize.{AccessSize}
use Rattle.objects.specs.Lives.{state_in}
use Rattle.user_memory.proofs.Numbers.{byte-inside, byte-loaded, half-inside, half-loaded, memory-most}
use Rattle.user_memory.proofs.Running.{root-inside, usable-kernel}
use Rattle.user_memory.proofs.Words.{word-inside, word-loaded}
use Rattle.user_memory.proofs.code_pages.number_at.Goals as goal

pub read32-requires : goal.read32-requires
read32-requires g c =
    let slots = g.S.SlotMap.slots in
    let memory = g.S.SlotStore.memory in
    let whole = whole-of slots memory c.live.inside.objects c.live.inside.store c.kernel.invariant c.live.view_is c.live.invariant in
    let of_kernel = c.live.view_is ∙ c.kernel.view_is in
    let kernel = c.args.kernel.now in
    let root = vspace_of (state_in slots memory kernel) c.args.thread in
    let usable = usable-kernel slots memory c.args.thread root of_kernel whole (root-inside slots memory c.args.thread root of_kernel refl) in
    let small : c.args.address < 2 ^ 32 = omega (arith, c.ranges.address.fits) in
    let bytes = c.mem-memory.ensures ∙ ap (λ k. memory k.store) of_kernel in
    subst (λ (m : List ℕ). c.args.place + 4 ≤ length m) (sym bytes)
    (word-inside (state_in slots memory kernel) (memory kernel.store) root usable c.args.access c.args.address c.args.place c.if-address-eq0.true small
    (sym c.requires))

pub read8-requires : goal.read8-requires
read8-requires g c =
    let slots = g.S.SlotMap.slots in
    let memory = g.S.SlotStore.memory in
    let whole = whole-of slots memory c.live.inside.objects c.live.inside.store c.kernel.invariant c.live.view_is c.live.invariant in
    let of_kernel = c.live.view_is ∙ c.kernel.view_is in
    let kernel = c.args.kernel.now in
    let root = vspace_of (state_in slots memory kernel) c.args.thread in
    let usable = usable-kernel slots memory c.args.thread root of_kernel whole (root-inside slots memory c.args.thread root of_kernel refl) in
    let small : c.args.address < 2 ^ 32 = omega (arith, c.ranges.address.fits) in
    let bytes = c.mem-memory.ensures ∙ ap (λ k. memory k.store) of_kernel in
    subst (λ (m : List ℕ). c.args.place < length m) (sym bytes)
    (byte-inside kernel.tables (slots kernel.store) (memory kernel.store) root usable c.args.access c.args.address c.args.place small (sym c.requires))

pub read8-requires-in-Byte : goal.read8-requires-in-Byte
read8-requires-in-Byte g c =
    let slots = g.S.SlotMap.slots in
    let memory = g.S.SlotStore.memory in
    let whole = whole-of slots memory c.live.inside.objects c.live.inside.store c.kernel.invariant c.live.view_is c.live.invariant in
    let of_kernel = c.live.view_is ∙ c.kernel.view_is in
    let kernel = c.args.kernel.now in
    let root = vspace_of (state_in slots memory kernel) c.args.thread in
    let usable = usable-kernel slots memory c.args.thread root of_kernel whole (root-inside slots memory c.args.thread root of_kernel refl) in
    let small : c.args.address < 2 ^ 32 = omega (arith, c.ranges.address.fits) in
    let bytes = c.mem-memory.ensures ∙ ap (λ k. memory k.store) of_kernel in
    subst (λ (m : List ℕ). c.args.place < length m) (sym bytes)
    (byte-inside kernel.tables (slots kernel.store) (memory kernel.store) root usable c.args.access c.args.address c.args.place small (sym c.requires))

pub read8-requires-in-Halfword : goal.read8-requires-in-Halfword
read8-requires-in-Halfword g c =
    let slots = g.S.SlotMap.slots in
    let memory = g.S.SlotStore.memory in
    let whole = whole-of slots memory c.live.inside.objects c.live.inside.store c.kernel.invariant c.live.view_is c.live.invariant in
    let of_kernel = c.live.view_is ∙ c.kernel.view_is in
    let kernel = c.args.kernel.now in
    let root = vspace_of (state_in slots memory kernel) c.args.thread in
    let usable = usable-kernel slots memory c.args.thread root of_kernel whole (root-inside slots memory c.args.thread root of_kernel refl) in
    let small : c.args.address < 2 ^ 32 = omega (arith, c.ranges.address.fits) in
    let bytes = c.mem-memory.ensures ∙ ap (λ k. memory k.store) of_kernel in
    subst (λ (m : List ℕ). c.args.place + 1 < length m) (sym bytes)
    (half-inside kernel.tables (slots kernel.store) (memory kernel.store) root usable c.args.access c.args.address c.args.place small (sym c.requires)
    c.if-address-eq0-2.true)

pub overflow_add-place : goal.overflow_add-place
overflow_add-place g c =
    let slots = g.S.SlotMap.slots in
    let memory = g.S.SlotStore.memory in
    let whole = whole-of slots memory c.live.inside.objects c.live.inside.store c.kernel.invariant c.live.view_is c.live.invariant in
    let of_kernel = c.live.view_is ∙ c.kernel.view_is in
    let kernel = c.args.kernel.now in
    let root = vspace_of (state_in slots memory kernel) c.args.thread in
    let usable = usable-kernel slots memory c.args.thread root of_kernel whole (root-inside slots memory c.args.thread root of_kernel refl) in
    let small : c.args.address < 2 ^ 32 = omega (arith, c.ranges.address.fits) in
    let inside : c.args.place < length (memory kernel.store) =
    byte-inside kernel.tables (slots kernel.store) (memory kernel.store) root usable c.args.access c.args.address c.args.place small (sym c.requires) in
    omega (
      arith,
      inside,
      memory-most c.live.inside.objects (slots c.live.inside.store) (memory c.live.inside.store) whole,
      ap (λ k. length (memory k.store)) of_kernel,
    )

pub returns-in-Word-clause-value : goal.returns-in-Word-clause-value
returns-in-Word-clause-value g c =
    let slots = g.S.SlotMap.slots in
    let memory = g.S.SlotStore.memory in
    let whole = whole-of slots memory c.live.inside.objects c.live.inside.store c.kernel.invariant c.live.view_is c.live.invariant in
    let of_kernel = c.live.view_is ∙ c.kernel.view_is in
    let kernel = c.args.kernel.now in
    let root = vspace_of (state_in slots memory kernel) c.args.thread in
    let usable = usable-kernel slots memory c.args.thread root of_kernel whole (root-inside slots memory c.args.thread root of_kernel refl) in
    let small : c.args.address < 2 ^ 32 = omega (arith, c.ranges.address.fits) in
    let bytes = c.mem-memory.ensures ∙ ap (λ k. memory k.store) of_kernel in
    λ number gives.
    let same : c.read32.result ≡ number = cc in
    ap Ok (sym same ∙ c.read32.ensures ∙ ap (λ (m : List ℕ). word_at m c.args.place) bytes)
    ∙ word-loaded kernel.tables (slots kernel.store) (memory kernel.store) root c.args.access c.args.address c.args.place usable c.if-address-eq0.true small
    (sym c.requires)
    ∙ ap (λ (size : AccessSize). loaded (content_of (state_in slots memory kernel) c.args.thread) c.args.access size c.args.address) (sym c.in-Word.is)

pub returns-in-Halfword-clause-value : goal.returns-in-Halfword-clause-value
returns-in-Halfword-clause-value g c =
    let slots = g.S.SlotMap.slots in
    let memory = g.S.SlotStore.memory in
    let whole = whole-of slots memory c.live.inside.objects c.live.inside.store c.kernel.invariant c.live.view_is c.live.invariant in
    let of_kernel = c.live.view_is ∙ c.kernel.view_is in
    let kernel = c.args.kernel.now in
    let root = vspace_of (state_in slots memory kernel) c.args.thread in
    let usable = usable-kernel slots memory c.args.thread root of_kernel whole (root-inside slots memory c.args.thread root of_kernel refl) in
    let small : c.args.address < 2 ^ 32 = omega (arith, c.ranges.address.fits) in
    let bytes = c.mem-memory.ensures ∙ ap (λ k. memory k.store) of_kernel in
    λ number gives.
    let same : c.from.result ≡ number = cc in
    let m = c.mem-memory.result.now in
    ap Ok (sym same ∙ c.from.ensures ∙ c.from_le_bytes.ensures)
    ∙ ap (λ (b : ℕ). Ok (from_le_bytes w16 (b ∷ c.read8-in-Halfword.result ∷ []))) c.read8.ensures
    ∙ ap (λ (b : ℕ). Ok (from_le_bytes w16 (slice_index m c.args.place ∷ b ∷ []))) c.read8-in-Halfword.ensures
    ∙ ap (λ (m : List ℕ). Ok (from_le_bytes w16 (slice_index m c.args.place ∷ slice_index m (c.args.place + 1) ∷ []))) bytes
    ∙ half-loaded kernel.tables (slots kernel.store) (memory kernel.store) root usable c.args.access c.args.address c.args.place small (sym c.requires)
    c.if-address-eq0-2.true
    ∙ ap (λ (size : AccessSize). loaded (content_of (state_in slots memory kernel) c.args.thread) c.args.access size c.args.address) (sym c.in-Halfword.is)

pub returns-in-Byte-clause-value : goal.returns-in-Byte-clause-value
returns-in-Byte-clause-value g c =
    let slots = g.S.SlotMap.slots in
    let memory = g.S.SlotStore.memory in
    let whole = whole-of slots memory c.live.inside.objects c.live.inside.store c.kernel.invariant c.live.view_is c.live.invariant in
    let of_kernel = c.live.view_is ∙ c.kernel.view_is in
    let kernel = c.args.kernel.now in
    let root = vspace_of (state_in slots memory kernel) c.args.thread in
    let usable = usable-kernel slots memory c.args.thread root of_kernel whole (root-inside slots memory c.args.thread root of_kernel refl) in
    let small : c.args.address < 2 ^ 32 = omega (arith, c.ranges.address.fits) in
    let bytes = c.mem-memory.ensures ∙ ap (λ k. memory k.store) of_kernel in
    λ number gives.
    let same : c.from-in-Byte.result ≡ number = cc in
    ap Ok (sym same ∙ c.from-in-Byte.ensures ∙ c.read8-in-Byte.ensures ∙ ap (λ (m : List ℕ). slice_index m c.args.place) bytes)
    ∙ byte-loaded kernel.tables (slots kernel.store) (memory kernel.store) root usable c.args.access c.args.address c.args.place small (sym c.requires)
    ∙ ap (λ (size : AccessSize). loaded (content_of (state_in slots memory kernel) c.args.thread) c.args.access size c.args.address) (sym c.in-Byte.is)
