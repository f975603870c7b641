-- What is kept of a page is what the walk finds.
use Rattle.std.proofs.Common.{ℕ, ◌≡◌, ◌∙◌, ◌+◌, ◌≤◌, Some, List, Ok, length, refl, sym, ap, arith, subst}
use Rattle.std.specs.Option.{ok_or}
use Rattle.model.specs.Machine.ProgramMemory.{loaded, place_at}
use Rattle.model.specs.Machine.Sv32.{page_fault, walk}
use Rattle.model.specs.Shared.Bytes.{word_at}
use Rattle.model.specs.declared.instructions.AccessSize.TheVariants.{Word}
use Rattle.objects.specs.Lives.{state_in}
use Rattle.user_memory.proofs.Leaves.{kernel-leaves}
use Rattle.user_memory.proofs.Reading.{walk-ok}
use Rattle.user_memory.proofs.Running.{root-inside, usable-kernel}
use Rattle.user_memory.proofs.Words.{word-inside, word-loaded}
use Rattle.user_memory.specs.Views.{content_under}
use Rattle.user_memory.proofs.execution.kept_word.Goals as goal
use Rattle.cnode_ops.proofs.Laws.{whole-of}

pub kept_place-requires : goal.kept_place-requires
kept_place-requires g c =
    let whole = whole-of g.S.SlotMap.slots g.S.SlotStore.memory c.live.inside.objects c.live.inside.store c.kernel.invariant c.live.view_is c.live.invariant in
    let of_kernel = c.live.view_is ∙ c.kernel.view_is in
    let slots = g.S.SlotMap.slots in
    let memory = g.S.SlotStore.memory in
    kernel-leaves slots memory c.args.root c.in-Some.table of_kernel
    (usable-kernel slots memory c.args.thread c.args.root of_kernel whole
    (root-inside slots memory c.args.thread c.args.root of_kernel c.requires.root)) c.in-Some.is

pub read32-requires : goal.read32-requires
read32-requires g c =
    let whole = whole-of g.S.SlotMap.slots g.S.SlotStore.memory c.live.inside.objects c.live.inside.store c.kernel.invariant c.live.view_is c.live.invariant in
    let of_kernel = c.live.view_is ∙ c.kernel.view_is in
    let slots = g.S.SlotMap.slots in
    let memory = g.S.SlotStore.memory in
    let parts = c.kernel.inside in
    let own = root-inside slots memory c.args.thread c.args.root of_kernel c.requires.root in
    let usable = usable-kernel slots memory c.args.thread c.args.root of_kernel whole own in
    let kernel = c.args.kernel.now in
    let walks : walk (memory kernel.store) c.in-Some.table c.args.address c.args.access ≡ Some c.in-Some-kept_place.place =
    ap (λ k. walk (memory k.store) c.in-Some.table c.args.address c.args.access) (sym of_kernel)
    ∙ c.kept_place.ensures c.in-Some-kept_place.place c.in-Some-kept_place.is in
    let found : place_at (content_under (state_in slots memory kernel) c.args.root) c.args.access c.args.address ≡ Ok c.in-Some-kept_place.place =
    sym (walk-ok (state_in slots memory kernel) (memory kernel.store) c.args.root c.in-Some.table c.args.address c.args.access usable c.in-Some.is
    (omega (arith, c.ranges.address.fits))
    (Ok c.in-Some-kept_place.place) c.in-Some-kept_place.place (sym (ap (λ o. ok_or o page_fault) walks)) refl) in
    let bytes = c.mem.ensures ∙ ap (λ k. memory k.store) of_kernel in
    subst (λ (m : List ℕ). c.in-Some-kept_place.place + 4 ≤ length m) (sym bytes)
    (word-inside (state_in slots memory kernel) (memory kernel.store) c.args.root usable c.args.access c.args.address c.in-Some-kept_place.place
    c.if-address-ne0.false (omega (arith, c.ranges.address.fits)) found)

pub returns-in-Some-kept_place : goal.returns-in-Some-kept_place
returns-in-Some-kept_place g c =
    let whole = whole-of g.S.SlotMap.slots g.S.SlotStore.memory c.live.inside.objects c.live.inside.store c.kernel.invariant c.live.view_is c.live.invariant in
    let of_kernel = c.live.view_is ∙ c.kernel.view_is in
    λ word gives.
    let slots = g.S.SlotMap.slots in
    let memory = g.S.SlotStore.memory in
    let own = root-inside slots memory c.args.thread c.args.root of_kernel c.requires.root in
    let usable = usable-kernel slots memory c.args.thread c.args.root of_kernel whole own in
    let kernel = c.args.kernel.now in
    let s = state_in slots memory kernel in
    let walks : walk (memory kernel.store) c.in-Some.table c.args.address c.args.access ≡ Some c.in-Some-kept_place.place =
    ap (λ k. walk (memory k.store) c.in-Some.table c.args.address c.args.access) (sym of_kernel)
    ∙ c.kept_place.ensures c.in-Some-kept_place.place c.in-Some-kept_place.is in
    let found : place_at (content_under s c.args.root) c.args.access c.args.address ≡ Ok c.in-Some-kept_place.place =
    sym (walk-ok s (memory kernel.store) c.args.root c.in-Some.table c.args.address c.args.access usable c.in-Some.is (omega (arith, c.ranges.address.fits))
    (Ok c.in-Some-kept_place.place) c.in-Some-kept_place.place (sym (ap (λ o. ok_or o page_fault) walks)) refl) in
    let bytes = c.mem.ensures ∙ ap (λ k. memory k.store) of_kernel in
    let same : c.read32.result ≡ word = (let e : Some c.read32.result ≡ Some word = gives in cc) in
    ap Ok (sym same ∙ c.read32.ensures ∙ ap (λ (m : List ℕ). word_at m c.in-Some-kept_place.place) bytes)
    ∙ word-loaded kernel.tables (slots kernel.store) (memory kernel.store) c.args.root c.args.access c.args.address c.in-Some-kept_place.place usable
    c.if-address-ne0.false
    (omega (arith, c.ranges.address.fits)) found
    ∙ ap (λ root. loaded (content_under s root) c.args.access Word c.args.address) c.requires.root
