-- A word is written where the program may, in a frame: tables and slots stay.
use Rattle.std.proofs.Common.{◌∙◌, ◌≡◌, ◌^◌, ◌<◌, Ok, ap, arith, subst, sym}
use Rattle.cnode_ops.proofs.Laws.{consistent-of, whole-of}
use Rattle.model.specs.Machine.ProgramMemory.{stored}
use Rattle.model.specs.declared.instructions.AccessSize.TheVariants.{Word}
use Rattle.objects.specs.Lives.{state_in}
use Rattle.objects.specs.Tables.{state_of}
use Rattle.user_memory.proofs.WordsWritten.{word-is, word-left, word-outside, word-within}
use Rattle.user_memory.specs.Views.{IsUsable, IsWordAt, beside_of, content_under}
use Rattle.user_memory.proofs.view.UserMemory.put_word.Goals as goal

pub write32-requires-clause-within : goal.write32-requires-clause-within
write32-requires-clause-within g c =
    let slots = g.S.SlotMap.slots in
    let memory = g.S.SlotStore.memory in
    let o = c.live.inside.objects in
    let store = c.live.inside.store in
    let whole = whole-of slots memory o store c.kernel.invariant c.live.view_is c.live.invariant in
    let of_kernel = c.live.view_is ∙ c.kernel.view_is in
    let view = c.args.self.now in
    let usable = subst (λ k. ∥ IsUsable (state_in slots memory k) (memory k.store) view.root ∥₁) (sym of_kernel) view.usable in
    let at = subst (λ k. IsWordAt (content_under (state_in slots memory k) view.root) c.args.address c.args.place) (sym of_kernel) c.requires in
    let small : c.args.address < 2 ^ 32 = omega (arith, c.ranges.address.fits) in
    word-within o (slots store) (memory store) view.root c.args.address c.args.place c.args.value usable at small whole

pub write32-requires-clause-outside : goal.write32-requires-clause-outside
write32-requires-clause-outside g c =
    let slots = g.S.SlotMap.slots in
    let memory = g.S.SlotStore.memory in
    let o = c.live.inside.objects in
    let store = c.live.inside.store in
    let whole = whole-of slots memory o store c.kernel.invariant c.live.view_is c.live.invariant in
    let of_kernel = c.live.view_is ∙ c.kernel.view_is in
    let view = c.args.self.now in
    let usable = subst (λ k. ∥ IsUsable (state_in slots memory k) (memory k.store) view.root ∥₁) (sym of_kernel) view.usable in
    let at = subst (λ k. IsWordAt (content_under (state_in slots memory k) view.root) c.args.address c.args.place) (sym of_kernel) c.requires in
    let small : c.args.address < 2 ^ 32 = omega (arith, c.ranges.address.fits) in
    word-outside o (slots store) (memory store) view.root c.args.address c.args.place c.args.value usable at small whole

pub invariant_of-live : goal.invariant_of-live
invariant_of-live g c =
    let slots = g.S.SlotMap.slots in
    let memory = g.S.SlotStore.memory in
    let o = c.live.inside.objects in
    let store = c.live.inside.store in
    let whole = whole-of slots memory o store c.kernel.invariant c.live.view_is c.live.invariant in
    let of_kernel = c.live.view_is ∙ c.kernel.view_is in
    let view = c.args.self.now in
    let usable = subst (λ k. ∥ IsUsable (state_in slots memory k) (memory k.store) view.root ∥₁) (sym of_kernel) view.usable in
    let at = subst (λ k. IsWordAt (content_under (state_in slots memory k) view.root) c.args.address c.args.place) (sym of_kernel) c.requires in
    let small : c.args.address < 2 ^ 32 = omega (arith, c.ranges.address.fits) in
    let left = word-left o (slots store) (memory store) view.root c.args.address c.args.place c.args.value usable at small whole
    view.kernel.ghost_name (slots c.write32.new.self) (memory c.write32.new.self) c.write32.ensures.slots
    c.write32.ensures.bytes in
    left.whole_now.stands

pub invariant_of-kernel : goal.invariant_of-kernel
invariant_of-kernel g c =
    let slots = g.S.SlotMap.slots in
    let memory = g.S.SlotStore.memory in
    let o = c.live.inside.objects in
    let store = c.live.inside.store in
    let whole = whole-of slots memory o store c.kernel.invariant c.live.view_is c.live.invariant in
    let of_kernel = c.live.view_is ∙ c.kernel.view_is in
    let view = c.args.self.now in
    let usable = subst (λ k. ∥ IsUsable (state_in slots memory k) (memory k.store) view.root ∥₁) (sym of_kernel) view.usable in
    let at = subst (λ k. IsWordAt (content_under (state_in slots memory k) view.root) c.args.address c.args.place) (sym of_kernel) c.requires in
    let small : c.args.address < 2 ^ 32 = omega (arith, c.ranges.address.fits) in
    let left = word-left o (slots store) (memory store) view.root c.args.address c.args.place c.args.value usable at small whole
    view.kernel.ghost_name (slots c.write32.new.self) (memory c.write32.new.self) c.write32.ensures.slots
    c.write32.ensures.bytes in
    consistent-of left.whole_now

pub invariant_of-self : goal.invariant_of-self
invariant_of-self g c =
    let slots = g.S.SlotMap.slots in
    let memory = g.S.SlotStore.memory in
    let o = c.live.inside.objects in
    let store = c.live.inside.store in
    let whole = whole-of slots memory o store c.kernel.invariant c.live.view_is c.live.invariant in
    let of_kernel = c.live.view_is ∙ c.kernel.view_is in
    let view = c.args.self.now in
    let usable = subst (λ k. ∥ IsUsable (state_in slots memory k) (memory k.store) view.root ∥₁) (sym of_kernel) view.usable in
    let at = subst (λ k. IsWordAt (content_under (state_in slots memory k) view.root) c.args.address c.args.place) (sym of_kernel) c.requires in
    let small : c.args.address < 2 ^ 32 = omega (arith, c.ranges.address.fits) in
    let left = word-left o (slots store) (memory store) view.root c.args.address c.args.place c.args.value usable at small whole
    view.kernel.ghost_name (slots c.write32.new.self) (memory c.write32.new.self) c.write32.ensures.slots
    c.write32.ensures.bytes in
    record { usable = left.usable_now }

pub returns-clause-content : goal.returns-clause-content
returns-clause-content g c =
    let slots = g.S.SlotMap.slots in
    let memory = g.S.SlotStore.memory in
    let o = c.live.inside.objects in
    let store = c.live.inside.store in
    let whole = whole-of slots memory o store c.kernel.invariant c.live.view_is c.live.invariant in
    let of_kernel = c.live.view_is ∙ c.kernel.view_is in
    let view = c.args.self.now in
    let usable = subst (λ k. ∥ IsUsable (state_in slots memory k) (memory k.store) view.root ∥₁) (sym of_kernel) view.usable in
    let at = subst (λ k. IsWordAt (content_under (state_in slots memory k) view.root) c.args.address c.args.place) (sym of_kernel) c.requires in
    let small : c.args.address < 2 ^ 32 = omega (arith, c.ranges.address.fits) in
    let left = word-left o (slots store) (memory store) view.root c.args.address c.args.place c.args.value usable at small whole
    view.kernel.ghost_name (slots c.write32.new.self) (memory c.write32.new.self) c.write32.ensures.slots
    c.write32.ensures.bytes in
    subst (λ k. stored (content_under (state_in slots memory k) view.root) Word c.args.address c.args.value
    ≡ Ok (content_under (state_of o (slots c.write32.new.self) (memory c.write32.new.self)) view.root)) of_kernel
    (word-is o (slots store) (memory store) view.root c.args.address c.args.place c.args.value usable at small whole ∙ ap Ok (sym left.sees))

pub returns-clause-rest : goal.returns-clause-rest
returns-clause-rest g c =
    let slots = g.S.SlotMap.slots in
    let memory = g.S.SlotStore.memory in
    let o = c.live.inside.objects in
    let store = c.live.inside.store in
    let whole = whole-of slots memory o store c.kernel.invariant c.live.view_is c.live.invariant in
    let of_kernel = c.live.view_is ∙ c.kernel.view_is in
    let view = c.args.self.now in
    let usable = subst (λ k. ∥ IsUsable (state_in slots memory k) (memory k.store) view.root ∥₁) (sym of_kernel) view.usable in
    let at = subst (λ k. IsWordAt (content_under (state_in slots memory k) view.root) c.args.address c.args.place) (sym of_kernel) c.requires in
    let small : c.args.address < 2 ^ 32 = omega (arith, c.ranges.address.fits) in
    let left = word-left o (slots store) (memory store) view.root c.args.address c.args.place c.args.value usable at small whole
    view.kernel.ghost_name (slots c.write32.new.self) (memory c.write32.new.self) c.write32.ensures.slots
    c.write32.ensures.bytes in
    subst (λ k. beside_of o (slots c.write32.new.self) (memory c.write32.new.self) view.root view.kernel.ghost_name
    ≡ beside_of k.tables (slots k.store) (memory k.store) view.root view.kernel.ghost_name) of_kernel left.rest
