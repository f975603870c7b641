-- A byte is written where the program may, in a frame: tables and slots stay.
use Rattle.std.proofs.Common.{◌∙◌, ◌≡◌, arith, subst, sym}
use Rattle.model.specs.Machine.ProgramMemory.{IsNamed, put_byte}
use Rattle.objects.specs.Lives.{state_in}
use Rattle.objects.specs.Tables.{state_of}
use Rattle.user_memory.proofs.Reading.{named-inside}
use Rattle.user_memory.proofs.Writing.{content-after, may-outside, rest-after, usable-after, whole-after}
use Rattle.user_memory.proofs.view.UserMemoryView.set_byte.Goals as goal
use Rattle.user_memory.specs.Views.{IsUsable, beside_of, content_under}
use Rattle.cnode_ops.proofs.Laws.{consistent-of, whole-of}

pub write8-requires-clause-within : goal.write8-requires-clause-within
write8-requires-clause-within g c =
    let of_kernel = c.live.view_is ∙ c.kernel.view_is in
    let view = c.args.self.now in
    let usable = subst (λ k. ∥ IsUsable (state_in g.S.SlotMap.slots g.S.SlotStore.memory k) (g.S.SlotStore.memory k.store) view.root ∥₁) (sym of_kernel)
    view.usable in
    let named = subst (λ k. IsNamed (content_under (state_in g.S.SlotMap.slots g.S.SlotStore.memory k) view.root) c.args.place) (sym of_kernel) c.requires in
    named-inside (state_of c.live.inside.objects (g.S.SlotMap.slots c.live.inside.store) (g.S.SlotStore.memory c.live.inside.store))
    (g.S.SlotStore.memory c.live.inside.store)
    view.root usable c.args.place named

pub write8-requires-clause-outside : goal.write8-requires-clause-outside
write8-requires-clause-outside g c =
    let whole = whole-of g.S.SlotMap.slots g.S.SlotStore.memory c.live.inside.objects c.live.inside.store c.kernel.invariant c.live.view_is c.live.invariant in
    let of_kernel = c.live.view_is ∙ c.kernel.view_is in
    let view = c.args.self.now in
    let usable = subst (λ k. ∥ IsUsable (state_in g.S.SlotMap.slots g.S.SlotStore.memory k) (g.S.SlotStore.memory k.store) view.root ∥₁) (sym of_kernel)
    view.usable in
    let named = subst (λ k. IsNamed (content_under (state_in g.S.SlotMap.slots g.S.SlotStore.memory k) view.root) c.args.place) (sym of_kernel) c.requires in
    may-outside c.live.inside.objects (g.S.SlotMap.slots c.live.inside.store) (g.S.SlotStore.memory c.live.inside.store) view.root c.args.place c.args.value
    usable named
    whole.stands

pub invariant_of-live : goal.invariant_of-live
invariant_of-live g c =
    let whole = whole-of g.S.SlotMap.slots g.S.SlotStore.memory c.live.inside.objects c.live.inside.store c.kernel.invariant c.live.view_is c.live.invariant in
    let of_kernel = c.live.view_is ∙ c.kernel.view_is in
    (
    let view = c.args.self.now in
    let usable = subst (λ k. ∥ IsUsable (state_in g.S.SlotMap.slots g.S.SlotStore.memory k) (g.S.SlotStore.memory k.store) view.root ∥₁) (sym of_kernel)
    view.usable in
    let named = subst (λ k. IsNamed (content_under (state_in g.S.SlotMap.slots g.S.SlotStore.memory k) view.root) c.args.place) (sym of_kernel) c.requires in
    whole-after c.live.inside.objects (g.S.SlotMap.slots c.live.inside.store) (g.S.SlotStore.memory c.live.inside.store) view.root c.args.place c.args.value
    usable named
    whole.stands (g.S.SlotMap.slots c.write8.new.self) (g.S.SlotStore.memory c.write8.new.self) c.write8.ensures.slots c.write8.ensures.bytes
    whole (omega (arith, c.ranges.value.fits))).stands

pub invariant_of-kernel : goal.invariant_of-kernel
invariant_of-kernel g c =
    let whole = whole-of g.S.SlotMap.slots g.S.SlotStore.memory c.live.inside.objects c.live.inside.store c.kernel.invariant c.live.view_is c.live.invariant in
    let of_kernel = c.live.view_is ∙ c.kernel.view_is in
    consistent-of (
    let view = c.args.self.now in
    let usable = subst (λ k. ∥ IsUsable (state_in g.S.SlotMap.slots g.S.SlotStore.memory k) (g.S.SlotStore.memory k.store) view.root ∥₁) (sym of_kernel)
    view.usable in
    let named = subst (λ k. IsNamed (content_under (state_in g.S.SlotMap.slots g.S.SlotStore.memory k) view.root) c.args.place) (sym of_kernel) c.requires in
    whole-after c.live.inside.objects (g.S.SlotMap.slots c.live.inside.store) (g.S.SlotStore.memory c.live.inside.store) view.root c.args.place c.args.value
    usable named
    whole.stands (g.S.SlotMap.slots c.write8.new.self) (g.S.SlotStore.memory c.write8.new.self) c.write8.ensures.slots c.write8.ensures.bytes
    whole (omega (arith, c.ranges.value.fits)))

pub invariant_of-self : goal.invariant_of-self
invariant_of-self g c =
    let whole = whole-of g.S.SlotMap.slots g.S.SlotStore.memory c.live.inside.objects c.live.inside.store c.kernel.invariant c.live.view_is c.live.invariant in
    let of_kernel = c.live.view_is ∙ c.kernel.view_is in
    let view = c.args.self.now in
    let usable = subst (λ k. ∥ IsUsable (state_in g.S.SlotMap.slots g.S.SlotStore.memory k) (g.S.SlotStore.memory k.store) view.root ∥₁) (sym of_kernel)
    view.usable in
    let named = subst (λ k. IsNamed (content_under (state_in g.S.SlotMap.slots g.S.SlotStore.memory k) view.root) c.args.place) (sym of_kernel) c.requires in
    record {
      usable =
          usable-after c.live.inside.objects (g.S.SlotMap.slots c.live.inside.store) (g.S.SlotStore.memory c.live.inside.store) view.root c.args.place
          c.args.value usable named
          whole.stands (g.S.SlotMap.slots c.write8.new.self) (g.S.SlotStore.memory c.write8.new.self) c.write8.ensures.slots c.write8.ensures.bytes;
    }

pub returns-clause-content : goal.returns-clause-content
returns-clause-content g c =
    let whole = whole-of g.S.SlotMap.slots g.S.SlotStore.memory c.live.inside.objects c.live.inside.store c.kernel.invariant c.live.view_is c.live.invariant in
    let of_kernel = c.live.view_is ∙ c.kernel.view_is in
    let view = c.args.self.now in
    let usable = subst (λ k. ∥ IsUsable (state_in g.S.SlotMap.slots g.S.SlotStore.memory k) (g.S.SlotStore.memory k.store) view.root ∥₁) (sym of_kernel)
    view.usable in
    let named = subst (λ k. IsNamed (content_under (state_in g.S.SlotMap.slots g.S.SlotStore.memory k) view.root) c.args.place) (sym of_kernel) c.requires in
    subst (λ k. content_under (state_of c.live.inside.objects (g.S.SlotMap.slots c.write8.new.self) (g.S.SlotStore.memory c.write8.new.self)) view.root
    ≡ put_byte (content_under (state_in g.S.SlotMap.slots g.S.SlotStore.memory k) view.root) c.args.place c.args.value) of_kernel
    (content-after c.live.inside.objects (g.S.SlotMap.slots c.live.inside.store) (g.S.SlotStore.memory c.live.inside.store) view.root c.args.place c.args.value
    usable named
    whole.stands (g.S.SlotMap.slots c.write8.new.self) (g.S.SlotStore.memory c.write8.new.self) c.write8.ensures.slots c.write8.ensures.bytes)

pub returns-clause-rest : goal.returns-clause-rest
returns-clause-rest g c =
    let whole = whole-of g.S.SlotMap.slots g.S.SlotStore.memory c.live.inside.objects c.live.inside.store c.kernel.invariant c.live.view_is c.live.invariant in
    let of_kernel = c.live.view_is ∙ c.kernel.view_is in
    let view = c.args.self.now in
    let usable = subst (λ k. ∥ IsUsable (state_in g.S.SlotMap.slots g.S.SlotStore.memory k) (g.S.SlotStore.memory k.store) view.root ∥₁) (sym of_kernel)
    view.usable in
    let named = subst (λ k. IsNamed (content_under (state_in g.S.SlotMap.slots g.S.SlotStore.memory k) view.root) c.args.place) (sym of_kernel) c.requires in
    subst (λ k. beside_of c.live.inside.objects (g.S.SlotMap.slots c.write8.new.self) (g.S.SlotStore.memory c.write8.new.self) view.root view.kernel.ghost_name
    ≡ beside_of k.tables (g.S.SlotMap.slots k.store) (g.S.SlotStore.memory k.store) view.root view.kernel.ghost_name) of_kernel
    (rest-after c.live.inside.objects (g.S.SlotMap.slots c.live.inside.store) (g.S.SlotStore.memory c.live.inside.store) view.root c.args.place c.args.value
    usable named
    whole.stands (g.S.SlotMap.slots c.write8.new.self) (g.S.SlotStore.memory c.write8.new.self) c.write8.ensures.slots c.write8.ensures.bytes
    view.kernel.ghost_name)
